-- The steps of a walk between and within its visits are paid for by the steps that are left.
use Rattle.std.proofs.Common.{◌≡◌, ℕ, suc, ◌+◌, ◌-◌, ◌*◌, ◌≤◌, ◌<◌, ◌⊎◌, inl, inr, Bool, true, false, ◌||◌}
use Rattle.std.proofs.Common.{if◌then◌else◌, List, [], ◌∷◌, ◌++◌, length, Some, slice_get, refl, ap, sym, ◌∙◌, subst}
use Rattle.std.proofs.Common.{arith}
use Rattle.std.specs.Cmp.{IsEquivalence}
use Rattle.std.proofs.lemmas.Bool.{cases_Bool, cond-false}
use Rattle.mapworld_calls.specs.declared.ask.Walk.{Walk}
use Rattle.mapworld_calls.specs.declared.ask.Walk.TheVariants as walk
use Rattle.mapworld_calls.specs.Calls.{visit_leaves}
use Rattle.mapworld_calls.specs.Deeds.{Deeds}
use Rattle.mapworld_calls.specs.Pairs.{pair_of, AreDistinct}
use Rattle.mapworld_calls.specs.Programs.{saturated}
use Rattle.mapworld_calls.specs.Setup.{Setup, Laws}
use Rattle.mapworld_calls.proofs.Lists.{slice_get-set_same}
use Rattle.parking_lot_machine.specs.Rows.{state}
use Rattle.mapworld_state.specs.declared.step.Step.{Step}
use Rattle.mapworld_state.specs.declared.place.Phase.{Phase}
use Rattle.mapworld_state.specs.declared.place.Phase.TheVariants as phase
use Rattle.mapworld_state.specs.Core.{adds, may_add}
use Rattle.mapworld_state.specs.Holds.{gives_up}
use Rattle.mapworld_state.specs.Locks.Fits.{LocksFit}
use Rattle.mapworld_state.specs.Places.{Place}
use Rattle.mapworld_state.specs.Shards.{ShardPairs, Puts, number_of}
use Rattle.mapworld_state.specs.State.{State}
use Rattle.mapworld_state.specs.Steps.{DoesItem, GivesBack, IsRefusedVisit, LooksAround, Seeks, StartsVisit}
use Rattle.mapworld_state.specs.Walks.{IsItemOf, IsLookedAt, LeadsOn, hands_over, is_visited, walk_mode}
use Rattle.mapworld.specs.Progress.Left.{fresh, fresh_of, items_at, left, pairs_from, phase_left, phase_todo}
use Rattle.mapworld.specs.Progress.Left.{release_left, to_come, visit_left, visited_by, block_at}
use Rattle.mapworld_state.proofs.LocksFacts.Lawful.{lawful-begins}
use Rattle.mapworld.proofs.ProgressFacts.Counting.{fresh-all, fresh-alike, fresh-done, fresh-put, visited-more}
use Rattle.mapworld.proofs.ProgressFacts.Coming.{TablesBy, same, one, pairs-above, pairs-at, seen-push, seen-same}
use Rattle.mapworld.proofs.ProgressFacts.Coming.{seen-set}
use Rattle.mapworld.proofs.ProgressFacts.Falling.{asked_most, falls_beside, falls_by, given_most, own-behind, own-todo}
use Rattle.mapworld.proofs.ProgressFacts.Falling.{started_costs}
use Rattle.mapworld.proofs.ProgressFacts.Stepping.{at-lock, blocks-are, locks-are, number-most, places-are, tables-are}

or-true : (a b : Bool) → a ≡ true → (a || b) ≡ true
or-true a b is = ap (λ c. c || b) is

-- what a look leaves of a shard has no more pairs
pub looked-few : {K V D : Type 0} (eq : K → K → Bool) → IsEquivalence eq → (f : Walk D) (old new : ShardPairs K V)
    → IsLookedAt eq f old new → (length new.items ≤ length old.items)
    × ((keys : List K) → fresh eq keys new.items ≤ fresh eq keys old.items)
looked-few eq laws walk.ShrinkToFit old new h =
    (omega (arith, h.counted), λ keys. fresh-alike eq laws keys old new h.distinct h.found)
looked-few eq laws (walk.Iter d stop) old new h = (
  omega (arith, ap (λ (z : ShardPairs _ _). length z.items) h),
  λ keys. omega (arith, ap (λ (z : ShardPairs _ _). fresh eq keys z.items) h),
)
looked-few eq laws (walk.IterMut d stop) old new h = (
  omega (arith, ap (λ (z : ShardPairs _ _). length z.items) h),
  λ keys. omega (arith, ap (λ (z : ShardPairs _ _). fresh eq keys z.items) h),
)
looked-few eq laws (walk.Retain d) old new h = (
  omega (arith, ap (λ (z : ShardPairs _ _). length z.items) h),
  λ keys. omega (arith, ap (λ (z : ShardPairs _ _). fresh eq keys z.items) h),
)
looked-few eq laws (walk.AlterAll d) old new h = (
  omega (arith, ap (λ (z : ShardPairs _ _). length z.items) h),
  λ keys. omega (arith, ap (λ (z : ShardPairs _ _). fresh eq keys z.items) h),
)
looked-few eq laws walk.Clear old new h = (
  omega (arith, ap (λ (z : ShardPairs _ _). length z.items) h),
  λ keys. omega (arith, ap (λ (z : ShardPairs _ _). fresh eq keys z.items) h),
)
looked-few eq laws walk.Len old new h = (
  omega (arith, ap (λ (z : ShardPairs _ _). length z.items) h),
  λ keys. omega (arith, ap (λ (z : ShardPairs _ _). fresh eq keys z.items) h),
)
looked-few eq laws walk.IsEmpty old new h = (
  omega (arith, ap (λ (z : ShardPairs _ _). length z.items) h),
  λ keys. omega (arith, ap (λ (z : ShardPairs _ _). fresh eq keys z.items) h),
)
looked-few eq laws walk.Capacity old new h = (
  omega (arith, ap (λ (z : ShardPairs _ _). length z.items) h),
  λ keys. omega (arith, ap (λ (z : ShardPairs _ _). fresh eq keys z.items) h),
)

-- what a deed of a walk leaves: the same, or a pair in the place of another
abbrev pub ItemPuts : {D K V T : Type 0} → Deeds D K V T → (K → K → Bool) → Walk D → ShardPairs K V → ShardPairs K V → K
    × V → Type 0
ItemPuts deeds eq f old new pair = (new ≡ old) ⊎ Puts eq old new pair.0 (visit_leaves deeds f (Some pair))

pub item-puts : {D K V T : Type 0} (deeds : Deeds D K V T) (eq : K → K → Bool) (f : Walk D) (old new : ShardPairs K V)
    (pair : K × V) → IsItemOf deeds eq f old new pair → ItemPuts deeds eq f old new pair
item-puts deeds eq (walk.Iter d stop) old new pair h = inl h
item-puts deeds eq (walk.IterMut d stop) old new pair h = inr h
item-puts deeds eq (walk.Retain d) old new pair h = inr h
item-puts deeds eq (walk.AlterAll d) old new pair h = inr h
item-puts deeds eq walk.Clear old new pair h = inr h
item-puts deeds eq walk.Len old new pair h = inr h
item-puts deeds eq walk.IsEmpty old new pair h = inr h
item-puts deeds eq walk.Capacity old new pair h = inr h
item-puts deeds eq walk.ShrinkToFit old new pair h = inr h

module _ {K V S D T A : Type 0} (x : Setup K V D T) (laws : Laws x) (w : State K V S D T A) (s : Step)
    (w' : State K V S D T A) where
  abbrev m : ℕ
  m = length w.places

  abbrev more : Place K V D T A → ℕ
  more p = length w.tables - (p.shard + 1)

  abbrev Falls : Type 0
  Falls = left x w' s.thread + 1 ≤ left x w s.thread

  -- a walk goes on to a shard that is there
  pub goes_fall : LocksFit w.locks → (h : StartsVisit x w s w') → h.place.shard + 1 < length w.tables → Falls
  goes_fall fit h rises =
      let p = h.place in
      let p' : Place K V D T A = record p { shard = p.shard + 1; phase = phase.Reach h.walk } in
      let tables : TablesBy x.eq w.tables w'.tables 0 = same (tables-are w' _ h.after) in
      let seen = seen-same x.eq w.blocks w'.blocks (blocks-are w' _ h.after) in
      let adding : may_add p' + 0 ≤ may_add p = omega (arith, ap adds h.before) in
      let next : p.shard + 1 ≡ suc p.shard = omega arith in
      let behind : more p ≡ length w.tables - (p.shard + 1 + 1) + 1 = omega (arith, rises) in
      let visits : visit_left m * more p ≡ visit_left m * (length w.tables - (p.shard + 1 + 1)) + visit_left m =
      ap (λ k. visit_left m * k) behind ∙ omega arith in
      falls_by x laws w w' s.thread p p' h.stands (places-are w' _ h.after) 0 tables adding seen refl
      (omega (
        arith,
        at-lock s.thread h.locks w'.locks (locks-are w' _ h.after),
        (lawful-begins s.thread (h.place.shard + 1) _ w.locks h.locks fit h.begins).costs,
        asked_most (length (state w.locks.rows).calls) (walk_mode h.walk),
        ap (phase_left m (more p)) h.before,
        ap (phase_todo x w p) h.before,
        ap (λ k. pairs_from w'.tables k) next,
        own-behind x laws w w' s.thread p p' h.stands (places-are w' _ h.after) 0 tables adding seen (suc p.shard),
        visits,
      ))

  module _ (size : length (state w.locks.rows).calls ≡ m) (fit : LocksFit w.locks) where
    pub parts_fall : GivesBack x w s w' phase.Part phase.Visit → Falls
    parts_fall h =
        let p = h.place in
        let p' : Place K V D T A = record p { holds = h.more; phase = phase.Visit h.walk } in
        let n = length (state w.locks.rows).calls in
        let paid = started_costs s.thread h.hold.shard (gives_up h.hold.mode) s.fair w.locks h.locks fit h.gives in
        let tables : TablesBy x.eq w.tables w'.tables 0 = same (tables-are w' _ h.after) in
        let seen = seen-same x.eq w.blocks w'.blocks (blocks-are w' _ h.after) in
        let adding : may_add p' + 0 ≤ may_add p = omega (arith, ap adds h.before) in
        falls_by x laws w w' s.thread p p' h.stands (places-are w' _ h.after) 0 tables adding seen refl
        (omega (
          arith,
          at-lock s.thread h.locks w'.locks (locks-are w' _ h.after),
          ap (phase_left m (more p)) h.before,
          ap (phase_todo x w p) h.before,
          paid,
          given_most n h.hold.mode,
          size,
          own-behind x laws w w' s.thread p p' h.stands (places-are w' _ h.after) 0 tables adding seen p.shard,
        ))

    pub gives_fall : GivesBack x w s w' phase.Give phase.Onward → Falls
    gives_fall h =
        let p = h.place in
        let p' : Place K V D T A = record p { holds = h.more; phase = phase.Onward h.walk } in
        let n = length (state w.locks.rows).calls in
        let paid = started_costs s.thread h.hold.shard (gives_up h.hold.mode) s.fair w.locks h.locks fit h.gives in
        let tables : TablesBy x.eq w.tables w'.tables 0 = same (tables-are w' _ h.after) in
        let seen = seen-same x.eq w.blocks w'.blocks (blocks-are w' _ h.after) in
        let adding : may_add p' + 0 ≤ may_add p = omega (arith, ap adds h.before) in
        falls_by x laws w w' s.thread p p' h.stands (places-are w' _ h.after) 0 tables adding seen refl
        (omega (
          arith,
          at-lock s.thread h.locks w'.locks (locks-are w' _ h.after),
          ap (phase_left m (more p)) h.before,
          ap (phase_todo x w p) h.before,
          paid,
          given_most n h.hold.mode,
          size,
          own-behind x laws w w' s.thread p p' h.stands (places-are w' _ h.after) 0 tables adding seen (suc p.shard),
        ))

  pub seeks_fall : Seeks x w s w' → Falls
  seeks_fall h =
      let p = h.place in
      let p' : Place K V D T A = record p { phase = phase.Item h.walk } in
      let tables : TablesBy x.eq w.tables w'.tables 0 = same (tables-are w' _ h.after) in
      let seen = seen-same x.eq w.blocks w'.blocks (blocks-are w' _ h.after) in
      let adding : may_add p' + 0 ≤ may_add p = omega (arith, ap adds h.before) in
      falls_by x laws w w' s.thread p p' h.stands (places-are w' _ h.after) 0 tables adding seen refl
      (omega (
        arith,
        at-lock s.thread w.locks w'.locks (locks-are w' _ h.after),
        ap (phase_left m (more p)) h.before,
        ap (phase_todo x w p) h.before,
        own-todo x laws w w' s.thread p p' h.stands (places-are w' _ h.after) 0 tables adding seen p
            (phase.Item h.walk),
      ))

  pub refused_visit_falls : IsRefusedVisit x w s w' → Falls
  refused_visit_falls h =
      falls_beside x laws w w' s.thread h.place _ h.stands (places-are w' _ h.after) 0 (same (tables-are w' _ h.after))
      (omega (arith, ap adds h.before))
      (seen-same x.eq w.blocks w'.blocks (blocks-are w' _ h.after)) (locks-are w' _ h.after) refl refl
      (omega (arith, ap (phase_left m (more h.place)) h.before))

  -- where a look or a deed leads, beside what the shard that the place is at has that is fresh
  leads-few : (f : Walk D) (ends done : Bool) (reads kept : List T) (n : ℕ) (next : Phase K V D T A)
      (p' : Place K V D T A) (b : ℕ) → LeadsOn f ends done reads n next kept
      → phase_left m b next + 2 * phase_todo x w' p' next ≤ visit_left m * b + 2 * release_left m + 1 + 2 *
      (fresh_of x w' p' + (pairs_from w'.tables (suc p'.shard) + to_come w'.places))
  leads-few f true done reads kept n next p' b h = omega (arith, ap (phase_left m b) h.2, ap (phase_todo x w' p') h.2)
  leads-few f false false reads kept n next p' b h = omega (arith, ap (phase_left m b) h.0, ap (phase_todo x w' p') h.0)
  leads-few f false true reads kept n next p' b h = elim (cases_Bool (hands_over f)) [
    | inl over ↦
        let is : next ≡ phase.Onward f = h.0 ∙ ap (λ (c : Bool). if c then phase.Onward f else phase.Give f) over in
        omega (arith, ap (phase_left m b) is, ap (phase_todo x w' p') is)
    | inr none ↦
        let is : next ≡ phase.Give f = h.0 ∙ ap (λ (c : Bool). if c then phase.Onward f else phase.Give f) none in
        omega (arith, ap (phase_left m b) is, ap (phase_todo x w' p') is)
  ]

  no-adds : (f : Walk D) (ends done : Bool) (reads kept : List T) (n : ℕ) (next : Phase K V D T A)
      → LeadsOn f ends done reads n next kept → adds next ≡ 0
  no-adds f true done reads kept n next h = ap adds h.2
  no-adds f false false reads kept n next h = ap adds h.0
  no-adds f false true reads kept n next h = elim (cases_Bool (hands_over f)) [
    | inl over ↦ ap adds (h.0 ∙ ap (λ (c : Bool). if c then phase.Onward f else phase.Give f) over)
    | inr none ↦ ap adds (h.0 ∙ ap (λ (c : Bool). if c then phase.Onward f else phase.Give f) none)
  ]

  pub looks_fall : LooksAround x w s w' → Falls
  looks_fall h =
      let p = h.place in
      let p' : Place K V D T A =
      record p { visits = p.visits ++ length w.blocks ∷ []; reads = h.reads; count = h.count; phase = h.next } in
      let few = looked-few x.eq laws.equivalence h.walk h.table h.behind h.looked in
      let are = tables-are w' _ h.after in
      let tables : TablesBy x.eq w.tables w'.tables 0 = one p.shard h.table h.behind h.held are (omega (arith, few.0))
      (λ keys. let less = few.1 keys in omega (arith, less)) in
      let seen = seen-push x.eq w.blocks w'.blocks h.block (blocks-are w' _ h.after) in
      let adding : may_add p' + 0 ≤ may_add p =
      omega (arith, ap adds h.before, no-adds h.walk _ _ _ h.reads h.count h.next h.leads) in
      let now : length (items_at (slice_get w'.tables p.shard)) ≡ length h.behind.items =
      ap (λ o. length (items_at o))
      (ap (λ ts. slice_get ts p.shard) are ∙ slice_get-set_same w.tables p.shard h.table h.behind h.held) in
      let past : pairs_from w'.tables (suc p.shard) ≡ pairs_from w.tables (suc p.shard) =
      ap (λ ts. pairs_from ts (suc p.shard)) are ∙ pairs-above w.tables p.shard (suc p.shard) h.behind (omega arith)
      in
      falls_by x laws w w' s.thread p p' h.stands (places-are w' _ h.after) 0 tables adding seen refl
      (omega (
        arith,
        at-lock s.thread w.locks w'.locks (locks-are w' _ h.after),
        ap (phase_left m (more p)) h.before,
        ap (phase_todo x w p) h.before,
        leads-few h.walk _ _ _ h.reads h.count h.next p' (more p) h.leads,
        fresh-all x.eq (visited_by (block_at w'.blocks (slice_get p'.visits p.shard)))
            (items_at (slice_get w'.tables p.shard)),
        now,
        few.0,
        pairs-at w.tables p.shard h.table h.held,
        past,
        own-behind x laws w w' s.thread p p' h.stands (places-are w' _ h.after) 0 tables adding seen (suc p.shard),
      ))

  -- what a deed of a walk leaves of the shard: no more pairs, each key once, and other keys have what they had
  record LeavesShard (table changed : ShardPairs K V) (pair : K × V) : Type 0 where
    distinct : AreDistinct x.eq changed.items
    others : (q : K) → x.eq pair.0 q ≡ false → pair_of x.eq changed.items q ≡ pair_of x.eq table.items q
    few : length changed.items ≤ length table.items
    fresh_few : (keys : List K) → fresh x.eq keys changed.items ≤ fresh x.eq keys table.items

  left-by : (f : Walk D) (table changed : ShardPairs K V) (pair : K × V) → AreDistinct x.eq table.items
      → pair_of x.eq table.items pair.0 ≡ Some pair → ItemPuts x.deeds x.eq f table changed pair
      → LeavesShard table changed pair
  left-by f table changed pair distinct found (inl e) = record {
    distinct = subst (λ (z : ShardPairs K V). AreDistinct x.eq z.items) (sym e) distinct;
    others = λ q other. ap (λ (z : ShardPairs K V). pair_of x.eq z.items q) e;
    few = omega (arith, ap (λ (z : ShardPairs K V). length z.items) e);
    fresh_few = λ keys. omega (arith, ap (λ (z : ShardPairs K V). fresh x.eq keys z.items) e);
  }
  left-by f table changed pair distinct found (inr puts) = record {
    distinct = puts.distinct;
    others = λ q other. puts.found q ∙ cond-false (x.eq pair.0 q) (visit_leaves x.deeds f (Some pair))
        (pair_of x.eq table.items q) other;
    few = omega (arith, puts.counted, ap number_of found, number-most (visit_leaves x.deeds f (Some pair)));
    fresh_few = λ keys. fresh-put x.eq laws.equivalence keys table changed pair.0 (visit_leaves x.deeds f (Some pair))
        puts pair found;
  }

  pub does_fall : (h : DoesItem x w s w') → AreDistinct x.eq h.table.items → Falls
  does_fall h distinct =
      let p = h.place in
      let p' : Place K V D T A = record p { reads = h.reads; count = saturated (p.count + 1); phase = h.next } in
      let of = left-by h.walk h.table h.changed h.pair distinct h.found
      (item-puts x.deeds x.eq h.walk h.table h.changed h.pair h.item) in
      let are = tables-are w' _ h.after in
      let tables : TablesBy x.eq w.tables w'.tables 0 = one p.shard h.table h.changed h.held are (omega (arith, of.few))
      (λ keys. let less = of.fresh_few keys in omega (arith, less)) in
      let more-seen : (k : K) → is_visited x.eq h.block.visited.items k ≡ true → is_visited x.eq h.grown.visited.items k
      ≡ true =
      λ k is. ap (λ ks. is_visited x.eq ks k) h.visited.visited
      ∙ (visited-more x.eq h.block.visited.items h.pair.0 k ∙ or-true (is_visited x.eq h.block.visited.items k)
      (x.eq h.pair.0 k) is) in
      let blocks = blocks-are w' _ h.after in
      let seen = seen-set x.eq w.blocks w'.blocks h.index h.block h.grown h.listed more-seen blocks in
      let adding : may_add p' + 0 ≤ may_add p =
      omega (arith, ap adds h.before, no-adds h.walk _ _ _ h.reads (saturated (p.count + 1)) h.next h.leads) in
      let shard-now : slice_get w'.tables p.shard ≡ Some h.changed = ap (λ ts. slice_get ts p.shard) are
      ∙ slice_get-set_same w.tables p.shard h.table h.changed h.held in
      let block-now : block_at w'.blocks (slice_get p.visits p.shard) ≡ Some h.grown =
      ap (block_at w'.blocks) h.own
      ∙ (ap (λ bs. slice_get bs h.index) blocks ∙ slice_get-set_same w.blocks h.index h.block h.grown h.listed) in
      let block-was : block_at w.blocks (slice_get p.visits p.shard) ≡ Some h.block = ap (block_at w.blocks) h.own
      ∙ h.listed in
      let was : fresh_of x w p ≡ fresh x.eq h.block.visited.items h.table.items =
      ap (λ o. fresh x.eq (visited_by o) (items_at (slice_get w.tables p.shard))) block-was
      ∙ ap (λ o. fresh x.eq h.block.visited.items (items_at o)) h.held in
      let now : fresh_of x w' p' ≡ fresh x.eq (h.block.visited.items ++ h.pair.0 ∷ []) h.changed.items =
      ap (λ o. fresh x.eq (visited_by o) (items_at (slice_get w'.tables p.shard))) block-now
      ∙ (ap (λ o. fresh x.eq h.grown.visited.items (items_at o)) shard-now ∙ ap (λ ks. fresh x.eq ks h.changed.items)
      h.visited.visited) in
      let past : pairs_from w'.tables (suc p.shard) ≡ pairs_from w.tables (suc p.shard) =
      ap (λ ts. pairs_from ts (suc p.shard)) are ∙ pairs-above w.tables p.shard (suc p.shard) h.changed
      (omega arith) in
      falls_by x laws w w' s.thread p p' h.stands (places-are w' _ h.after) 0 tables adding seen refl
      (omega (
        arith,
        at-lock s.thread w.locks w'.locks (locks-are w' _ h.after),
        ap (phase_left m (more p)) h.before,
        ap (phase_todo x w p) h.before,
        leads-few h.walk _ _ _ h.reads (saturated (p.count + 1)) h.next p' (more p) h.leads,
        was,
        now,
        fresh-done x.eq laws.equivalence h.block.visited.items h.table h.changed h.pair.0 h.pair h.found h.fresh
            of.distinct of.others,
        past,
        own-behind x laws w w' s.thread p p' h.stands (places-are w' _ h.after) 0 tables adding seen (suc p.shard),
      ))

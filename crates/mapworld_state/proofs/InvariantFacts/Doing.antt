-- A deed of a walk: the block of its visit has done one pair more.
use Rattle.std.proofs.Common.{◌≡◌, ◌≢◌, ℕ, zero, suc, ◌+◌, ◌≤◌, ◌⊎◌, ◌==◌, ◌||◌, ◌&&◌, inl, inr, ⊎_elim, IsSome, Bool}
use Rattle.std.proofs.Common.{true, false, if◌then◌else◌, filter, List, [], ◌∷◌, ◌++◌, length, map, Option, Some, None}
use Rattle.std.proofs.Common.{slice_get, slice_set, take, drop, refl, ap, sym, ◌∙◌, subst, arith, eq-eqb, length-set}
use Rattle.std.specs.List.{list_any, list_all}
use Rattle.std.specs.Option.{option_map}
use Rattle.std.proofs.lemmas.Bool.{cases_Bool, cases_eq, false≢true}
use Rattle.std.proofs.lemmas.List.Folds.{list_any-append}
use Rattle.std.proofs.lemmas.Option.{none-some, same_Some, slice_get-map, slice_get_within}
use Rattle.mapworld_calls.specs.declared.ask.Ask.{Ask}
use Rattle.mapworld_calls.specs.declared.ask.Ask.TheVariants as ask
use Rattle.mapworld_calls.specs.declared.ask.Walk.{Walk}
use Rattle.mapworld_calls.specs.declared.ask.Walk.TheVariants as walk
use Rattle.mapworld_calls.specs.declared.block.Block.{Block}
use Rattle.mapworld_calls.specs.Calls.{visit_leaves, visit_reads}
use Rattle.mapworld_calls.specs.Deeds.{Deeds}
use Rattle.mapworld_calls.specs.Pairs.{pair_of}
use Rattle.mapworld_calls.specs.Programs.{saturated, stop_of}
use Rattle.mapworld_calls.specs.Setup.{Setup, Laws, ask_at, session_of}
use Rattle.mapworld_calls.specs.Frame.{Grows}
use Rattle.mapworld_calls.specs.Growth.{GoesOn, Visits}
use Rattle.mapworld_calls.specs.Replay.{visit, work_of, block_work, left, done_keys, frame_of, contents, before}
use Rattle.mapworld_calls.specs.Replay.{IsLastOnShard}
use Rattle.mapworld_calls.specs.Agrees.{Visit, IsVisitOf, IsVisited, IsWhole, AreWhole, IsBelow, number_of, reads_of}
use Rattle.mapworld_calls.specs.Placed.{IsDoneWithin, IsPlaced, IsVisitDone, answered_of, done_by_walk}
use Rattle.mapworld_calls.specs.Laws.{IsLastOfCall}
use Rattle.mapworld_calls.proofs.Lists.{slice_get-set_same, slice_get-set_other, slice_get-set_cases}
use Rattle.mapworld_calls.proofs.Folds.{slice_set-itself, take-set_above}
use Rattle.mapworld_calls.proofs.Pairs.{eq-same_right}
use Rattle.mapworld_calls.proofs.Replays.{before-same}
use Rattle.mapworld_calls.proofs.Kept.{keeps-grown}
use Rattle.mapworld_calls.proofs.Visiting.{visit-grows, visited-own, visited-other, visited-quiet, visit-stays_done}
use Rattle.mapworld_calls.proofs.Visiting.{keys-added}
use Rattle.mapworld_calls.proofs.Walking.{visit_at, number-more, visited-more, reads-more}
use Rattle.mapworld_state.specs.declared.holds.Mode.{Mode}
use Rattle.mapworld_state.specs.declared.holds.Mode.TheVariants.{Exclusive}
use Rattle.mapworld_state.specs.declared.step.Step.{Step}
use Rattle.mapworld_state.specs.declared.place.Phase.TheVariants as phase
use Rattle.mapworld_state.specs.Places.{Place}
use Rattle.mapworld_state.specs.Shards.{ShardPairs, Puts}
use Rattle.mapworld_state.specs.State.{State, threads_of, started_of}
use Rattle.mapworld_state.specs.Moves.{stepped}
use Rattle.mapworld_state.specs.Steps.{DoesItem}
use Rattle.mapworld_state.specs.Walks.{IsItemOf, all_visited, gives_items, is_visited, walk_ends, walk_mode}
use Rattle.mapworld_state.specs.Locks.Stands.{stand_in}
use Rattle.mapworld_state.specs.Sound.{Claim, HasOwnVisits, HoldsShard, IsCount, IsInCall, IsOutside, IsWithinVisit}
use Rattle.mapworld_state.specs.Sound.{OwnsBlocks, Sound, Stands, TablesAgree, Walks, is_resting, may_own}
use Rattle.mapworld_state.proofs.Tables.{pair_of-is, pair_of-same}
use Rattle.mapworld_state.proofs.InvariantFacts.Effects.{Anyhow, effect-grow, last-grown}
use Rattle.mapworld_state.proofs.InvariantFacts.Others.{IsInCall-push}
use Rattle.mapworld_state.proofs.InvariantFacts.Timing.{placed-grown}
use Rattle.mapworld_state.proofs.InvariantFacts.Holding.{holds-same, stand-at}
use Rattle.mapworld_state.proofs.InvariantFacts.Building.{Goes, claim-at, holds-moved, in_call-moved, last-of}
use Rattle.mapworld_state.proofs.InvariantFacts.Building.{replies-kept, reply-below, sound-by, started-stays}
use Rattle.mapworld_state.proofs.InvariantFacts.Building.{tables-changed, tables-same, taken-at, walks-at, within-at}
use Rattle.mapworld_state.proofs.InvariantFacts.Sums.{sum-upto}
use Rattle.mapworld_state.proofs.InvariantFacts.Leading.{IsLeft, leads, leads-out, leads-own, leads-rests}
use Rattle.mapworld_state.proofs.InvariantFacts.Admitting.{kept-alone, walk-apart}

-- WHAT A DEED OF A WALK LEAVES

-- a walk that gives items leaves each pair as it is, or is alone in its shards
abbrev pub LeavesAll : {D K V T : Type 0} → Deeds D K V T → Walk D → Type 0
LeavesAll {D} {K} {V} deeds f = (o : Option (K × V)) → visit_leaves deeds f o ≡ o

pub item-cases : {D K V T : Type 0} (deeds : Deeds D K V T) (eq : K → K → Bool) (f : Walk D) (old new : ShardPairs K V) (pair : K × V) → gives_items f ≡ true → IsItemOf deeds eq f old new pair
    → ((new ≡ old) × LeavesAll deeds f) ⊎ ((walk_mode f ≡ Exclusive) × Puts eq old new pair.0 (visit_leaves deeds f (Some pair)))
item-cases {D} {K} {V} deeds eq (walk.Iter d stop) old new pair gives h = inl (h, leaves)
  where
    leaves : (o : Option (K × V)) → visit_leaves deeds (walk.Iter d stop) o ≡ o
    leaves None = refl
    leaves (Some p) = refl
item-cases deeds eq (walk.IterMut d stop) old new pair gives h = inr (refl, h)
item-cases deeds eq (walk.Retain d) old new pair gives h = inr (refl, h)
item-cases deeds eq (walk.AlterAll d) old new pair gives h = inr (refl, h)
item-cases deeds eq walk.Clear old new pair gives h = inr (refl, h)
item-cases deeds eq walk.Len old new pair gives h = absurd (false≢true gives)
item-cases deeds eq walk.IsEmpty old new pair gives h = absurd (false≢true gives)
item-cases deeds eq walk.Capacity old new pair gives h = absurd (false≢true gives)
item-cases deeds eq walk.ShrinkToFit old new pair gives h = absurd (false≢true gives)

-- its number is that of its pairs
pub item-count : {K V D T : Type 0} (x : Setup K V D T) (f : Walk D) (vs : List (Visit K)) (n : ℕ) → gives_items f ≡ true → IsCount x f vs n → n ≡ saturated (number_of x vs)
item-count x (walk.Iter d stop) vs n gives h = h
item-count x (walk.IterMut d stop) vs n gives h = h
item-count x (walk.Retain d) vs n gives h = h
item-count x (walk.AlterAll d) vs n gives h = h
item-count x walk.Clear vs n gives h = h
item-count x walk.Len vs n gives h = absurd (false≢true gives)
item-count x walk.IsEmpty vs n gives h = absurd (false≢true gives)
item-count x walk.Capacity vs n gives h = absurd (false≢true gives)
item-count x walk.ShrinkToFit vs n gives h = absurd (false≢true gives)

pub count-item : {K V D T : Type 0} (x : Setup K V D T) (f : Walk D) (vs : List (Visit K)) (n : ℕ) → gives_items f ≡ true → n ≡ saturated (number_of x vs) → IsCount x f vs n
count-item x (walk.Iter d stop) vs n gives h = h
count-item x (walk.IterMut d stop) vs n gives h = h
count-item x (walk.Retain d) vs n gives h = h
count-item x (walk.AlterAll d) vs n gives h = h
count-item x walk.Clear vs n gives h = h
count-item x walk.Len vs n gives h = absurd (false≢true gives)
count-item x walk.IsEmpty vs n gives h = absurd (false≢true gives)
count-item x walk.Capacity vs n gives h = absurd (false≢true gives)
count-item x walk.ShrinkToFit vs n gives h = absurd (false≢true gives)

saturated-next : (m n : ℕ) → m ≡ saturated n → saturated (m + 1) ≡ saturated (n + 1)
saturated-next m n e = omega (arith, e)

-- WHAT A VISIT HAS DONE

-- what passes among some passes among all
any-part : {X : Type 0} (t p : X → Bool) (xs : List X) → list_any t xs ≡ false → list_any t (filter p xs) ≡ false
any-part t p [] none = refl
any-part t p (y ∷ ys) none =
    let both = neither (t y) (list_any t ys) none in
    ⊎_elim (λ is. rw is (rw both.0 (any-part t p ys both.1))) (λ is. rw is (any-part t p ys both.1)) (cases_Bool (p y))
  where
    neither : (a b : Bool) → (a || b) ≡ false → (a ≡ false) × (b ≡ false)
    neither true b h = absurd (false≢true (sym h))
    neither false b h = (refl, h)

any-none : {X : Type 0} (t : X → Bool) (xs : List X) → list_any t xs ≡ false → (n : ℕ) (y : X) → slice_get xs n ≡ Some y → t y ≡ false
any-none t [] none n y at = absurd (none-some y at)
any-none t (z ∷ zs) none zero y at = ap t (sym (same_Some z y at)) ∙ first (t z) (list_any t zs) none
  where
    first : (a b : Bool) → (a || b) ≡ false → a ≡ false
    first true b h = absurd (false≢true (sym h))
    first false b h = refl
any-none t (z ∷ zs) none (suc n) y at = any-none t zs (second (t z) (list_any t zs) none) n y at
  where
    second : (a b : Bool) → (a || b) ≡ false → b ≡ false
    second true b h = absurd (false≢true (sym h))
    second false b h = h

all-at : {X : Type 0} (t : X → Bool) (xs : List X) → list_all t xs ≡ true → (n : ℕ) (y : X) → slice_get xs n ≡ Some y → t y ≡ true
all-at t [] all n y at = absurd (none-some y at)
all-at t (z ∷ zs) all zero y at = ap t (sym (same_Some z y at)) ∙ first (t z) (list_all t zs) all
  where
    first : (a b : Bool) → (a && b) ≡ true → a ≡ true
    first true b h = refl
    first false b h = absurd (false≢true h)
all-at t (z ∷ zs) all (suc n) y at = all-at t zs (second (t z) (list_all t zs) all) n y at
  where
    second : (a b : Bool) → (a && b) ≡ true → b ≡ true
    second true b h = h
    second false b h = absurd (false≢true h)

-- a key that a walk's block hasn't done has what it had
pub left-undone : {K V D T : Type 0} (x : Setup K V D T) (b : Block K) (f : Walk D) (q : K) (o : Option (K × V)) → block_work x b ≡ visit f → list_any (λ k. x.eq k q) (done_keys x b) ≡ false → left x b q o ≡ o
left-undone x b f q o work none = rw work (rw none refl)

pub left-done : {K V D T : Type 0} (x : Setup K V D T) (b : Block K) (f : Walk D) (q : K) (o : Option (K × V)) → block_work x b ≡ visit f → list_any (λ k. x.eq k q) (done_keys x b) ≡ true → left x b q o ≡ visit_leaves x.deeds f o
left-done x b f q o work is = rw work (rw is refl)

pub some-is : {X : Type 0} (o : Option X) → IsSome o → (y : X) × (o ≡ Some y)
some-is None h = absurd cc
some-is (Some y) h = (y, refl)

-- where a shard has what the visit leaves and all its pairs are visited, the visit is whole
pub all-whole : {K V D T : Type 0} (x : Setup K V D T) (laws : Laws x) (bs : List (Block K)) (i : ℕ) (b : Block K) (f : Walk D) (table : ShardPairs K V) → block_work x b ≡ visit f → done_keys x b ≡ b.visited.items
    → ((q : K) → x.route q ≡ b.visit → pair_of x.eq table.items q ≡ left x b q (before x bs i q)) → all_visited x.eq b.visited.items table.items ≡ true → IsWhole x bs i b
all-whole {K} {V} x laws bs i b f table work keys there all q on some =
    ⊎_elim (λ is. is) (λ none. undone none) (cases_Bool (list_any (λ k. x.eq k q) (done_keys x b)))
  where
    visited-as : (j : K) → x.eq j q ≡ true → is_visited x.eq b.visited.items j ≡ is_visited x.eq b.visited.items q
    visited-as j e = ap (λ (t : K → Bool). list_any t b.visited.items) (λ n z. eq-same_right x.eq laws.equivalence z j q e n)

    undone : list_any (λ k. x.eq k q) (done_keys x b) ≡ false → list_any (λ k. x.eq k q) (done_keys x b) ≡ true
    undone none =
        let finds : pair_of x.eq table.items q ≡ before x bs i q = there q on ∙ left-undone x b f q (before x bs i q) work none in
        let pair = some-is (before x bs i q) some in
        let at = pair_of-is x.eq laws.equivalence table.items q pair.0 (finds ∙ pair.1) in
        let visited : is_visited x.eq b.visited.items pair.0.0 ≡ true = all-at (λ (p : K × V). is_visited x.eq b.visited.items p.0) table.items all at.0 pair.0 at.1 in
        absurd (false≢true (sym (ap (λ ks. list_any (λ k. x.eq k q) ks) (sym keys) ∙ none) ∙ (sym (visited-as pair.0.0 at.2) ∙ visited)))

-- what a walk's block works on
pub walk-asked : {K V D T : Type 0} (x : Setup K V D T) (b : Block K) (t c : ℕ) (f : Walk D) → ask_at x t c ≡ Some (ask.Walk f) → b.thread ≡ t → b.call ≡ c → ask_at x b.thread b.call ≡ Some (ask.Walk f)
walk-asked x b t c f asked thread call = rw (thread, call) asked

pub walk-work : {K V D T : Type 0} (x : Setup K V D T) (b : Block K) (t c : ℕ) (f : Walk D) → ask_at x t c ≡ Some (ask.Walk f) → b.thread ≡ t → b.call ≡ c → block_work x b ≡ visit f
walk-work x b t c f asked thread call = ap work_of (walk-asked x b t c f asked thread call)

-- of a visit that is within its walk all keys are of its shard
pub done-all : {K V D T : Type 0} (x : Setup K V D T) (b : Block K) → ((n : ℕ) (k : K) → slice_get b.visited.items n ≡ Some k → x.route k ≡ b.visit) → done_keys x b ≡ b.visited.items
done-all {K} x b routed = kept b.visited.items routed
  where
    kept : (ks : List K) → ((n : ℕ) (k : K) → slice_get ks n ≡ Some k → x.route k ≡ b.visit) → filter (λ k. x.route k == b.visit) ks ≡ ks
    kept [] each = refl
    kept (k ∷ ks) each = rw (eq-eqb (x.route k) b.visit (each 0 k refl)) (ap (λ zs. k ∷ zs) (kept ks (λ n z at. each (suc n) z at)))

any-more : {X : Type 0} (test : X → Bool) (y : X) (xs : List X) → list_any test (xs ++ y ∷ []) ≡ (list_any test xs || test y)
any-more test y xs = list_any-append test xs (y ∷ []) ∙ ap (λ z. list_any test xs || z) (or-false (test y))
  where
    or-false : (z : Bool) → (z || false) ≡ z
    or-false true = refl
    or-false false = refl

or-right : (y z : Bool) → z ≡ true → (y || z) ≡ true
or-right true z e = refl
or-right false z e = e

or-none : (y z : Bool) → z ≡ false → (y || z) ≡ y
or-none true z e = refl
or-none false z e = e

map-set-same : {X Y : Type 0} (g : X → Y) (xs : List X) (i : ℕ) (y z : X) → slice_get xs i ≡ Some y → g z ≡ g y → map g (slice_set xs i z) ≡ map g xs
map-set-same g [] i y z at e = absurd (none-some y at)
map-set-same g (h ∷ xs) zero y z at e = ap (λ k. k ∷ map g xs) (e ∙ ap g (sym (same_Some h y at)))
map-set-same g (h ∷ xs) (suc i) y z at e = ap (λ ks. g h ∷ ks) (map-set-same g xs i y z at e)

-- two blocks of a walk that have done a key alike leave it alike
left-like : {K V D T : Type 0} (x : Setup K V D T) (b c : Block K) (f : Walk D) (q : K) (o : Option (K × V)) → block_work x b ≡ visit f → block_work x c ≡ visit f
    → list_any (λ k. x.eq k q) (done_keys x c) ≡ list_any (λ k. x.eq k q) (done_keys x b) → left x c q o ≡ left x b q o
left-like x b c f q o work work' same = ⊎_elim
    (λ is. left-done x c f q o work' (same ∙ is) ∙ sym (left-done x b f q o work is))
    (λ none. left-undone x c f q o work' (same ∙ none) ∙ sym (left-undone x b f q o work none))
    (cases_Bool (list_any (λ k. x.eq k q) (done_keys x b)))

-- THE STEP

module _ {K V S D T A : Type 0} (x : Setup K V D T) (laws : Laws x) (w : State K V S D T A) (s : Step) (w' : State K V S D T A) (sound : Sound x w) (a : DoesItem x w s w') where
  abbrev p : Place K V D T A
  p = a.place

  abbrev f : Walk D
  f = a.walk

  abbrev t : ℕ
  t = s.thread

  abbrev b : Block K
  b = a.block

  abbrev c : Block K
  c = a.grown

  abbrev key : K
  key = a.pair.0

  abbrev bs' : List (Block K)
  bs' = slice_set w.blocks a.index c

  abbrev st : Stands x (threads_of w) w.blocks w.replies w.tables t p
  st = sound.stands t p a.stands

  claimed : IsInCall x (threads_of w) t p (ask.Walk f) × IsOutside p × HoldsShard p (walk_mode f)
  claimed = claim-at x (threads_of w) w.blocks w.replies w.tables t p (phase.Item f) a.before st

  abbrev v : IsWithinVisit x w.blocks w.tables t p f
  v = walks-at x (threads_of w) w.blocks w.replies w.tables t p (phase.Item f) a.before st

  abbrev vs : List (Visit K)
  vs = v.so_far.visits

  -- the visit's block is the one that the place names last
  same-index : v.index ≡ a.index
  same-index = same_Some v.index a.index (sym (ap (option_map (λ (z : Visit K). z.place)) v.own) ∙ (sym (slice_get-map (λ (z : Visit K). z.place) vs p.shard) ∙ (ap (λ (is : List ℕ). slice_get is p.shard) v.so_far.named ∙ a.own)))

  same-block : v.block ≡ b
  same-block = same_Some v.block b (sym (v.so_far.visited.are p.shard _ v.own).listed ∙ (ap (λ i. slice_get w.blocks i) same-index ∙ a.listed))

  own : slice_get vs p.shard ≡ Some (visit_at a.index b)
  own = v.own ∙ ap Some (let one : visit_at v.index v.block ≡ visit_at a.index b = rw (same-index, same-block) refl in one)

  is : IsVisitOf w.blocks t p.next p.shard (visit_at a.index b)
  is = v.so_far.visited.are p.shard (visit_at a.index b) own

  same-table : v.table ≡ a.table
  same-table = same_Some v.table a.table (sym v.held ∙ a.held)

  asked : ask_at x t p.next ≡ Some (ask.Walk f)
  asked = claimed.0.asked

  work : block_work x b ≡ visit f
  work = walk-work x b t p.next f asked is.thread is.call

  within-done : IsVisitDone x w.blocks a.index b f
  within-done = visit-done (sound.placed.placed a.index b a.listed)
    where
      by : (k : Ask K V D) → k ≡ ask.Walk f → IsDoneWithin x (started_of w) w.blocks w.replies a.index b k → IsVisitDone x w.blocks a.index b f
      by k e done = (subst (λ (z : Ask K V D). IsDoneWithin x (started_of w) w.blocks w.replies a.index b z) e done).0

      visit-done : IsPlaced x (threads_of w) (started_of w) w.blocks w.replies a.index b → IsVisitDone x w.blocks a.index b f
      visit-done q = by q.ask (same_Some q.ask (ask.Walk f) (sym q.asked ∙ walk-asked x b t p.next f asked is.thread is.call)) q.done

  keys : done_keys x b ≡ b.visited.items
  keys = done-all x b within-done.routed

  -- the pair that is found is one of the visit's shard, and stood there at its turn
  stands-at : (n : ℕ) × (slice_get a.table.items n ≡ Some a.pair) × (x.eq key key ≡ true)
  stands-at = pair_of-is x.eq laws.equivalence a.table.items key a.pair a.found

  routed : x.route key ≡ p.shard
  routed = sound.tables.routed p.shard stands-at.0 a.table a.pair a.held stands-at.1

  there : (q : K) → x.route q ≡ p.shard → pair_of x.eq a.table.items q ≡ left x b q (before x w.blocks a.index q)
  there q on =
      ap (λ (z : ShardPairs K V). pair_of x.eq z.items q) (sym same-table)
      ∙ (v.there q on ∙ (ap (λ (z : Block K). left x z q (before x w.blocks v.index q)) same-block ∙ ap (λ i. left x b q (before x w.blocks i q)) same-index))

  fresh : list_any (λ k. x.eq k key) (done_keys x b) ≡ false
  fresh = ap (λ ks. list_any (λ k. x.eq k key) ks) keys ∙ a.fresh

  before-is : before x w.blocks a.index key ≡ Some a.pair
  before-is = sym (left-undone x b f key (before x w.blocks a.index key) work fresh) ∙ (sym (there key routed) ∙ a.found)

  more : Visits x w.blocks a.index b c f key
  more = record {
    listed = a.listed;
    same = record { thread = a.visited.thread; call = a.visited.call; visit = a.visited.visit; done = let e = a.visited.done in omega (arith, e); more = key ∷ []; visited = a.visited.visited };
    walk = work;
    on = routed ∙ sym is.visit;
    added = a.visited.visited;
  }

  on : GoesOn b c
  on = more.same

  cases : ((a.changed ≡ a.table) × LeavesAll x.deeds f) ⊎ ((walk_mode f ≡ Exclusive) × Puts x.eq a.table a.changed key (visit_leaves x.deeds f (Some a.pair)))
  cases = item-cases x.deeds x.eq f a.table a.changed a.pair v.items a.item

  alone-now : walk_mode f ≡ Exclusive → HoldsShard p Exclusive
  alone-now e = subst (λ (m : Mode). HoldsShard p m) e claimed.2

  last-now : walk_mode f ≡ Exclusive → IsLastOnShard x w.blocks a.index b
  last-now e = subst (λ (z : Block K). IsLastOnShard x w.blocks a.index z) same-block (subst (λ (i : ℕ). IsLastOnShard x w.blocks i v.block) same-index (v.last (alone-now e)))

  way : (visit_leaves x.deeds f (before x w.blocks a.index key) ≡ before x w.blocks a.index key) ⊎ IsLastOnShard x w.blocks a.index b
  way = elim cases [ inl quiet ↦ inl (quiet.1 (before x w.blocks a.index key)) | inr puts ↦ inr (last-now puts.0) ]

  grows : Grows (frame_of x) w.blocks a.index b c
  grows = visit-grows x laws w.blocks a.index b c f key more way

  -- the shard behind it
  abbrev tables' : List (ShardPairs K V)
  tables' = slice_set w.tables p.shard a.changed

  -- the pairs that other keys have stay, and the key has what the visit leaves
  other-stays : (q : K) → x.eq key q ≡ false → pair_of x.eq a.changed.items q ≡ pair_of x.eq a.table.items q
  other-stays q e = elim cases [
    | inl quiet ↦ ap (λ (z : ShardPairs K V). pair_of x.eq z.items q) quiet.0
    | inr puts ↦ puts.1.found q ∙ ap (λ (z : Bool). if z then visit_leaves x.deeds f (Some a.pair) else pair_of x.eq a.table.items q) e
  ]

  own-has : (q : K) → x.eq key q ≡ true → pair_of x.eq a.changed.items q ≡ visit_leaves x.deeds f (Some a.pair)
  own-has q e = elim cases [
    | inl quiet ↦
        ap (λ (z : ShardPairs K V). pair_of x.eq z.items q) quiet.0
        ∙ (sym (pair_of-same x.eq laws.equivalence a.table.items key q e) ∙ (a.found ∙ sym (quiet.1 (Some a.pair))))
    | inr puts ↦ puts.1.found q ∙ ap (λ (z : Bool). if z then visit_leaves x.deeds f (Some a.pair) else pair_of x.eq a.table.items q) e
  ]

  agree : TablesAgree x bs' tables'
  agree = elim cases [
    | inl quiet ↦
        subst (λ (ts : List (ShardPairs K V)). TablesAgree x bs' ts)
        (sym (ap (λ (z : ShardPairs K V). slice_set w.tables p.shard z) quiet.0 ∙ slice_set-itself w.tables p.shard a.table a.held))
        (tables-same x w.blocks bs' w.tables sound.tables (λ q. visited-quiet x laws w.blocks a.index b c f key more (quiet.1 (before x w.blocks a.index key)) q))
    | inr puts ↦
        tables-changed x laws w.blocks bs' w.tables sound.tables key (visit_leaves x.deeds f (Some a.pair)) p.shard (sym routed)
        (λ q e. visited-own x laws w.blocks a.index b c f key more (last-now puts.0) q e ∙ ap (visit_leaves x.deeds f) before-is)
        (λ q e. visited-other x laws w.blocks a.index b c f key more way q e) a.table a.changed a.held puts.1
  ]

  others-keep : (u : ℕ) (q : Place K V D T A) (m : Mode) → u ≢ t → slice_get w.places u ≡ Some q → HoldsShard q m → slice_get tables' q.shard ≡ slice_get w.tables q.shard
  others-keep u q m ne hq h = elim cases [
    | inl quiet ↦ ap (λ (ts : List (ShardPairs K V)). slice_get ts q.shard) (ap (λ (z : ShardPairs K V). slice_set w.tables p.shard z) quiet.0 ∙ slice_set-itself w.tables p.shard a.table a.held)
    | inr puts ↦ kept-alone x w s p a.stands sound a.changed (alone-now puts.0) u q m ne hq h
  ]

  -- THE WALK BEHIND IT

  abbrev vs' : List (Visit K)
  vs' = slice_set vs p.shard (visit_at a.index c)

  last-visit : suc p.shard ≡ length vs
  last-visit = omega (arith, v.number)

  visited' : IsVisited x bs' t p.next f vs'
  visited' = visited-more x laws w.blocks a.index b c f key more way t p.next asked vs v.so_far.visited p.shard own last-visit v.goes_on

  number' : number_of x vs' ≡ number_of x vs + 1
  number' = number-more x laws w.blocks a.index b c f key more way t p.next asked vs v.so_far.visited p.shard own last-visit

  reads' : p.reads ++ visit_reads x.deeds f (Some a.pair) ≡ reads_of x bs' f vs'
  reads' =
      ap (λ (rs : List T). rs ++ visit_reads x.deeds f (Some a.pair)) v.so_far.reads
      ∙ (ap (λ o. reads_of x w.blocks f vs ++ visit_reads x.deeds f o) (sym before-is) ∙ sym (reads-more x laws w.blocks a.index b c f key more way t p.next asked vs v.so_far.visited p.shard own last-visit))

  count' : IsCount x f vs' (saturated (p.count + 1))
  count' = count-item x f vs' (saturated (p.count + 1)) v.items (saturated-next p.count (number_of x vs) (item-count x f vs p.count v.items v.so_far.count) ∙ ap saturated (sym number'))

  own' : slice_get vs' p.shard ≡ Some (visit_at a.index c)
  own' = slice_get-set_same vs p.shard (visit_at a.index b) (visit_at a.index c) own

  named' : map (λ (z : Visit K). z.place) vs' ≡ p.visits
  named' = map-set-same (λ (z : Visit K). z.place) vs p.shard (visit_at a.index b) (visit_at a.index c) own refl ∙ v.so_far.named

  length' : length vs' ≡ p.shard + 1
  length' = length-set vs p.shard (visit_at a.index c) ∙ v.number

  -- what its visit's shard has is what its block leaves
  turn-stays : (q : K) → before x bs' a.index q ≡ before x w.blocks a.index q
  turn-stays q = ap (λ ds. contents x ds q) (take-set_above w.blocks a.index a.index c (omega arith))

  keys' : done_keys x c ≡ c.visited.items
  keys' = keys-added x laws w.blocks a.index b c f key more ∙ (ap (λ ks. ks ++ key ∷ []) keys ∙ sym a.visited.visited)

  work' : block_work x c ≡ visit f
  work' = walk-work x c t p.next f asked (a.visited.thread ∙ is.thread) (a.visited.call ∙ is.call)

  there' : (q : K) → x.route q ≡ p.shard → pair_of x.eq a.changed.items q ≡ left x c q (before x bs' a.index q)
  there' q on = ⊎_elim own-key other-key (cases_Bool (x.eq key q))
    where
      now-done : list_any (λ k. x.eq k q) (done_keys x c) ≡ (list_any (λ k. x.eq k q) (done_keys x b) || x.eq key q)
      now-done = ap (λ ks. list_any (λ k. x.eq k q) ks) (keys-added x laws w.blocks a.index b c f key more) ∙ any-more (λ k. x.eq k q) key (done_keys x b)

      own-key : x.eq key q ≡ true → pair_of x.eq a.changed.items q ≡ left x c q (before x bs' a.index q)
      own-key e =
          let had : before x bs' a.index q ≡ Some a.pair = turn-stays q ∙ (sym (before-same x laws w.blocks a.index key q e) ∙ before-is) in
          own-has q e ∙ (ap (visit_leaves x.deeds f) (sym had) ∙ sym (left-done x c f q (before x bs' a.index q) work' (now-done ∙ or-right (list_any (λ k. x.eq k q) (done_keys x b)) (x.eq key q) e)))

      other-key : x.eq key q ≡ false → pair_of x.eq a.changed.items q ≡ left x c q (before x bs' a.index q)
      other-key e =
          let same : left x c q (before x bs' a.index q) ≡ left x b q (before x w.blocks a.index q) =
          ap (left x c q) (turn-stays q) ∙ left-like x b c f q (before x w.blocks a.index q) work work'
          (now-done ∙ or-none (list_any (λ k. x.eq k q) (done_keys x b)) (x.eq key q) e) in
          other-stays q e ∙ (there q on ∙ sym same)

  abbrev p' : Place K V D T A
  p' = record p { reads = a.reads; count = saturated (p.count + 1); phase = a.next }

  abbrev done : Bool
  done = all_visited x.eq c.visited.items a.changed.items

  whole' : done ≡ true → AreWhole x bs' vs'
  whole' all n u at = elim (slice_get-set_cases vs p.shard n (visit_at a.index b) u (visit_at a.index c) own at) [
    | inl own ↦
        subst (λ (z : Visit K). IsWhole x bs' z.place z.block) (sym own.1)
        (all-whole x laws bs' a.index c f a.changed work' keys' (λ q on. there' q (on ∙ (a.visited.visit ∙ is.visit))) all)
    | inr other ↦
        let lt = slice_get_within vs n u other.1 in
        visited'.whole n u at (omega (arith, lt, other.0, v.number, length'))
  ]

  rest' : done ≡ false → IsLeft x (threads_of w ++ t ∷ []) bs' tables' t p' f vs'
  rest' some = record {
    items = v.items;
    index = a.index;
    block = c;
    own = own';
    table = a.changed;
    held = slice_get-set_same w.tables p.shard a.table a.changed a.held;
    there = there';
    some = some;
    last = λ alone. last-of x b c a.visited.thread a.visited.call a.visited.visit bs' a.index
        (last-grown A x w.blocks a.index b c grows a.index b (last-moved (record { hold = alone.hold; has = alone.has; shard = alone.shard; mode_is = alone.mode_is })));
  }
    where
      last-moved : HoldsShard p Exclusive → IsLastOnShard x w.blocks a.index b
      last-moved alone = subst (λ (z : Block K). IsLastOnShard x w.blocks a.index z) same-block (subst (λ (i : ℕ). IsLastOnShard x w.blocks i v.block) same-index (v.last alone))

  -- the walk's next call stands in no session
  next-apart : session_of x t (p.next + 1) ≡ None
  next-apart = (walk-apart x w t sound p st f asked).1

  stays : Claim x (threads_of w ++ t ∷ []) bs' tables' t p' a.next × Walks x bs' tables' t p' a.next
  stays =
      leads x (threads_of w ++ t ∷ []) bs' tables' t p' f (IsInCall-push x (threads_of w) t t p' (ask.Walk f) (in_call-moved x p p' (threads_of w) t (ask.Walk f) refl refl refl claimed.0)) (claimed.1.0, claimed.1.1)
      (holds-moved x p p' (walk_mode f) refl refl claimed.2) next-apart (sound.stops t p.next f asked) v.within vs' named' visited' (p.reads ++ visit_reads x.deeds f (Some a.pair)) reads' count' length' done whole' rest'
      (walk_ends x.shards f p.shard done (saturated (p.count + 1))) done refl refl a.next a.reads a.leads refl

  rests : is_resting a.next ≡ false
  rests = leads-rests f _ (saturated (p.count + 1)) _ _ a.next a.reads a.leads

  owned : may_own a.next ≡ true
  owned = leads-own f _ (saturated (p.count + 1)) _ _ a.next a.reads a.leads

  owns' : OwnsBlocks bs' t p'
  owns' i d hd thread = elim (slice_get-set_cases w.blocks a.index i b d c a.listed hd) [
    | inl mine ↦ inr (ap (λ (z : Block K). z.call) mine.1 ∙ (a.visited.call ∙ is.call), inr (p.shard, a.own ∙ ap Some (sym mine.0)), owned)
    | inr other ↦ elim (st.owns i d other.1 thread) [ inl below ↦ inl below | inr mine ↦ inr (mine.0, mine.1, owned) ]
  ]

  visits' : HasOwnVisits x bs' t p'
  visits' = record {
    are = λ i in_.
        let o = st.own_visits.are i in_ in
        ⊎_elim
        (λ same.
        let its : o.block ≡ b = same_Some o.block b (sym o.listed ∙ (ap (λ j. slice_get w.blocks j) same ∙ a.listed)) in
        record {
          block = c;
          listed = ap (λ j. slice_get bs' j) same ∙ slice_get-set_same w.blocks a.index b c a.listed;
          thread = a.visited.thread ∙ is.thread;
          call = a.visited.call ∙ is.call;
          end = a.visited.end ∙ (sym (ap (λ (z : Block K). z.end) its) ∙ o.end);
          walk = f;
          asked = asked;
          apart = o.apart;
        })
        (λ ne. record {
          block = o.block;
          listed = slice_get-set_other w.blocks a.index i c (λ e. ne (sym e)) ∙ o.listed;
          thread = o.thread;
          call = o.call;
          end = o.end;
          walk = o.walk;
          asked = o.asked;
          apart = o.apart;
        })
        (cases_eq i a.index);
    once = st.own_visits.once;
  }

  -- it is the last block of its call
  alone : IsLastOfCall w.blocks a.index b
  alone j d lt hd thread call =
      let below = v.so_far.visited.all j d hd (thread ∙ is.thread) (call ∙ is.call) in
      elim (sound.placed.own_order a.index j b d a.listed hd lt (sym thread)) [
        | inl earlier ↦ omega (arith, earlier, call)
        | inr later ↦ let less = later.1 in omega (arith, less, below, v.number, is.visit)
      ]

  goes-on : IsBelow (stop_of f) (done_by_walk x (take (suc a.index) w.blocks) b.thread b.call)
  goes-on =
      subst (λ (n : ℕ). IsBelow (stop_of f) n)
      (sym (ap (λ u. done_by_walk x (take (suc a.index) w.blocks) u b.call) is.thread ∙ (ap (λ k. done_by_walk x (take (suc a.index) w.blocks) t k) is.call
      ∙ sum-upto x (threads_of w) (started_of w) w.blocks w.replies sound.placed t p.next f vs v.so_far.visited p.shard (visit_at a.index b) own last-visit)))
      v.goes_on

  done-stays : (k : Ask K V D) → ask_at x b.thread b.call ≡ Some k → IsDoneWithin x (started_of w) w.blocks w.replies a.index b k → IsDoneWithin x (started_of (stepped w s p')) bs' w.replies a.index c k
  done-stays k ask-is old =
      let e : k ≡ ask.Walk f = same_Some k (ask.Walk f) (sym ask-is ∙ walk-asked x b t p.next f asked is.thread is.call) in
      let was : IsDoneWithin x (started_of w) w.blocks w.replies a.index b (ask.Walk f) = subst (λ (z : Ask K V D). IsDoneWithin x (started_of w) w.blocks w.replies a.index b z) e old in
      subst (λ (z : Ask K V D). IsDoneWithin x (started_of (stepped w s p')) bs' w.replies a.index c z) (sym e) (
        visit-stays_done x laws w.blocks a.index b c f key more (λ n j at. any-none (λ (z : K). x.eq z key) b.visited.items a.fresh n j at) (subst (λ (o : Option (K × V)). IsSome o) (sym before-is) refl) goes-on was.0,
        a.visited.done ∙ was.1,
      )

  pub sound-does : Goes x s.thread w w'
  sound-does =
      subst (Goes x s.thread w) (sym a.after)
      (sound-by x w s p p' a.stands sound bs' tables' w.locks w.replies Anyhow
      (record {
        effect = effect-grow A x laws w.blocks t a.index b c grows on is.thread;
        count = λ u ne. refl;
        kept = others-keep;
        foreign = λ u q d ne hq alone there. tt;
        shards = length-set w.tables p.shard a.changed;
      })
      (record {
        program = st.program;
        has = st.has;
        asks_left = taken-at x (threads_of w) w.blocks w.replies w.tables t p (phase.Item f) a.before st ∙ ap (λ (z : Bool). drop (if z then p.next else p.next + 1) st.program) (sym rests);
        within = subst (λ (z : Bool). (if z then p.next else p.next + 1) ≤ length st.program) (sym rests) (within-at x (threads_of w) w.blocks w.replies w.tables t p (phase.Item f) a.before st);
        answered = st.answered;
        owns = owns';
        own_block = λ i mine. absurd (none-some i (sym claimed.1.0 ∙ mine));
        own_visits = visits';
        claim = stays.0;
        walks = stays.1;
      })
      agree
      (holds-same w.places w.locks sound.holds t p p' a.stands refl
      (leads-out f _ (saturated (p.count + 1)) p' (stand_in w.locks t) (stand-at w.places w.locks sound.holds t p a.stands (phase.Item f) a.before) _ _ a.next a.reads a.leads))
      (placed-grown x (threads_of w) t (started_of w) (started_of (stepped w s p')) w.blocks w.replies (started-stays x w s p p' a.stands (λ n z. z)) laws a.index b c grows
      (record {
        thread = a.visited.thread;
        call = a.visited.call;
        visit = a.visited.visit;
        start = a.visited.start;
        position = a.visited.position;
        done = let e = a.visited.done in omega (arith, e);
        visited = (key ∷ [], a.visited.visited);
        end = λ n e. a.visited.end ∙ e;
      })
      a.visited.end alone done-stays sound.placed)
      (replies-kept x w.blocks bs' w.replies
      (λ i r hr. keeps-grown x laws w.blocks a.index b c grows on r.thread r.call (λ g its thread call.
      let below = reply-below x (threads_of w) (started_of w) w.blocks w.replies sound.placed i r hr in
      let mine : t ≡ r.thread = sym is.thread ∙ thread in
      let count : answered_of w.replies r.thread ≡ p.next = ap (answered_of w.replies) (sym mine) ∙ sym st.answered in
      omega (arith, below, count, call, is.call)))
      sound.replies))

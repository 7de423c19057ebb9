-- A walk's look into a shard: it lists the block of its visit, or is refused the room that it needs.
use Rattle.std.proofs.Common.{◌≡◌, ◌≢◌, ℕ, suc, ◌+◌, ◌≤◌, ◌⊎◌, ◌==◌, ◌&&◌, inl, inr, ⊎_elim, IsSome, Bool, true, false}
use Rattle.std.proofs.Common.{if◌then◌else◌, List, [], ◌∷◌, ◌++◌, append-nil, length, length-append, length-set, map}
use Rattle.std.proofs.Common.{flat_map, take, take_all, drop, Option, Some, slice_get, slice_set, refl, ap, sym, ◌∙◌}
use Rattle.std.proofs.Common.{subst, arith}
use Rattle.std.specs.List.{list_any}
use Rattle.std.proofs.Math.Seq.{take-append_seam}
use Rattle.std.proofs.lemmas.Bool.{cases_Bool, cases_lt, false≢true, eq-eqb}
use Rattle.std.proofs.lemmas.Grind.{flat_map-append}
use Rattle.std.proofs.lemmas.List.{take-append-le}
use Rattle.std.proofs.lemmas.List.Sums.{sum_by_push}
use Rattle.std.proofs.lemmas.Option.{none-some, same_Some, slice_get_within, slice_get_cases}
use Rattle.mapworld_calls.specs.declared.ask.Ask.TheVariants as ask
use Rattle.mapworld_calls.specs.declared.ask.Walk.{Walk}
use Rattle.mapworld_calls.specs.declared.block.Block.{Block}
use Rattle.mapworld_calls.specs.declared.reply.Answer.TheVariants as answer
use Rattle.mapworld_calls.specs.Calls.{visit_reads}
use Rattle.mapworld_calls.specs.Pairs.{pair_of, AreDistinct}
use Rattle.mapworld_calls.specs.Programs.{stop_of}
use Rattle.mapworld_calls.specs.Setup.{Setup, Laws, ask_at}
use Rattle.mapworld_calls.specs.Replay.{visit, block_work, done_keys, left, contents, before, frame_of}
use Rattle.mapworld_calls.specs.Agrees.{Visit, IsVisitOf, IsVisited, IsWhole, AreWhole, IsBelow, IsAtMost, number_of}
use Rattle.mapworld_calls.specs.Agrees.{reads_of}
use Rattle.mapworld_calls.proofs.Lists.{slice_get-push_below, slice_get-push_at, slice_get-push_cases}
use Rattle.mapworld_calls.proofs.Kept.{before-push, flat_map-same}
use Rattle.mapworld_calls.proofs.Walking.{visit_at}
use Rattle.mapworld_calls.specs.Placed.{IsStepOf, answered_of, done_by_walk, IsVisitedBefore, IsVisitDone, IsPlaced}
use Rattle.mapworld_calls.specs.Placed.{IsEarlier}
use Rattle.mapworld_calls.proofs.Folds.{slice_set-itself}
use Rattle.mapworld_calls.proofs.Lists.{slice_get-set_same}
use Rattle.mapworld_calls.proofs.Replays.{contents-push}
use Rattle.mapworld_calls.proofs.Kept.{keeps-push}
use Rattle.mapworld_state.specs.declared.holds.Mode.{Mode}
use Rattle.mapworld_state.specs.declared.holds.Mode.TheVariants.{Exclusive}
use Rattle.mapworld_state.specs.declared.step.Step.{Step}
use Rattle.mapworld_state.specs.declared.place.Phase.TheVariants as phase
use Rattle.mapworld_state.specs.Places.{Place}
use Rattle.mapworld_state.specs.Shards.{ShardPairs, Shrunk}
use Rattle.mapworld_state.specs.State.{State, threads_of, started_of, next_step}
use Rattle.mapworld_state.specs.Moves.{stepped}
use Rattle.mapworld_state.specs.Walks.{walk_mode, gives_items, all_visited, looked_keys, walk_ends}
use Rattle.mapworld_state.specs.Steps.{LooksAround, IsRefusedVisit, Visits}
use Rattle.mapworld_state.specs.Sound.{is_resting, may_own, HoldsShard, IsInCall, IsOutside, Claim, IsCount}
use Rattle.mapworld_state.specs.Sound.{IsBetweenVisits, Walks, OwnsBlocks, HasOwnVisits, Stands, TablesAgree, Sound}
use Rattle.mapworld_state.specs.Sound.{block_after, IsReleasing}
use Rattle.mapworld_state.proofs.InvariantFacts.Others.{IsStepOf-push, IsInCall-push, visit-works_there}
use Rattle.mapworld_state.proofs.InvariantFacts.Building.{Goes, goes-from, map-push, claim-at, walks-at, holds-moved}
use Rattle.mapworld_state.proofs.InvariantFacts.Building.{in_call-moved, tables-kept, sound-by, started-own}
use Rattle.mapworld_state.proofs.InvariantFacts.Building.{started-stays, taken-at, within-at, tables-same, visits-moved}
use Rattle.mapworld_state.proofs.InvariantFacts.Building.{replies-kept, reply-below, ready-outside, block_after-none}
use Rattle.mapworld_state.proofs.InvariantFacts.Admitting.{kept-alone, walk-apart, leaves-same, owns-on}
use Rattle.mapworld_state.proofs.InvariantFacts.Listing.{length-map}
use Rattle.mapworld_state.proofs.InvariantFacts.NewBlocks.{last-new}
use Rattle.mapworld_state.proofs.InvariantFacts.Sums.{sum-all}
use Rattle.mapworld_state.proofs.InvariantFacts.Leading.{IsLeft, leads, leads-out, leads-own, leads-rests}
use Rattle.mapworld_state.proofs.InvariantFacts.Doing.{left-undone, left-done, all-whole, walk-asked, walk-work}
use Rattle.mapworld_state.proofs.InvariantFacts.Doing.{done-all}
use Rattle.mapworld_state.proofs.InvariantFacts.Looked.{looked-cases, counting-leaves, counting-reads, counting-stop}
use Rattle.mapworld_state.proofs.InvariantFacts.Looked.{below-most, flat_map-none, map-from, own-visited, count-looked}
use Rattle.mapworld_state.proofs.Tables.{pair_of-at}
use Rattle.mapworld_state.proofs.InvariantFacts.Timing.{IsStepOf-below, IsStepOf-next, placed-push, placed-same}
use Rattle.mapworld_state.proofs.InvariantFacts.Effects.{effect-push}
use Rattle.mapworld_state.proofs.InvariantFacts.Holding.{holds-same, exclusion}
use Rattle.mapworld_state.proofs.InvariantFacts.Walking.{sound-let_in}
use Rattle.mapworld_calls.specs.Frame.{AreApart}
use Rattle.mapworld_state.specs.Locks.Stands.{stand_in}

-- a visit is added to those of its walk
module _ {K V D T : Type 0} (x : Setup K V D T) (bs : List (Block K)) (d : Block K) (t c : ℕ) (f : Walk D)
    (vs : List (Visit K)) (v : IsVisited x bs t c f vs) where
  before-old : (n : ℕ) (u : Visit K) → slice_get vs n ≡ Some u → before x (bs ++ d ∷ []) u.place ≡ before x bs u.place
  before-old n u at = before-push x bs d u.place u.block (v.are n u at).listed

  pub whole-old : (n : ℕ) (u : Visit K) → slice_get vs n ≡ Some u → IsWhole x bs u.place u.block → IsWhole x (bs ++ d ∷ []) u.place u.block
  whole-old n u at whole q route there = whole q route (subst (λ (z : K → Option (K × V)). IsSome (z q)) (before-old n u at) there)

  abbrev pub pushed : List (Visit K)
  pushed = vs ++ visit_at (length bs) d ∷ []

  pub longer : length pushed ≡ length vs + 1
  longer = length-append vs (visit_at (length bs) d ∷ [])

  pub reads-looked : flat_map (λ q. visit_reads x.deeds f (before x (bs ++ d ∷ []) (length bs) q)) (done_keys x d) ≡ []
      → reads_of x (bs ++ d ∷ []) f pushed ≡ reads_of x bs f vs
  reads-looked none =
      flat_map-append (λ u. flat_map (λ q. visit_reads x.deeds f (before x (bs ++ d ∷ []) u.place q))
      (done_keys x u.block)) vs (visit_at (length bs) d ∷ [])
      ∙ ap (λ rs. flat_map
      (λ u. flat_map (λ q. visit_reads x.deeds f (before x (bs ++ d ∷ []) u.place q)) (done_keys x u.block)) vs ++
      (rs ++ [])) none
      ∙ append-nil (flat_map (λ u. flat_map (λ q. visit_reads x.deeds f (before x (bs ++ d ∷ []) u.place q)) (done_keys x u.block)) vs)
      ∙ flat_map-same (λ u. flat_map (λ q. visit_reads x.deeds f (before x (bs ++ d ∷ []) u.place q))
      (done_keys x u.block))
      (λ u. flat_map (λ q. visit_reads x.deeds f (before x bs u.place q)) (done_keys x u.block)) vs
      (λ n u at. ap (λ z. flat_map (λ q. visit_reads x.deeds f (z q)) (done_keys x u.block)) (before-old n u at))

  module _ (thread : d.thread ≡ t) (call : d.call ≡ c) (visit_is : d.visit ≡ length vs) where
    are-looked : (n : ℕ) (u : Visit K) → slice_get pushed n ≡ Some u → IsVisitOf (bs ++ d ∷ []) t c n u
    are-looked n u at = elim (slice_get-push_cases vs n u (visit_at (length bs) d) at) [
      | inl old ↦
          let is = v.are n u old in
          record { listed = slice_get-push_below bs u.place u.block d is.listed; thread = is.thread; call = is.call; visit = is.visit }
      | inr new ↦
          subst (λ (z : Visit K). IsVisitOf (bs ++ d ∷ []) t c n z) (sym new.1)
          (record { listed = slice_get-push_at bs d; thread = thread; call = call; visit = visit_is ∙ sym new.0 })
    ]

    pub visited-looked : AreWhole x bs vs → IsBelow (stop_of f) (number_of x vs)
        → IsAtMost (stop_of f) (number_of x pushed) → IsVisited x (bs ++ d ∷ []) t c f pushed
    visited-looked whole below within =
        let size = longer in
        let front = λ (n : ℕ) (le : n ≤ length vs). ap (λ us. number_of x us) (take-append-le n vs (visit_at (length bs) d ∷ []) le) in
        record {
          are = are-looked;
          goes_on = λ n lt. ⊎_elim
              (λ old. subst (λ (z : ℕ). IsBelow (stop_of f) z) (sym (front n (omega (arith, old)))) (v.goes_on n old))
              (λ le.
              let at : n ≡ length vs = omega (arith, size, lt, le) in
              subst (λ (z : ℕ). IsBelow (stop_of f) z)
              (sym (ap (λ j. number_of x (take j pushed)) at
              ∙ ap (λ us. number_of x us) (take-append_seam vs (visit_at (length bs) d ∷ [])))) below)
              (cases_lt n (length vs));
          whole = λ n u at lt. elim (slice_get-push_cases vs n u (visit_at (length bs) d) at) [
            | inl old ↦ whole-old n u old (whole n u old)
            | inr new ↦ let here = new.0 in absurd (omega (arith, size, lt, here))
          ];
          within = within;
          all = λ j e at own its. elim (slice_get-push_cases bs j e d at) [
            | inl old ↦ let lt = v.all j e old own its in omega (arith, size, lt)
            | inr new ↦ let is : e.visit ≡ length vs = ap (λ z. z.visit) new.1 ∙ visit_is in omega (arith, size, is)
          ];
        }

step-at : (steps : List ℕ) (t n u m : ℕ) → u ≡ t → m ≡ n → IsStepOf steps t n → IsStepOf steps u m
step-at steps t n u m thread number h = rw (thread, number) h

module _ {K V S D T A : Type 0} (x : Setup K V D T) (laws : Laws x) (w : State K V S D T A) (s : Step)
    (w' : State K V S D T A) (sound : Sound x w) (a : LooksAround x w s w') where
  abbrev p : Place K V D T A
  p = a.place

  abbrev f : Walk D
  f = a.walk

  abbrev t : ℕ
  t = s.thread

  abbrev d : Block K
  d = a.block

  abbrev i : ℕ
  i = length w.blocks

  abbrev bs' : List (Block K)
  bs' = w.blocks ++ d ∷ []

  abbrev tables' : List (ShardPairs K V)
  tables' = slice_set w.tables p.shard a.behind

  abbrev st : Stands x (threads_of w) w.blocks w.replies w.tables t p
  st = sound.stands t p a.stands

  claimed : IsInCall x (threads_of w) t p (ask.Walk f) × IsOutside p × HoldsShard p (walk_mode f)
  claimed = claim-at x (threads_of w) w.blocks w.replies w.tables t p (phase.Visit f) a.before st

  abbrev v : IsBetweenVisits x w.blocks t p f p.shard
  v = walks-at x (threads_of w) w.blocks w.replies w.tables t p (phase.Visit f) a.before st

  abbrev vs : List (Visit K)
  vs = v.so_far.visits

  asked : ask_at x t p.next ≡ Some (ask.Walk f)
  asked = claimed.0.asked

  work : block_work x d ≡ visit f
  work = walk-work x d t p.next f asked a.listed.thread a.listed.call

  -- the keys that the block has done are those of the shard's pairs, or none
  key-at : (n : ℕ) (k : K) → slice_get d.visited.items n ≡ Some k → (pair : K × V) × (slice_get a.table.items n ≡ Some pair) × (k ≡ pair.0)
  key-at n k at = by (gives_items f) (ap (λ ks. slice_get ks n) (sym a.listed.visited) ∙ at)
    where
      by : (gives : Bool) → slice_get (if gives then [] else map (λ (q : K × V). q.0) a.table.items) n ≡ Some k
          → (pair : K × V) × (slice_get a.table.items n ≡ Some pair) × (k ≡ pair.0)
      by true e = absurd (none-some k e)
      by false e = map-from (λ (q : K × V). q.0) a.table.items n k e

  on-shard : (n : ℕ) (k : K) → slice_get d.visited.items n ≡ Some k → x.route k ≡ p.shard
  on-shard n k at = let o = key-at n k at in ap x.route o.2 ∙ sound.tables.routed p.shard n a.table o.0 a.held o.1

  routed : (n : ℕ) (k : K) → slice_get d.visited.items n ≡ Some k → x.route k ≡ d.visit
  routed n k at = on-shard n k at ∙ sym a.listed.visit

  keys : done_keys x d ≡ d.visited.items
  keys = done-all x d routed

  none-done : gives_items f ≡ true → done_keys x d ≡ []
  none-done gives = keys ∙ a.listed.visited ∙ ap (λ (z : Bool). if z then [] else map (λ (q : K × V). q.0) a.table.items) gives

  -- so the block leaves each pair
  quiet : (q : K) (o : Option (K × V)) → left x d q o ≡ o
  quiet q o = ⊎_elim
      (λ gives. left-undone x d f q o work (ap (λ ks. list_any (λ k. x.eq k q) ks) (none-done gives)))
      (λ counts. ⊎_elim (λ is. left-done x d f q o work is ∙ counting-leaves x.deeds f counts o)
      (λ none. left-undone x d f q o work none) (cases_Bool (list_any (λ k. x.eq k q) (done_keys x d))))
      (cases_Bool (gives_items f))

  contents-stay : (q : K) → contents x bs' q ≡ contents x w.blocks q
  contents-stay q = contents-push x w.blocks d q ∙ quiet q (contents x w.blocks q)

  -- THE SHARD BEHIND IT

  look : (a.behind ≡ a.table) ⊎ ((gives_items f ≡ false) × (walk_mode f ≡ Exclusive) × Shrunk x.eq a.table a.behind)
  look = looked-cases x.eq f a.table a.behind a.looked

  finds : (q : K) → pair_of x.eq a.behind.items q ≡ pair_of x.eq a.table.items q
  finds q = elim look [ inl same ↦ ap (λ (z : ShardPairs K V). pair_of x.eq z.items q) same | inr more ↦ more.2.found q ]

  distinct : AreDistinct x.eq a.behind.items
  distinct = elim look [
    | inl same ↦ subst (λ (z : ShardPairs K V). AreDistinct x.eq z.items) (sym same) (sound.tables.distinct p.shard a.table a.held)
    | inr more ↦ more.2.distinct
  ]

  agree : TablesAgree x bs' tables'
  agree = tables-kept x laws w.blocks bs' w.tables sound.tables p.shard a.table a.behind a.held distinct finds contents-stay

  others-keep : (u : ℕ) (q : Place K V D T A) (m : Mode) → u ≢ t → slice_get w.places u ≡ Some q → HoldsShard q m
      → slice_get tables' q.shard ≡ slice_get w.tables q.shard
  others-keep u q m ne hq h = elim look [
    | inl same ↦ ap (λ (ts : List (ShardPairs K V)). slice_get ts q.shard)
        (ap (λ (z : ShardPairs K V). slice_set w.tables p.shard z) same ∙ slice_set-itself w.tables p.shard a.table
        a.held)
    | inr more ↦ kept-alone x w s p a.stands sound a.behind (subst (λ (k : Mode). HoldsShard p k) more.1 claimed.2) u q m ne hq h
  ]

  -- what it has is what the block leaves
  before-new : (q : K) → before x bs' i q ≡ contents x w.blocks q
  before-new q = ap (λ ds. contents x ds q) (take-append_seam w.blocks (d ∷ []))

  has-now : (q : K) → x.route q ≡ p.shard → pair_of x.eq a.table.items q ≡ contents x w.blocks q
  has-now q on = sound.tables.contents_are q a.table (ap (λ n. slice_get w.tables n) on ∙ a.held)

  there : (q : K) → x.route q ≡ p.shard → pair_of x.eq a.table.items q ≡ left x d q (before x bs' i q)
  there q on = has-now q on ∙ sym (quiet q (before x bs' i q) ∙ before-new q)

  -- THE WALK BEHIND IT

  abbrev vs' : List (Visit K)
  vs' = pushed x w.blocks d t p.next f vs v.so_far.visited

  visit-is : d.visit ≡ length vs
  visit-is = a.listed.visit ∙ sym v.number

  number' : number_of x vs' ≡ number_of x vs + length (done_keys x d)
  number' = sum_by_push (λ (u : Visit K). length (done_keys x u.block)) vs (visit_at i d)

  -- it has given no more items than it was to give
  at-most : (n : ℕ) → n ≡ number_of x vs + length (done_keys x d) → IsAtMost (stop_of f) n
  at-most n is = ⊎_elim
      (λ gives. below-most (stop_of f) n
      (subst (λ (k : ℕ). IsBelow (stop_of f) k)
      (let none = ap length (none-done gives) in let e : number_of x vs ≡ n = omega (arith, is, none) in e)
      v.goes_on))
      (λ counts. subst (λ (o : Option ℕ). IsAtMost o n) (sym (counting-stop f counts)) tt)
      (cases_Bool (gives_items f))

  visited' : IsVisited x bs' t p.next f vs'
  visited' = visited-looked x w.blocks d t p.next f vs v.so_far.visited a.listed.thread a.listed.call visit-is v.whole
      v.goes_on (at-most (number_of x vs') number')

  reads' : p.reads ≡ reads_of x bs' f vs'
  reads' = v.so_far.reads ∙ sym (reads-looked x w.blocks d t p.next f vs v.so_far.visited (⊎_elim
      (λ gives. ap (λ ks. flat_map (λ q. visit_reads x.deeds f (before x bs' i q)) ks) (none-done gives))
      (λ counts. flat_map-none (λ q. visit_reads x.deeds f (before x bs' i q)) (done_keys x d)
      (λ q. counting-reads x.deeds f counts (before x bs' i q)))
      (cases_Bool (gives_items f))))

  count' : IsCount x f vs' a.count
  count' = subst (λ (n : ℕ). IsCount x f vs' n) (sym a.counted)
      (count-looked x vs (visit_at i d) p.count f a.table.items a.table.room a.enough (ap length (keys ∙ a.listed.visited)) v.so_far.count)

  named' : map (λ (z : Visit K). z.place) vs' ≡ p.visits ++ i ∷ []
  named' = map-push (λ (z : Visit K). z.place) vs (visit_at i d) ∙ ap (λ ns. ns ++ i ∷ []) v.so_far.named

  length' : length vs' ≡ p.shard + 1
  length' = longer x w.blocks d t p.next f vs v.so_far.visited ∙ ap (λ n. n + 1) v.number

  own' : slice_get vs' p.shard ≡ Some (visit_at i d)
  own' = ap (λ n. slice_get vs' n) (sym v.number) ∙ slice_get-push_at vs (visit_at i d)

  abbrev p' : Place K V D T A
  p' = record p { visits = p.visits ++ i ∷ []; reads = a.reads; count = a.count; phase = a.next }

  abbrev done : Bool
  done = all_visited x.eq (looked_keys f a.table.items) a.table.items

  -- a walk that counts has done all
  gives-left : done ≡ false → gives_items f ≡ true
  gives-left some = ⊎_elim
      (λ gives. gives)
      (λ counts. absurd (false≢true (sym some
      ∙ ap (λ (z : Bool). all_visited x.eq (if z then [] else map (λ (q : K × V). q.0) a.table.items) a.table.items) counts
      ∙ own-visited x.eq a.table.items laws.equivalence.refl)))
      (cases_Bool (gives_items f))

  whole' : done ≡ true → AreWhole x bs' vs'
  whole' all n u at = elim (slice_get-push_cases vs n u (visit_at i d) at) [
    | inl old ↦ whole-old x w.blocks d t p.next f vs v.so_far.visited n u old (v.whole n u old)
    | inr new ↦
        subst (λ (z : Visit K). IsWhole x bs' z.place z.block) (sym new.1)
        (all-whole x laws bs' i d f a.table work keys (λ q on. there q (on ∙ a.listed.visit))
        (ap (λ ks. all_visited x.eq ks a.table.items) a.listed.visited ∙ all))
  ]

  rest' : done ≡ false → IsLeft x (threads_of w ++ t ∷ []) bs' tables' t p' f vs'
  rest' some = record {
    items = gives-left some;
    index = i;
    block = d;
    own = own';
    table = a.behind;
    held = slice_get-set_same w.tables p.shard a.table a.behind a.held;
    there = λ q on. finds q ∙ there q on;
    some = ap (λ ks. all_visited x.eq ks a.behind.items) a.listed.visited ∙ elim look [
      | inl same ↦ ap (λ (z : ShardPairs K V). all_visited x.eq (looked_keys f a.table.items) z.items) same ∙ some
      | inr more ↦ absurd (false≢true (sym more.0 ∙ gives-left some))
    ];
    last = λ alone. last-new x w.blocks d;
  }

  stays : Claim x (threads_of w ++ t ∷ []) bs' tables' t p' a.next × Walks x bs' tables' t p' a.next
  stays =
      leads x (threads_of w ++ t ∷ []) bs' tables' t p' f
      (IsInCall-push x (threads_of w) t t p' (ask.Walk f)
      (in_call-moved x p p' (threads_of w) t (ask.Walk f) refl refl refl claimed.0)) (claimed.1.0, claimed.1.1)
      (holds-moved x p p' (walk_mode f) refl refl claimed.2) (walk-apart x w t sound p st f asked).1
      (sound.stops t p.next f asked) v.left vs' named' visited' p.reads reads' count' length' done whole' rest'
      (walk_ends x.shards f p.shard done a.count) done refl refl a.next a.reads a.leads refl

  rests : is_resting a.next ≡ false
  rests = leads-rests f p.reads a.count _ _ a.next a.reads a.leads

  owned : may_own a.next ≡ true
  owned = leads-own f p.reads a.count _ _ a.next a.reads a.leads

  owns' : OwnsBlocks bs' t p'
  owns' j e he thread = elim (slice_get-push_cases w.blocks j e d he) [
    | inl old ↦ elim (st.owns j e old thread) [
      | inl below ↦ inl below
      | inr mine ↦ inr (mine.0, elim mine.1 [ inl its ↦ inl its | inr in_ ↦ inr (in_.0, slice_get-push_below p.visits in_.0 j i in_.1) ], owned)
    ]
    | inr new ↦ inr (
      ap (λ z. z.call) new.1 ∙ a.listed.call,
      inr (length p.visits, slice_get-push_at p.visits i ∙ ap (λ n. Some n) (sym new.0)),
      owned,
    )
  ]

  visits' : HasOwnVisits x bs' t p'
  visits' = record {
    are = λ j in_. ⊎_elim
        (λ old.
        let o = st.own_visits.are j (in_.0, old) in
        record {
          block = o.block;
          listed = slice_get-push_below w.blocks j o.block d o.listed;
          thread = o.thread;
          call = o.call;
          end = o.end;
          walk = o.walk;
          asked = o.asked;
          apart = o.apart;
        })
        (λ new. record {
          block = d;
          listed = ap (λ n. slice_get bs' n) new.1 ∙ slice_get-push_at w.blocks d;
          thread = a.listed.thread;
          call = a.listed.call;
          end = a.listed.end;
          walk = f;
          asked = asked;
          apart = claimed.1.0;
        })
        (slice_get-push_cases p.visits in_.0 j i in_.1);
    once = λ m n j hm hn. ⊎_elim
        (λ old. ⊎_elim (λ older. st.own_visits.once m n j old older) (λ new. absurd (apart m j old new.1)) (slice_get-push_cases p.visits n j i hn))
        (λ new. ⊎_elim (λ old. absurd (apart n j old new.1)) (λ newer. new.0 ∙ sym newer.0) (slice_get-push_cases p.visits n j i hn))
        (slice_get-push_cases p.visits m j i hm);
  }
    where
      apart : (m j : ℕ) → slice_get p.visits m ≡ Some j → j ≡ i → ⊥
      apart m j at same = let o = st.own_visits.are j (m, at) in let lt = slice_get_within w.blocks j o.block o.listed in omega (arith, lt, same)

  -- ITS BLOCK IS WELL PLACED

  number : next_step w ≡ length (threads_of w) + 1
  number = ap (λ k. k + 1) (sym (length-map (λ (z : Step). z.thread) w.steps))

  sums : done_by_walk x w.blocks d.thread d.call ≡ number_of x vs
  sums =
      ap (λ u. done_by_walk x w.blocks u d.call) a.listed.thread
      ∙ ap (λ n. done_by_walk x w.blocks t n) a.listed.call
      ∙ sum-all x (threads_of w) (started_of w) w.blocks w.replies sound.placed t p.next f vs v.so_far.visited

  sums-more : done_by_walk x (take (suc i) bs') d.thread d.call ≡ number_of x vs + length (done_keys x d)
  sums-more =
      let own : (if (d.thread == d.thread) && (d.call == d.call) then length (done_keys x d) else 0) ≡ length
      (done_keys x d) = rw (eq-eqb d.thread d.thread refl, eq-eqb d.call d.call refl) refl in
      ap (λ ds. done_by_walk x ds d.thread d.call) (take_all (suc i) bs' (let e = length-append w.blocks (d ∷ []) in omega (arith, e)))
      ∙ sum_by_push (λ b. if (b.thread == d.thread) && (b.call == d.call) then length (done_keys x b) else 0) w.blocks d
      ∙ ap (λ n. done_by_walk x w.blocks d.thread d.call + n) own
      ∙ ap (λ n. n + length (done_keys x d)) sums

  -- the visit before it is whole
  before-it : (n : ℕ) → d.visit ≡ suc n → IsVisitedBefore x bs' i d n
  before-it n is = elim (slice_get_cases vs n).1 [
    | inl found ↦
        let u = found.0 in
        let its = v.so_far.visited.are n u found.2 in
        record {
          place = u.place;
          block = u.block;
          listed = slice_get-push_below w.blocks u.place u.block d its.listed;
          earlier = slice_get_within w.blocks u.place u.block its.listed;
          thread = its.thread ∙ sym a.listed.thread;
          call = its.call ∙ sym a.listed.call;
          visit = its.visit;
          whole = whole-old x w.blocks d t p.next f vs v.so_far.visited n u found.2 (v.whole n u found.2);
        }
    | inr past ↦ absurd (omega (arith, is, visit-is, past.0))
  ]

  visit-done : IsVisitDone x bs' i d f
  visit-done = record {
    within = let lt = v.left in let e = a.listed.visit in omega arith;
    routed = routed;
    once = λ m n j k hm hn same.
        let y = key-at m j hm in
        let z = key-at n k hn in
        sound.tables.distinct p.shard a.table a.held m n y.0 z.0 y.1 z.1 (ap (λ q. x.eq q z.0.0) (sym y.2) ∙ ap (λ q. x.eq j q) (sym z.2) ∙ same);
    there = λ n k at.
        let y = key-at n k at in
        let finds : pair_of x.eq a.table.items k ≡ Some y.0 =
        ap (λ q. pair_of x.eq a.table.items q) y.2 ∙ pair_of-at x.eq laws.equivalence a.table.items n y.0 y.0.0
        (sound.tables.distinct p.shard a.table a.held) y.1 (laws.equivalence.refl y.0.0) in
        subst (λ (o : Option (K × V)). IsSome o) (sym (before-new k ∙ sym (has-now k (on-shard n k at)) ∙ finds)) refl;
    in_turn = before-it;
    begins = subst (λ (n : ℕ). IsBelow (stop_of f) n)
        (sym (ap (λ ds. done_by_walk x ds d.thread d.call) (take-append_seam w.blocks (d ∷ [])) ∙ sums)) v.goes_on;
    stops = at-most (done_by_walk x (take (suc i) bs') d.thread d.call) sums-more;
  }

  start-is : d.start ≡ claimed.0.start
  start-is = same_Some d.start claimed.0.start (sym a.listed.start ∙ claimed.0.started)

  new-placed : IsPlaced x (threads_of w ++ t ∷ []) (started_of (stepped w s p')) bs' w.replies i d
  new-placed = record {
    ask = ask.Walk f;
    asked = walk-asked x d t p.next f asked a.listed.thread a.listed.call;
    done = (visit-done, a.listed.done);
    start = step-at (threads_of w ++ t ∷ []) t claimed.0.start d.thread d.start a.listed.thread start-is
        (IsStepOf-push (threads_of w) t t claimed.0.start claimed.0.begun);
    position = step-at (threads_of w ++ t ∷ []) t (length (threads_of w) + 1) d.thread d.position a.listed.thread
        (a.listed.position ∙ number) (IsStepOf-next (threads_of w) t);
    order =
        let lt = IsStepOf-below (threads_of w) t claimed.0.start claimed.0.begun in
        let at = a.listed.position ∙ number in
        omega (arith, lt, at, start-is);
    shown = inr (record {
      call = a.listed.call ∙ st.answered ∙ ap (answered_of w.replies) (sym a.listed.thread);
      start = ap (started_of (stepped w s p')) a.listed.thread ∙ started-own x w s p p' a.stands ∙ a.listed.start;
      end = a.listed.end;
    });
  }

  earlier : (j : ℕ) (b : Block K) → slice_get w.blocks j ≡ Some b → b.thread ≡ d.thread → IsEarlier b d
  earlier j b hb thread =
      let mine = thread ∙ a.listed.thread in
      let call = a.listed.call in
      elim (st.owns j b hb mine) [
        | inl below ↦ inl (omega (arith, below, call))
        | inr its ↦
            let lt = v.so_far.visited.all j b hb mine its.0 in
            inr (its.0 ∙ sym call, omega (arith, lt, visit-is))
      ]

  pub sound-looks_around : Goes x s.thread w w'
  sound-looks_around =
      subst (Goes x s.thread w) (sym a.after)
      (sound-by x w s p p' a.stands sound bs' tables' w.locks w.replies (λ b. AreApart (frame_of x) b d)
      (record {
        effect = effect-push A x w.blocks t d a.listed.thread;
        count = λ u ne. refl;
        kept = others-keep;
        foreign = λ u q b ne hq alone works. λ n hb hd.
            let here : n ≡ p.shard = visit-works_there x p f d t p.next asked a.listed.thread a.listed.call a.listed.visit n hd in
            let both = exclusion w.places w.locks sound.holds t u p q claimed.2.hold alone.hold (λ z. ne (sym z)) a.stands hq claimed.2.has alone.has
            (claimed.2.shard ∙ sym here ∙ works n hb ∙ sym alone.shard) in
            absurd (cc (both.1, alone.mode_is));
        shards = length-set w.tables p.shard a.behind;
      })
      (record {
        program = st.program;
        has = st.has;
        asks_left = taken-at x (threads_of w) w.blocks w.replies w.tables t p (phase.Visit f) a.before st
            ∙ ap (λ (z : Bool). drop (if z then p.next else p.next + 1) st.program) (sym rests);
        within = subst (λ (z : Bool). (if z then p.next else p.next + 1) ≤ length st.program) (sym rests)
            (within-at x (threads_of w) w.blocks w.replies w.tables t p (phase.Visit f) a.before st);
        answered = st.answered;
        owns = owns';
        own_block = λ j mine. absurd (none-some j (sym claimed.1.0 ∙ mine));
        own_visits = visits';
        claim = stays.0;
        walks = stays.1;
      })
      agree
      (holds-same w.places w.locks sound.holds t p p' a.stands refl
      (leads-out f p.reads a.count p' (stand_in w.locks t) a.out _ _ a.next a.reads a.leads))
      (placed-push x (threads_of w) t (started_of w) (started_of (stepped w s p')) w.blocks w.replies
      (started-stays x w s p p' a.stands (λ n z. z)) d new-placed (a.listed.position ∙ number) earlier sound.placed)
      (replies-kept x w.blocks bs' w.replies
      (λ j r hr. keeps-push x w.blocks d r.thread r.call (λ same.
      let below = reply-below x (threads_of w) (started_of w) w.blocks w.replies sound.placed j r hr in
      let mine : r.thread ≡ t = sym same ∙ a.listed.thread in
      let count : p.next ≡ answered_of w.replies r.thread = st.answered ∙ ap (answered_of w.replies) (sym mine) in
      let call = a.listed.call in
      omega (arith, below, count, call)))
      sound.replies))

-- a look that is refused room leads to the walk's release
pub sound-refused_visit : {K V S D T A : Type 0} (x : Setup K V D T) (w : State K V S D T A) (s : Step)
    (w' : State K V S D T A) → Sound x w → IsRefusedVisit x w s w' → Goes x s.thread w w'
sound-refused_visit x w s w' sound a =
    let p = a.place in
    let t = s.thread in
    let f = phase.Visit a.walk in
    let p' : Place _ _ _ _ _ = record p { reads = []; phase = phase.Release answer.NoMemory } in
    let st = sound.stands t p a.stands in
    let c = claim-at x (threads_of w) w.blocks w.replies w.tables t p f a.before st in
    let v = walks-at x (threads_of w) w.blocks w.replies w.tables t p f a.before st in
    let outside = walk-apart x w t sound p st a.walk c.0.asked in
    subst (Goes x s.thread w) (sym a.after)
    (sound-by x w s p p' a.stands sound w.blocks w.tables w.locks w.replies _ (leaves-same x w s p p' a.stands sound w.locks)
    (record {
      program = st.program;
      has = st.has;
      asks_left = taken-at x (threads_of w) w.blocks w.replies w.tables t p f a.before st;
      within = within-at x (threads_of w) w.blocks w.replies w.tables t p f a.before st;
      answered = st.answered;
      own_block = st.own_block;
      own_visits = visits-moved x w.blocks t p p' refl refl refl st.own_visits;
      owns = owns-on w.blocks t p p' st.owns refl refl refl (λ own. refl);
      claim = (
        ask.Walk a.walk,
        c.2.hold,
        IsInCall-push x (threads_of w) t t p' _ (in_call-moved x p p' (threads_of w) t _ refl refl refl c.0),
        c.2.has,
        subst (λ (g : Option _). IsReleasing x w.blocks w.tables t p' (ask.Walk a.walk) answer.NoMemory g) (sym c.1.1) (
          inr (
            refl,
            record {
              grows = a.grows;
              visits = v.so_far.visits;
              visited = v.so_far.visited;
              ended = v.whole;
              left_over = rw v.number v.left;
              goes_on = v.goes_on;
            },
          ),
          ready-outside x w.blocks w.tables t p' (p.next + 1) (block_after p') outside.1 c.1.1 (block_after-none p' c.1.0),
        ),
      );
      walks = refl;
    })
    (tables-same x w.blocks w.blocks w.tables sound.tables (λ q. refl))
    (holds-same w.places w.locks sound.holds t p p' a.stands refl a.out)
    (placed-same x (threads_of w) t (started_of w) (started_of (stepped w s p')) w.blocks w.replies
    (started-stays x w s p p' a.stands (λ n z. z)) sound.placed)
    sound.replies)

pub sound-looks : {K V S D T A : Type 0} (x : Setup K V D T) → Laws x
    → (w : State K V S D T A) (s : Step) (w' : State K V S D T A) → Sound x w → Visits x w s w' → Goes x s.thread w w'
sound-looks x laws w s w' sound h =
    let there = sound-let_in x w s.thread h.mid sound h.enters in
    let same : h.mid.blocks ≡ w.blocks = elim h.enters [
      | inl same ↦ ap (λ z. z.blocks) same
      | inr more ↦ elim more [ inl e ↦ ap (λ z. z.blocks) e.after | inr e ↦ ap (λ z. z.blocks) e.after ]
    ] in
    goes-from x s.thread w h.mid w' same
    (elim h.looks [
      | inl look ↦ sound-looks_around x laws h.mid s w' there look
      | inr no_ ↦ sound-refused_visit x
          h.mid s w' there no_
    ])

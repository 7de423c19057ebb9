-- The pairs that walks may still come to: no step of a thread makes them more for another.
use Rattle.std.proofs.Common.{◌≡◌, ℕ, zero, suc, ◌+◌, ◌*◌, ◌≤◌, ◌<◌, ◌==◌, inl, inr, Bool, true, false, MatchBool, List}
use Rattle.std.proofs.Common.{[], ◌∷◌, ◌++◌, length, Option, Some, None, slice_get, slice_set, sum_by, count_by, refl}
use Rattle.std.proofs.Common.{ap, sym, ◌∙◌, arith, length-set}
use Rattle.std.proofs.Math.Nat.{mul-le-mul_left}
use Rattle.std.proofs.lemmas.Bool.{cases_eq, false≢true}
use Rattle.std.proofs.lemmas.List.Sums.{sum_by-cons}
use Rattle.std.proofs.lemmas.Option.{same_Some, none-some, slice_get_cases}
use Rattle.mapworld_calls.specs.declared.block.Block.{Block}
use Rattle.mapworld_calls.specs.Setup.{Setup, Laws}
use Rattle.mapworld_calls.proofs.Lists.{slice_get-set_same, slice_get-set_other, slice_get-push_below}
use Rattle.mapworld_state.specs.declared.place.Phase.{Phase}
use Rattle.mapworld_state.specs.declared.place.Phase.TheVariants as phase
use Rattle.mapworld_state.specs.Core.{adds, is_walk}
use Rattle.mapworld_state.specs.Moves.{CountsCall, EndsAt, EndsBlock, EndsCall, EndsVisits, ListsBlock}
use Rattle.mapworld_state.specs.Places.{Place}
use Rattle.mapworld_state.specs.Shards.{ShardPairs}
use Rattle.mapworld_state.specs.State.{State}
use Rattle.mapworld_state.specs.Walks.{is_visited}
use Rattle.mapworld.specs.Progress.Left.{pairs_from, to_come, fresh, visited_by, block_at, items_at, fresh_of}
use Rattle.mapworld.specs.Progress.Left.{phase_todo, place_todo}
use Rattle.mapworld.proofs.ProgressFacts.Counting.{fresh-grown}

-- PAIRS OF SHARDS FROM ONE ON

module _ {K V : Type 0} where
  pairs-cons : (t : ShardPairs K V) (ts : List (ShardPairs K V)) → pairs_from (t ∷ ts) 0 ≡ length t.items + pairs_from
      ts 0
  pairs-cons t ts = sum_by-cons (λ (z : ShardPairs K V). length z.items) t ts

  -- one shard has at most d pairs more
  pub pairs-set : (tables : List (ShardPairs K V)) (j i : ℕ) (t t' : ShardPairs K V) (d : ℕ)
      → slice_get tables j ≡ Some t → length t'.items ≤ length t.items + d → pairs_from (slice_set tables j t') i ≤
      pairs_from tables i + d
  pairs-set [] j i t t' d at few = absurd (none-some t at)
  pairs-set (z ∷ ts) zero zero t t' d at few =
      let same : length z.items ≡ length t.items = ap (λ (y : ShardPairs K V). length y.items) (same_Some z t at) in
      omega (arith, few, same, pairs-cons t' ts, pairs-cons z ts)
  pairs-set (z ∷ ts) zero (suc i) t t' d at few = omega arith
  pairs-set (z ∷ ts) (suc j) zero t t' d at few =
      omega (arith, pairs-set ts j zero t t' d at few, pairs-cons z ts, pairs-cons z (slice_set ts j t'))
  pairs-set (z ∷ ts) (suc j) (suc i) t t' d at few = pairs-set ts j i t t' d at few

  pub pairs-above : (tables : List (ShardPairs K V)) (j i : ℕ) (t' : ShardPairs K V) → j < i
      → pairs_from (slice_set tables j t') i ≡ pairs_from tables i
  pairs-above [] j i t' lt = refl
  pairs-above (z ∷ ts) zero zero t' lt = absurd (omega (arith, lt))
  pairs-above (z ∷ ts) zero (suc i) t' lt = refl
  pairs-above (z ∷ ts) (suc j) zero t' lt = absurd (omega (arith, lt))
  pairs-above (z ∷ ts) (suc j) (suc i) t' lt = pairs-above ts j i t' (omega (arith, lt))

  pub pairs-at : (tables : List (ShardPairs K V)) (i : ℕ) (t : ShardPairs K V) → slice_get tables i ≡ Some t
      → pairs_from tables i ≡ length t.items + pairs_from tables (suc i)
  pairs-at [] i t at = absurd (none-some t at)
  pairs-at (z ∷ ts) zero t at = pairs-cons z ts ∙ ap (λ (y : ShardPairs K V). length y.items + pairs_from ts 0)
      (same_Some z t at)
  pairs-at (z ∷ ts) (suc i) t at = pairs-at ts i t at

  pub pairs-behind : (tables : List (ShardPairs K V)) (i : ℕ) → pairs_from tables (suc i) ≤ pairs_from tables i
  pairs-behind [] zero = omega arith
  pairs-behind [] (suc i) = omega arith
  pairs-behind (z ∷ ts) zero = omega (arith, pairs-cons z ts)
  pairs-behind (z ∷ ts) (suc i) = pairs-behind ts i

  pub pairs-all : (tables : List (ShardPairs K V)) (i : ℕ) → pairs_from tables i ≤ pairs_from tables 0
  pairs-all tables zero = omega arith
  pairs-all tables (suc i) =
      omega (arith, pairs-all tables i, pairs-behind tables i)

-- WHAT A STEP DOES TO SHARDS

-- all shards stay, or one of them has another table, with at most d pairs more, and at most d more that are fresh
pub data TablesBy {K V : Type 0} (eq : K → K → Bool) (tables tables' : List (ShardPairs K V)) (d : ℕ) : Type 0 where
  same : tables' ≡ tables → TablesBy eq tables tables' d
  one : (j : ℕ) (t t' : ShardPairs K V) → slice_get tables j ≡ Some t → tables' ≡ slice_set tables j t'
      → length t'.items ≤ length t.items + d
      → ((keys : List K) → fresh eq keys t'.items ≤ fresh eq keys t.items + d) → TablesBy eq tables tables' d

pub tables-size : {K V : Type 0} (eq : K → K → Bool) (tables tables' : List (ShardPairs K V)) (d : ℕ)
    → TablesBy eq tables tables' d → length tables' ≡ length tables
tables-size eq tables tables' d (same e) = ap length e
tables-size eq tables tables' d (one j t t' at e few frs) = ap length e ∙ length-set tables j t'

-- what was visited stays so
abbrev pub StaysVisited : {K : Type 0} → (K → K → Bool) → List (Block K) → List (Block K) → Type 0
StaysVisited {K} eq bs bs' = (i : ℕ) (k : K) → is_visited eq (visited_by (slice_get bs i)) k ≡ true
    → is_visited eq (visited_by (slice_get bs' i)) k ≡ true

module _ {K V : Type 0} (eq : K → K → Bool) (tables tables' : List (ShardPairs K V)) (d : ℕ) where
  pub pairs-by : TablesBy eq tables tables' d → (i : ℕ) → pairs_from tables' i ≤ pairs_from tables i + d
  pairs-by (same e) i = omega (arith, ap (λ ts. pairs_from ts i) e)
  pairs-by (one j t t' at e few frs) i = omega (arith, ap (λ ts. pairs_from ts i) e, pairs-set tables j i t t' d at few)

  -- the fresh pairs of a shard and the pairs of all behind it
  pub fresh-by : TablesBy eq tables tables' d → (keys : List K) (i : ℕ)
      → fresh eq keys (items_at (slice_get tables' i)) + pairs_from tables' (suc i) ≤ fresh eq keys
      (items_at (slice_get tables i)) + pairs_from tables (suc i) + d
  fresh-by (same e) keys i =
      omega (arith, ap (λ ts. fresh eq keys (items_at (slice_get ts i)) + pairs_from ts (suc i)) e)
  fresh-by (one j t t' at e few frs) keys i = elim (cases_eq i j) [
    | inl here ↦
        let was : fresh eq keys (items_at (slice_get tables i)) ≡ fresh eq keys t.items =
        ap (λ o. fresh eq keys (items_at o)) (ap (λ k. slice_get tables k) here ∙ at) in
        let now : fresh eq keys (items_at (slice_get tables' i)) ≡ fresh eq keys t'.items =
        ap (λ o. fresh eq keys (items_at o))
        (ap (λ ts. slice_get ts i) e
        ∙ (ap (λ k. slice_get (slice_set tables j t') k) here ∙ slice_get-set_same tables j t t' at)) in
        let behind : pairs_from tables' (suc i) ≡ pairs_from tables (suc i) = ap (λ ts. pairs_from ts (suc i)) e
        ∙ pairs-above tables j (suc i) t' (omega (arith, here)) in
        omega (arith, was, now, behind, frs keys)
    | inr apart ↦
        let stays : fresh eq keys (items_at (slice_get tables' i)) ≡ fresh eq keys (items_at (slice_get tables i)) =
        ap (λ o. fresh eq keys (items_at o))
        (ap (λ ts. slice_get ts i) e ∙ slice_get-set_other tables j i t' (λ z. apart (sym z))) in
        omega (arith, stays, ap (λ ts. pairs_from ts (suc i)) e, pairs-set tables j (suc i) t t' d at few)
  ]

-- a sum whose parts are no more, but for one
pub sum-but : {X : Type 0} (f g : X → ℕ) (xs : List X) (i : ℕ) (x : X) → slice_get xs i ≡ Some x → ((y : X) → g y ≤ f y)
    → sum_by g xs + f x ≤ sum_by f xs + g x
sum-but f g [] i x at few = absurd (none-some x at)
sum-but f g (y ∷ ys) zero x at few =
    let is : y ≡ x = same_Some y x at in
    omega (arith, sum_by-cons f y ys, sum_by-cons g y ys, ap f is, ap g is, sum-le f g ys few)
  where
    sum-le : {X : Type 0} (f g : X → ℕ) (xs : List X) → ((y : X) → g y ≤ f y) → sum_by g xs ≤ sum_by f xs
    sum-le f g [] few = omega arith
    sum-le f g (z ∷ zs) few = omega (arith, sum_by-cons f z zs, sum_by-cons g z zs, few z, sum-le f g zs few)
sum-but f g (y ∷ ys) (suc i) x at few =
    omega (arith, sum_by-cons f y ys, sum_by-cons g y ys, few y, sum-but f g ys i x at few)

module _ {K V S D T A : Type 0} (x : Setup K V D T) (laws : Laws x) (w w' : State K V S D T A) (d : ℕ)
    (tables : TablesBy x.eq w.tables w'.tables d) (pays : to_come w'.places + d ≤ to_come w.places)
    (seen : StaysVisited x.eq w.blocks w'.blocks) where
  pub behind : (i : ℕ) → pairs_from w'.tables i + to_come w'.places ≤ pairs_from w.tables i + to_come w.places
  behind i = omega (arith, pays, pairs-by x.eq w.tables w'.tables d tables i)

  visited-still : (o : Option ℕ) (k : K) → is_visited x.eq (visited_by (block_at w.blocks o)) k ≡ true
      → is_visited x.eq (visited_by (block_at w'.blocks o)) k ≡ true
  visited-still None k is = is
  visited-still (Some i) k is = seen i k is

  pub within : (p : Place K V D T A) → fresh_of x w' p + (pairs_from w'.tables (suc p.shard) + to_come w'.places) ≤
      fresh_of x w p + (pairs_from w.tables (suc p.shard) + to_come w.places)
  within p =
      let keys = visited_by (block_at w.blocks (slice_get p.visits p.shard)) in
      let keys' = visited_by (block_at w'.blocks (slice_get p.visits p.shard)) in
      omega (
        arith,
        pays,
        fresh-by x.eq w.tables w'.tables d tables keys p.shard,
        fresh-grown x.eq keys keys' (items_at (slice_get w'.tables p.shard))
            (visited-still (slice_get p.visits p.shard)),
      )

  -- no place has more to do, while it stays
  pub phase-todo : (p : Place K V D T A) (f : Phase K V D T A) → phase_todo x w' p f ≤ phase_todo x w p f
  phase-todo p phase.Rest = omega arith
  phase-todo p (phase.Admit r) = omega arith
  phase-todo p (phase.Find r) = omega arith
  phase-todo p (phase.Grow c) = omega arith
  phase-todo p (phase.Append k v) = omega arith
  phase-todo p (phase.Apply k) = omega arith
  phase-todo p (phase.View k u) = omega arith
  phase-todo p (phase.Read u) = omega arith
  phase-todo p (phase.Change h) = omega arith
  phase-todo p (phase.Fill v) = omega arith
  phase-todo p phase.Downgrade = omega arith
  phase-todo p (phase.Idle f) = omega arith
  phase-todo p (phase.Reach f) = behind p.shard
  phase-todo p (phase.Part f) = behind p.shard
  phase-todo p (phase.Visit f) = behind p.shard
  phase-todo p (phase.Seek f) = within p
  phase-todo p (phase.Item f) = within p
  phase-todo p (phase.Give f) = behind (suc p.shard)
  phase-todo p (phase.Onward f) = behind (suc p.shard)
  phase-todo p (phase.Release a) = omega arith
  phase-todo p (phase.Answer a) = omega arith

  pub asks-todo : (n : ℕ) → n * (pairs_from w'.tables 0 + to_come w'.places) ≤ n *
      (pairs_from w.tables 0 + to_come w.places)
  asks-todo n = mul-le-mul_left n (behind 0)

  pub place-todo : (p : Place K V D T A) → place_todo x w' p ≤ place_todo x w p
  place-todo p = omega (arith, asks-todo (count_by is_walk p.asks), phase-todo p p.phase)

-- WHAT BLOCKS HAVE VISITED

module _ {K : Type 0} (eq : K → K → Bool) (bs bs' : List (Block K)) where
  pub seen-same : bs' ≡ bs → StaysVisited eq bs bs'
  seen-same e i k is = ap (λ cs. is_visited eq (visited_by (slice_get cs i)) k) e ∙ is

  seen-none : (o : Option (Block K)) (k : K) → o ≡ None → is_visited eq (visited_by o) k ≡ true → ⊥
  seen-none o k e is = false≢true (ap (λ z. is_visited eq (visited_by z) k) (sym e) ∙ is)

  pub seen-push : (b : Block K) → bs' ≡ bs ++ b ∷ [] → StaysVisited eq bs bs'
  seen-push b e i k is = elim (slice_get_cases bs i).1 [
    | inl at ↦ ap (λ o. is_visited eq (visited_by o) k)
        (ap (λ cs. slice_get cs i) e ∙ slice_get-push_below bs i at.0 b at.2)
        ∙ (ap (λ o. is_visited eq (visited_by o) k) (sym at.2) ∙ is)
    | inr past ↦ absurd (seen-none (slice_get bs i) k past.1 is)
  ]

  pub seen-set : (j : ℕ) (b c : Block K) → slice_get bs j ≡ Some b
      → ((k : K) → is_visited eq b.visited.items k ≡ true → is_visited eq c.visited.items k ≡ true)
      → bs' ≡ slice_set bs j c → StaysVisited eq bs bs'
  seen-set j b c at more e i k is = elim (cases_eq i j) [
    | inl here ↦
        let was : is_visited eq b.visited.items k ≡ true = ap (λ o. is_visited eq (visited_by o) k)
        (sym at ∙ ap (λ n. slice_get bs n) (sym here)) ∙ is in
        ap (λ o. is_visited eq (visited_by o) k)
        (ap (λ cs. slice_get cs i) e
        ∙ (ap (λ n. slice_get (slice_set bs j c) n) here ∙ slice_get-set_same bs j b c at)) ∙ more k was
    | inr apart ↦ ap (λ o. is_visited eq (visited_by o) k)
        (ap (λ cs. slice_get cs i) e ∙ slice_get-set_other bs j i c (λ z. apart (sym z))) ∙ is
  ]

module _ {K : Type 0} (eq : K → K → Bool) where
  pub seen-counted : (bs : List (Block K)) (o : Option ℕ) (call : ℕ) (bs' : List (Block K)) → CountsCall bs o call bs'
      → StaysVisited eq bs bs'
  seen-counted bs None call bs' e = seen-same eq bs bs' e
  seen-counted bs (Some i) call bs' h = seen-set eq bs bs' i h.0 h.1 h.2
      (λ k is. ap (λ ks. is_visited eq ks k) h.3.visited ∙ is) h.4

  pub seen-listed : {V S D T A : Type 0} (w : State K V S D T A) (t : ℕ) (p : Place K V D T A) (o : Option ℕ)
      (bs' : List (Block K)) → ListsBlock w t p o bs' → StaysVisited eq w.blocks bs'
  seen-listed w t p None bs' e = seen-same eq w.blocks bs' e
  seen-listed w t p (Some done) bs' h = seen-push eq w.blocks bs' h.0 h.2

  ended-block : (b c : Block K) (here : Bool) (end : ℕ) → MatchBool here (EndsAt end b c) (c ≡ b) → (k : K)
      → is_visited eq b.visited.items k ≡ true → is_visited eq c.visited.items k ≡ true
  ended-block b c true end h k is = ap (λ ks. is_visited eq ks k) h.visited ∙ is
  ended-block b c false end h k is = ap (λ (z : Block K). is_visited eq z.visited.items k) h ∙ is

  ended-call : (bs : List (Block K)) (o : Option ℕ) (call end : ℕ) (bs' : List (Block K)) → EndsBlock bs o call end bs'
      → StaysVisited eq bs bs'
  ended-call bs None call end bs' e = seen-same eq bs bs' e
  ended-call bs (Some i) call end bs' h = seen-set eq bs bs' i h.0 h.1 h.2
      (ended-block h.0 h.1 (h.0.call == call) end h.3) h.4

  ended-visits : (bs : List (Block K)) (visits : List ℕ) (end : ℕ) (bs' : List (Block K)) → EndsVisits bs visits end bs'
      → StaysVisited eq bs bs'
  ended-visits bs [] end bs' e = seen-same eq bs bs' e
  ended-visits bs (i ∷ visits) end bs' h = λ j k is.
      ended-visits (slice_set bs i h.1) visits end bs' h.4 j k
      (seen-set eq bs (slice_set bs i h.1) i h.0 h.1 h.2
      (λ q q-is. ap (λ ks. is_visited eq ks q) h.3.visited ∙ q-is) refl j k is)

  pub seen-ended : (bs : List (Block K)) (o : Option ℕ) (visits : List ℕ) (call end : ℕ) (bs' : List (Block K))
      → EndsCall bs o visits call end bs' → StaysVisited eq bs bs'
  seen-ended bs o [] call end bs' h = ended-call bs o call end bs' h
  seen-ended bs o (i ∷ visits) call end bs' h = ended-visits bs (i ∷ visits) end bs' h

-- no phase may add more than one pair
pub adds-most : {K V D T A : Type 0} (f : Phase K V D T A) → adds f ≤ 1
adds-most phase.Rest = omega arith
adds-most (phase.Admit r) = omega arith
adds-most (phase.Find r) = omega arith
adds-most (phase.Grow c) = omega arith
adds-most (phase.Append k v) = omega arith
adds-most (phase.Apply k) = omega arith
adds-most (phase.View k u) = omega arith
adds-most (phase.Read u) = omega arith
adds-most (phase.Change h) = omega arith
adds-most (phase.Fill v) = omega arith
adds-most phase.Downgrade = omega arith
adds-most (phase.Idle f) = omega arith
adds-most (phase.Reach f) = omega arith
adds-most (phase.Part f) = omega arith
adds-most (phase.Visit f) = omega arith
adds-most (phase.Seek f) = omega arith
adds-most (phase.Item f) = omega arith
adds-most (phase.Give f) = omega arith
adds-most (phase.Onward f) = omega arith
adds-most (phase.Release a) = omega arith
adds-most (phase.Answer a) = omega arith

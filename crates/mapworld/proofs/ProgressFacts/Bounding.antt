-- Fewer steps are left than the bound.
use Rattle.std.proofs.Common.{◌≡◌, ℕ, zero, suc, ◌+◌, ◌-◌, ◌*◌, ◌<◌, ◌≤◌, List, [], ◌∷◌, Option, Some, None, length}
use Rattle.std.proofs.Common.{slice_get, sum_by, count_by, refl, ap, ◌∙◌, arith}
use Rattle.std.proofs.Math.Nat.{mul-add, mul-le-mul_left}
use Rattle.std.proofs.lemmas.List.Sums.{count_by-le-length, sum_by-cons}
use Rattle.std.proofs.lemmas.Nat.{mul-le}
use Rattle.mapworld_calls.specs.declared.ask.Ask.{Ask}
use Rattle.mapworld_calls.specs.declared.ask.Ask.TheVariants as ask
use Rattle.mapworld_calls.specs.Setup.{Setup}
use Rattle.parking_lot_machine.specs.Rows.{state}
use Rattle.parking_lot_machine.specs.SoundLaws.{Always, StepsAreFew, most_steps}
use Rattle.mapworld_state.specs.Locks.Fits.{LocksFit}
use Rattle.mapworld_state.specs.declared.place.Phase.{Phase}
use Rattle.mapworld_state.specs.declared.place.Phase.TheVariants as phase
use Rattle.mapworld_state.specs.Core.{adds, is_walk, may_add, owed, owes}
use Rattle.mapworld_state.specs.Places.{Place}
use Rattle.mapworld_state.specs.Running.{bound, unanswered_of}
use Rattle.mapworld_state.specs.Shards.{ShardPairs}
use Rattle.mapworld_state.specs.State.{State, pairs_of}
use Rattle.mapworld.specs.Progress.Laws.{FewAreLeft}
use Rattle.mapworld.specs.Progress.Left.{ask_left, block_at, fresh_of, items_at, most_left, pairs_from, phase_left}
use Rattle.mapworld.specs.Progress.Left.{phase_todo, place_left, place_todo, to_come, visit_left, visited_by, walk_left}
use Rattle.mapworld.specs.Progress.Sizes.{IsSized}
use Rattle.mapworld.proofs.ProgressFacts.Coming.{pairs-all, pairs-at}
use Rattle.mapworld.proofs.ProgressFacts.Counting.{fresh-all}
use Rattle.mapworld.proofs.ProgressFacts.Gaining.{all-pairs}

-- WHAT PLACES TAKE

-- a call that has started takes no more than a walk that hasn't
phase_most : {K V D T A : Type 0} (n s more : ℕ) (f : Phase K V D T A) → more ≤ s
    → phase_left n more f ≤ walk_left n s * owes f
phase_most n s more phase.Rest few = omega arith
phase_most n s more (phase.Admit r) few = omega arith
phase_most n s more (phase.Find r) few = omega arith
phase_most n s more (phase.Grow c) few = omega arith
phase_most n s more (phase.Append k v) few = omega arith
phase_most n s more (phase.Apply k) few = omega arith
phase_most n s more (phase.View k d) few = omega arith
phase_most n s more (phase.Read d) few = omega arith
phase_most n s more (phase.Change h) few = omega arith
phase_most n s more (phase.Fill v) few = omega arith
phase_most n s more phase.Downgrade few = omega arith
phase_most n s more (phase.Idle f) few = omega arith
phase_most n s more (phase.Reach f) few = omega (arith, mul-le-mul_left (visit_left n) few)
phase_most n s more (phase.Part f) few = omega (arith, mul-le-mul_left (visit_left n) few)
phase_most n s more (phase.Visit f) few = omega (arith, mul-le-mul_left (visit_left n) few)
phase_most n s more (phase.Seek f) few = omega (arith, mul-le-mul_left (visit_left n) few)
phase_most n s more (phase.Item f) few = omega (arith, mul-le-mul_left (visit_left n) few)
phase_most n s more (phase.Give f) few = omega (arith, mul-le-mul_left (visit_left n) few)
phase_most n s more (phase.Onward f) few = omega (arith, mul-le-mul_left (visit_left n) few)
phase_most n s more (phase.Release a) few = omega arith
phase_most n s more (phase.Answer a) few = omega arith

ask_most : {K V D : Type 0} (n s : ℕ) (a : Ask K V D) → ask_left n s a ≤ walk_left n s
ask_most n s (ask.Keyed k) = omega arith
ask_most n s (ask.Begin b) = omega arith
ask_most n s (ask.Held h) = omega arith
ask_most n s (ask.Walk f) = omega arith

asks_most : {K V D : Type 0} (n s : ℕ) (asks : List (Ask K V D)) → sum_by (ask_left n s) asks ≤ walk_left n s * length
    asks
asks_most n s [] = omega arith
asks_most n s (a ∷ asks) =
    omega (
      arith,
      sum_by-cons (ask_left n s) a asks,
      ask_most n s a,
      asks_most n s asks,
      mul-add (walk_left n s) 1 (length asks),
    )

place_most : {K V D T A : Type 0} (n s : ℕ) (p : Place K V D T A) → place_left n s p ≤ walk_left n s * owed p
place_most n s p =
    omega (
      arith,
      mul-add (walk_left n s) (length p.asks) (owes p.phase),
      asks_most n s p.asks,
      phase_most n s (s - (p.shard + 1)) p.phase (omega arith),
    )

places_most : {K V D T A : Type 0} (n s : ℕ) (ps : List (Place K V D T A)) → sum_by (place_left n s) ps ≤ walk_left n s
    * sum_by owed ps
places_most n s [] = omega arith
places_most n s (p ∷ ps) =
    omega (
      arith,
      sum_by-cons (place_left n s) p ps,
      ap (λ k. walk_left n s * k) (sum_by-cons owed p ps),
      mul-add (walk_left n s) (owed p) (sum_by owed ps),
      place_most n s p,
      places_most n s ps,
    )

-- WHAT WALKS COME TO

-- a call that may add a pair isn't answered
adds_few : {K V D T A : Type 0} (f : Phase K V D T A) → adds f ≤ owes f
adds_few phase.Rest = omega arith
adds_few (phase.Admit r) = omega arith
adds_few (phase.Find r) = omega arith
adds_few (phase.Grow c) = omega arith
adds_few (phase.Append k v) = omega arith
adds_few (phase.Apply k) = omega arith
adds_few (phase.View k d) = omega arith
adds_few (phase.Read d) = omega arith
adds_few (phase.Change h) = omega arith
adds_few (phase.Fill v) = omega arith
adds_few phase.Downgrade = omega arith
adds_few (phase.Idle f) = omega arith
adds_few (phase.Reach f) = omega arith
adds_few (phase.Part f) = omega arith
adds_few (phase.Visit f) = omega arith
adds_few (phase.Seek f) = omega arith
adds_few (phase.Item f) = omega arith
adds_few (phase.Give f) = omega arith
adds_few (phase.Onward f) = omega arith
adds_few (phase.Release a) = omega arith
adds_few (phase.Answer a) = omega arith

come_few : {K V D T A : Type 0} (ps : List (Place K V D T A)) → to_come ps ≤ sum_by owed ps
come_few [] = omega arith
come_few (p ∷ ps) = omega (arith, sum_by-cons may_add p ps, sum_by-cons owed p ps, adds_few p.phase, come_few ps)

module _ {K V S D T A : Type 0} (x : Setup K V D T) (w : State K V S D T A) where
  abbrev all : ℕ
  all = pairs_from w.tables 0 + to_come w.places

  fresh_few : (shard : ℕ) (keys : List K) (o : Option (ShardPairs K V)) → slice_get w.tables shard ≡ o
      → length (items_at o) + pairs_from w.tables (suc shard) ≤ pairs_from w.tables 0
  fresh_few shard keys None at = omega (arith, pairs-all w.tables (suc shard))
  fresh_few shard keys (Some t) at = omega (arith, pairs-all w.tables shard, pairs-at w.tables shard t at)

  within_few : (p : Place K V D T A) → fresh_of x w p + (pairs_from w.tables (suc p.shard) + to_come w.places) ≤ all
  within_few p =
      let keys = visited_by (block_at w.blocks (slice_get p.visits p.shard)) in
      omega (
        arith,
        fresh-all x.eq keys (items_at (slice_get w.tables p.shard)),
        fresh_few p.shard keys (slice_get w.tables p.shard) refl,
      )

  phase_few : (p : Place K V D T A) (f : Phase K V D T A) → phase_todo x w p f ≤ owes f * all
  phase_few p phase.Rest = omega arith
  phase_few p (phase.Admit r) = omega arith
  phase_few p (phase.Find r) = omega arith
  phase_few p (phase.Grow c) = omega arith
  phase_few p (phase.Append k v) = omega arith
  phase_few p (phase.Apply k) = omega arith
  phase_few p (phase.View k d) = omega arith
  phase_few p (phase.Read d) = omega arith
  phase_few p (phase.Change h) = omega arith
  phase_few p (phase.Fill v) = omega arith
  phase_few p phase.Downgrade = omega arith
  phase_few p (phase.Idle f) = omega arith
  phase_few p (phase.Reach f) = omega (arith, pairs-all w.tables p.shard)
  phase_few p (phase.Part f) = omega (arith, pairs-all w.tables p.shard)
  phase_few p (phase.Visit f) = omega (arith, pairs-all w.tables p.shard)
  phase_few p (phase.Seek f) = omega (arith, within_few p)
  phase_few p (phase.Item f) = omega (arith, within_few p)
  phase_few p (phase.Give f) = omega (arith, pairs-all w.tables (suc p.shard))
  phase_few p (phase.Onward f) = omega (arith, pairs-all w.tables (suc p.shard))
  phase_few p (phase.Release a) = omega arith
  phase_few p (phase.Answer a) = omega arith

  todo_few : (p : Place K V D T A) → place_todo x w p ≤ owed p * all
  todo_few p =
      let asked : count_by is_walk p.asks * all ≤ length p.asks * all = mul-le (count_by is_walk p.asks) all
      (length p.asks) all (count_by-le-length is_walk p.asks) (omega arith) in
      let both : owed p * all ≡ length p.asks * all + owes p.phase * all = omega arith in
      omega (arith, asked, both, phase_few p p.phase)

  todos_few : (ps : List (Place K V D T A)) → sum_by (place_todo x w) ps ≤ sum_by owed ps * all
  todos_few [] = omega arith
  todos_few (p ∷ ps) =
      let both : sum_by owed (p ∷ ps) * all ≡ owed p * all + sum_by owed ps * all =
      ap (λ k. k * all) (sum_by-cons owed p ps) ∙ omega arith in
      omega (arith, sum_by-cons (place_todo x w) p ps, both, todo_few p, todos_few ps)

-- THE BOUND

none_owed : {K V D T A : Type 0} (ps : List (Place K V D T A)) → length ps ≡ 0 → sum_by owed ps ≡ 0
none_owed [] none = refl
none_owed (p ∷ ps) none = omega (arith, none)

-- without threads no call is unanswered
pub nobody : {K V S D T A : Type 0} (w : State K V S D T A) → IsSized w → length w.programs ≡ 0 → unanswered_of w ≡ 0
nobody w size none = omega (arith, size.answers, none_owed w.places (size.places ∙ none))

-- the bound of as many threads and calls is greater, where no call is unanswered without threads
pub enough : (n s p c : ℕ) → (n ≡ 0 → c ≡ 0) → most_left n s (p + c) c + 1 < bound n s p c
enough zero s p c none = few c (none refl)
  where
    few : (c : ℕ) → c ≡ 0 → most_left 0 s (p + c) c + 1 < bound 0 s p c
    few zero is = omega arith
    few (suc c) is = omega (arith, is)
enough (suc n) s p c none = omega arith

pub steps_are_few : {K V S D T A : Type 0} → Always StepsAreFew → (x : Setup K V D T) (w : State K V S D T A)
    → IsSized w → LocksFit w.locks → FewAreLeft x w
steps_are_few few x w size fit =
    let n = length w.programs in
    let m = length w.tables in
    let c = unanswered_of w in
    let l = state w.locks.rows in
    let threads : length l.calls * most_steps (length l.calls) ≡ n * most_steps n =
    ap (λ k. k * most_steps k) (size.locks.threads_are ∙ size.places) in
    let owing : sum_by owed w.places ≡ c = omega (arith, size.answers) in
    let calls : sum_by (place_left (length w.places) m) w.places ≤ walk_left n m * c =
    omega (
      arith,
      places_most (length w.places) m w.places,
      ap (λ k. walk_left (length w.places) m * k) owing,
      ap (λ k. walk_left k m * c) size.places,
    ) in
    let pairs : pairs_from w.tables 0 ≡ length (pairs_of w) = all-pairs w in
    let total : all x w ≤ length (pairs_of w) + c = omega (arith, pairs, come_few w.places, owing) in
    let todo : sum_by (place_todo x w) w.places ≤ c * (length (pairs_of w) + c) =
    omega (arith, todos_few x w w.places, ap (λ k. k * all x w) owing, mul-le-mul_left c total) in
    record {
      most = λ t. omega (arith, (few l fit.fits).all t, threads, calls, todo);
      bounded = enough n m (length (pairs_of w)) c (nobody w size);
    }

-- That numbers are left for all steps that are left.
use Rattle.std.proofs.Common.{◌≡◌, inl, inr, subst, ℕ, Bool, ◌+◌, ◌-◌, ◌*◌, ◌<◌, ◌≤◌, ◌^◌, true, false, [], ◌∷◌, length}
use Rattle.std.proofs.Common.{sum_by, sym, ap, ◌∙◌, arith, length-append, leb-true}
use Rattle.std.proofs.lemmas.Bool.{cases_eq, cases_lt}
use Rattle.std.proofs.lemmas.List.{length-map}
use Rattle.std.proofs.lemmas.Nat.{mul-le}
use Rattle.std.proofs.lemmas.Option.{slice_get_past}
use Rattle.std.specs.Hash.{HashWrites}
use Rattle.std.specs.declared.hash.BuildHasher as builder
use Rattle.std.specs.declared.hash.Hasher as hasher
use Rattle.parking_lot_machine.specs.SoundLaws.{Always, StepsAreFew}
use Rattle.mapworld_calls.specs.declared.deed.Deed as deed
use Rattle.mapworld_calls.specs.Setup.{Setup, Laws}
use Rattle.mapworld_state.specs.Locks.Fits.{LocksFit}
use Rattle.mapworld_state.specs.declared.step.Step.{Step}
use Rattle.mapworld_state.specs.declared.world_core.Core.{Core}
use Rattle.mapworld_state.specs.Core.{Room, state_of}
use Rattle.mapworld_state.specs.Running.{can_move_in, has_numbers, moves_at, unanswered_of}
use Rattle.mapworld_state.specs.Shards.{shard_pairs}
use Rattle.mapworld_state.specs.Sound.{Sound}
use Rattle.mapworld_state.specs.State.{State, pairs_of}
use Rattle.mapworld_state.specs.Steps.{IsStep}
use Rattle.mapworld_state.specs.World.{setup_of}
use Rattle.mapworld_state.proofs.InvariantFacts.Adding.{step-adds}
use Rattle.mapworld.specs.Progress.Drains.{DrainsBy, HasTime, IsInTime}
use Rattle.mapworld.specs.Progress.Left.{left, most_left, visit_left, walk_left}
use Rattle.mapworld.specs.Progress.Sizes.{IsSized}
use Rattle.mapworld.proofs.ProgressFacts.Bounding.{enough, nobody, steps_are_few}
use Rattle.mapworld.proofs.ProgressFacts.Draining.{none-made, sized}
use Rattle.mapworld.proofs.ProgressFacts.Gaining.{pairs-gain}

-- behind a step of which a run has tested that there are numbers for it and all that must come; the step may add one
-- pair
pub time-after : {K V S D T A : Type 0} → Always StepsAreFew → (x : Setup K V D T) → Laws x
    → (w : State K V S D T A) (s : Step) (w' : State K V S D T A) → Sound x w → IsStep x w s w' → IsSized w → IsSized w'
    → LocksFit w'.locks → has_numbers w ≡ true
    → (y : Setup K V D T) → HasTime y w'
time-after few x laws w s w' sound step sizes sizes' fit numbers y t =
    let added = step-adds x w s w' sound step in
    let n = length w.programs in
    let m = length w.tables in
    let p = length (pairs_of w) in
    let c = unanswered_of w in
    let c' = unanswered_of w' in
    let tested = leb-true _ _ numbers in
    let one : length w'.steps ≡ length w.steps + 1 = ap length added.steps ∙ length-append w.steps (s ∷ []) in
    let replied : length w'.replies ≡ length w.replies + length added.replies.0 = ap length added.replies.1
    ∙ length-append w.replies added.replies.0 in
    let asked : sum_by length w'.programs ≡ sum_by length w.programs = ap (λ ps. sum_by length ps) added.fixed.programs
    in
    let fewer : c' ≤ c = omega (arith, replied, asked) in
    let gain : length (pairs_of w') ≤ p + 1 = pairs-gain x laws w s w' step in
    let same : most_left (length w'.programs) (length w'.tables) (length (pairs_of w') + c') c' ≡ most_left n m
    (length (pairs_of w') + c') c' =
    ap (λ ps. most_left (length ps) (length w'.tables) (length (pairs_of w') + c') c') added.fixed.programs
    ∙ ap (λ k. most_left n k (length (pairs_of w') + c') c') added.fixed.shards in
    omega (
      arith,
      (steps_are_few few y w' sizes' fit).most t,
      same,
      mul-le (walk_left n m + 2 * (length (pairs_of w') + c')) c' (walk_left n m + 2 * (p + 1 + c)) c
          (omega (arith, gain, fewer)) fewer,
      enough n m p c (nobody w sizes),
      tested,
      one,
    )

-- in a new world
pub time-new : {K V S D T A : Type 0} → Always StepsAreFew → (w : State K V S D T A) → IsSized w → LocksFit w.locks
    → length w.programs ≤ 256 → length w.tables ≤ 4096 → unanswered_of w ≤ 2 ^ 20
    → length (pairs_of w) ≤ 2 ^ 31 + 2 ^ 20 → length w.steps ≡ 0
    → (y : Setup K V D T) → HasTime y w
time-new few w sizes fit threads shards calls pairs none y t =
    let n = length w.programs in
    let m = length w.tables in
    let p = length (pairs_of w) in
    let c = unanswered_of w in
    let some : 219 * n + 200 ≤ 56264 = omega (arith, threads) in
    let visit : visit_left n ≤ 56665 = omega (arith, threads) in
    let walk : visit_left n * (m + 1) ≤ 56665 * 4097 = mul-le (visit_left n) (m + 1) 56665 4097 visit
    (omega (arith, shards)) in
    let each : walk_left n m + 2 * (p + c) ≤ 2 ^ 33 = omega (arith, threads, walk, pairs, calls) in
    omega (
      arith,
      (steps_are_few few y w sizes fit).most t,
      mul-le n (219 * n + 200) 256 56264 threads some,
      mul-le (walk_left n m + 2 * (p + c)) c (2 ^ 33) (2 ^ 20) each calls,
      none,
    )

pub time-first : {K V S H D T A : Type 0} → Always StepsAreFew → (d : deed.Ghosts D K V T) (b : builder.Ghosts S H)
    (h : hasher.Ghosts H) (eq : K → K → Bool) (writes : K → HashWrites) (c : Core K V S D T A)
    → Room c → LocksFit (state_of c).locks → length c.steps.items ≡ 0 → IsInTime d b h eq writes c
time-first few d b h eq writes c room fit none =
    time-new few (state_of c) (sized c room) fit (omega (arith, room.threads_fit, room.places))
    (omega (arith, room.shards.2, length-map c.tables.items shard_pairs)) (omega (arith, room.calls_fit))
    (omega (arith, room.pairs, room.pairs_fit)) none
    (setup_of d b h eq writes (state_of c))

-- so many numbers may still be left
pub spare : {K V S D T A : Type 0} → State K V S D T A → ℕ
spare w = 2 ^ 63 - 1 - length w.steps

pub in-time : {K V S D T A : Type 0} (x : Setup K V D T) (w : State K V S D T A) → HasTime x w → (u : ℕ)
    → left x w u < spare w
unfolding spare
in-time x w time u = let here = time u in omega (arith, here)

-- a run of n steps leaves numbers for what is left behind it
pub time-behind : {K V S D T A : Type 0} (y : Setup K V D T) (w w' : State K V S D T A) (n u : ℕ)
    → length w'.steps ≡ length w.steps + n → n + left y w' u < spare w → length w'.steps + left y w' u + 1 < 2 ^ 63
unfolding spare
time-behind y w w' n u longer low = omega (arith, longer, low)

pub few-made : {K V S D T A : Type 0} (w : State K V S D T A) (n : ℕ) → n < spare w → n < 2 ^ 63
unfolding spare
few-made w n low = omega (arith, low)

-- a thread that the world doesn't have can't move
pub beyond-stops : {K V S D T A : Type 0} (w : State K V S D T A) (t : ℕ) → length w.places ≤ t
    → can_move_in w t ≡ false
beyond-stops w t past = ap (λ o. moves_at w.locks t o) (slice_get_past w.places t past)

-- what a pass that makes no step has seen
module _ {K V S D T A : Type 0} (x : Setup K V D T) (w0 w : State K V S D T A) (n : ℕ) where
  abbrev pub StandStill : Type 0
  StandStill = (w ≡ w0) × ((t : ℕ) → t < n → can_move_in w0 t ≡ false)

  pub still : (w' : State K V S D T A) (made k : ℕ) → (made ≡ 0 → StandStill) → DrainsBy x w k w'
      → can_move_in w' n ≡ false → made + k ≡ 0 → (w' ≡ w0) × ((t : ℕ) → t < n + 1 → can_move_in w0 t ≡ false)
  still w' made k before by stops none =
      let nothing : k ≡ 0 = omega (arith, none) in
      let same : w' ≡ w = none-made x w w' (subst (λ m. DrainsBy x w m w') nothing by) in
      let was = before (omega (arith, none)) in
      let all : w' ≡ w0 = same ∙ was.0 in (
        all,
        λ t low. elim (cases_eq t n) [
          | inl e ↦ ap (λ v. can_move_in v t) (sym all) ∙ (ap (can_move_in w') e ∙ stops)
          | inr ne ↦ was.1 t
              (omega (arith, low, ne))
        ],
      )

  pub all-stop : length w0.places ≤ n → StandStill → (t : ℕ) → can_move_in w t ≡ false
  all-stop whole stand t =
      ap (λ v. can_move_in v t) stand.0
      ∙ elim (cases_lt t n) [ inl low ↦ stand.1 t low | inr past ↦ beyond-stops w0 t (omega (arith, whole, past)) ]

-- what is left falls by a pass as much as by the steps before it
pub falls-on : (before behind : ℕ → ℕ) (made k most : ℕ) → ((u : ℕ) → made + before u < most)
    → ((m : ℕ) → ((u : ℕ) → before u < m) → (u : ℕ) → k + behind u < m) → (u : ℕ) → made + k + behind u < most
falls-on before behind made k most few falls u =
    let less = falls (most - made) (λ v. let low = few v in omega (arith, low)) u in
    omega (arith, less)

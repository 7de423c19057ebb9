-- A run of a try: its core makes a look at the word and at most 64 exchanges.
use Rattle.std.specs.Prelude.{◌≡◌, ◌≢◌, ◌≤◌, ◌⊎◌, ℕ, true, false, List, length}
use Rattle.parking_lot_driver.specs.Runs.{IsRun, is_on_the_word, passes, told_all}
use Rattle.parking_lot_protocol.specs.declared.act.Act.{Act}
use Rattle.parking_lot_protocol.specs.declared.act.Act.TheVariants.{Load, Done}
use Rattle.parking_lot_protocol.specs.declared.act.ActResult.{ActResult}
use Rattle.parking_lot_protocol.specs.declared.act.ActResult.TheVariants.{Start}
use Rattle.parking_lot_protocol.specs.declared.act.CoreAnswer.TheVariants.{Owned}

-- A core that was told of so many acts, and nothing but what they can give.
abbrev pub WasToldOf : {C : Type 0} → (C → ActResult → C) → (C → Act) → C → ℕ → C → Type 0
WasToldOf next asks begun count core = (seen : List ActResult) × IsRun next asks begun seen
    × (core ≡ told_all next begun seen) × (length seen ≡ count)

-- A try that runs: its first act is a look at the word, and it was told of at most 64 further ones.
abbrev pub Tries : {C : Type 0} → (C → ActResult → C) → (C → Act) → C → C → Type 0
Tries next asks begun core = (asks (next begun Start) ≡ Load) × ((count : ℕ) × (count ≤ 65)
    × WasToldOf next asks begun count core)

-- An act at which a try ends without the lock: any but one on the word and the end that owns, and one that would admit
-- a reader more than the limit.
abbrev pub EndsWithout : ℕ → Act → Type 0
EndsWithout limit act = ((is_on_the_word act ≡ false) × (act ≢ Done Owned)) ⊎ (passes limit act ≡ true)

-- A try was admitted: with at most 64 exchanges its core came to the end at which it owns the lock. Nothing opens it
-- but the proofs of those that run tries.
unfoldable pub Admitted : {C : Type 0} → (C → ActResult → C) → (C → Act) → C → Type 0
Admitted {C} next asks begun = (core : C) × Tries next asks begun core × (asks core ≡ Done Owned)

-- A try was refused: its core came to its refusal, or to an act that would admit a reader more than the limit, or it
-- has lost all 64 exchanges. Nothing opens it but the proofs of those that run tries.
unfoldable pub Refused : {C : Type 0} → ℕ → (C → ActResult → C) → (C → Act) → C → Type 0
Refused {C} limit next asks begun = (core : C) × Tries next asks begun core
    × (EndsWithout limit (asks core) ⊎ WasToldOf next asks begun 65 core)

-- The numbers of items after which walks are dropped.
use Rattle.std.specs.Prelude.{◌≡◌, ℕ, List, Some, slice_get}
use Rattle.mapworld_calls.specs.declared.ask.Ask.{Ask}
use Rattle.mapworld_calls.specs.declared.ask.Ask.TheVariants as ask
use Rattle.mapworld_calls.specs.Programs.{stop_of}
use Rattle.mapworld_state.specs.Sound.{FitsCounter}

-- a walk's number of items is one of 64 bits
abbrev pub StopFits : {K V D : Type 0} → Ask K V D → Type 0
StopFits (ask.Walk f) = FitsCounter (stop_of f)
StopFits a = Unit {0}

-- so is that of each walk of a program, and of all programs
abbrev pub StopsFit : {K V D : Type 0} → List (Ask K V D) → Type 0
StopsFit {K} {V} {D} program = (c : ℕ) (a : Ask K V D) → slice_get program c ≡ Some a → StopFits a

abbrev pub AllStopsFit : {K V D : Type 0} → List (List (Ask K V D)) → Type 0
AllStopsFit {K} {V} {D} programs = (t : ℕ) (program : List (Ask K V D)) → slice_get programs t ≡ Some program
    → StopsFit program

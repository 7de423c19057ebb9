-- A run of a decision core: the course of a call whose acts are those of a call that waits.
use Rattle.std.specs.Prelude.{ℕ, ◌/◌, ◌&&◌, nat_lt, Bool, true, false, List}
use Rattle.parking_lot_protocol.specs.declared.act.Act.{Act}
use Rattle.parking_lot_protocol.specs.declared.act.Act.TheVariants.{Load, Exchange, Add, FetchAnd, Done}
use Rattle.parking_lot_protocol.specs.declared.act.CoreAnswer.{CoreAnswer}
use Rattle.parking_lot_protocol.specs.declared.act.ActResult.{ActResult}
use Rattle.parking_lot_protocol.specs.declared.act.ActResult.TheVariants.{Start}
use Rattle.parking_lot_protocol.specs.Acts.{Gives}
use Rattle.parking_lot_protocol.specs.Timed.Courses as courses

-- What a core is once its call has begun and it was told all this, the last of it first.
abbrev pub told_all : {C : Type 0} → (C → ActResult → C) → C → List ActResult → C
told_all next core seen = courses.told_all next Start core seen

-- Each of these is what the act that the core had asked for can give at some word.
abbrev pub IsRun : {C : Type 0} → (C → ActResult → C) → (C → Act) → C → List ActResult → Type 0
IsRun next asks core seen = courses.IsCourse Gives next asks Start core seen

-- A core that began as this one, and was told nothing else.
abbrev pub WasTold : {C : Type 0} → (C → ActResult → C) → (C → Act) → C → C → Type 0
WasTold next asks begun core = courses.WasTold Gives next asks Start begun core

-- A call ended: its core was told nothing but what the acts that it asked for can give, and then it asked for this end.
abbrev pub Ended : {C : Type 0} → (C → ActResult → C) → (C → Act) → C → CoreAnswer → Type 0
Ended next asks begun answer = courses.EndedAt Gives next asks Start begun (Done answer)

-- An act that would admit a reader more than the limit.
abbrev pub passes : ℕ → Act → Bool
passes limit (Exchange from to) = nat_lt (from / 16) (to / 16) && nat_lt limit (to / 16)
passes limit act = false

-- an act on the word
abbrev pub is_on_the_word : Act → Bool
is_on_the_word Load = true
is_on_the_word (Exchange from to) = true
is_on_the_word (Add by) = true
is_on_the_word (FetchAnd keep) = true
is_on_the_word act = false

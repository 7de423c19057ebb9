-- What is said of a step that is lawful and paid for is said of it as an act.
use Rattle.std.proofs.Common.{ℕ, Bool, Option}
use Rattle.parking_lot_protocol.specs.declared.act.CoreAnswer.{CoreAnswer}
use Rattle.parking_lot_machine.specs.Machines.{IsStepped}
use Rattle.parking_lot_machine.specs.Rows.{State}
use Rattle.mapworld_state.specs.Locks.Steps.{HasActed}

abbrev pub acted : {s u : State} {t : ℕ} {fair : Bool} {answer : Option CoreAnswer} → IsStepped t fair answer s u
    → HasActed t fair answer s u
acted x = record { call = x.call; here = x.here; answers = x.answers; became = x.became }

-- What a call can answer, by how it began.
use Rattle.std.specs.Prelude.{◌≡◌, ℕ, true, false, Some}
use Rattle.parking_lot_protocol.specs.declared.act.Act.TheVariants.{Done}
use Rattle.parking_lot_protocol.specs.declared.act.ActResult.{ActResult}
use Rattle.parking_lot_protocol.specs.declared.act.CoreAnswer.{CoreAnswer}
use Rattle.parking_lot_protocol.specs.Acts.{Begins, Gives}
use Rattle.parking_lot_rules.specs.Once.Once.{may_run}
use Rattle.parking_lot_protocol_waits.specs.declared.once.once_phase.OnceAnswer.{OnceAnswer}
use Rattle.parking_lot_protocol_waits.specs.declared.once.once_phase.OnceAnswer.TheVariants.{Runs, Completed, Poisoned}
use Rattle.parking_lot_protocol_waits.specs.declared.once.once_phase.OnceAnswer.TheVariants.{Finished}
use Rattle.parking_lot_protocol_waits.specs.declared.once.once_phase.OncePhase.{OncePhase}
use Rattle.parking_lot_protocol_waits.specs.declared.once.once_phase.OncePhase.TheVariants.{Asking, Returning, Loads}
use Rattle.parking_lot_protocol_waits.specs.declared.once.once_phase.OncePhase.TheVariants.{Starts, Spins, Parks}
use Rattle.parking_lot_protocol_waits.specs.declared.once.once_phase.OncePhase.TheVariants.{Enters, Checks, Retreats}
use Rattle.parking_lot_protocol_waits.specs.declared.once.once_phase.OncePhase.TheVariants.{Appends, Rests, Sleeps}
use Rattle.parking_lot_protocol_waits.specs.declared.once.once_phase.OncePhase.TheVariants.{Stores, Looks, Scans}
use Rattle.parking_lot_protocol_waits.specs.declared.once.once_phase.OncePhase.TheVariants.{Clears, Leaves, Wakes}
use Rattle.parking_lot_protocol_waits.specs.declared.once.once_phase.OncePhase.TheVariants.{Finishes, Ends}
use Rattle.parking_lot_protocol_waits.specs.Once.OnceTable.{act_of, answer_of, next_phase}

-- One that asks is to run its closure only if it wants to, at a state at which it may; it is refused only where it
-- isn't forced. One whose closure has ended finishes.
abbrev pub MayAnswer : OncePhase → OnceAnswer → Type 0
MayAnswer (Asking wish) (Runs before) = (wish.runs ≡ true) × (may_run wish.force before ≡ true)
MayAnswer (Asking wish) Completed = Unit {0}
MayAnswer (Asking wish) Poisoned = wish.force ≡ false
MayAnswer (Returning well) Finished = Unit {0}
MayAnswer begun answer = ⊥

-- a call that began so, wants the same still, and is under way
abbrev pub IsUnderWay : OncePhase → OncePhase → Type 0
IsUnderWay (Asking wish) (Loads a) = a.wish ≡ wish
IsUnderWay (Asking wish) (Starts a before parked) = (a.wish ≡ wish) × (wish.runs ≡ true)
    × (may_run wish.force before ≡ true)
IsUnderWay (Asking wish) (Spins a state) = a.wish ≡ wish
IsUnderWay (Asking wish) (Parks a state) = a.wish ≡ wish
IsUnderWay (Asking wish) (Enters same) = same ≡ wish
IsUnderWay (Asking wish) (Checks same) = same ≡ wish
IsUnderWay (Asking wish) (Retreats same) = same ≡ wish
IsUnderWay (Asking wish) (Appends same) = same ≡ wish
IsUnderWay (Asking wish) (Rests same) = same ≡ wish
IsUnderWay (Asking wish) (Sleeps same) = same ≡ wish
IsUnderWay (Asking wish) (Ends answer) = MayAnswer (Asking wish) answer
IsUnderWay (Returning well) (Stores same) = same ≡ well
IsUnderWay (Returning well) (Looks same) = same ≡ well
IsUnderWay (Returning well) (Scans same taken) = same ≡ well
IsUnderWay (Returning well) (Clears same taken) = same ≡ well
IsUnderWay (Returning well) (Leaves taken) = Unit {0}
IsUnderWay (Returning well) (Wakes count) = Unit {0}
IsUnderWay (Returning well) Finishes = Unit {0}
IsUnderWay (Returning well) (Ends answer) = MayAnswer (Returning well) answer
IsUnderWay begun p = ⊥

-- A call that begins is under way, and stays so whatever its acts give.
abbrev pub KeepsToItsCall : OncePhase → ActResult → Type 0
KeepsToItsCall (Asking wish) s = Begins s → IsUnderWay (Asking wish) (next_phase (Asking wish) s)
KeepsToItsCall (Returning well) s = Begins s → IsUnderWay (Returning well) (next_phase (Returning well) s)
KeepsToItsCall p s = (begun : OncePhase) (word : ℕ) → IsUnderWay begun p → Gives (act_of p) word s
    → IsUnderWay begun (next_phase p s)

-- one under way that asks for its end has an answer, which it may give
abbrev pub EndsByAnAnswer : OncePhase → Type 0
EndsByAnAnswer p = (begun : OncePhase) (end : CoreAnswer) → IsUnderWay begun p → act_of p ≡ Done end
    → (answer : OnceAnswer) × (answer_of p ≡ Some answer) × MayAnswer begun answer

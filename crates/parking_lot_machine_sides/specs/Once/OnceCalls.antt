-- What calls at a once want, and what they are answered.
use Rattle.std.specs.Prelude.{Bool, true, false, if◌then◌else◌, Option, Some, None}
use Rattle.parking_lot_rules.specs.declared.once.once_state.OnceState.{OnceState}
use Rattle.parking_lot_rules.specs.declared.once.wish.Wish.{Wish}
use Rattle.parking_lot_protocol_waits.specs.declared.once.once_core.OnceCore.{OnceCore}
use Rattle.parking_lot_protocol_waits.specs.declared.once.once_phase.OnceAnswer.{OnceAnswer}
use Rattle.parking_lot_protocol_waits.specs.declared.once.once_phase.OnceAnswer.TheVariants as end
use Rattle.parking_lot_protocol_waits.specs.declared.once.once_phase.OncePhase.TheVariants.{Asking}
use Rattle.parking_lot_machine_sides.specs.declared.once.calls.OnceCall.{OnceCall}
use Rattle.parking_lot_machine_sides.specs.declared.once.calls.OnceCall.TheVariants.{CallOnce, CallOnceForce, OnceWait}
use Rattle.parking_lot_machine_sides.specs.declared.once.calls.OnceCall.TheVariants.{OnceWaitForce}
use Rattle.parking_lot_machine_sides.specs.declared.once.calls.OnceReply.{OnceReply}
use Rattle.parking_lot_machine_sides.specs.declared.once.calls.OnceReply.TheVariants as reply

abbrev pub wish_of : OnceCall → Wish
wish_of (CallOnce well) = record { runs = true; force = false }
wish_of (CallOnceForce well) = record { runs = true; force = true }
wish_of OnceWait = record { runs = false; force = false }
wish_of OnceWaitForce = record { runs = false; force = true }

-- how its closure ends
abbrev pub ends_well : OnceCall → Bool
ends_well (CallOnce well) = well
ends_well (CallOnceForce well) = well
ends_well OnceWait = false
ends_well OnceWaitForce = false

-- its core, before it begins
abbrev pub asking : OnceCall → OnceCore
asking call = record { phase = Asking (wish_of call) }

-- the answer where its closure has run
abbrev pub ran_or_failed : OnceCall → OnceState → OnceReply
ran_or_failed call before = (if ends_well call then reply.Ran before else reply.Failed)

-- what a call is answered, by how its core has ended: nothing yet where its closure is to run
abbrev pub reply_by : OnceCall → OnceState → OnceAnswer → Option OnceReply
reply_by call before (end.Runs state) = None
reply_by call before end.Completed = Some reply.Completed
reply_by call before end.Poisoned = Some reply.Poisoned
reply_by call before end.Finished = Some (ran_or_failed call before)

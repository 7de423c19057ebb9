-- A reader-writer lock's call that may give up: the act that each phase has asked for, and the phase that follows what
-- it gives.
use Rattle.std.specs.Prelude.{ℕ, ◌-◌, ◌^◌, Bool, true, false, if◌then◌else◌, bit_and, Option, Some, None}
use Rattle.parking_lot_core_model.specs.declared.parking.UnparkToken.{UnparkToken}
use Rattle.parking_lot_protocol.specs.Acts as acts
use Rattle.parking_lot_protocol.specs.declared.act.Act.{Act}
use Rattle.parking_lot_protocol.specs.declared.act.Act.TheVariants.{Done}
use Rattle.parking_lot_protocol.specs.declared.act.ActResult.TheVariants.{Woken}
use Rattle.parking_lot_protocol.specs.declared.act.CoreAnswer.TheVariants.{Released}
use Rattle.parking_lot_protocol.specs.declared.rw_phase.RwPhase.{RwPhase}
use Rattle.parking_lot_protocol.specs.declared.rw_phase.RwPhase.TheVariants.{Sleeps, DrainSleeps}
use Rattle.parking_lot_protocol.specs.declared.timed.timed_act.TimedAct.{TimedAct}
use Rattle.parking_lot_protocol.specs.declared.timed.timed_act.TimedAct.TheVariants as act
use Rattle.parking_lot_protocol.specs.declared.timed.timed_act.TimedSeen.{TimedSeen}
use Rattle.parking_lot_protocol.specs.declared.timed.timed_act.TimedSeen.TheVariants.{Plain, Expired, Reentered, Quit}
use Rattle.parking_lot_protocol.specs.declared.timed.timed_act.TimedSeen.TheVariants.{WasTaken, Masked, Left}
use Rattle.parking_lot_protocol_rw.specs.UpgradeTable as upgrades
use Rattle.parking_lot_protocol_rw.specs.UpgradeTable.{core_at, upgrade_told, upgrade_asks}
use Rattle.parking_lot_protocol_rw.specs.declared.upgrade_core.UpgradeCore.{UpgradeCore}
use Rattle.parking_lot_protocol_rw.specs.declared.upgrade_phase.UpgradePhase.{UpgradePhase}
use Rattle.parking_lot_protocol_rw.specs.declared.upgrade_phase.UpgradePhase.TheVariants as call
use Rattle.parking_lot_protocol_rw.specs.declared.timed.timed_core.TimedRwCore.{TimedRwCore}
use Rattle.parking_lot_protocol_rw.specs.declared.timed.timed_phase.Sleeper.{Sleeper}
use Rattle.parking_lot_protocol_rw.specs.declared.timed.timed_phase.Sleeper.TheVariants.{Wanting, Pending}
use Rattle.parking_lot_protocol_rw.specs.declared.timed.timed_phase.TimedRwPhase.{TimedRwPhase}
use Rattle.parking_lot_protocol_rw.specs.declared.timed.timed_phase.TimedRwPhase.TheVariants.{Asks, Expires, Quits}
use Rattle.parking_lot_protocol_rw.specs.declared.timed.timed_phase.TimedRwPhase.TheVariants.{Masks, Leaves, GivesUp}
use Rattle.parking_lot_protocol_rw.specs.declared.timed.timed_phase.TimedRwPhase.TheVariants.{LeavesPending, Resumes}

-- an act of a call that waits: one that may give up never ends with a release but by giving up
abbrev pub made : Act → TimedAct
made (Done Released) = act.GivesUp
made made_act = act.Makes made_act

-- the act that a phase has asked for
abbrev pub act_of : TimedRwPhase → TimedAct
act_of (Asks core) = made (upgrade_asks core)
act_of (Expires core) = act.Reenters
act_of (Quits core) = act.TakesItself
act_of Masks = act.Masks
act_of Leaves = act.Leaves
act_of GivesUp = act.GivesUp
act_of (LeavesPending from) = act.Leaves
act_of (Resumes core token) = act.Leaves

-- a call that waits and stands there
abbrev pub upgrade_at : UpgradePhase → TimedRwPhase
upgrade_at phase = Asks (record { phase = phase })

abbrev pub plain_at : RwPhase → TimedRwPhase
plain_at phase = upgrade_at (call.Plain (core_at phase))

-- who sleeps at a phase, if one does
abbrev pub inner_sleeper : Bool → RwPhase → Option Sleeper
inner_sleeper from (Sleeps want) = Some Wanting
inner_sleeper from (DrainSleeps rounds) = Some (Pending from)
inner_sleeper from phase = None

abbrev pub sleeper_of : UpgradePhase → Option Sleeper
sleeper_of (call.Plain core) = inner_sleeper false core.phase
sleeper_of (call.Seeks core) = inner_sleeper false core.phase
sleeper_of (call.Drains core) = inner_sleeper true core.phase
sleeper_of phase = None

-- what was told doesn't fit
abbrev pub astray : TimedRwPhase
astray = upgrade_at call.Invalid

-- the moment passes, of one that sleeps
abbrev pub expires_as : UpgradeCore → Option Sleeper → TimedRwPhase
expires_as core (Some sleeper) = Expires core
expires_as core None = astray

abbrev pub expires : UpgradeCore → TimedRwPhase
expires core = expires_as core (sleeper_of core.phase)

-- it is off its list, as the last one there or as one of several
abbrev pub quits_as : Option Sleeper → Bool → TimedRwPhase
quits_as (Some Wanting) last = (if last then Masks else Leaves)
quits_as (Some (Pending from)) last = LeavesPending from
quits_as None last = astray

abbrev pub quits : UpgradeCore → Bool → TimedRwPhase
quits core last = quits_as (sleeper_of core.phase) last

-- a writer that waits for readers no more takes its bit back
abbrev pub pending : Bool → TimedRwPhase
pending from = upgrade_at (call.YieldLoads from)

-- the phase that follows what the act of this one gave
abbrev pub next_phase : TimedRwPhase → TimedSeen → TimedRwPhase
next_phase (Asks core) (Plain seen) = Asks (upgrade_told core seen)
next_phase (Asks core) Expired = expires core
next_phase (Expires core) Reentered = Quits core
next_phase (Quits core) (Quit last) = quits core last
next_phase (Quits core) (WasTaken token) = Resumes core token
next_phase Masks Masked = Leaves
next_phase Leaves Left = GivesUp
next_phase (LeavesPending from) Left = pending from
next_phase (Resumes core token) Left = Asks (upgrade_told core (Woken token))
next_phase phase seen = astray

-- the word after an act that gave this
abbrev pub word_after : TimedAct → TimedSeen → ℕ → ℕ
word_after (act.Makes act) (Plain seen) word = acts.word_after act seen word
word_after act.Masks Masked word = bit_and word (2 ^ 64 - 2)
word_after act seen word = word

-- a core that was told so much more, and the act that one has asked for
abbrev pub timed_told : TimedRwCore → TimedSeen → TimedRwCore
timed_told core seen = record core { phase = next_phase core.phase seen }

abbrev pub timed_asks : TimedRwCore → TimedAct
timed_asks core = act_of core.phase

-- the token for those that a section took, once it has stored
abbrev pub wakes_with : TimedRwPhase → UnparkToken
wakes_with (Asks core) = upgrades.wakes_with core.phase
wakes_with phase = record { 0 = 0 }

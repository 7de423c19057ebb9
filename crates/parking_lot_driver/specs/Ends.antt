-- Which core a call was that has ended.
use Rattle.std.specs.Prelude.{◌⊎◌, ◌==◌, ℕ}
use Rattle.parking_lot_driver.specs.Runs.{Ended}
use Rattle.parking_lot_driver.specs.Tries.{Admitted, Refused}
use Rattle.parking_lot_protocol.specs.declared.act.Act.{Act}
use Rattle.parking_lot_protocol.specs.declared.act.ActResult.{ActResult}
use Rattle.parking_lot_protocol.specs.declared.act.CoreAnswer.{CoreAnswer}
use Rattle.parking_lot_protocol.specs.declared.mutex_core.MutexCore.{MutexCore}
use Rattle.parking_lot_protocol.specs.declared.mutex_phase.MutexPhase.{MutexPhase}
use Rattle.parking_lot_protocol.specs.declared.rw_core.RwCore.{RwCore}
use Rattle.parking_lot_protocol.specs.declared.rw_phase.RwPhase.{RwPhase}
use Rattle.parking_lot_protocol.specs.MutexTable as mutex
use Rattle.parking_lot_protocol.specs.declared.act.Act.TheVariants.{Done}
use Rattle.parking_lot_protocol.specs.declared.act.ActResult.TheVariants.{Start}
use Rattle.parking_lot_protocol.specs.declared.act.CoreAnswer.TheVariants.{Owned}
use Rattle.parking_lot_protocol.specs.declared.mutex_phase.MutexPhase.TheVariants.{Locking, Trying}
use Rattle.parking_lot_protocol.specs.RwTable as rw
use Rattle.parking_lot_protocol.specs.declared.rw_phase.LockMode.TheVariants as want
use Rattle.parking_lot_protocol.specs.declared.rw_phase.RwPhase.TheVariants as reader
use Rattle.parking_lot_protocol_rw.specs.Timed.TimedTable as rw_timed
use Rattle.parking_lot_protocol_rw.specs.declared.timed.timed_core.TimedRwCore.{TimedRwCore}
use Rattle.parking_lot_protocol.specs.Timed.Courses.{EndedAt, WasTold}
use Rattle.parking_lot_protocol.specs.Timed.TimedTable as timed
use Rattle.parking_lot_protocol.specs.declared.timed.timed_act.TimedAct.{TimedAct}
use Rattle.parking_lot_protocol.specs.declared.timed.timed_act.TimedAct.TheVariants.{Makes}
use Rattle.parking_lot_protocol.specs.declared.timed.timed_act.TimedSeen.TheVariants.{Plain}
use Rattle.parking_lot_protocol_rw.specs.UpgradeTable.{upgrade_asks, upgrade_told}
use Rattle.parking_lot_protocol_rw.specs.declared.upgrade_phase.UpgradePhase.{UpgradePhase}
use Rattle.parking_lot_protocol_rw.specs.declared.upgrade_phase.UpgradePhase.TheVariants as call

-- a core of a mutex that was told so much more
abbrev pub mutex_told : MutexCore → ActResult → MutexCore
mutex_told core seen = record core { phase = mutex.next_phase core.phase seen }

-- the act that a core of a mutex has asked for
abbrev pub mutex_asks : MutexCore → Act
mutex_asks core = mutex.act_of core.phase

-- a call of a mutex that began in this phase ended so
abbrev pub MutexEnded : MutexPhase → CoreAnswer → Type 0
MutexEnded phase answer = Ended mutex_told mutex_asks (record { phase = phase }) answer

-- a try of a mutex was admitted, or refused
abbrev pub MutexAdmitted : Type 0
MutexAdmitted = Admitted mutex_told mutex_asks (record { phase = Trying })

abbrev pub MutexRefused : ℕ → Type 0
MutexRefused limit = Refused limit mutex_told mutex_asks (record { phase = Trying })

-- a call of a mutex that may give up came to this act
abbrev pub TimedEnded : TimedAct → Type 0
TimedEnded last = EndedAt timed.Gives timed.timed_told timed.timed_asks (Plain Start)
    (record { phase = timed.asking Locking }) last

-- such a call owns the mutex: by one that waits, or as it didn't have to give up
abbrev pub OwnedInTime : Type 0
OwnedInTime = MutexEnded Locking Owned ⊎ TimedEnded (Makes (Done Owned))

-- a core of a reader-writer lock that was told so much more
abbrev pub rw_told : RwCore → ActResult → RwCore
rw_told core seen = record core { phase = rw.next_phase core.phase seen }

-- the act that a core of a reader-writer lock has asked for
abbrev pub rw_asks : RwCore → Act
rw_asks core = rw.act_of core.phase

-- a call of a reader-writer lock that began in this phase ended so
abbrev pub RwEnded : RwPhase → CoreAnswer → Type 0
RwEnded phase answer = Ended rw_told rw_asks (record { phase = phase }) answer

-- a try of a reader-writer lock that began in this phase was admitted, or refused where so many readers may be
abbrev pub RwAdmitted : RwPhase → Type 0
RwAdmitted phase = Admitted rw_told rw_asks (record { phase = phase })

abbrev pub RwRefused : ℕ → RwPhase → Type 0
RwRefused limit phase = Refused limit rw_told rw_asks (record { phase = phase })

-- a try for upgradable holds that began in this phase was admitted, or refused
abbrev pub UpgradeAdmitted : UpgradePhase → Type 0
UpgradeAdmitted phase = Admitted upgrade_told upgrade_asks (record { phase = phase })

abbrev pub UpgradeRefused : ℕ → UpgradePhase → Type 0
UpgradeRefused limit phase = Refused limit upgrade_told upgrade_asks (record { phase = phase })

-- a call of upgradable holds that began in this phase ended so
abbrev pub UpgradeEnded : UpgradePhase → CoreAnswer → Type 0
UpgradeEnded phase answer = Ended upgrade_told upgrade_asks (record { phase = phase }) answer

-- a core of a reader-writer lock that may give up began as this one, and was told nothing but what its acts can give
abbrev pub TimedRwTold : TimedRwCore → TimedRwCore → Type 0
TimedRwTold begun core = WasTold timed.Gives rw_timed.timed_told rw_timed.timed_asks (Plain Start) begun core

-- such a call came to this act
abbrev pub TimedRwEnded : TimedRwCore → TimedAct → Type 0
TimedRwEnded begun last = EndedAt timed.Gives rw_timed.timed_told rw_timed.timed_asks (Plain Start) begun last

-- the cores of calls that may give up, as they begin
abbrev pub reading_in_time : ℕ → TimedRwCore
reading_in_time recursive = record { phase = rw_timed.plain_at (reader.Locking (want.Shared (recursive == 1))) }

abbrev pub writing_in_time : TimedRwCore
writing_in_time = record { phase = rw_timed.plain_at (reader.Locking want.Exclusive) }

abbrev pub asking_in_time : TimedRwCore
asking_in_time = record { phase = rw_timed.upgrade_at call.Locking }

abbrev pub upgrading_in_time : TimedRwCore
upgrading_in_time = record { phase = rw_timed.upgrade_at call.Upgrading }

-- such a call has what it asked for: by one that waits, or as it didn't have to give up
abbrev pub RwOwned : Type 0 → TimedRwCore → Type 0
RwOwned waited begun = waited ⊎ TimedRwEnded begun (Makes (Done Owned))

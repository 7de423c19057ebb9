-- A call of a machine goes as the core goes that threads run, phase for phase, also where its deadline comes.
use Rattle.std.specs.Prelude.{◌≡◌, ℕ, not, Bool, true, false, Option, Some, None}
use Rattle.parking_lot_core_model.specs.declared.parking.UnparkToken.{UnparkToken}
use Rattle.parking_lot_protocol.specs.Acts.{Gives}
use Rattle.parking_lot_protocol.specs.declared.act.ActResult.{ActResult}
use Rattle.parking_lot_protocol.specs.declared.act.ActResult.TheVariants as seen
use Rattle.parking_lot_protocol.specs.declared.mutex_phase.MutexPhase.TheVariants as mx
use Rattle.parking_lot_protocol.specs.declared.rw_phase.LockMode.TheVariants as want
use Rattle.parking_lot_protocol.specs.declared.rw_phase.RwPhase.TheVariants as r
use Rattle.parking_lot_protocol_rw.specs.Timed.TimedTable as rw
use Rattle.parking_lot_protocol_rw.specs.Timed.TimedTable.{made, plain_at, upgrade_at}
use Rattle.parking_lot_protocol_rw.specs.declared.timed.timed_phase.TimedRwPhase.{TimedRwPhase}
use Rattle.parking_lot_protocol_rw.specs.declared.timed.timed_phase.TimedRwPhase.TheVariants as rw_phase
use Rattle.parking_lot_protocol.specs.Timed.TimedTable as mutex
use Rattle.parking_lot_protocol.specs.Timed.TimedTable.{asking}
use Rattle.parking_lot_protocol.specs.declared.timed.timed_act.TimedAct.{TimedAct}
use Rattle.parking_lot_protocol.specs.declared.timed.timed_act.TimedAct.TheVariants as act
use Rattle.parking_lot_protocol.specs.declared.timed.timed_act.TimedSeen.{TimedSeen}
use Rattle.parking_lot_protocol.specs.declared.timed.timed_act.TimedSeen.TheVariants.{Plain, Expired, Reentered, Quit}
use Rattle.parking_lot_protocol.specs.declared.timed.timed_act.TimedSeen.TheVariants.{WasTaken, Masked, Left}
use Rattle.parking_lot_protocol.specs.declared.timed.timed_core.TimedMutexPhase.{TimedMutexPhase}
use Rattle.parking_lot_protocol.specs.declared.timed.timed_core.TimedMutexPhase.TheVariants as phase
use Rattle.parking_lot_protocol_rw.specs.declared.upgrade_core.UpgradeCore.{UpgradeCore}
use Rattle.parking_lot_protocol_rw.specs.declared.upgrade_phase.UpgradePhase.TheVariants as u
use Rattle.parking_lot_machine_calls.specs.Beginnings.{core_of}
use Rattle.parking_lot_machine_calls.specs.Kinds.{is_recursive}
use Rattle.parking_lot_machine_calls.specs.CallViews.{IsInOrder}
use Rattle.parking_lot_machine_calls.specs.LateCalls.{comes_late, found_as, is_back, late_of, sleeps_in_time}
use Rattle.parking_lot_machine_calls.specs.Stances.{core_act, core_next, sign}
use Rattle.parking_lot_machine_calls.specs.declared.calls.LockCall.TheVariants as call
use Rattle.parking_lot_machine_calls.specs.declared.calls.LockKind.{LockKind}
use Rattle.parking_lot_machine_calls.specs.declared.late_rw.LateRwPhase.{LateRwPhase}
use Rattle.parking_lot_machine_calls.specs.declared.late_rw.LateRwPhase.TheVariants as late_rw
use Rattle.parking_lot_machine_calls.specs.declared.late_rw.RwSleeper.{RwSleeper}
use Rattle.parking_lot_machine_calls.specs.declared.late_rw.RwSleeper.TheVariants as sleeper
use Rattle.parking_lot_machine_calls.specs.declared.seat.Core.{Core}
use Rattle.parking_lot_machine_calls.specs.declared.seat.Core.TheVariants as core
use Rattle.parking_lot_machine_calls.specs.declared.seat.LatePhase.{LatePhase}
use Rattle.parking_lot_machine_calls.specs.declared.seat.LatePhase.TheVariants as late

-- WHERE THE RUNNING CORE IS

-- at a mutex
abbrev pub late_as : LatePhase → TimedMutexPhase
late_as late.Expires = phase.Expires
late_as late.Quits = phase.Quits
late_as late.Masks = phase.Masks
late_as late.Leaves = phase.Leaves
late_as late.GivesUp = phase.GivesUp
late_as (late.WasTaken by handed) = phase.Resumes (sign handed)

abbrev pub mutex_as : Core → Option TimedMutexPhase
mutex_as (core.Mutex c) = Some (phase.Asks c)
mutex_as (core.Late p) = Some (late_as p)
mutex_as other = None

-- and at a reader-writer lock
abbrev pub sleeper_as : RwSleeper → UpgradeCore
sleeper_as (sleeper.Simple c) = record { phase = u.Plain c }
sleeper_as (sleeper.Upgradable c) = c

abbrev pub late_rw_as : LateRwPhase → TimedRwPhase
late_rw_as (late_rw.Expires k) = rw_phase.Expires (sleeper_as k)
late_rw_as (late_rw.Quits k) = rw_phase.Quits (sleeper_as k)
late_rw_as late_rw.Masks = rw_phase.Masks
late_rw_as late_rw.Leaves = rw_phase.Leaves
late_rw_as late_rw.GivesUp = rw_phase.GivesUp
late_rw_as (late_rw.LeavesPending from) = rw_phase.LeavesPending from
late_rw_as (late_rw.WasTaken k by handed) = rw_phase.Resumes (sleeper_as k) (sign handed)

abbrev pub rw_as : Core → Option TimedRwPhase
rw_as (core.Rw c) = Some (rw_phase.Asks (record { phase = u.Plain c }))
rw_as (core.Upgrade c) = Some (rw_phase.Asks c)
rw_as (core.LateRw p) = Some (late_rw_as p)
rw_as other = None

-- WHAT IT ASKS FOR, AND IS TOLD

abbrev pub late_act : LatePhase → TimedAct
late_act late.Expires = act.Reenters
late_act late.Quits = act.TakesItself
late_act late.Masks = act.Masks
late_act late.Leaves = act.Leaves
late_act late.GivesUp = act.GivesUp
late_act (late.WasTaken by handed) = act.Leaves

abbrev pub late_rw_act : LateRwPhase → TimedAct
late_rw_act (late_rw.Expires k) = act.Reenters
late_rw_act (late_rw.Quits k) = act.TakesItself
late_rw_act late_rw.Masks = act.Masks
late_rw_act late_rw.Leaves = act.Leaves
late_rw_act late_rw.GivesUp = act.GivesUp
late_rw_act (late_rw.LeavesPending from) = act.Leaves
late_rw_act (late_rw.WasTaken k by handed) = act.Leaves

-- a call that waits for a reader-writer lock and gives a hold up at its end has given up
abbrev pub act_as : Core → TimedAct
act_as (core.Mutex c) = act.Makes (core_act (core.Mutex c))
act_as (core.Late p) = late_act p
act_as (core.Rw c) = made (core_act (core.Rw c))
act_as (core.LateRw p) = late_rw_act p
act_as (core.Upgrade c) = made (core_act (core.Upgrade c))

abbrev pub late_hears : LatePhase → ActResult → TimedSeen
late_hears late.Masks s = Masked
late_hears p s = Left

abbrev pub late_rw_hears : LateRwPhase → ActResult → TimedSeen
late_rw_hears late_rw.Masks s = Masked
late_rw_hears p s = Left

abbrev pub hears_as : Core → ActResult → TimedSeen
hears_as (core.Late p) s = late_hears p s
hears_as (core.LateRw p) s = late_rw_hears p s
hears_as k s = Plain s

-- IT GOES THE SAME WAY

-- Of the phases of a running core: where each core of a machine is among them, and which follows.
pub record GoesAs (P : Type 0) (at : Core → Option P) (act : P → TimedAct) (next : P → TimedSeen → P) : Type 0 where
  pub acts : (k : Core) (p : P) → at k ≡ Some p → act p ≡ act_as k
  -- what its act gives
  pub told : (k : Core) (p : P) (word : ℕ) (s : ActResult) → at k ≡ Some p → IsInOrder k → comes_late k ≡ false
      → is_back k ≡ false → Gives (core_act k) word s → at (core_next k s) ≡ Some (next p (hears_as k s))
  -- its deadline comes as it sleeps; it enters the section of its list again, and takes itself off the list there
  pub expires : (k : Core) (p : P) → at k ≡ Some p → IsInOrder k → sleeps_in_time k ≡ true
      → at (late_of k) ≡ Some (next p Expired)
  pub reenters : (k : Core) (p : P) → at k ≡ Some p → comes_late k ≡ true
      → at (core_next k seen.Entered) ≡ Some (next p Reentered)
  pub quits : (k : Core) (p : P) (left : Bool) → at k ≡ Some p → IsInOrder k → is_back k ≡ true
      → at (core_next k (seen.Took None left)) ≡ Some (next p (Quit (not left)))
  -- where another has taken it, it finds that out there: two steps of the running core are one of the machine's, and
  -- three where its taker wakes it before
  pub finds : (k : Core) (p : P) (by : ℕ) (handed : Bool) → at k ≡ Some p → comes_late k ≡ true
      → at (found_as by handed k) ≡ Some (next (next p Reentered) (WasTaken (sign handed)))
  pub wakes : (k : Core) (p : P) (token : UnparkToken) → at k ≡ Some p → IsInOrder k → comes_late k ≡ true
      → at (core_next k (seen.Woken token)) ≡ Some (next (next (next p Reentered) (WasTaken token)) Left)

-- each begins where its running core does
pub record BeginsAs (kind : LockKind) : Type 0 where
  pub lock : mutex_as (core_of kind call.LockUntil) ≡ Some (asking mx.Locking)
  pub read : rw_as (core_of kind call.ReadUntil) ≡ Some (plain_at (r.Locking (want.Shared (is_recursive kind))))
  pub write : rw_as (core_of kind call.WriteUntil) ≡ Some (plain_at (r.Locking want.Exclusive))
  pub upgradable : rw_as (core_of kind call.UpgradableUntil) ≡ Some (upgrade_at u.Locking)
  pub upgrade : rw_as (core_of kind call.UpgradeUntil) ≡ Some (upgrade_at u.Upgrading)

pub record CoresAreTheSame : Type 0 where
  pub begins : (kind : LockKind) → BeginsAs kind
  pub at_mutex : GoesAs TimedMutexPhase mutex_as mutex.act_of mutex.next_phase
  pub at_rw : GoesAs TimedRwPhase rw_as rw.act_of rw.next_phase

-- What holds of shards' locks at every moment.
use Rattle.std.specs.Prelude.{◌≡◌, ◌&&◌, ℕ, zero, suc, ◌≤◌, Bool, true, false, not, length, Some, slice_get}
use Rattle.std.specs.List.{All}
use Rattle.lock_api_desk.specs.Desk.{DeskState}
use Rattle.parking_lot_protocol_rw.specs.declared.upgrade_phase.Hold.TheVariants as up
use Rattle.parking_lot_protocol_rw.specs.declared.upgrade_phase.UpgradePhase.{UpgradePhase}
use Rattle.parking_lot_protocol_rw.specs.declared.upgrade_phase.UpgradePhase.TheVariants as u
use Rattle.parking_lot_machine_calls.specs.declared.late_rw.LateRwPhase.{LateRwPhase}
use Rattle.parking_lot_machine_calls.specs.declared.late_rw.LateRwPhase.TheVariants as late_rw
use Rattle.parking_lot_machine_calls.specs.declared.late_rw.RwSleeper.{RwSleeper}
use Rattle.parking_lot_machine_calls.specs.declared.late_rw.RwSleeper.TheVariants as sleeper
use Rattle.parking_lot_machine_calls.specs.declared.calls.LockKind.TheVariants as kind
use Rattle.parking_lot_machine_calls.specs.declared.seat.Hold.{Hold}
use Rattle.parking_lot_machine_calls.specs.declared.seat.Hold.TheVariants as hold
use Rattle.parking_lot_machine_calls.specs.declared.seat.Core.{Core}
use Rattle.parking_lot_machine_calls.specs.declared.seat.Core.TheVariants as core
use Rattle.parking_lot_machine_calls.specs.declared.open_call.Call.{Call}
use Rattle.parking_lot_machine.specs.RowFits.{FitsTogether}
use Rattle.parking_lot_machine.specs.Rows.{State, call_at, state}
use Rattle.parking_lot_machine.specs.CallLaws.Answers.{MayStand}
use Rattle.parking_lot_machine.specs.CallLaws.Stages.{core_stage, stage_of}
use Rattle.parking_lot_machine_calls.specs.Calls.{is_timed}
use Rattle.mapworld_state.specs.Locks.Stands.{is_of_shards}
use Rattle.mapworld_state.specs.Locks.Seats.{AreSeated, GoTogether}
use Rattle.mapworld_state.specs.Locks.Views.{Shown, held_at, owner_in}

-- nobody holds a lock twice
abbrev pub is_single : Hold → Bool
is_single (hold.Shares zero) = true
is_single (hold.Shares (suc zero)) = true
is_single (hold.Shares (suc (suc n))) = false
is_single hold.Excludes = true
is_single hold.Upgrades = false

-- Behind the deadline of a call that reads or writes its core gives up: it takes itself out of its list, or finds that
-- another has taken it; as a pending writer it gives its bit back, as one of the calls with upgradable holds does, and
-- owes a look to those whom it has kept out.
abbrev pub is_simple : RwSleeper → Bool
is_simple (sleeper.Simple c) = true
is_simple (sleeper.Upgradable c) = false

abbrev pub late_plainly : LateRwPhase → Bool
late_plainly (late_rw.Expires k) = is_simple k
late_plainly (late_rw.Quits k) = is_simple k
late_plainly (late_rw.WasTaken k by handed) = is_simple k
late_plainly (late_rw.LeavesPending from) = not from
late_plainly p = true

abbrev pub yields_plainly : UpgradePhase → Bool
yields_plainly (u.YieldLoads from) = not from
yields_plainly (u.Yields from word) = not from
yields_plainly (u.Owes up.Nothing answer core) = true
yields_plainly (u.Ends up.Nothing answer) = true
yields_plainly u.Invalid = true
yields_plainly p = false

-- the core is one of readers and writers, with a deadline or without one
abbrev pub is_plain : Bool → Core → Bool
is_plain timed (core.Rw c) = true
is_plain timed (core.Mutex c) = true
is_plain timed (core.Late p) = true
is_plain timed (core.LateRw p) = timed && late_plainly p
is_plain timed (core.Upgrade c) = timed && yields_plainly c.phase

-- of the machine alone: all locks are reader-writer locks
pub record IsPlain (s : State) : Type 0 where
  pub kinds : All (λ k. k ≡ kind.Rw) s.kinds
  pub single : All (λ h. is_single h ≡ true) s.holds
  pub alone : (t : ℕ) (c : Call) → call_at s t ≡ Some c → c.others ≡ 0
  pub cores : (t : ℕ) (c : Call) → call_at s t ≡ Some c → is_plain (is_timed c.asked) c.core ≡ true
  -- a call is one of shards' locks, and stands where one that was asked so may stand
  pub asked : (t : ℕ) (c : Call) → call_at s t ≡ Some c → is_of_shards c.asked ≡ true
  pub stands : (t : ℕ) (c : Call) → call_at s t ≡ Some c
      → MayStand 0 (stage_of c.asked) (is_timed c.asked) (core_stage 0 c.core)

-- The desk beside a shard's word: its guards are the lock's owners but pending ones, each under the number of its
-- thread, and those that were handed the lock are among them. There is room for a guard of each thread.
pub record DeskFits (s : State) (shard : ℕ) (desk : DeskState (Unit {0})) : Type 0 where
  pub seated : AreSeated (held_at s shard) desk.guards
  pub room : length s.calls ≤ desk.room
  pub limit : length s.calls ≤ desk.limit

pub record LocksFit (sh : Shown) : Type 0 where
  -- the machine is sound
  pub fits : FitsTogether (state sh.rows)
  pub plain : IsPlain (state sh.rows)
  pub count : length sh.desks ≡ length sh.rows.kinds
  pub desks_fit : (shard : ℕ) (desk : DeskState (Unit {0})) → slice_get sh.desks shard ≡ Some desk
      → DeskFits (state sh.rows) shard desk
  -- who holds a shard may hold it beside the others
  pub together : (shard : ℕ) → GoTogether (owner_in sh shard)

-- What is seen of shards' locks.
use Rattle.std.specs.Prelude.{ℕ, List, Option, Some, None, slice_get}
use Rattle.std.specs.Option.{option_and_then}
use Rattle.lock_api_desk.specs.declared.mode.Mode.{Mode}
use Rattle.lock_api_desk.specs.declared.mode.Mode.TheVariants as held
use Rattle.lock_api_desk.specs.Desk.{DeskState}
use Rattle.parking_lot_machine_calls.specs.declared.calls.OwnMode.{OwnMode}
use Rattle.parking_lot_machine_calls.specs.declared.calls.OwnMode.TheVariants as own
use Rattle.parking_lot_machine_calls.specs.CallViews.{rw_mode}
use Rattle.parking_lot_machine.specs.Rows.{Rows, State, everybody, rw_role_at, state}

pub record Shown : Type 0 where
  pub rows : Rows
  -- by the number of the shard
  pub desks : List (DeskState (Unit {0}))

-- how an owner's guard is held; a pending writer has none yet
abbrev pub held_as : Option OwnMode → Option Mode
held_as None = None
held_as (Some own.Shared) = Some held.Shared
held_as (Some own.Upgradable) = Some held.Upgradable
held_as (Some own.Pending) = None
held_as (Some own.Exclusive) = Some held.Exclusive

-- how a thread owns the lock of a shard: all of them are reader-writer locks
abbrev pub mode_at : State → ℕ → ℕ → Option OwnMode
mode_at s shard thread = option_and_then rw_mode (slice_get (everybody (rw_role_at s shard) s) thread)

abbrev pub held_at : State → ℕ → ℕ → Option Mode
held_at s shard thread = held_as (mode_at s shard thread)

-- how a thread holds the lock of a shard
abbrev pub owner_in : Shown → ℕ → ℕ → Option Mode
owner_in sh shard thread = held_at (state sh.rows) shard thread

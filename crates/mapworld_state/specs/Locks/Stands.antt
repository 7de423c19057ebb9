-- What a thread that is in a call is about.
use Rattle.std.specs.Prelude.{ℕ, Bool, true, false, Option, Some, None}
use Rattle.std.specs.Option.{option_map}
use Rattle.lock_api_desk.specs.declared.mode.Mode.{Mode}
use Rattle.lock_api_desk.specs.declared.mode.Mode.TheVariants as held
use Rattle.parking_lot_machine_calls.specs.Calls.{is_timed}
use Rattle.parking_lot_machine_calls.specs.declared.calls.LockCall.{LockCall}
use Rattle.parking_lot_machine_calls.specs.declared.calls.LockCall.TheVariants as ask
use Rattle.parking_lot_machine_calls.specs.declared.open_call.Call.{Call}
use Rattle.parking_lot_machine.specs.Rows.{call_at, state}
use Rattle.mapworld_state.specs.Locks.Aims.{Aim, aim_of}
use Rattle.mapworld_state.specs.Locks.Views.{Shown}

-- the call is a try
abbrev pub is_try : LockCall → Bool
is_try ask.TryLock = true
is_try ask.TryRead = true
is_try ask.TryWrite = true
is_try other = false

-- of which shard the thread's call is, what for, and whether it may be refused: as a try, or since it has a deadline
pub record Stand : Type 0 where
  pub shard : ℕ
  pub aim : Aim
  pub trying : Bool
  pub timed : Bool

-- where a thread stands that was asked so of a shard: no step of the call changes it
abbrev pub stand_for : ℕ → LockCall → Stand
stand_for shard asked = record { shard = shard; aim = aim_of asked; trying = is_try asked; timed = is_timed asked }

abbrev pub stand_of : Call → Stand
stand_of c = stand_for c.lock c.asked

abbrev pub stand_in : Shown → ℕ → Option Stand
stand_in sh t = option_map stand_of (call_at (state sh.rows) t)

-- the calls of shards' locks
abbrev pub is_of_shards : LockCall → Bool
is_of_shards ask.Read = true
is_of_shards ask.TryRead = true
is_of_shards ask.ReadUntil = true
is_of_shards ask.UnlockRead = true
is_of_shards ask.Write = true
is_of_shards ask.TryWrite = true
is_of_shards ask.WriteUntil = true
is_of_shards ask.UnlockWrite = true
is_of_shards ask.Downgrade = true
is_of_shards other = false

-- How its thread has to hold the lock before the call: not at all, where it asks for it.
abbrev pub needs : LockCall → Option Mode
needs ask.UnlockRead = Some held.Shared
needs ask.UnlockWrite = Some held.Exclusive
needs ask.Downgrade = Some held.Exclusive
needs other = None

-- the call gives the hold up or turns it: its first act is begun at once, and can always be made
abbrev pub gives : LockCall → Bool
gives ask.UnlockRead = true
gives ask.UnlockWrite = true
gives ask.Downgrade = true
gives other = false

-- What a thread is about in a call at a reader-writer lock, and how it may hold the lock then.
use Rattle.std.specs.Prelude.{Bool, true, false, Option, Some, None}
use Rattle.lock_api_desk.specs.declared.mode.Mode.{Mode}
use Rattle.lock_api_desk.specs.declared.mode.Mode.TheVariants as held
use Rattle.parking_lot_machine_calls.specs.declared.calls.LockCall.{LockCall}
use Rattle.parking_lot_machine_calls.specs.declared.calls.LockCall.TheVariants as call

-- to hold the lock so, to give such a hold up, or to turn the exclusive hold into a shared one
pub data Aim : Type 0 where
  Gets : (mode : Mode) → Aim
  GivesUp : (mode : Mode) → Aim
  Turns : Aim

-- the aim of a call of a shard's lock, of which a downgrade turns the hold; other calls have one only for the sake of
-- a whole table
abbrev pub aim_of : LockCall → Aim
aim_of call.Read = Gets held.Shared
aim_of call.TryRead = Gets held.Shared
aim_of call.ReadUntil = Gets held.Shared
aim_of call.UnlockRead = GivesUp held.Shared
aim_of call.Write = Gets held.Exclusive
aim_of call.TryWrite = Gets held.Exclusive
aim_of call.WriteUntil = Gets held.Exclusive
aim_of call.UnlockWrite = GivesUp held.Exclusive
aim_of other = Turns

-- how one may hold the lock in a call with that aim: nothing beyond what it asked for
abbrev pub is_within : Aim → Option Mode → Bool
is_within (Gets held.Shared) (Some held.Exclusive) = false
is_within (Gets held.Exclusive) (Some held.Shared) = false
is_within (GivesUp held.Shared) (Some held.Exclusive) = false
is_within (GivesUp held.Exclusive) (Some held.Shared) = false
is_within Turns None = false
is_within aim (Some held.Upgradable) = false
is_within aim other = true

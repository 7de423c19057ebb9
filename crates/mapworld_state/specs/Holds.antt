-- Holds of shards, as their locks see them.
use Rattle.std.specs.Prelude.{◌≡◌, ℕ, Bool, true, false, List, Some, slice_get}
use Rattle.lock_api_desk.specs.declared.mode.Mode.{Mode as DeskMode}
use Rattle.lock_api_desk.specs.declared.mode.Mode.TheVariants as desk
use Rattle.parking_lot_machine_calls.specs.declared.calls.LockCall.{LockCall}
use Rattle.parking_lot_machine_calls.specs.declared.calls.LockCall.TheVariants as call
use Rattle.mapworld_state.specs.declared.holds.Mode.{Mode}
use Rattle.mapworld_state.specs.declared.holds.Mode.TheVariants.{Shared, Exclusive}
use Rattle.mapworld_state.specs.declared.holds.Manner.{Manner}
use Rattle.mapworld_state.specs.declared.holds.Manner.TheVariants.{Waits, Tries, UntilDeadline}
use Rattle.mapworld_state.specs.declared.holds.Hold.{Hold}

-- a mode at a desk
abbrev pub at_desk : Mode → DeskMode
at_desk Shared = desk.Shared
at_desk Exclusive = desk.Exclusive

-- the call that asks for a shard's lock so, and the one that gives it up
abbrev pub asks_for : Mode → LockCall
asks_for Shared = call.Read
asks_for Exclusive = call.Write

-- and the one that waits for nobody
abbrev pub tries_for : Mode → LockCall
tries_for Shared = call.TryRead
tries_for Exclusive = call.TryWrite

-- and the one that waits until its deadline
abbrev pub waits_for : Mode → LockCall
waits_for Shared = call.ReadUntil
waits_for Exclusive = call.WriteUntil

abbrev pub wants_for : Manner → Mode → LockCall
wants_for Waits mode = asks_for mode
wants_for Tries mode = tries_for mode
wants_for UntilDeadline mode = waits_for mode

-- whether a call that waits so is a try, and whether it has a deadline
abbrev pub tries_so : Manner → Bool
tries_so Waits = false
tries_so Tries = true
tries_so UntilDeadline = false

abbrev pub has_deadline_so : Manner → Bool
has_deadline_so Waits = false
has_deadline_so Tries = false
has_deadline_so UntilDeadline = true

abbrev pub gives_up : Mode → LockCall
gives_up Shared = call.UnlockRead
gives_up Exclusive = call.UnlockWrite

-- one of these holds is of that shard, in that mode
pub record IsAmong (shard : ℕ) (mode : DeskMode) (holds : List Hold) : Type 0 where
  pub index : ℕ
  pub hold : Hold
  pub there : slice_get holds index ≡ Some hold
  pub shard_is : hold.shard ≡ shard
  pub mode_is : at_desk hold.mode ≡ mode

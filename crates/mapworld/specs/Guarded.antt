-- What words and guards say of each other.
use Rattle.std.specs.Prelude.{◌≡◌, ℕ, length, Some, slice_get}
use Rattle.lock_api_desk.specs.Desk.{DeskState}
use Rattle.parking_lot_machine.specs.Rows.{state}
use Rattle.mapworld_state.specs.Locks.Counts.{CountsAsWord}
use Rattle.mapworld_state.specs.Locks.Seats.{AreSeated, GoTogether}
use Rattle.mapworld_state.specs.Locks.Views.{Shown, owner_in}

-- Beside a shard's word stands a desk. Its guards are the lock's owners, but for one that is pending: each thread has a
-- guard of the mode in which it owns the lock, and no other. So there are as many shared guards as the word counts
-- readers, and an exclusive one exactly where the writer bit is set and nobody is pending. No two guards of one desk
-- exclude each other.
pub record GuardsAreOwners (locks : Shown) : Type 0 where
  pub owners : (shard : ℕ) (desk : DeskState (Unit {0})) → slice_get locks.desks shard ≡ Some desk
      → AreSeated (owner_in locks shard) desk.guards
  pub counted : (shard : ℕ) (desk : DeskState (Unit {0})) → slice_get locks.desks shard ≡ Some desk
      → CountsAsWord (state locks.rows) shard desk
  pub together : (shard : ℕ) → GoTogether (owner_in locks shard)
  -- each lock has a desk
  pub desks : length locks.desks ≡ length locks.rows.kinds

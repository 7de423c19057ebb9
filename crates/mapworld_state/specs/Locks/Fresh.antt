-- How shards' locks are made.
use Rattle.std.specs.Prelude.{◌≡◌, ℕ, ◌≤◌, false, [], length, replicate, None}
use Rattle.std.specs.List.{All}
use Rattle.lock_api_desk.specs.Desk.{DeskState}
use Rattle.parking_lot_machine_calls.specs.declared.calls.LockKind.TheVariants as kind
use Rattle.parking_lot_machine.specs.Machines.{at_rest}
use Rattle.parking_lot_machine.specs.Rows.{state}
use Rattle.mapworld_state.specs.Locks.Stands.{stand_in}
use Rattle.mapworld_state.specs.Locks.Views.{Shown, owner_in}

-- no guard, and room for one of each thread
pub record IsEmptyFor (threads : ℕ) (desk : DeskState (Unit {0})) : Type 0 where
  pub empty : desk.guards ≡ []
  pub room : threads ≤ desk.room
  pub limit : threads ≤ desk.limit

-- nobody has done anything
pub record AreFresh (threads shards : ℕ) (sh : Shown) : Type 0 where
  pub rows : state sh.rows ≡ at_rest false threads (replicate shards kind.Rw)
  pub desks : All (IsEmptyFor threads) sh.desks
  pub count : length sh.desks ≡ shards
  pub free : (t : ℕ) → stand_in sh t ≡ None
  pub unowned : (i t : ℕ) → owner_in sh i t ≡ None

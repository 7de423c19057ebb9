-- The sizes of a world.
use Rattle.std.specs.Prelude.{◌≡◌, ◌+◌, length, sum_by}
use Rattle.mapworld_state.specs.Core.{AreLocksOf, owed}
use Rattle.mapworld_state.specs.State.{State}

-- The locks are those of its shards and threads, each thread has a place and a program, and each call of a program is
-- answered or owed.
pub record IsSized {K V S D T A : Type 0} (w : State K V S D T A) : Type 0 where
  pub locks : AreLocksOf (length w.places) (length w.tables) w.locks
  pub places : length w.places ≡ length w.programs
  pub answers : length w.replies + sum_by owed w.places ≡ sum_by length w.programs

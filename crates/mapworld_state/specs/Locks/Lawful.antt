-- That what shards' locks do is done by the rules.
use Rattle.std.specs.Prelude.{ℕ, Bool, false, Some, None}
use Rattle.parking_lot_protocol.specs.declared.act.CoreAnswer.{CoreAnswer}
use Rattle.parking_lot_machine_calls.specs.declared.calls.LockCall.{LockCall}
use Rattle.parking_lot_machine.specs.Machines.{IsBegun, IsExpired, IsStepped}
use Rattle.parking_lot_machine.specs.Rows.{state}
use Rattle.mapworld_state.specs.Locks.Fits.{LocksFit}
use Rattle.mapworld_state.specs.Locks.Steps.{LockBegins, LockEnds, LockExpires, LockMoves}
use Rattle.mapworld_state.specs.Locks.Views.{Shown}

-- A beginning, a step, a deadline and an answer of locks that fit leave what is said of them, are the steps of the
-- rules that the call's core names, and are paid for by the steps that were left, but for what a beginning and a
-- deadline add.
pub record LockStepsAreLawful : Type 0 where
  pub begins : (t shard : ℕ) (call : LockCall) (old new : Shown) → LocksFit old → LockBegins t shard call old new
      → IsBegun t shard call (state old.rows) (state new.rows)
  pub moves : (t : ℕ) (fair : Bool) (old new : Shown) → LocksFit old → LockMoves t fair old new
      → IsStepped t fair None (state old.rows) (state new.rows)
  pub expires : (t : ℕ) (old new : Shown) → LocksFit old → LockExpires t old new
      → IsExpired t (state old.rows) (state new.rows)
  pub ends : (t : ℕ) (answer : CoreAnswer) (old new : Shown) → LocksFit old → LockEnds t answer old new
      → IsStepped t false (Some answer) (state old.rows) (state new.rows)

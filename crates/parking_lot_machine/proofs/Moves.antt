-- A step of the machine changes nothing, or is one step of the rules at the lock of its call: what follows from either
-- follows from the step.
use Rattle.std.proofs.Common.{ℕ, Bool, List, Option, Some, None, [], ◌∷◌}
use Rattle.parking_lot_rules.specs.Mutex as mutex
use Rattle.parking_lot_rules.specs.Any.{AnyStep, RwStep, MxStep}
use Rattle.parking_lot_protocol.specs.declared.act.ActResult.{ActResult}
use Rattle.parking_lot_protocol.specs.declared.act.CoreAnswer.{CoreAnswer}
use Rattle.parking_lot_protocol.specs.MutexRules as of_mutex
use Rattle.parking_lot_protocol.specs.RwRules as of_rw
use Rattle.parking_lot_machine_calls.specs.declared.calls.LockCall.{LockCall}
use Rattle.parking_lot_machine_calls.specs.declared.late_rw.LateRwPhase.{LateRwPhase}
use Rattle.parking_lot_machine_calls.specs.declared.seat.LatePhase.{LatePhase}
use Rattle.parking_lot_machine_calls.specs.declared.seat.Core.{Core}
use Rattle.parking_lot_machine.specs.Machines.{call_for, IsBegun, IsStepped}
use Rattle.parking_lot_machine.specs.Rows.{State, taken_by}
use Rattle.parking_lot_machine.specs.RowSteps.{IsLastOf, IsLateMove, IsLateRwMove, IsMade, IsMoveOf, IsMutexMove}
use Rattle.parking_lot_machine.specs.RowSteps.{IsQuiet, IsRwMove, IsFound}
use Rattle.parking_lot_rules.specs.Steps.{Pass}

-- of the two steps that one which was taken and comes back makes, the former is its taker's: it drops a thread from
-- those that it is to wake
abbrev pub IsPassing : AnyStep → Type 0
IsPassing (RwStep (Pass owns before v taken)) = Unit {0}
IsPassing (MxStep (mutex.Pass owns before v taken)) = Unit {0}
IsPassing step = ⊥

module _ (s u : State) (P : (t j : ℕ) → Type 0) (quiet : (t j : ℕ) → IsQuiet s u → P t j)
    (made : (t j : ℕ) (step : AnyStep) → IsMade j t step s u → P t j) where
  rw_moves : (k : of_rw.Move) (us : List ℕ) (j t : ℕ) → IsRwMove k us j t s u → P t j
  rw_moves of_rw.Stays us j t h = quiet t j h
  rw_moves (of_rw.Makes k) us j t h = made t j _ h
  rw_moves (of_rw.Joins k) us j t h = made t j _ h
  rw_moves (of_rw.TakesOne mode) us j t (scan, i, v, stay, h) = made t j _ h
  rw_moves of_rw.TakesWriter us j t (owns, v, from, stay, h) = made t j _ h
  rw_moves (of_rw.Tells end left) us j t (scan, h) = made t j _ h
  rw_moves of_rw.WakesOne [] j t h = quiet t j h
  rw_moves of_rw.WakesOne (x ∷ us) j t (owns, v, rest, k, stay, h) = made t j _ h
  rw_moves (of_rw.IsWoken k) us j t h = absurd h

  mutex_moves : (k : of_mutex.Move) (us : List ℕ) (j t : ℕ) → IsMutexMove k us j t s u → P t j
  mutex_moves of_mutex.Stays us j t h = quiet t j h
  mutex_moves (of_mutex.Makes k) us j t h = made t j _ h
  mutex_moves of_mutex.Joins us j t h = made t j _ h
  mutex_moves of_mutex.TakesOne us j t (v, stay, h) = made t j _ h
  mutex_moves (of_mutex.Tells taken handed left) us j t h = made t j _ h
  mutex_moves of_mutex.WakesOne [] j t h = quiet t j h
  mutex_moves of_mutex.WakesOne (x ∷ us) j t (handed, v, rest, stay, h) = made t j _ h
  mutex_moves (of_mutex.IsWoken handed) us j t h = absurd h

  pub ends : (k : Core) (n j t : ℕ) → IsLastOf k n j t s u → P t j
  ends (Core.Rw c) n j t h = rw_moves _ [] j t h
  ends (Core.Mutex c) n j t h = mutex_moves _ [] j t h
  ends (Core.Late p) n j t h = quiet t j h
  ends (Core.LateRw p) n j t h = quiet t j h
  ends (Core.Upgrade c) n j t h = rw_moves _ [] j t h

  module _ (found : (t j by : ℕ) (passing step : AnyStep) → IsPassing passing → IsFound j by passing step t s u → P t j)
    where
      late_moves : (p : LatePhase) (told : ActResult) (j t : ℕ) → IsLateMove p told j t s u → P t j
      late_moves LatePhase.Expires ActResult.Entered j t h = made t j _ h
      late_moves LatePhase.Quits (ActResult.Took token left) j t (i, h) = made t j _ h
      late_moves LatePhase.Masks (ActResult.Before word) j t h = made t j _ h
      late_moves LatePhase.Leaves ActResult.Made j t h = made t j _ h
      late_moves LatePhase.Expires ActResult.Made j t (by, mark, before, taken, h) = found t j by _ _ tt h
      late_moves (LatePhase.WasTaken by handed) ActResult.Made j t h = made t j _ h
      late_moves p told j t h = absurd h

      late_rw_moves : (p : LateRwPhase) (told : ActResult) (j t : ℕ) → IsLateRwMove p told j t s u → P t j
      late_rw_moves (LateRwPhase.Expires k) ActResult.Entered j t h = made t j _ h
      late_rw_moves (LateRwPhase.Quits k) (ActResult.Took token left) j t (i, h) = made t j _ h
      late_rw_moves LateRwPhase.Masks (ActResult.Before word) j t h = made t j _ h
      late_rw_moves LateRwPhase.Leaves ActResult.Made j t h = made t j _ h
      late_rw_moves (LateRwPhase.LeavesPending from) ActResult.Made j t h = made t j _ h
      late_rw_moves (LateRwPhase.Expires k) ActResult.Made j t (by, mark, owns, before, taken, h) =
          found t j by _ _ tt h
      late_rw_moves (LateRwPhase.WasTaken k by handed) ActResult.Made j t h = made t j _ h
      late_rw_moves p told j t h = absurd h

      pub goes : (k : Core) (n : ℕ) (us : List ℕ) (told : ActResult) (j t : ℕ) → IsMoveOf k n us told j t s u → P t j
      goes (Core.Rw c) n us told j t h = rw_moves _ us j t h
      goes (Core.Mutex c) n us told j t h = mutex_moves _ us j t h
      goes (Core.Late p) n us told j t h = late_moves p told j t h
      goes (Core.LateRw p) n us told j t h = late_rw_moves p told j t h
      goes (Core.Upgrade c) n us told j t h = rw_moves _ us j t h

      pub stepped : (t : ℕ) (fair : Bool) (answer : Option CoreAnswer) (x : IsStepped t fair answer s u)
          → P t x.call.lock
      stepped t fair None x = goes x.call.core x.call.others (taken_by s.wakes t) x.lawful.0 x.call.lock t
          x.lawful.1.goes
      stepped t fair (Some answer) x = ends x.call.core x.call.others x.call.lock t x.lawful.goes

      pub begins : (t lock : ℕ) (call : LockCall) → IsBegun t lock call s u → P t lock
      begins t lock call x = goes (call_for s t lock call).core (call_for s t lock call).others (taken_by s.wakes t)
          ActResult.Start lock t x.acts.goes

-- What holds of a machine of a condition variable, in plain words.
use Rattle.std.specs.Prelude.{◌≡◌, ℕ, ◌+◌, ◌<◌, ◌⊎◌, nat_lt, true, false, Option, Some, slice_get}
use Rattle.parking_lot_rules.specs.Lists.{occurs, at_index}
use Rattle.parking_lot_rules.specs.Variable as rules
use Rattle.parking_lot_machine_sides.specs.declared.condvar.calls.CondvarCall.TheVariants.{WaitUntil, NotifyOne}
use Rattle.parking_lot_machine_sides.specs.declared.condvar.calls.CondvarCall.TheVariants.{NotifyAll}
use Rattle.parking_lot_machine_sides.specs.declared.condvar.calls.CondvarReply.{CondvarReply}
use Rattle.parking_lot_machine_sides.specs.declared.condvar.calls.CondvarReply.TheVariants as reply
use Rattle.parking_lot_machine_sides.specs.Condvar.Calls.{OpenCall, is_timed}
use Rattle.parking_lot_machine_sides.specs.Condvar.Fitting.{Fits, IsWait}
use Rattle.parking_lot_machine_sides.specs.Condvar.Machines.{State, call_at, can_step, variable}
use Rattle.parking_lot_machine_sides.specs.Condvar.Steps.{IsStepped}
use Rattle.parking_lot_machine_sides.specs.Condvar.Turns.{is_own}

-- the list has exactly the threads that wait, each once
abbrev pub ListIsWaiters : State → Type 0
ListIsWaiters s = (t : ℕ) → occurs t s.queue ≡ at_index (rules.weight rules.Waiting) (slice_get (variable s).phases t)

-- its next act is not at the variable: it sleeps, or acts at its mutex, or takes waiters
abbrev pub IsElsewhere : State → ℕ → Type 0
IsElsewhere s t = (c : OpenCall) × (call_at s t ≡ Some c) × (is_own c ≡ false)

-- where a thread is in a call, some thread can make an act at the variable, or it acts elsewhere, or one in the section
-- does
abbrev pub SomebodyCanMove : State → Type 0
SomebodyCanMove s = (t : ℕ) (c : OpenCall) → call_at s t ≡ Some c → ((v : ℕ) × (can_step s v ≡ true))
    ⊎ (IsElsewhere s t ⊎ ((u : ℕ) × (s.inside ≡ Some u) × IsElsewhere s u))

pub record IsSoundMachine (s : State) : Type 0 where
  pub sound : rules.IsSound (variable s)
  pub lists : ListIsWaiters s
  pub moves : SomebodyCanMove s

-- A wait is answered that its deadline came only if it has one; a notification says how many it has taken, one at most
-- if it is of one.
abbrev pub MayReply : OpenCall → CondvarReply → Type 0
MayReply c reply.Woken = IsWait c.call
MayReply c reply.TimedOut = IsWait c.call × (is_timed c.call ≡ true)
MayReply c reply.WrongMutex = IsWait c.call
MayReply c (reply.Flag some) = (c.call ≡ NotifyOne) × (some ≡ nat_lt 0 c.taken) × (c.taken < 2)
MayReply c (reply.Count count) = (c.call ≡ NotifyAll) × (count ≡ c.taken)

abbrev pub RepliesFit : Type 0
RepliesFit = (s u : State) (t : ℕ) (c : OpenCall) (answer : CondvarReply) → Fits s → call_at s t ≡ Some c
    → IsStepped t (Some answer) s u → MayReply c answer

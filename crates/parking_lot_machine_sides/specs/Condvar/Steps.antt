-- What a machine of a condition variable does, step by step.
use Rattle.std.specs.Prelude.{◌≡◌, ℕ, ◌+◌, ◌≤◌, true, List, [], ◌∷◌, length, remove, Option, Some, slice_get, slice_set}
use Rattle.std.specs.Option.{option_map}
use Rattle.parking_lot_rules.specs.Roles.{Stay}
use Rattle.parking_lot_rules.specs.Variable as rules
use Rattle.parking_lot_machine_sides.specs.declared.condvar.calls.CondvarCall.{CondvarCall}
use Rattle.parking_lot_machine_sides.specs.declared.condvar.calls.CondvarReply.{CondvarReply}
use Rattle.parking_lot_machine_sides.specs.declared.condvar.outside.Outside.{Outside}
use Rattle.parking_lot_machine_sides.specs.Condvar.Calls.{OpenCall, call_for, off_list, reply_of, took_one}
use Rattle.parking_lot_machine_sides.specs.Condvar.Machines.{State, call_at, call_in, variable}
use Rattle.parking_lot_machine_sides.specs.Condvar.OwnSteps.{steps_of, stepped}
use Rattle.parking_lot_machine_sides.specs.Condvar.Outsides.{heard, tells}
use Rattle.parking_lot_machine_sides.specs.Condvar.Ranks.{Pays, cost, left}

-- thread t has made these steps of the rules one after another, as it may
abbrev pub Runs : ℕ → List rules.Step → rules.Variable → rules.Variable → Type 0
Runs t [] v u = u ≡ v
Runs t (step ∷ steps) v u = rules.Allowed t step v × Runs t steps (rules.after t step v) u

-- the call begins
abbrev pub begun : State → ℕ → CondvarCall → State
begun s t call = record s { calls = slice_set s.calls t (Some (call_for call)) }

-- It has begun, and nothing else has changed: at the variable that is no step yet, and adds a stated number of steps.
pub record IsBegun (t : ℕ) (call : CondvarCall) (s u : State) : Type 0 where
  pub became : u ≡ begun s t call
  pub stays : variable u ≡ variable s
  pub costs : left u ≡ left s + cost (length s.calls) call

-- A thread in a call has made an act at the variable, and is answered where its call is over. All that the act changes
-- follows from the call, it is steps of the rules, and one step less is left.
pub record IsStepped (t : ℕ) (reply : Option CondvarReply) (s u : State) : Type 0 where
  pub call : OpenCall
  pub here : call_at s t ≡ Some call
  pub replies : reply ≡ reply_of call
  pub became : u ≡ stepped s t call
  pub lawful : Runs t (steps_of s t call) (variable s) (variable u)
  pub pays : Pays s u

-- it takes v, the first, off the list
abbrev pub taken_by : State → ℕ → OpenCall → ℕ → State
taken_by s t c v =
    record s {
      calls = slice_set (slice_set s.calls v (option_map off_list (call_in s.calls v))) t (Some (took_one c));
      queue = remove s.queue 0;
    }

-- A notification has taken the first that waits, and nothing else has changed: that is the rules' step, and one step
-- less is left.
pub record IsTaken (t v : ℕ) (s u : State) : Type 0 where
  pub call : OpenCall
  pub here : call_at s t ≡ Some call
  pub first : slice_get s.queue 0 ≡ Some v
  pub became : u ≡ taken_by s t call v
  pub mutex : ℕ
  pub stay : Stay
  pub lawful : Runs t (rules.Release v mutex stay ∷ []) (variable s) (variable u)
  pub pays : Pays s u

-- A thread in a call was told what an act elsewhere gave, and nothing but its call has changed.
pub record IsTold (t : ℕ) (seen : Outside) (s u : State) : Type 0 where
  pub call : OpenCall
  pub here : call_at s t ≡ Some call
  pub became : u ≡ heard s t call seen
  pub lawful : Runs t (tells call s.queue seen) (variable s) (variable u)
  pub pays : Pays s u

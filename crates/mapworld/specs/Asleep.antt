-- When a thread is asleep, and when it has finished.
use Rattle.std.specs.Prelude.{◌≡◌, ◌⊎◌, ℕ, ◌+◌, true, List, length, Some, slice_get}
use Rattle.parking_lot_rules.specs.Lists.{occurs}
use Rattle.parking_lot_machine.specs.Machines.{is_asleep}
use Rattle.parking_lot_machine.specs.RowFits.{IsOwed}
use Rattle.parking_lot_machine.specs.Rows.{state, queue_at, first_key, second_key}
use Rattle.mapworld_calls.specs.declared.ask.Ask.{Ask}
use Rattle.mapworld_calls.specs.declared.ask.Walk.{Walk}
use Rattle.mapworld_calls.specs.Placed.{answered_of}
use Rattle.mapworld_state.specs.Locks.Views.{Shown}
use Rattle.mapworld_state.specs.declared.place.Request.{Request}
use Rattle.mapworld_state.specs.declared.place.Phase.{Phase}
use Rattle.mapworld_state.specs.declared.place.Phase.TheVariants as phase
use Rattle.mapworld_state.specs.Places.{Place}
use Rattle.mapworld_state.specs.State.{State}

-- The thread stands in one of the shard's two queues, and once; or it was taken from there by a thread that is still to
-- wake it.
abbrev pub IsWaiting : Shown → ℕ → ℕ → Type 0
IsWaiting locks t shard =
    (occurs t (queue_at (state locks.rows) (first_key shard)) + occurs t
    (queue_at (state locks.rows) (second_key shard)) ≡ 1)
    ⊎ ((by : ℕ) × IsOwed locks.rows.wakes by t)

-- it is before an admission, of a call on one key or of a walk
abbrev pub IsAsking : {K V D T A : Type 0} → Phase K V D T A → Type 0
IsAsking {K} {V} {D} f = ((r : Request K V D) × (f ≡ phase.Admit r)) ⊎ ((g : Walk D) × (f ≡ phase.Reach g))

-- the thread is before an admission, and sleeps in the call of its shard's lock, in which no deadline of it has come
pub record IsAsleep {K V S D T A : Type 0} (w : State K V S D T A) (t : ℕ) : Type 0 where
  pub place : Place K V D T A
  pub stands : slice_get w.places t ≡ Some place
  pub asks : IsAsking place.phase
  pub sleeps : is_asleep (state w.locks.rows) t ≡ true
  pub waits : IsWaiting w.locks t place.shard

-- all calls of the thread's program are answered; a thread that the world doesn't have has none
abbrev pub IsFinished : {K V S D T A : Type 0} → State K V S D T A → ℕ → Type 0
IsFinished {K} {V} {S} {D} w t = (program : List (Ask K V D)) → slice_get w.programs t ≡ Some program
    → answered_of w.replies t ≡ length program

-- What words, owners, queues and desks say of each other.
use Rattle.std.specs.Prelude.{◌≡◌, ◌≢◌, ◌↔◌, ℕ, ◌/◌, ◌≤◌, true, count_by, Some, slice_get}
use Rattle.lock_api_desk.specs.declared.mode.Mode.TheVariants as held
use Rattle.lock_api_desk.specs.Desk.{DeskState}
use Rattle.lock_api_desk.specs.Guards.{holds}
use Rattle.parking_lot_protocol.specs.RwTable.{is_written}
use Rattle.parking_lot_machine_calls.specs.declared.calls.OwnMode.TheVariants as own
use Rattle.parking_lot_machine.specs.Rows.{State, state, word_at}
use Rattle.parking_lot_machine.specs.SoundLaws.{ListsAreWaiters}
use Rattle.mapworld_state.specs.Locks.Aims.{is_within}
use Rattle.mapworld_state.specs.Locks.Fits.{LocksFit}
use Rattle.mapworld_state.specs.Locks.Stands.{Stand, stand_in}
use Rattle.mapworld_state.specs.Locks.Views.{Shown, mode_at, owner_in}

-- nobody waits as the next writer for the readers to leave
abbrev pub NobodyIsPending : State → ℕ → Type 0
NobodyIsPending s i = (t : ℕ) → mode_at s i t ≢ Some own.Pending

-- As many shared guards as the word counts readers, and an exclusive one exactly where the writer bit is set and nobody
-- is pending.
pub record CountsAsWord (s : State) (i : ℕ) (desk : DeskState (Unit {0})) : Type 0 where
  pub readers : count_by (holds held.Shared) desk.guards ≡ word_at s i / 16
  pub one : count_by (holds held.Exclusive) desk.guards ≤ 1
  pub writer : (count_by (holds held.Exclusive) desk.guards ≡ 1) ↔
      ((is_written (word_at s i) ≡ true) × NobodyIsPending s i)

abbrev pub DesksCountAsWords : Type 0
DesksCountAsWords = (sh : Shown) → LocksFit sh → (i : ℕ) (desk : DeskState (Unit {0}))
    → slice_get sh.desks i ≡ Some desk → CountsAsWord (state sh.rows) i desk

-- In a call a thread holds its shard in no other way than the call is about: one that asks holds nothing or what it
-- asks for, one that gives up holds that or nothing, and one that turns its hold holds it.
abbrev pub CallsHoldWithin : Type 0
CallsHoldWithin = (sh : Shown) → LocksFit sh → (t : ℕ) (st : Stand) → stand_in sh t ≡ Some st
    → is_within st.aim (owner_in sh st.shard t) ≡ true

-- the queues of a shard's keys have exactly the threads that wait there, each once
abbrev pub QueuesAreWaiters : Type 0
QueuesAreWaiters = (sh : Shown) → LocksFit sh → ListsAreWaiters (state sh.rows)

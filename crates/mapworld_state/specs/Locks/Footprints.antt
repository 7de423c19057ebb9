-- What a step reaches of the locks.
use Rattle.std.specs.Prelude.{◌≡◌, ◌≢◌, ◌⊎◌, ℕ, Bool}
use Rattle.parking_lot_machine.specs.Rows.{State, first_key, queue_at, second_key, state, word_at}
use Rattle.mapworld_state.specs.Locks.Fits.{LocksFit}
use Rattle.mapworld_state.specs.Locks.Steps.{LockMoves}
use Rattle.mapworld_state.specs.Locks.Views.{Shown}

-- word and queues of a lock stay
pub record StaysAt (s u : State) (i : ℕ) : Type 0 where
  pub word : word_at u i ≡ word_at s i
  pub first : queue_at u (first_key i) ≡ queue_at s (first_key i)
  pub second : queue_at u (second_key i) ≡ queue_at s (second_key i)

-- Of lock i the word changes, or one of the two queues, or nothing, and nothing of any other lock.
pub record TouchesOnly (i : ℕ) (s u : State) : Type 0 where
  pub elsewhere : (j : ℕ) → j ≢ i → StaysAt s u j
  pub word_or_queues : (word_at u i ≡ word_at s i)
      ⊎ ((queue_at u (first_key i) ≡ queue_at s (first_key i))
      × (queue_at u (second_key i) ≡ queue_at s (second_key i)))
  pub one_queue : (queue_at u (first_key i) ≡ queue_at s (first_key i))
      ⊎ (queue_at u (second_key i) ≡ queue_at s (second_key i))

abbrev pub StepsTouchOneLock : Type 0
StepsTouchOneLock = (t : ℕ) (fair : Bool) (old new : Shown) → LocksFit old → (x : LockMoves t fair old new)
    → TouchesOnly x.stand.shard (state old.rows) (state new.rows)

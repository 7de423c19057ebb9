-- What one step does, whatever its kind: one thing, of its own thread.
use Rattle.std.specs.Prelude.{◌≡◌, ◌≢◌, ◌⊎◌, ℕ, Bool, true, false, [], ◌∷◌, ◌++◌, Option, Some, None, slice_get}
use Rattle.std.specs.Option.{option_map}
use Rattle.parking_lot_machine_calls.specs.declared.seat.Core.{Core}
use Rattle.parking_lot_machine.specs.Rows.{call_at, state}
use Rattle.mapworld_calls.specs.declared.reply.Reply.{Reply}
use Rattle.mapworld_state.specs.declared.step.Step.{Step}
use Rattle.mapworld_state.specs.Footprint.{ChangesLock, KeepsLock, KeepsLocks, KeepsPairs, OthersKeepPairs}
use Rattle.mapworld_state.specs.Locks.Stands.{stand_in}
use Rattle.mapworld_state.specs.Locks.Views.{Shown}
use Rattle.mapworld_state.specs.State.{State, next_step, started_of}

-- where a thread stands in the call of a lock that it is in
abbrev pub core_in : Shown → ℕ → Option Core
core_in locks t = option_map (λ c. c.core) (call_at (state locks.rows) t)

-- Of the calls that other threads are in at locks: what each is about stays, and no more than one of them goes on, by
-- being woken.
pub record KeepsCalls (t : ℕ) (locks locks' : Shown) : Type 0 where
  pub about : (v : ℕ) → v ≢ t → stand_in locks' v ≡ stand_in locks v
  pub woken : ℕ
  pub others : (v : ℕ) → v ≢ t → v ≢ woken → core_in locks' v ≡ core_in locks v

module _ {K V S D T A : Type 0} (eq : K → K → Bool) (w : State K V S D T A) (s : Step) (w' : State K V S D T A) where
  -- no call starts and none is answered
  pub record StaysInCall : Type 0 where
    pub started : started_of w' s.thread ≡ started_of w s.thread
    pub replies : w'.replies ≡ w.replies

  -- the thread's call is answered, with its start, at this step
  pub record IsReplied : Type 0 where
    pub reply : Reply K V T A
    pub thread : reply.thread ≡ s.thread
    pub start : started_of w s.thread ≡ Some reply.start
    pub end : reply.end ≡ next_step w
    pub over : started_of w' s.thread ≡ None
    pub replies : w'.replies ≡ w.replies ++ reply ∷ []

  -- It starts a call; or looks, for which a shard may grow or shrink, and every key keeps its pair; or does a deed on
  -- one pair; or changes of one lock the word or one queue; or answers. No two of these are one step, and what isn't
  -- named stays.
  pub data DoesOne : Type 0 where
    starts : started_of w s.thread ≡ None → started_of w' s.thread ≡ Some (next_step w) → w'.replies ≡ w.replies
        → KeepsPairs eq w w' → KeepsLocks w.locks w'.locks → DoesOne
    looks : StaysInCall → KeepsPairs eq w w' → KeepsLocks w.locks w'.locks → DoesOne
    deed : StaysInCall → (key : K) → OthersKeepPairs eq w w' key → KeepsLocks w.locks w'.locks → DoesOne
    at_lock : StaysInCall → (shard : ℕ) → KeepsPairs eq w w' → ((i : ℕ) → i ≢ shard → KeepsLock w.locks w'.locks i)
        → ChangesLock w.locks w'.locks shard → DoesOne
    answers : IsReplied → KeepsPairs eq w w' → KeepsLocks w.locks w'.locks → DoesOne

  -- its deadline comes: no call of another thread goes on, and no pair, no word and no queue is another
  pub record Comes : Type 0 where
    pub stays : StaysInCall
    pub pairs : KeepsPairs eq w w'
    pub locks : KeepsLocks w.locks w'.locks
    pub alone : (t : ℕ) → t ≢ s.thread → core_in w'.locks t ≡ core_in w.locks t

  -- a step of the thread's own does one thing, and one that is its deadline lets that come; and no other thread's place
  -- is another
  pub record IsAtomic : Type 0 where
    pub places : (t : ℕ) → t ≢ s.thread → slice_get w'.places t ≡ slice_get w.places t
    pub calls : KeepsCalls s.thread w.locks w'.locks
    pub steps : w'.steps ≡ w.steps ++ s ∷ []
    pub does : ((s.deadline ≡ false) × DoesOne) ⊎ ((s.deadline ≡ true) × Comes)

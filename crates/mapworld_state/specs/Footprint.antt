-- What one step reaches: the place of its thread, and at most one pair, one word or one queue.
use Rattle.std.specs.Prelude.{◌≡◌, ◌≢◌, ℕ, ◌⊎◌, Bool, false, [], ◌∷◌, ◌++◌, slice_get}
use Rattle.parking_lot_machine.specs.Rows.{state, word_at, queue_at, first_key, second_key}
use Rattle.mapworld_calls.specs.declared.reply.Reply.{Reply}
use Rattle.mapworld_calls.specs.Pairs.{pair_of}
use Rattle.mapworld_state.specs.Locks.Views.{Shown}
use Rattle.mapworld_state.specs.declared.step.Step.{Step}
use Rattle.mapworld_state.specs.State.{State, pairs_of}

-- every key has the pair that it had, or none
abbrev pub KeepsPairs : {K V S D T A : Type 0} → (K → K → Bool) → State K V S D T A → State K V S D T A → Type 0
KeepsPairs {K} eq w w' = (q : K) → pair_of eq (pairs_of w') q ≡ pair_of eq (pairs_of w) q

-- all other keys have the pairs that they had
abbrev pub OthersKeepPairs : {K V S D T A : Type 0} → (K → K → Bool) → State K V S D T A → State K V S D T A → K
    → Type 0
OthersKeepPairs {K} eq w w' key = (q : K) → eq key q ≡ false → pair_of eq (pairs_of w') q ≡ pair_of eq (pairs_of w) q

-- a shard's word, its queues, and the desk beside its word
abbrev pub word_of : Shown → ℕ → ℕ
word_of locks shard = word_at (state locks.rows) shard

abbrev pub KeepsQueue : Shown → Shown → ℕ → Type 0
KeepsQueue locks locks' key = queue_at (state locks'.rows) key ≡ queue_at (state locks.rows) key

pub record KeepsLock (locks locks' : Shown) (shard : ℕ) : Type 0 where
  pub word : word_of locks' shard ≡ word_of locks shard
  pub first : KeepsQueue locks locks' (first_key shard)
  pub second : KeepsQueue locks locks' (second_key shard)
  pub desk : slice_get locks'.desks shard ≡ slice_get locks.desks shard

abbrev pub KeepsLocks : Shown → Shown → Type 0
KeepsLocks locks locks' = (shard : ℕ) → KeepsLock locks locks' shard

-- of a shard's word and its two queues at most one is another; where the word is, the desk may be
pub data ChangesLock (locks locks' : Shown) (shard : ℕ) : Type 0 where
  the_word : KeepsQueue locks locks' (first_key shard) → KeepsQueue locks locks' (second_key shard)
      → ChangesLock locks locks' shard
  first_queue : word_of locks' shard ≡ word_of locks shard → KeepsQueue locks locks' (second_key shard)
      → ChangesLock locks locks' shard
  second_queue : word_of locks' shard ≡ word_of locks shard → KeepsQueue locks locks' (first_key shard)
      → ChangesLock locks locks' shard

-- of the map and its locks at most one pair is another, or one word, or one queue
pub data Touches {K V S D T A : Type 0} (eq : K → K → Bool) (w w' : State K V S D T A) : Type 0 where
  neither : KeepsPairs eq w w' → KeepsLocks w.locks w'.locks → Touches eq w w'
  one_pair : (key : K) → OthersKeepPairs eq w w' key → KeepsLocks w.locks w'.locks → Touches eq w w'
  one_lock : (shard : ℕ) → KeepsPairs eq w w' → ((i : ℕ) → i ≢ shard → KeepsLock w.locks w'.locks i)
      → ChangesLock w.locks w'.locks shard → Touches eq w w'

-- a step of its thread: no other thread's place is another, and none but its thread is replied to
pub record HasFootprint {K V S D T A : Type 0} (eq : K → K → Bool) (w : State K V S D T A) (s : Step)
    (w' : State K V S D T A) : Type 0 where
  pub places : (t : ℕ) → t ≢ s.thread → slice_get w'.places t ≡ slice_get w.places t
  pub touches : Touches eq w w'
  pub replies : (w'.replies ≡ w.replies)
      ⊎ ((r : Reply K V T A) × (r.thread ≡ s.thread) × (w'.replies ≡ w.replies ++ r ∷ []))

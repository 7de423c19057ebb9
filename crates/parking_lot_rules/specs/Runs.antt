-- Whole runs: any schedule, of any number of threads, over any locks and buckets.
use Rattle.std.specs.Prelude.{◌≡◌, ◌≢◌, ℕ, Bool, List, [], ◌∷◌, None, replicate}
use Rattle.parking_lot_rules.specs.Roles.{Shares, Idle}
use Rattle.parking_lot_rules.specs.Clauses.{Word}
use Rattle.parking_lot_rules.specs.Lock.{Lock}
use Rattle.parking_lot_rules.specs.Steps.{Step}
use Rattle.parking_lot_rules.specs.World.{Place, World, lock_at, MayStep, world_after}

-- one step of a schedule
pub record Move : Type 0 where
  pub thread : ℕ
  pub lock : ℕ
  pub step : Step

-- the world after it
abbrev pub moved : (ℕ → ℕ) → Move → World → World
moved bucket m w = world_after bucket m.lock m.thread m.step w

-- the moves can be made one after another, and lead from the first world to the last
abbrev pub Runs : (ℕ → ℕ) → (ℕ → Bool) → World → List Move → World → Type 0
Runs bucket recursive w [] v = v ≡ w
Runs bucket recursive w (m ∷ ms) v = MayStep bucket recursive m.lock m.thread m.step w
    × Runs bucket recursive (moved bucket m w) ms v

-- a word without owners and bits
abbrev pub zero_word : Word
zero_word = record { readers = 0; writer = 0; upgradable = 0; parked2 = 0; parked1 = 0 }

-- a thread that owns nothing and does nothing
abbrev pub idle : Place
idle = record { owns = λ i. Shares 0; at = 0; does = Idle }

-- so many threads like that, and every lock unlocked
abbrev pub at_rest : ℕ → World
at_rest threads = record {
  words = λ i. zero_word;
  queues = λ k. [];
  places = replicate threads idle;
  entered = λ b. None;
}

-- Some run leads here. `bucket` says which bucket a key is in, `recursive` which locks are recursive.
pub record IsReached (bucket : ℕ → ℕ) (recursive : ℕ → Bool) (w : World) : Type 0 where
  pub threads : ℕ
  pub moves : List Move
  pub run : Runs bucket recursive (at_rest threads) moves w

-- what holds of each lock at every moment of every run
abbrev pub Always : (Lock → Type 0) → Type 0
Always P = (bucket : ℕ → ℕ) (recursive : ℕ → Bool) (w : World) (i : ℕ) → IsReached bucket recursive w → P (lock_at w i)

-- what holds of every step at every lock, of a thread, what it does and the lock before and after
abbrev pub Throughout : (Bool → ℕ → Step → Lock → Lock → Type 0) → Type 0
Throughout P = (bucket : ℕ → ℕ) (recursive : ℕ → Bool) (w : World) (m : Move) → IsReached bucket recursive w
    → MayStep bucket recursive m.lock m.thread m.step w
    → P (recursive m.lock) m.thread m.step (lock_at w m.lock) (lock_at (moved bucket m w) m.lock)

-- a step at one lock changes no other
abbrev pub StaysAtItsLock : Type 0
StaysAtItsLock = (bucket : ℕ → ℕ) (recursive : ℕ → Bool) (w : World) (m : Move) (i : ℕ) → IsReached bucket recursive w
    → MayStep bucket recursive m.lock m.thread m.step w → i ≢ m.lock
    → lock_at (moved bucket m w) i ≡ lock_at w i

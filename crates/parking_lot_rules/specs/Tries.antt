-- Tries: a load, and then a limited number of exchanges.
use Rattle.std.specs.Prelude.{◌≡◌, ◌≢◌, ℕ, zero, suc, ◌+◌, ◌<◌, ◌≤◌, ◌⊎◌, Bool, false, ◌==◌, List, [], ◌∷◌, length}
use Rattle.std.specs.Prelude.{slice_get, Some}
use Rattle.std.specs.List.{count_by}
use Rattle.parking_lot_rules.specs.Roles.{Shared, Exclusive, Upgradable, Shares, Upgrades, Idle, Seeks, Role, away}
use Rattle.parking_lot_rules.specs.Classes.{Readers, Upgraders, Pending, Writers}
use Rattle.parking_lot_rules.specs.Clauses.{Word, number}
use Rattle.parking_lot_rules.specs.Lock.{Lock}
use Rattle.parking_lot_rules.specs.Laws.{holds}
use Rattle.parking_lot_rules.specs.World.{World, lock_at}
use Rattle.parking_lot_rules.specs.Runs.{Move, Runs, IsReached}
use Rattle.parking_lot_rules.specs.Mutex as mutex
use Rattle.parking_lot_rules.specs.Mutex.{Mutex}

-- What other threads do before an exchange, and where that leads.
pub record Interference (W E : Type 0) : Type 0 where
  pub steps : List E
  pub next : W

-- A try that has seen the word where it stands, and has so many exchanges left, is refused: that word keeps it out; or
-- no exchange is left; or others make steps, its exchange is lost, since the word is another one by then, and the try
-- goes on with the word that it saw.
abbrev pub IsRefused : {W E V : Type 0} → (W → List E → W → Type 0) → (W → V) → (V → Type 0) → ℕ → W
    → List (Interference W E) → Type 0
IsRefused make word out zero w [] = Unit {0}
IsRefused make word out zero w (s ∷ stages) = ⊥
IsRefused make word out (suc n) w [] = out (word w)
IsRefused make word out (suc n) w (s ∷ stages) = make w s.steps s.next × (word s.next ≢ word w)
    × IsRefused make word out n s.next stages

-- how much all stages count together
abbrev pub in_all : {W E : Type 0} → (List E → ℕ) → List (Interference W E) → ℕ
in_all count [] = 0
in_all count (s ∷ stages) = count s.steps + in_all count stages

-- what is tried
pub data Tried : Type 0 where
  TryShared : Tried
  TryExclusive : Tried
  TryUpgradable : Tried
  TryUpgrade : Tried

-- how many exchanges it makes at most
abbrev pub limit : Tried → ℕ
limit TryShared = 64
limit TryExclusive = 1
limit TryUpgradable = 64
limit TryUpgrade = 64

-- the word keeps it out
abbrev pub KeepsOut : Bool → Tried → Word → Type 0
KeepsOut recursive TryShared w = (0 < w.writer) × ((recursive ≡ false) ⊎ (w.readers ≡ 0))
KeepsOut recursive TryExclusive w = 0 < number w
KeepsOut recursive TryUpgradable w = 0 < w.writer + w.upgradable
KeepsOut recursive TryUpgrade w = w.readers ≢ 1

-- who tries; `n`: the shared holds that it has
abbrev pub trying : Tried → ℕ → Role
trying TryShared n = record { owns = Shares n; does = Seeks Shared false }
trying TryExclusive n = record { owns = Shares 0; does = Seeks Exclusive false }
trying TryUpgradable n = record { owns = Shares 0; does = Seeks Upgradable false }
trying TryUpgrade n = record { owns = Upgrades; does = Idle }

-- another thread keeps it out: an exclusive or pending owner; any thread that owns the lock or is in a call there; one
-- of these or an upgradable owner; another reader
abbrev pub Cause : Tried → Lock → ℕ → Type 0
Cause TryShared l t = (u : ℕ) × (u ≢ t) × (0 < holds Pending l u + holds Writers l u)
Cause TryExclusive l t = (u : ℕ) × (r : Role) × (u ≢ t) × (slice_get l.roles u ≡ Some r) × (r ≢ away)
Cause TryUpgradable l t = (u : ℕ) × (u ≢ t) × (0 < holds Pending l u + holds Writers l u + holds Upgraders l u)
Cause TryUpgrade l t = (u : ℕ) × (u ≢ t) × (0 < holds Readers l u)

-- the moves are other threads'
abbrev pub AreOthers : ℕ → List Move → Type 0
AreOthers t [] = Unit {0}
AreOthers t (m ∷ ms) = (m.thread ≢ t) × AreOthers t ms

abbrev pub others_run : (ℕ → ℕ) → (ℕ → Bool) → ℕ → World → List Move → World → Type 0
others_run bucket recursive t w ms v = Runs bucket recursive w ms v × AreOthers t ms

-- how many of them are at a lock
abbrev pub moves_at : ℕ → List Move → ℕ
moves_at i ms = count_by (λ (m : Move). m.lock == i) ms

-- A try that is refused saw, at some moment, a word that kept it out, and some other thread is the cause at that
-- moment; or other threads made as many moves at that lock during the try as it has exchanges.
abbrev pub RefusedTriesHaveACause : Type 0
RefusedTriesHaveACause = (bucket : ℕ → ℕ) (recursive : ℕ → Bool) (w : World) (i t n : ℕ) (tried : Tried)
    (stages : List (Interference World Move)) → IsReached bucket recursive w
    → slice_get (lock_at w i).roles t ≡ Some (trying tried n) → IsRefused (others_run bucket recursive t)
    (λ (v : World). v.words i) (KeepsOut (recursive i) tried) (limit tried) w stages
    → ((v : World) × IsReached bucket recursive v × KeepsOut (recursive i) tried (v.words i)
    × Cause tried (lock_at v i) t) ⊎ (limit tried ≤ in_all (moves_at i) stages)

-- a mutex: the steps are all at it
abbrev pub AreOthersThere : ℕ → List (ℕ × mutex.Step) → Type 0
AreOthersThere t [] = Unit {0}
AreOthersThere t (e ∷ es) = (e.0 ≢ t) × AreOthersThere t es

abbrev pub others_run_there : ℕ → Mutex → List (ℕ × mutex.Step) → Mutex → Type 0
others_run_there t m es n = mutex.Runs m es n × AreOthersThere t es

abbrev pub OwnerOf : Mutex → ℕ → Type 0
OwnerOf m t = (u : ℕ) × (r : mutex.Role) × (u ≢ t) × (slice_get m.roles u ≡ Some r) × (0 < mutex.weight mutex.Owning r)

abbrev pub IsReachedMutex : Mutex → Type 0
IsReachedMutex m = (threads : ℕ) × (steps : List (ℕ × mutex.Step)) × mutex.Runs (mutex.unlocked threads) steps m

-- A try at a mutex that is refused saw an owner, another thread; or others made 64 steps there during it.
abbrev pub RefusedTriesAtAMutexHaveACause : Type 0
RefusedTriesAtAMutexHaveACause = (m : Mutex) (t : ℕ) (stages : List (Interference Mutex (ℕ × mutex.Step)))
    → IsReachedMutex m → slice_get m.roles t ≡ Some (mutex.doing (mutex.Seeks false))
    → IsRefused (others_run_there t) (λ (v : Mutex). v.word) (λ (w : mutex.Word). 0 < w.locked) 64 m stages
    → ((v : Mutex) × IsReachedMutex v × (0 < v.word.locked) × OwnerOf v t) ⊎ (64 ≤ in_all (λ es. length es) stages)

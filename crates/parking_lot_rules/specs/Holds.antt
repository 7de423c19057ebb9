-- The shared holds of a thread at a lock: how many it may have, and that the word counts them all.
use Rattle.std.specs.Prelude.{◌≡◌, ℕ, ◌+◌, ◌*◌, ◌≤◌, ◌<◌, ◌^◌, Bool, List, [], ◌∷◌, length, slice_get, Some}
use Rattle.std.specs.List.{sum_by}
use Rattle.parking_lot_rules.specs.Roles.{Shared, Owned, Shares, Excludes, Upgrades, Handed, Phase, Seeks, Taken1, Role}
use Rattle.parking_lot_rules.specs.Classes.{Readers, Upgraders}
use Rattle.parking_lot_rules.specs.Clauses.{number}
use Rattle.parking_lot_rules.specs.Lock.{Lock}
use Rattle.parking_lot_rules.specs.Plain.{Begin}
use Rattle.parking_lot_rules.specs.Steps.{Step, Alone}
use Rattle.parking_lot_rules.specs.Laws.{held, holds}
use Rattle.parking_lot_rules.specs.World.{World, lock_at}
use Rattle.parking_lot_rules.specs.Runs.{Move, Runs, at_rest}

-- how many shared holds a thread has for good
abbrev pub shared_holds : Owned → ℕ
shared_holds (Shares n) = n
shared_holds Excludes = 0
shared_holds Upgrades = 0

-- 1 for a thread that was handed one, and doesn't know it yet
abbrev pub handed_one : Phase → ℕ
handed_one (Taken1 Shared by Handed stay) = 1
handed_one phase = 0

-- 1 for a thread that asks for one more
abbrev pub asks_for_one : Phase → ℕ
asks_for_one (Seeks mode woken) = 1
asks_for_one phase = 0

-- its holds, and the one that it asks for, are within a limit
abbrev pub IsWithin : ℕ → Role → Type 0
IsWithin limit r = shared_holds r.owns + asks_for_one r.does ≤ limit

-- a call begins only where there is room for one more
abbrev pub HasRoom : ℕ → Step → Type 0
HasRoom limit (Alone (Begin n mode)) = n + 1 ≤ limit
HasRoom limit step = Unit {0}

abbrev pub AllHaveRoom : ℕ → List Move → Type 0
AllHaveRoom limit [] = Unit {0}
AllHaveRoom limit (m ∷ ms) = HasRoom limit m.step × AllHaveRoom limit ms

-- some run in which no call begins without room leads here
pub record IsReachedWithin (bucket : ℕ → ℕ) (recursive : ℕ → Bool) (limit : ℕ) (w : World) : Type 0 where
  pub threads : ℕ
  pub moves : List Move
  pub run : Runs bucket recursive (at_rest threads) moves w
  pub room : AllHaveRoom limit moves

-- the holds of all threads
abbrev pub all_holds : Lock → ℕ
all_holds l = sum_by (λ (r : Role). shared_holds r.owns) l.roles

abbrev pub all_handed : Lock → ℕ
all_handed l = sum_by (λ (r : Role). handed_one r.does) l.roles

-- The word of a lock counts all holds, those that were handed over, and the upgradable one. No thread has more holds
-- than the limit; so the word is a small number.
pub record HoldsAreCounted (limit : ℕ) (l : Lock) : Type 0 where
  pub counted : l.word.readers ≡ all_holds l + all_handed l + held Upgraders l
  pub each : (u : ℕ) (r : Role) → slice_get l.roles u ≡ Some r → shared_holds r.owns ≤ limit
  pub shared : (u : ℕ) → holds Readers l u ≤ limit
  pub few : l.word.readers ≤ limit * length l.roles + 1
  pub small : number l.word ≤ 16 * (limit * length l.roles) + 31

abbrev pub HoldsAreWithin : Type 0
HoldsAreWithin = (bucket : ℕ → ℕ) (recursive : ℕ → Bool) (limit : ℕ) (w : World) (i : ℕ) → 1 ≤ limit
    → IsReachedWithin bucket recursive limit w → HoldsAreCounted limit (lock_at w i)

-- of up to 65,536 threads with up to 255 holds each
abbrev pub WordsAreSmall : Type 0
WordsAreSmall = (bucket : ℕ → ℕ) (recursive : ℕ → Bool) (w : World) (i : ℕ) → IsReachedWithin bucket recursive 255 w
    → length w.places ≤ 65536 → number (w.words i) < 2 ^ 60

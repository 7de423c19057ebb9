-- The guards of a desk by their parties.
use Rattle.std.specs.Prelude.{◌≡◌, ◌≢◌, ◌⊎◌, ℕ, Bool, false, ◌==◌, List, [], ◌∷◌, Option, Some, None, filter}
use Rattle.lock_api_desk.specs.declared.mode.Mode.{Mode}
use Rattle.lock_api_desk.specs.Guards.{Guard, excludes}

-- the guard is the party's
abbrev pub is_of : ℕ → Guard → Bool
is_of party guard = guard.party == party

abbrev pub guards_of : ℕ → List Guard → List Guard
guards_of party guards = filter (is_of party) guards

-- A held guard. Its number is its party's: nobody holds a shard twice.
abbrev pub held_guard : Mode → ℕ → Guard
held_guard mode party = record { number = party; mode = mode; party = party; is_aside = false }

-- the guards of a party that holds so
abbrev pub seat_of : ℕ → Option Mode → List Guard
seat_of party None = []
seat_of party (Some mode) = held_guard mode party ∷ []

-- each party has the guard that it should
abbrev pub AreSeated : (ℕ → Option Mode) → List Guard → Type 0
AreSeated modes guards = (party : ℕ) → guards_of party guards ≡ seat_of party (modes party)

-- Each party has the guard that it should, or none yet.
abbrev pub AreHalfSeated : (ℕ → Option Mode) → List Guard → Type 0
AreHalfSeated modes guards = (party : ℕ) → (guards_of party guards ≡ [])
    ⊎ (guards_of party guards ≡ seat_of party (modes party))

-- who holds so may hold so at one time
abbrev pub GoTogether : (ℕ → Option Mode) → Type 0
GoTogether modes = (t v : ℕ) (a b : Mode) → t ≢ v → modes t ≡ Some a → modes v ≡ Some b → excludes a b ≡ false

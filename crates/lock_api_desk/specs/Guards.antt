-- The machine of guards: who holds what, and whether one more guard is admitted.
use Rattle.std.specs.Prelude.{ℕ, Bool, true, false, not, ◌&&◌, ◌==◌, nat_le, List, Option, find, filter, map, count_by}
use Rattle.std.specs.Prelude.{if◌then◌else◌}
use Rattle.std.specs.List.{list_any}
use Rattle.lock_api_desk.specs.declared.mode.Mode.{Mode}
use Rattle.lock_api_desk.specs.declared.mode.Mode.TheVariants.{Shared, Exclusive, Upgradable}

-- a guard: its number, how it holds, whose it is, and whether it is set aside
pub record Guard : Type 0 where
  pub number : ℕ
  pub mode : Mode
  pub party : ℕ
  pub is_aside : Bool

-- a guard held in the first mode keeps out a new one in the second
abbrev pub excludes : Mode → Mode → Bool
excludes Shared Shared = false
excludes Shared Exclusive = true
excludes Shared Upgradable = false
excludes Exclusive Shared = true
excludes Exclusive Exclusive = true
excludes Exclusive Upgradable = true
excludes Upgradable Shared = false
excludes Upgradable Exclusive = true
excludes Upgradable Upgradable = true

-- the mode counts against the limit of readers
abbrev pub is_reader : Mode → Bool
is_reader Shared = true
is_reader Exclusive = false
is_reader Upgradable = true

-- the two modes are one
abbrev pub is_mode : Mode → Mode → Bool
is_mode Shared Shared = true
is_mode Shared Exclusive = false
is_mode Shared Upgradable = false
is_mode Exclusive Shared = false
is_mode Exclusive Exclusive = true
is_mode Exclusive Upgradable = false
is_mode Upgradable Shared = false
is_mode Upgradable Exclusive = false
is_mode Upgradable Upgradable = true

-- the guard has that number
abbrev pub has_number : ℕ → Guard → Bool
has_number number guard = guard.number == number

-- the guard isn't set aside
abbrev pub is_held : Guard → Bool
is_held guard = not guard.is_aside

-- it is held, in that mode
abbrev pub holds : Mode → Guard → Bool
holds mode guard = is_held guard && is_mode mode guard.mode

-- the guard of that number, held or set aside
abbrev pub guard_of : ℕ → List Guard → Option Guard
guard_of number guards = find (has_number number) guards

-- the first guard of that number that isn't set aside
abbrev pub held_of : ℕ → List Guard → Option Guard
held_of number guards = find (λ guard. has_number number guard && is_held guard) guards

-- the number is held or set aside
abbrev pub is_in_use : ℕ → List Guard → Bool
is_in_use number guards = list_any (has_number number) guards

-- a held guard excludes the mode
abbrev pub excluded : Mode → List Guard → Bool
excluded mode guards = list_any (λ guard. is_held guard && excludes guard.mode mode) guards

-- how many shared and upgradable guards are held
abbrev pub readers : List Guard → ℕ
readers guards = count_by (λ guard. is_held guard && is_reader guard.mode) guards

-- one more guard of the mode would pass the limit of readers
abbrev pub is_full : ℕ → Mode → List Guard → Bool
is_full limit mode guards = is_reader mode && nat_le limit (readers guards)

-- a new guard of the mode is admitted
abbrev pub granted : ℕ → Mode → List Guard → Bool
granted limit mode guards = not (excluded mode guards) && not (is_full limit mode guards)

-- a guard of another number is held
abbrev pub is_held_beside : ℕ → List Guard → Bool
is_held_beside number guards = list_any (λ guard. not (has_number number guard) && is_held guard) guards

-- with the guard of that number changed, in its place
abbrev pub amend : (Guard → Guard) → ℕ → List Guard → List Guard
amend change number guards = map (λ guard. if has_number number guard then change guard else guard) guards

-- without the guard of that number, and the rest in order
abbrev pub without : ℕ → List Guard → List Guard
without number guards = filter (λ guard. not (has_number number guard)) guards

-- the same guard, set aside or held
abbrev pub put_aside : Bool → Guard → Guard
put_aside is_aside guard = record { number = guard.number; mode = guard.mode; party = guard.party; is_aside = is_aside }

-- the same guard, held in the mode
abbrev pub held_in : Mode → Guard → Guard
held_in mode guard = record { number = guard.number; mode = mode; party = guard.party; is_aside = false }

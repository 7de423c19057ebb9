-- Where a guard stands in the list, and what a desk keeps.
use Rattle.lock_api_desk.specs.declared.mode.Mode.{Mode}
use Rattle.lock_api_desk.specs.declared.mode.Mode.TheVariants.{Shared, Exclusive, Upgradable}
use Rattle.std.specs.Prelude.{◌≡◌, ℕ, Bool, true, false, List, Some, Result, slice_get, MatchResult}
use Rattle.lock_api_desk.specs.declared.fault.DeskFault.{DeskFault}
use Rattle.lock_api_desk.specs.declared.hold.Entry.{Entry}
use Rattle.lock_api_desk.specs.Guards.{Guard, guard_of, holds, amend, held_in}
use Rattle.lock_api_desk.specs.Out.{Out, out_of}
use Rattle.lock_api_desk.specs.Desk.{IsSound}
use Rattle.lock_api_desk.specs.Entries.{guards_in}

-- the guard of that number stands at that place
pub record StandsAt (number : ℕ) (guards : List Guard) (place : ℕ) : Type 0 where
  pub guard : Guard
  pub at : slice_get guards place ≡ Some guard
  pub number_is : guard.number ≡ number
  pub found : guard_of number guards ≡ Some guard

-- a place was found, and it is the guard's
abbrev pub IsPlaceOf : ℕ → List Guard → Result ℕ DeskFault → Type 0
IsPlaceOf number guards result = MatchResult result (StandsAt number guards) (λ fault. ⊥)

-- a guard is exclusive for a while: it stands where it stood, and made upgradable again it is as before
pub record IsLifted (number : ℕ) (old new : List Guard) (place : ℕ) : Type 0 where
  pub at : StandsAt number new place
  pub exclusive : holds Exclusive at.guard ≡ true
  pub back : amend (held_in Upgradable) number new ≡ old

-- what is out of a raw state is what the entries hold, and these are sound
pub record Stands {S E U : Type 0} (limit : ℕ) (out : Out) (entries : List (Entry S E U)) : Type 0 where
  pub out_is : out ≡ out_of (guards_in entries)
  pub sound : IsSound limit (guards_in entries)

-- a guard of the first mode may become one of the second, whatever other guards are held
abbrev pub converts : Mode → Mode → Bool
converts Exclusive to = true
converts Upgradable Shared = true
converts from to = false

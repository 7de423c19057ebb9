-- What a desk is to its callers, and what each kind of call makes of it.
use Rattle.std.specs.Prelude.{ℕ, Bool, false, ◌==◌, List, [], ◌∷◌, ◌++◌, map}
use Rattle.std.specs.List.{IsDistinct}
use Rattle.lock_api_desk.specs.declared.mode.Mode.{Mode}
use Rattle.lock_api_desk.specs.Guards.{Guard, amend, held_in, put_aside, without}
use Rattle.lock_api_desk.specs.Out.{IsOrderly, out_of}

-- a desk: its limit of readers, for how many guards there is memory, its guards in the order in which they came, its
-- value
pub record DeskState (T : Type 0) : Type 0 where
  pub limit : ℕ
  pub room : ℕ
  pub guards : List Guard
  pub value : T

-- numbers are distinct, and the holds that are out go together and are within the limit
pub record IsSound (limit : ℕ) (guards : List Guard) : Type 0 where
  pub distinct : IsDistinct (λ a b. a == b) (map (λ guard. guard.number) guards)
  pub orderly : IsOrderly limit (out_of guards)

module _ {T : Type 0} where
  abbrev pub with_guards : List Guard → DeskState T → DeskState T
  with_guards guards desk = record { limit = desk.limit; room = desk.room; guards = guards; value = desk.value }

  -- with room for that many guards
  abbrev pub with_room : ℕ → DeskState T → DeskState T
  with_room room desk = record { limit = desk.limit; room = room; guards = desk.guards; value = desk.value }

  -- with that value
  abbrev pub with_value : T → DeskState T → DeskState T
  with_value value desk = record { limit = desk.limit; room = desk.room; guards = desk.guards; value = value }

  -- with one more guard, held, behind the others
  abbrev pub admitted : Mode → ℕ → ℕ → DeskState T → DeskState T
  admitted mode party number desk =
      with_guards (desk.guards ++ record { number = number; mode = mode; party = party; is_aside = false } ∷ []) desk

  -- without the guard
  abbrev pub released : ℕ → DeskState T → DeskState T
  released number desk = with_guards (without number desk.guards) desk

  -- with the guard held in that mode
  abbrev pub turned : Mode → ℕ → DeskState T → DeskState T
  turned mode number desk = with_guards (amend (held_in mode) number desk.guards) desk

  -- with the guard set aside, or taken up again
  abbrev pub set_apart : Bool → ℕ → DeskState T → DeskState T
  set_apart is_aside number desk = with_guards (amend (put_aside is_aside) number desk.guards) desk

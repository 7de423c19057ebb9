-- What a step of a thread makes of the desk of its shard.
use Rattle.std.specs.Prelude.{◌≡◌, ℕ, ◌<◌, ◌≤◌, Bool, true, false, ◌&&◌, if◌then◌else◌, List, [], ◌∷◌, Option, Some}
use Rattle.std.specs.Prelude.{None, is_some, is_none, length}
use Rattle.lock_api_desk.specs.declared.mode.Mode.{Mode}
use Rattle.lock_api_desk.specs.declared.mode.Mode.TheVariants as held
use Rattle.lock_api_desk.specs.Guards.{granted, held_of, holds, is_held, is_in_use}
use Rattle.lock_api_desk.specs.Desk.{DeskState, admitted, released, turned}
use Rattle.lock_api_desk.specs.Refusals.{guard_refusal}
use Rattle.mapworld_state.specs.Locks.Seats.{AreHalfSeated, GoTogether}

-- a new guard is admitted, and there is room for it
pub record MayAdmit (t : ℕ) (mode : Mode) (desk : DeskState (Unit {0})) : Type 0 where
  pub new : is_in_use t desk.guards ≡ false
  pub granted : granted desk.limit mode desk.guards ≡ true
  pub room : length desk.guards < desk.room

-- The guard of a thread that held so and holds so now: it is admitted, given up, or turned into a shared one.
abbrev pub own_moved : ℕ → Option Mode → Option Mode → DeskState (Unit {0}) → DeskState (Unit {0})
own_moved t None None desk = desk
own_moved t None (Some mode) desk = admitted mode t t desk
own_moved t (Some mode) None desk = released t desk
own_moved t (Some held.Exclusive) (Some held.Shared) desk = turned held.Shared t desk
own_moved t (Some a) (Some b) desk = desk

-- The desk doesn't refuse that.
abbrev pub MayMove : ℕ → Option Mode → Option Mode → DeskState (Unit {0}) → Type 0
MayMove t None None desk = Unit {0}
MayMove t None (Some mode) desk = MayAdmit t mode desk
MayMove t (Some mode) None desk = guard_refusal is_held t t desk ≡ None
MayMove t (Some held.Exclusive) (Some held.Shared) desk = guard_refusal (holds held.Exclusive) t t desk ≡ None
MayMove t (Some a) (Some b) desk = Unit {0}

-- one that holds now is admitted, where it has no guard yet
abbrev pub admitted_as : ℕ → Option Mode → DeskState (Unit {0}) → DeskState (Unit {0})
admitted_as v None desk = desk
admitted_as v (Some mode) desk = if is_some (held_of v desk.guards) then desk else admitted mode v v desk

-- The desk doesn't refuse that.
abbrev pub MayAdmitAs : ℕ → Option Mode → DeskState (Unit {0}) → Type 0
MayAdmitAs v None desk = Unit {0}
MayAdmitAs v (Some mode) desk = is_some (held_of v desk.guards) ≡ false → MayAdmit v mode desk

-- those of a list that hold now are admitted, in order
abbrev pub all_admitted : (ℕ → Option Mode) → List ℕ → DeskState (Unit {0}) → DeskState (Unit {0})
all_admitted modes [] desk = desk
all_admitted modes (v ∷ vs) desk = all_admitted modes vs (admitted_as v (modes v) desk)

-- it held, and holds no longer
abbrev pub has_left : Option Mode → Option Mode → Bool
has_left before after = is_some before && is_none after

-- A desk where its own guard has moved, and where it has left those that it has taken are admitted.
abbrev pub desk_after : (ℕ → Option Mode) → (ℕ → Option Mode) → ℕ → List ℕ → DeskState (Unit {0}) → DeskState (Unit {0})
desk_after before after t us desk =
    if has_left (before t) (after t)
    then all_admitted after us (own_moved t (before t) (after t) desk)
    else own_moved t (before t) (after t) desk

-- Whoever holds now can have its guard on this desk.
pub record CanSeat (modes : ℕ → Option Mode) (threads : ℕ) (desk : DeskState (Unit {0})) : Type 0 where
  pub half : AreHalfSeated modes desk.guards
  pub together : GoTogether modes
  pub low : (v : ℕ) (mode : Mode) → modes v ≡ Some mode → v < threads
  pub room : threads ≤ desk.room
  pub limit : threads ≤ desk.limit

-- A desk can follow its thread, which held so before: the guard of the thread moves, and then whoever holds can be
-- seated.
pub record CanFollow (before : Option Mode) (after : ℕ → Option Mode) (threads t : ℕ)
    (desk : DeskState (Unit {0})) : Type 0 where
  pub may : MayMove t before (after t) desk
  pub can : CanSeat after threads (own_moved t before (after t) desk)

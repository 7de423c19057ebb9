-- The guard of a thread that makes a step moves as the thread does, and the desk doesn't refuse it.
use Rattle.std.proofs.Common.{◌≡◌, ◌≢◌, ℕ, ◌<◌, ◌≤◌, inl, inr, ◌⊎◌, List, [], Option, Some, None, refl, sym, ap, ◌∙◌}
use Rattle.std.proofs.Common.{subst, arith}
use Rattle.std.proofs.lemmas.Bool.{cases_eq}
use Rattle.lock_api_desk.specs.declared.mode.Mode.{Mode}
use Rattle.lock_api_desk.specs.declared.mode.Mode.TheVariants as held
use Rattle.lock_api_desk.specs.Guards.{Guard, guard_of, holds, is_held}
use Rattle.lock_api_desk.specs.Desk.{DeskState, admitted, released, turned}
use Rattle.lock_api_desk.proofs.Refusing.{not_refused}
use Rattle.mapworld_state.specs.Locks.Moves.{CanSeat, MayMove, own_moved}
use Rattle.mapworld_state.specs.Locks.Seats.{AreHalfSeated, AreSeated, GoTogether, guards_of, held_guard, seat_of}
use Rattle.mapworld_state.proofs.LocksFacts.Admitting.{IsSeated, may_come, seat_more}
use Rattle.mapworld_state.proofs.LocksFacts.Seating

-- The desk of a shard before a step of thread t, and what is known of holds before and after the step.
pub record Moves (before after : ℕ → Option Mode) (threads t : ℕ) (desk : DeskState (Unit {0})) : Type 0 where
  pub seated : AreSeated before desk.guards
  pub together : GoTogether after
  pub low : (v : ℕ) (mode : Mode) → after v ≡ Some mode → v < threads
  pub room : threads ≤ desk.room
  pub limit : threads ≤ desk.limit
  pub others : (v : ℕ) → v ≢ t → (after v ≡ before v) ⊎ (before v ≡ None)
  pub own : before t ≡ Some held.Shared → after t ≢ Some held.Exclusive
  pub was_plain : before t ≢ Some held.Upgradable
  pub is_plain : after t ≢ Some held.Upgradable

-- What is left: all that hold can be seated, the thread's own guard is as it should be, and so are those of whom
-- nothing has changed.
pub record Moved (before after : ℕ → Option Mode) (threads t : ℕ) (old new : DeskState (Unit {0})) : Type 0 where
  pub may : MayMove t (before t) (after t) old
  pub can : CanSeat after threads new
  pub own : IsSeated after new.guards t
  pub others : (v : ℕ) → v ≢ t → after v ≡ before v → IsSeated after new.guards v

module _ (before after : ℕ → Option Mode) (threads t : ℕ) (desk : DeskState (Unit {0}))
    (m : Moves before after threads t desk) where
  names : Seating.IsNamed t desk.guards
  names = Seating.named before desk.guards (Seating.half before desk.guards m.seated) t

  -- the guards of all others stay
  abbrev OthersStay : List Guard → Type 0
  OthersStay guards = (v : ℕ) → v ≢ t → guards_of v guards ≡ guards_of v desk.guards

  other_seat : (guards : List Guard) → OthersStay guards → (v : ℕ) → v ≢ t → after v ≡ before v
      → IsSeated after guards v
  other_seat guards same v ne e = same v ne ∙ m.seated v ∙ ap (seat_of v) (sym e)

  half : (guards : List Guard) → OthersStay guards → (guards_of t guards ≡ []) ⊎ IsSeated after guards t
      → AreHalfSeated after guards
  half guards same own v = elim (cases_eq v t) [
    | inl e ↦ subst (λ (n : ℕ). (guards_of n guards ≡ []) ⊎ IsSeated after guards n) (sym e) own
    | inr ne ↦ elim (m.others v ne) [
      | inl kept ↦ inr (other_seat guards same v ne kept)
      | inr none ↦ inl (same v ne ∙ m.seated v ∙ ap (seat_of v) none)
    ]
  ]

  can : (new : DeskState (Unit {0})) → AreHalfSeated after new.guards → new.room ≡ desk.room → new.limit ≡ desk.limit
      → CanSeat after threads new
  can new seats room limit = record {
    half = seats;
    together = m.together;
    low = m.low;
    room = omega (arith, m.room, room);
    limit = omega (arith, m.limit, limit);
  }

  -- it may move as its holds say
  may : (o p : Option Mode) → before t ≡ o → after t ≡ p → MayMove t o p desk → MayMove t (before t) (after t) desk
  may o p was is h = subst (λ (x : Option Mode). MayMove t x (after t) desk) (sym was)
      (subst (λ (y : Option Mode). MayMove t o y desk) (sym is) h)

  nobody_else : OthersStay desk.guards
  nobody_else v ne = refl

  -- it stays as it is
  stays : (o : Option Mode) → before t ≡ o → after t ≡ o → MayMove t o o desk → Moved before after threads t desk desk
  stays o was is h =
      let own : IsSeated after desk.guards t = m.seated t ∙ ap (seat_of t) (was ∙ sym is) in
      record {
        may = may o o was is h;
        can = can desk (half desk.guards nobody_else (inr own)) refl refl;
        own = own;
        others = other_seat desk.guards nobody_else;
      }

  comes : (mode : Mode) → before t ≡ None → after t ≡ Some mode
      → Moved before after threads t desk (admitted mode t t desk)
  comes mode was is =
      let none : guards_of t desk.guards ≡ [] = m.seated t ∙ ap (seat_of t) was in
      let seats = can desk (half desk.guards nobody_else (inl none)) refl refl in
      record {
        may = may None (Some mode) was is (may_come after threads desk seats t mode is none);
        can = seat_more after threads desk seats t mode is none;
        own = Seating.first_guard mode t desk.guards none ∙ sym (ap (seat_of t) is);
        others = other_seat (Seating.with_guard mode t desk.guards)
            (λ v ne. Seating.other_guards mode t desk.guards v ne);
      }

  leaves : (mode : Mode) → before t ≡ Some mode → after t ≡ None → Moved before after threads t desk (released t desk)
  leaves mode was is =
      let seat : guards_of t desk.guards ≡ seat_of t (Some mode) = m.seated t ∙ ap (seat_of t) was in
      let gone = Seating.own_gone t desk.guards names in
      let same : OthersStay (released t desk).guards = λ v ne. Seating.others_left t desk.guards names v ne in
      record {
        may = may (Some mode) None was is
            (not_refused is_held t (guard_of t desk.guards) (held_guard mode t)
            (Seating.found t desk.guards names mode seat) refl refl);
        can = can (released t desk) (half (released t desk).guards same (inl gone)) refl refl;
        own = gone ∙ sym (ap (seat_of t) is);
        others = other_seat (released t desk).guards same;
      }

  turns : before t ≡ Some held.Exclusive → after t ≡ Some held.Shared
      → Moved before after threads t desk (turned held.Shared t desk)
  turns was is =
      let seat : guards_of t desk.guards ≡ seat_of t (Some held.Exclusive) = m.seated t ∙ ap (seat_of t) was in
      let own : IsSeated after (turned held.Shared t desk).guards t = Seating.own_turned t desk.guards names
      held.Exclusive held.Shared seat ∙ sym (ap (seat_of t) is) in
      let same : OthersStay (turned held.Shared t desk).guards = λ v ne. Seating.others_kept t desk.guards names
      held.Shared v ne in
      record {
        may = may (Some held.Exclusive) (Some held.Shared) was is
            (not_refused (holds held.Exclusive) t (guard_of t desk.guards) (held_guard held.Exclusive t)
            (Seating.found t desk.guards names held.Exclusive seat) refl refl);
        can = can (turned held.Shared t desk) (half (turned held.Shared t desk).guards same (inr own)) refl refl;
        own = own;
        others = other_seat (turned held.Shared t desk).guards same;
      }

  by : (o p : Option Mode) → before t ≡ o → after t ≡ p → Moved before after threads t desk (own_moved t o p desk)
  by None None was is = stays None was is tt
  by None (Some mode) was is = comes mode was is
  by (Some mode) None was is = leaves mode was is
  by (Some held.Shared) (Some held.Shared) was is = stays (Some held.Shared) was is tt
  by (Some held.Shared) (Some held.Exclusive) was is = absurd (m.own was is)
  by (Some held.Shared) (Some held.Upgradable) was is = absurd (m.is_plain is)
  by (Some held.Exclusive) (Some held.Shared) was is = turns was is
  by (Some held.Exclusive) (Some held.Exclusive) was is = stays (Some held.Exclusive) was is tt
  by (Some held.Exclusive) (Some held.Upgradable) was is = absurd (m.is_plain is)
  by (Some held.Upgradable) (Some mode) was is = absurd (m.was_plain was)

  pub moved : Moved before after threads t desk (own_moved t (before t) (after t) desk)
  moved = by (before t) (after t) refl refl

-- A desk on which guards are admitted, given up and turned keeps its seats, and refuses none of them.
use Rattle.std.proofs.Common.{◌≡◌, ℕ, zero, suc, ◌<◌, inl, inr, Bool, true, false, cond, not, ◌&&◌, nat_le, List, []}
use Rattle.std.proofs.Common.{◌∷◌, ◌++◌, length, Option, Some, None, is_some, slice_get, refl, sym, ap, ◌∙◌, subst}
use Rattle.std.proofs.Common.{arith}
use Rattle.std.proofs.lemmas.Bool.{cases_eq, false≢true, and_from, lt-leb}
use Rattle.std.proofs.lemmas.List.Sums.{count_by-le-length}
use Rattle.std.proofs.lemmas.Option.{none-some, same_Some}
use Rattle.lock_api_desk.specs.declared.mode.Mode.{Mode}
use Rattle.lock_api_desk.specs.Guards.{Guard, excluded, granted, held_of, is_full, is_held, is_reader, readers}
use Rattle.lock_api_desk.specs.Desk.{DeskState, admitted}
use Rattle.mapworld_state.specs.Locks.Moves.{CanSeat, MayAdmit, MayAdmitAs, admitted_as, all_admitted}
use Rattle.mapworld_state.specs.Locks.Seats.{guards_of, seat_of}
use Rattle.mapworld_state.proofs.LocksFacts.Counting.{room_for}
use Rattle.mapworld_state.proofs.LocksFacts.Seating

-- the limit isn't reached where there are fewer guards
not_full : (limit : ℕ) (mode : Mode) (guards : List Guard) → length guards < limit → is_full limit mode guards ≡ false
not_full limit mode guards few = by (is_reader mode)
  where
    low : nat_le limit (readers guards) ≡ false
    low = lt-leb limit (readers guards)
        (omega (arith, few, count_by-le-length (λ g. is_held g && is_reader g.mode) guards))

    by : (b : Bool) → (b && nat_le limit (readers guards)) ≡ false
    by true = low
    by false = refl

module _ (modes : ℕ → Option Mode) (threads : ℕ) (desk : DeskState (Unit {0})) (can : CanSeat modes threads desk)
    (t : ℕ) (mode : Mode) (holds : modes t ≡ Some mode) (none : guards_of t desk.guards ≡ []) where
  has_room : length desk.guards < threads
  has_room = room_for modes desk.guards threads t can.half can.low (can.low t mode holds) none

  is_granted : granted desk.limit mode desk.guards ≡ true
  is_granted = and_from (not (excluded mode desk.guards)) (not (is_full desk.limit mode desk.guards))
      (ap not (Seating.not_excluded modes desk.guards can.half can.together t mode holds none))
      (ap not (not_full desk.limit mode desk.guards (omega (arith, has_room, can.limit))))

  -- one that holds and has no guard is admitted
  pub may_come : MayAdmit t mode desk
  may_come = record {
    new = Seating.unused t desk.guards (Seating.named modes desk.guards can.half t) none;
    granted = is_granted;
    room = omega (arith, has_room, can.room);
  }

  pub seat_more : CanSeat modes threads (admitted mode t t desk)
  seat_more = record {
    half = Seating.half_with mode t desk.guards modes can.half holds none;
    together = can.together;
    low = can.low;
    room = can.room;
    limit = can.limit;
  }

-- ONE THAT HOLDS NOW AND MAY HAVE ITS GUARD ALREADY

-- its guards are those that it should have
abbrev pub IsSeated : (ℕ → Option Mode) → List Guard → ℕ → Type 0
IsSeated modes guards t = guards_of t guards ≡ seat_of t (modes t)

module _ (modes : ℕ → Option Mode) (threads : ℕ) (desk : DeskState (Unit {0})) (can : CanSeat modes threads desk)
    (t : ℕ) where
  names : Seating.IsNamed t desk.guards
  names = Seating.named modes desk.guards can.half t

  -- one that isn't found has none
  none_yet : (mode : Mode) → modes t ≡ Some mode → is_some (held_of t desk.guards) ≡ false
      → guards_of t desk.guards ≡ []
  none_yet mode holds missing = elim (can.half t) [
    | inl none ↦ none
    | inr seat ↦ absurd
        (false≢true (sym missing ∙ Seating.held_found t desk.guards names mode (seat ∙ ap (seat_of t) holds)))
  ]

  -- one that is found has its seat
  seat_found : is_some (held_of t desk.guards) ≡ true → IsSeated modes desk.guards t
  seat_found there = elim (can.half t) [
    | inl none ↦ absurd (false≢true (sym (Seating.held_none t desk.guards names none) ∙ there))
    | inr seat ↦ seat
  ]

-- What one of the list makes of the desk: whoever can be seated can be afterwards, seats stay, and the one has its own.
record Seats (modes : ℕ → Option Mode) (threads t : ℕ) (old new : DeskState (Unit {0})) : Type 0 where
  can : CanSeat modes threads new
  stay : (v : ℕ) → IsSeated modes old.guards v → IsSeated modes new.guards v
  seat : IsSeated modes new.guards t

-- all of the list
pub record AllSeated (modes : ℕ → Option Mode) (threads : ℕ) (us : List ℕ) (old new : DeskState (Unit {0})) : Type 0
  where
    pub can : CanSeat modes threads new
    pub stay : (v : ℕ) → IsSeated modes old.guards v → IsSeated modes new.guards v
    pub seat : (k v : ℕ) → slice_get us k ≡ Some v → IsSeated modes new.guards v

module _ (modes : ℕ → Option Mode) (threads : ℕ) where
  seats_one : (desk : DeskState (Unit {0})) → CanSeat modes threads desk → (t : ℕ)
      → Seats modes threads t desk (admitted_as t (modes t) desk)
  seats_one desk can t = by (modes t) refl
    where
      by : (o : Option Mode) → modes t ≡ o → Seats modes threads t desk (admitted_as t o desk)
      by None e = record {
        can = can;
        stay = λ v seat. seat;
        seat = elim (can.half t) [
          | inl none ↦ none ∙ sym (ap (seat_of t) e)
          | inr seat ↦ seat
        ];
      }
      by (Some mode) e = or_not (is_some (held_of t desk.guards)) refl
        where
          or_not : (b : Bool) → is_some (held_of t desk.guards) ≡ b
              → Seats modes threads t desk (cond (is_some (held_of t desk.guards)) desk (admitted mode t t desk))
          or_not true f = subst (λ (b : Bool). Seats modes threads t desk (cond b desk (admitted mode t t desk)))
              (sym f) (record {
                can = can;
                stay = λ v seat. seat;
                seat = seat_found modes threads desk can t f;
              })
          or_not false f =
              let none = none_yet modes threads desk can t mode e f in
              subst (λ (b : Bool). Seats modes threads t desk (cond b desk (admitted mode t t desk))) (sym f) (record {
                can = seat_more modes threads desk can t mode e none;
                stay = λ v seat. elim (cases_eq v t) [
                  | inl eq ↦ subst (IsSeated modes (Seating.with_guard mode t desk.guards)) (sym eq) (own none)
                  | inr ne ↦ Seating.other_guards mode t desk.guards v ne ∙ seat
                ];
                seat = own none;
              })
            where
              own : guards_of t desk.guards ≡ [] → IsSeated modes (Seating.with_guard mode t desk.guards) t
              own none = Seating.first_guard mode t desk.guards none ∙ sym (ap (seat_of t) e)

  pub seats_all : (us : List ℕ) (desk : DeskState (Unit {0})) → CanSeat modes threads desk
      → AllSeated modes threads us desk (all_admitted modes us desk)
  seats_all [] desk can = record { can = can; stay = λ v seat. seat; seat = λ k v e. absurd (none-some v e) }
  seats_all (t ∷ us) desk can =
      let one = seats_one desk can t in
      let rest = seats_all us (admitted_as t (modes t) desk) one.can in
      record {
        can = rest.can;
        stay = λ v seat. rest.stay v (one.stay v seat);
        seat = λ k v e. at k v e one rest;
      }
    where
      at : (k v : ℕ) → slice_get (t ∷ us) k ≡ Some v → Seats modes threads t desk (admitted_as t (modes t) desk)
          → AllSeated modes threads us (admitted_as t (modes t) desk)
          (all_admitted modes us (admitted_as t (modes t) desk))
          → IsSeated modes (all_admitted modes us (admitted_as t (modes t) desk)).guards v
      at zero v e one rest = subst (IsSeated modes (all_admitted modes us (admitted_as t (modes t) desk)).guards)
          (same_Some t v e) (rest.stay t one.seat)
      at (suc k) v e one rest = rest.seat k v e

  -- and none is refused
  pub may_admit : (desk : DeskState (Unit {0})) → CanSeat modes threads desk → (t : ℕ) → MayAdmitAs t (modes t) desk
  may_admit desk can t = by (modes t) refl
    where
      by : (o : Option Mode) → modes t ≡ o → MayAdmitAs t o desk
      by None e = tt
      by (Some mode) e = λ missing. may_come modes threads desk can t mode e
          (none_yet modes threads desk can t mode e missing)

-- one more of a list
pub admitted_more : (modes : ℕ → Option Mode) (us : List ℕ) (t : ℕ) (desk : DeskState (Unit {0}))
    → all_admitted modes (us ++ t ∷ []) desk ≡ admitted_as t (modes t) (all_admitted modes us desk)
admitted_more modes [] t desk = refl
admitted_more modes (u ∷ us) t desk = admitted_more modes us t (admitted_as u (modes u) desk)

-- When a guard may be held in another mode.
use Rattle.std.proofs.Common.{◌≡◌, ℕ, ◌<◌, Bool, true, false, zero, suc, cond, ◌==◌, List, [], ◌∷◌, set, slice_get, inl}
use Rattle.std.proofs.Common.{inr, Option, Some, None, refl, sym, ap, subst, ◌∙◌}
use Rattle.std.specs.Option.{IfSome, option_or}
use Rattle.std.proofs.lemmas.Option.{none-some, same_Some}
use Rattle.std.proofs.lemmas.Bool.{and_parts, not-true, cases_Bool, false≢true, cond-true, cond-false}
use Rattle.lock_api_desk.specs.declared.mode.Mode.{Mode}
use Rattle.lock_api_desk.specs.declared.mode.Mode.TheVariants.{Shared, Exclusive, Upgradable}
use Rattle.lock_api_desk.specs.declared.fault.DeskFault.TheVariants.{NotTheParty, WrongMode}
use Rattle.lock_api_desk.specs.Guards.{Guard, has_number, guard_of, is_held, is_mode, holds, excluded, is_full}
use Rattle.lock_api_desk.specs.Guards.{is_held_beside, amend, held_in, put_aside}
use Rattle.lock_api_desk.specs.Out.{admits, one_less, count_in, out_of, nothing_out}
use Rattle.lock_api_desk.specs.Entries.{less}
use Rattle.lock_api_desk.specs.Desk.{IsSound}
use Rattle.lock_api_desk.specs.Places.{StandsAt, IsLifted, converts}
use Rattle.lock_api_desk.specs.Refusals.{refusal_at}
use Rattle.lock_api_desk.proofs.Lists.{count_by-none}
use Rattle.lock_api_desk.proofs.Counting.{same_mode, same_out, out_at, out_of-set, admits_from, admits_for_exclusive}
use Rattle.lock_api_desk.proofs.Counting.{admits_for_upgradable, count_in-out_of}
use Rattle.lock_api_desk.proofs.Numbers.{amend_at, none_beside}
use Rattle.lock_api_desk.proofs.Seats.{guard_with}

suits_from : (own fit : Bool) → cond own (cond fit None (Some WrongMode)) (Some NotTheParty) ≡ None → fit ≡ true
suits_from true true e = refl
suits_from true false e = absurd (none-some WrongMode (sym e))
suits_from false fit e = absurd (none-some NotTheParty (sym e))

module _ (limit number : ℕ) (guards : List Guard) (place : ℕ) (s : StandsAt number guards place) where
  -- a guard that isn't refused suits the call
  pub suited : (suits : Guard → Bool) (party : ℕ) → refusal_at suits party (guard_of number guards) ≡ None
      → suits s.guard ≡ true
  suited suits party none =
      suits_from (s.guard.party == party) (suits s.guard) (sym (ap (λ o. refusal_at suits party o) s.found) ∙ none)

  -- what is admitted for the guard there is admitted for the one that is found
  pub next_from : (mode : Mode) → admits limit mode (less s.guard.mode s.guard.is_aside (out_of guards)) ≡ true
      → IfSome (guard_of number guards)
      (λ held. admits limit mode (less held.mode held.is_aside (out_of guards)) ≡ true)
  next_from mode a =
      let P : Option Guard → Type 0 =
      λ o. IfSome o (λ held. admits limit mode (less held.mode held.is_aside (out_of guards)) ≡ true) in
      subst P (sym s.found) a

  -- a guard held in a mode counts there, and without it there is one less
  held_as : (kept : Mode) → holds kept s.guard ≡ true → (0 < count_in kept (out_of guards))
      × (less s.guard.mode s.guard.is_aside (out_of guards) ≡ one_less kept (out_of guards))
  held_as kept h =
      let parts = and_parts (is_held s.guard) (is_mode kept s.guard.mode) h in
      let held = not-true s.guard.is_aside parts.0 in
      let same = same_mode kept s.guard.mode parts.1 in
      let P : Mode → Type 0 = λ m. 0 < count_in m (out_of guards) in (
        subst P (sym same) (out_at guards place s.guard s.at held),
        ap (λ b. less s.guard.mode b (out_of guards)) held ∙ ap (λ m. one_less m (out_of guards)) (sym same),
      )

  -- an exclusive guard may be held in any mode
  pub from_held : (mode : Mode) → IsSound limit guards → holds Exclusive s.guard ≡ true
      → IfSome (guard_of number guards)
      (λ held. admits limit mode (less held.mode held.is_aside (out_of guards)) ≡ true)
  from_held mode sound held =
      let h = held_as Exclusive held in
      next_from mode (ap (λ o. admits limit mode o) h.1 ∙ admits_for_exclusive limit mode (out_of guards) sound.orderly
      h.0)

  -- a guard that converts may be held in the other mode
  pub from_converting : (from to : Mode) (party : ℕ) → converts from to ≡ true → IsSound limit guards
      → refusal_at (holds from) party (guard_of number guards) ≡ None
      → IfSome (guard_of number guards) (λ held. admits limit to (less held.mode held.is_aside (out_of guards)) ≡ true)
  from_converting Exclusive to party may sound none = from_held to sound (suited (holds Exclusive) party none)
  from_converting Upgradable Shared party may sound none =
      let h = held_as Upgradable (suited (holds Upgradable) party none) in
      next_from Shared (ap (λ o. admits limit Shared o) h.1 ∙ admits_for_upgradable limit (out_of guards) sound.orderly
      h.0)
  from_converting Upgradable Exclusive party may sound none = absurd (false≢true may)
  from_converting Upgradable Upgradable party may sound none = absurd (false≢true may)
  from_converting Shared to party may sound none = absurd (false≢true may)

  -- without the guard nothing is out where no other is held
  pub alone : IsSound limit guards → is_held_beside number guards ≡ false
      → less s.guard.mode s.guard.is_aside (out_of guards) ≡ nothing_out
  alone sound none =
      let apart = amend (put_aside true) number guards in
      let placed = amend_at (put_aside true) number guards place s.guard sound.distinct s.at s.number_is in
      sym (out_of-set guards place s.guard (put_aside true s.guard) s.at)
      ∙ ap (λ gs. out_of gs) (sym placed)
      ∙ same_out _ _ (λ m.
      count_in-out_of m apart
      ∙ count_by-none is_held (holds m) (λ g h. (and_parts (is_held g) (is_mode m g.mode) h).0) apart
      (none_beside number guards ∙ none)
      ∙ zero_in m)
    where
      zero_in : (m : Mode) → 0 ≡ count_in m nothing_out
      zero_in Shared = refl
      zero_in Exclusive = refl
      zero_in Upgradable = refl

  -- an upgradable one exclusive, where it is alone
  pub from_alone : IsSound limit guards → is_held_beside number guards ≡ false
      → IfSome (guard_of number guards)
      (λ held. admits limit Exclusive (less held.mode held.is_aside (out_of guards)) ≡ true)
  from_alone sound none = next_from Exclusive (ap (λ o. admits limit Exclusive o) (alone sound none))

  -- one that is set aside in the mode that it kept, where that is admitted
  pub from_aside : (mode : Mode) → s.guard.is_aside ≡ true → excluded mode guards ≡ false
      → is_full limit mode guards ≡ false
      → IfSome (guard_of number guards)
      (λ held. admits limit mode (less held.mode held.is_aside (out_of guards)) ≡ true)
  from_aside mode aside free room =
      next_from mode (ap (λ b. admits limit mode (less s.guard.mode b (out_of guards))) aside
      ∙ admits_from limit mode guards free room)

  -- to hold a guard in its own mode is to take it up
  pub taken_up : (mode : Mode) → IsSound limit guards → mode ≡ s.guard.mode → amend (held_in mode) number guards ≡ amend
      (put_aside false) number guards
  taken_up mode sound same =
      ap (λ m. amend (held_in m) number guards) same
      ∙ amend_at (held_in s.guard.mode) number guards place s.guard sound.distinct s.at s.number_is
      ∙ sym (amend_at (put_aside false) number guards place s.guard sound.distinct s.at s.number_is)

-- a guard found in a list is found in the list with it changed
find_amended : (change : Guard → Guard) (n : ℕ) (guards : List Guard) (g : Guard)
    → ((h : Guard) → (change h).number ≡ h.number) → guard_of n guards ≡ Some g
    → guard_of n (amend change n guards) ≡ Some (change g)
find_amended change n [] g keeps e = absurd (none-some g e)
find_amended change n (x ∷ xs) g keeps e = elim (cases_Bool (has_number n x)) [
  | inl own ↦
      let same = same_Some x g (sym (cond-true (has_number n x) (Some x) (guard_of n xs) own) ∙ e) in
      let head = cond-true (has_number n x) (change x) x own in
      let still : has_number n (change x) ≡ true = ap (λ m. m == n) (keeps x) ∙ own in
      ap (λ y. cond (has_number n y) (Some y) (guard_of n (amend change n xs))) head
      ∙ cond-true (has_number n (change x)) (Some (change x)) (guard_of n (amend change n xs)) still
      ∙ ap (λ y. Some (change y)) same
  | inr other ↦
      let later = find_amended change n xs g keeps
      (sym (cond-false (has_number n x) (Some x) (guard_of n xs) other) ∙ e) in
      ap (λ y. cond (has_number n y) (Some y) (guard_of n (amend change n xs)))
      (cond-false (has_number n x) (change x) x other)
      ∙ cond-false (has_number n x) (Some x) (guard_of n (amend change n xs)) other
      ∙ later
]

-- two changes of one guard are one change
amend_twice : (c d : Guard → Guard) (n : ℕ) (guards : List Guard) → ((h : Guard) → (d h).number ≡ h.number)
    → amend c n (amend d n guards) ≡ amend (λ h. c (d h)) n guards
amend_twice c d n [] keeps = refl
amend_twice c d n (x ∷ xs) keeps =
    ap (λ y. y ∷ amend c n (amend d n xs)) (each (has_number n x) refl)
    ∙ ap (λ ys. cond (has_number n x) (c (d x)) x ∷ ys) (amend_twice c d n xs keeps)
  where
    each : (b : Bool) → has_number n x ≡ b → cond (has_number n (cond b (d x) x)) (c (cond b (d x) x)) (cond b (d x) x)
        ≡ cond b (c (d x)) x
    each true own = cond-true (has_number n (d x)) (c (d x)) (d x) (ap (λ m. m == n) (keeps x) ∙ own)
    each false other = cond-false (has_number n x) (c x) x other

-- a guard written where it stands already changes nothing
set_same : (guards : List Guard) (i : ℕ) (g : Guard) → slice_get guards i ≡ Some g → set guards i g ≡ guards
set_same [] i g at = absurd (none-some g at)
set_same (x ∷ xs) zero g at = ap (λ y. y ∷ xs) (sym (same_Some x g at))
set_same (x ∷ xs) (suc i) g at = ap (λ ys. x ∷ ys) (set_same xs i g at)

set_at : (guards : List Guard) (i : ℕ) (g h : Guard) → slice_get guards i ≡ Some g
    → slice_get (set guards i h) i ≡ Some h
set_at [] i g h at = absurd (none-some g at)
set_at (x ∷ xs) zero g h at = refl
set_at (x ∷ xs) (suc i) g h at = set_at xs i g h at

-- the upgradable guard made exclusive
pub lifted : (number : ℕ) (guards : List Guard) (place : ℕ) (s : StandsAt number guards place) (limit : ℕ)
    → IsSound limit guards → holds Upgradable s.guard ≡ true
    → IsLifted number guards (amend (held_in Exclusive) number guards) place
lifted number guards place s limit sound h =
    let parts = and_parts (is_held s.guard) (is_mode Upgradable s.guard.mode) h in
    let placed = amend_at (held_in Exclusive) number guards place s.guard sound.distinct s.at s.number_is in
    let own : held_in Upgradable s.guard ≡ s.guard =
    ap (λ m. guard_with s.guard.number s.guard.party m false) (same_mode Upgradable s.guard.mode parts.1)
    ∙ ap (λ b. guard_with s.guard.number s.guard.party s.guard.mode b) (sym (not-true s.guard.is_aside parts.0)) in
    record {
      at = record {
        guard = held_in Exclusive s.guard;
        at = ap (λ gs. slice_get gs place) placed ∙ set_at guards place s.guard (held_in Exclusive s.guard) s.at;
        number_is = s.number_is;
        found = find_amended (held_in Exclusive) number guards s.guard (λ g. refl) s.found;
      };
      exclusive = refl;
      back =
          amend_twice (held_in Upgradable) (held_in Exclusive) number guards (λ g. refl)
          ∙ amend_at (held_in Upgradable) number guards place s.guard sound.distinct s.at s.number_is
          ∙ ap (λ g. set guards place g) own
          ∙ set_same guards place s.guard s.at;
    }

-- a list of refusals that is empty is empty at each
pub or_None : {X : Type 0} (o p : Option X) → option_or o p ≡ None → (o ≡ None) × (p ≡ None)
or_None None p e = (refl, e)
or_None (Some x) p e = absurd (none-some x (sym e))

pub cond_None : {X : Type 0} (b : Bool) (x : X) (o : Option X) → cond b (Some x) o ≡ None → (b ≡ false) × (o ≡ None)
cond_None true x o e = absurd (none-some x (sym e))
cond_None false x o e = (refl, e)

-- For those who know what a desk holds: that a call is granted, and what it leaves.
use Rattle.std.proofs.Common.{◌≡◌, ℕ, ◌<◌, ◌≤◌, Bool, true, false, not, ◌&&◌, List, [], ◌∷◌, length, Option, Some, None}
use Rattle.std.proofs.Common.{Result, Ok, Err, MatchResult, if◌then◌else◌, inl, inr, refl, sym, ap, subst, ◌∙◌, arith}
use Rattle.std.specs.List.{IsDistinct}
use Rattle.std.specs.Option.{MatchOption}
use Rattle.std.proofs.lemmas.Option.{none-some, same_Some}
use Rattle.std.proofs.lemmas.Bool.{and_parts, and_from, and_left, and_right, not-true, cases_Bool, cond-true}
use Rattle.std.proofs.lemmas.Bool.{cond-false, eqb-true, eqb-false}
use Rattle.lock_api_desk.specs.declared.mode.Mode.{Mode}
use Rattle.lock_api_desk.specs.declared.fault.DeskFault.{DeskFault}
use Rattle.lock_api_desk.specs.declared.fault.DeskFault.TheVariants.{GuardInUse, ReadersFull, NoMemory}
use Rattle.lock_api_desk.specs.Guards.{Guard, has_number, is_held, guard_of, held_of, is_in_use, excluded, is_full}
use Rattle.lock_api_desk.specs.Guards.{granted}
use Rattle.lock_api_desk.specs.Desk.{DeskState, IsSound, with_room, admitted}
use Rattle.lock_api_desk.specs.Refusals.{Acquires, KeepsRoom, acquire_refusal, admission_refusal, guard_refusal}
use Rattle.lock_api_desk.proofs.Numbers.{numbers, Distinct, Others}
use Rattle.lock_api_desk.proofs.Refusing.{not_refused}

-- an acquisition of a new number that the machine grants, within the room, isn't refused, and adds the guard
pub acquire_granted : {T : Type 0} (denied : DeskFault) (mode : Mode) (party number : ℕ) (old new : DeskState T)
    (result : Result (Unit {0}) DeskFault) → is_in_use number old.guards ≡ false
    → granted old.limit mode old.guards ≡ true → length old.guards < old.room → Acquires denied mode party number old
    new result → KeepsRoom old new → (result ≡ Ok tt) × (new ≡ admitted mode party number old)
acquire_granted {T} denied mode party number old new result unused grant within acquires room =
    let parts = and_parts (not (excluded mode old.guards)) (not (is_full old.limit mode old.guards)) grant in
    let full : Option DeskFault = if is_full old.limit mode old.guards then Some ReadersFull else None in
    let none : acquire_refusal denied mode number old ≡ None =
    cond-false (is_in_use number old.guards) (Some GuardInUse) (admission_refusal denied mode old) unused
    ∙ cond-false (excluded mode old.guards) (Some denied) full (not-true (excluded mode old.guards) parts.0)
    ∙ cond-false (is_full old.limit mode old.guards) (Some ReadersFull) None
    (not-true (is_full old.limit mode old.guards) parts.1) in
    let P : Option DeskFault → Type 0 = λ o.
    MatchOption o
    (MatchResult result
    (λ _. new ≡ with_room new.room (admitted mode party number old))
    (λ fault. (fault ≡ NoMemory) × (new ≡ old) × (old.room ≤ length old.guards)))
    (λ fault. (result ≡ Err fault) × (new ≡ old)) in
    at result (subst P none acquires)
  where
    at : (r : Result (Unit {0}) DeskFault)
        → MatchResult r (λ _. new ≡ with_room new.room (admitted mode party number old))
        (λ fault. (fault ≡ NoMemory) × (new ≡ old) × (old.room ≤ length old.guards)) → (r ≡ Ok tt)
        × (new ≡ admitted mode party number old)
    at (Ok x) state = (refl, state ∙ ap (λ n. with_room n (admitted mode party number old)) (room.used within))
    at (Err fault) h = let over = h.2 in absurd (omega arith)

none_held : (n : ℕ) (guards : List Guard) (g : Guard) → Others n guards → held_of n guards ≡ Some g → ⊥
none_held n [] g o e = none-some g e
none_held n (x ∷ xs) g o e = elim (cases_Bool (has_number n x && is_held x)) [
  | inl passes ↦ eqb-false n x.number o.0 (sym (eqb-true x.number n (and_parts (has_number n x) (is_held x) passes).0))
  | inr fails ↦ none_held n xs g o.1 (sym (cond-false (has_number n x && is_held x) (Some x) (held_of n xs) fails) ∙ e)
]

held_by_numbers : (n : ℕ) (guards : List Guard) (g : Guard) → Distinct (numbers guards) → held_of n guards ≡ Some g
    → (guard_of n guards ≡ Some g) × (is_held g ≡ true)
unfolding IsDistinct
held_by_numbers n [] g d e = absurd (none-some g e)
held_by_numbers n (x ∷ xs) g d e = elim (cases_Bool (has_number n x)) [
  | inl own ↦ elim (cases_Bool (is_held x)) [
    | inl held ↦
        let same = same_Some x g
        (sym (cond-true (has_number n x && is_held x) (Some x) (held_of n xs)
        (and_from (has_number n x) (is_held x) own held)) ∙ e) in
        (cond-true (has_number n x) (Some x) (guard_of n xs) own ∙ ap (λ y. Some y) same, ap is_held (sym same) ∙ held)
    | inr aside ↦
        let later = sym (cond-false (has_number n x && is_held x) (Some x) (held_of n xs)
        (and_right (has_number n x) (is_held x) aside)) ∙ e in
        let P : ℕ → Type 0 = λ m. Others m xs in
        absurd (none_held n xs g (subst P (eqb-true x.number n own) d.0) later)
  ]
  | inr other ↦
      let later = sym (cond-false (has_number n x && is_held x) (Some x) (held_of n xs)
      (and_left (has_number n x) (is_held x) other)) ∙ e in
      let r = held_by_numbers n xs g d.1 later in
      (cond-false (has_number n x) (Some x) (guard_of n xs) other ∙ r.0, r.1)
]

-- a held guard is the guard of its number
pub held_is_guard : (limit number : ℕ) (guards : List Guard) (g : Guard) → IsSound limit guards
    → held_of number guards ≡ Some g → (guard_of number guards ≡ Some g) × (is_held g ≡ true)
held_is_guard limit number guards g sound e = held_by_numbers number guards g sound.distinct e

-- a call of its party on a held guard that suits it isn't refused
pub call_granted : {T : Type 0} (suits : Guard → Bool) (party number : ℕ) (desk : DeskState T) (g : Guard)
    → IsSound desk.limit desk.guards → held_of number desk.guards ≡ Some g → g.party ≡ party → suits g ≡ true
    → guard_refusal suits party number desk ≡ None
call_granted suits party number desk g sound e own fit =
    not_refused suits party (guard_of number desk.guards) g (held_is_guard desk.limit number desk.guards g sound e).0
    own fit

-- The numbers of threads.
use Rattle.std.proofs.Common.{◌≡◌, ◌∙◌, ◌∷◌, ◌≤◌, ◌+◌, ◌⊎◌, [], List, refl, sym, ap, subst, Bool, false}
use Rattle.std.proofs.Common.{cond, true, not, length}
use Rattle.std.proofs.Common.{ℕ, zero, suc, Option, Some, None, arith, nat_lt, slice_get, slice_set}
use Rattle.std.proofs.Common.{Ok}
use mathlib.Core.Logic.{inl, inr}
use Rattle.std.proofs.lemmas.Bool.{ltb-true}
use Rattle.std.specs.Option.{option_map}
use Rattle.std.specs.List.{position_or_len}
use Rattle.parking_lot_core_model.specs.declared.fault.LotFault.{LotFault}
use Rattle.parking_lot_core_model.specs.declared.fault.LotFault.TheVariants.{TooManyThreads, NoMemory, WrongStatus}
use Rattle.parking_lot_core_model.specs.declared.place.Place.{Place}
use Rattle.parking_lot_core_model.specs.declared.place.Place.TheVariants.{Running}
use Rattle.parking_lot_core_model.specs.declared.place.ThreadStatus.TheVariants.{InSection}
use Rattle.parking_lot_core_model.specs.Machine.{Machine, Unless, Does, Makes, free_number, register_fault}
use Rattle.parking_lot_core_model.specs.Machine.{retire_fault}
use Rattle.parking_lot_core_model.specs.Machine.{retired, runs, is_in, token_of}
use Rattle.parking_lot_core_model.specs.Places.{place_at, status_of}
use Rattle.parking_lot_core.specs.Shared.{IsQuiet, IsRefused, OnSomeLot, WasFreed, WasHeld}
use Rattle.parking_lot_core.proofs.Queues.{by_test}
use Rattle.parking_lot_core.proofs.Lots.{seats, seat_at, lot_with, quiet}

-- a lot whose threads all run
abbrev running : ℕ → Machine
running n = lot_with (λ t. Running) (λ key. []) n

running_quiet : (n : ℕ) → IsQuiet (running n)
running_quiet n = quiet (λ t. Running) (λ key. []) n (λ t key. refl) (λ t key. refl) (λ t key h. refl)

-- no number is free in it
none_free : (n : ℕ) → free_number (seats (λ t. Running) n) ≡ n
none_free zero = refl
none_free (suc n) = let i = none_free n in more (free_number (seats (λ t. Running) n)) i
  where
    more : (k : ℕ) → k ≡ n → 1 + k ≡ suc n
    more k i = omega arith

pub refused_by : (limit n : ℕ) (fault : LotFault) → ((fault ≡ TooManyThreads) × (limit ≤ n)) ⊎ (fault ≡ NoMemory)
    → IsRefused limit fault
refused_by limit n fault (inr e) = (running 0, running_quiet 0, inr e)
refused_by limit n fault (inl (e, h)) =
    let m = running n in
    let no : nat_lt (free_number m.places) limit ≡ false =
    ap (λ k. nat_lt k limit) (none_free n) ∙ by_test (nat_lt n limit) (nat_lt n limit ≡ false)
    (λ b. absurd (omega (arith, ltb-true n limit b, h))) (λ b. b) in
    (m, running_quiet n, inl (ap (λ b. cond b (register_fault m) (Some TooManyThreads)) no ∙ ap Some (sym e)))

-- a number is given back
pub one_is_freed : (thread : ℕ) (given left : List Bool)
    → ((old new : Machine) → WasFreed thread left old new → WasHeld old new)
    → slice_get left thread ≡ Some false → (done : Unit {0})
    → OnSomeLot (λ key. false) (Does (λ m. retire_fault m thread) (Makes (λ m. retired m thread))) done
one_is_freed thread given left held free done =
    let old = running (thread + 1) in
    let new = retired old thread in
    let here : place_at old.places thread ≡ Some Running = seat_at (λ t. Running) (thread + 1) thread (omega arith) in
    let may : retire_fault old thread ≡ None =
    ap (λ (o : Option Place). cond (runs (option_map (λ (place : Place). cond (is_in old thread) InSection
    (status_of (token_of old) place)) o)) None (Some WrongStatus)) here in (
      old,
      new,
      running_quiet (thread + 1),
      subst (λ o. Unless {T = Unit {0}} o (Ok done) old new (Makes (λ m. retired m thread) old (Ok done) new)) (sym may)
          (refl, refl),
      (λ k e. refl),
      held old new (free, here, refl),
    )

-- the least that is free is one of those that there were, or the next
one_more : (b : Bool) (k n : ℕ) → k ≤ n → cond b (1 + k) 0 ≤ suc n
one_more true k n h = omega arith
one_more false k n h = omega arith

pub least_or_next : (p : Bool → Bool) (xs : List Bool) → position_or_len p xs ≤ length xs
least_or_next p [] = omega arith
least_or_next p (x ∷ xs) = one_more (not (p x)) (position_or_len p xs) (length xs) (least_or_next p xs)

-- a number in the list, set
pub set_there : (xs : List Bool) (i : ℕ) (x y : Bool) → slice_get xs i ≡ Some x
    → slice_get (slice_set xs i y) i ≡ Some y
set_there [] i x y e = absurd (none≢some e)
  where
    none≢some : None ≡ Some x → ⊥
    none≢some e = cc
set_there (z ∷ xs) zero x y e = refl
set_there (z ∷ xs) (suc i) x y e = set_there xs i x y e

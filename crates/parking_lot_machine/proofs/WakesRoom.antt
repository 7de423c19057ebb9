-- No more threads are to be woken than there are threads.
use Rattle.std.proofs.Common.{◌≡◌, ◌≢◌, ◌<◌, ◌≤◌, ℕ, zero, suc, ◌+◌, ◌⊎◌, inl, inr, List, [], ◌∷◌, length, map, remove}
use Rattle.std.proofs.Common.{Option, Some, None, slice_get, refl, sym, ap, ◌∙◌, subst, arith}
use Rattle.std.specs.Option.{option_map}
use Rattle.std.proofs.lemmas.Bool.{cases_eq}
use Rattle.std.proofs.lemmas.List.{length-map}
use Rattle.std.proofs.lemmas.List.Edits.{length-remove}
use Rattle.std.proofs.lemmas.Option.{slice_get-map, slice_get_within}
use Rattle.parking_lot_core_model.proofs.Entering.{none≢some}
use Rattle.parking_lot_machine_calls.specs.declared.seat.Wakeup.{Wakeup}
use Rattle.parking_lot_machine.proofs.Indexing.{apart_before, get_remove, not_removed}

-- DIFFERENT NUMBERS BELOW n ARE n AT MOST

abbrev AreBelow : ℕ → List ℕ → Type 0
AreBelow n xs = (i x : ℕ) → slice_get xs i ≡ Some x → x < n

abbrev AreApart : List ℕ → Type 0
AreApart xs = (i j x : ℕ) → slice_get xs i ≡ Some x → slice_get xs j ≡ Some x → i ≡ j

same_number : {a b : ℕ} → Some a ≡ Some b → a ≡ b
same_number e = cc

-- a number stands somewhere in a list, or nowhere
find : (n : ℕ) (xs : List ℕ) → ((i : ℕ) × (slice_get xs i ≡ Some n)) ⊎ ((i x : ℕ) → slice_get xs i ≡ Some x → x ≢ n)
find n [] = inr (λ i x at e. absurd (none≢some at))
find n (y ∷ xs) = elim (cases_eq y n) [
  | inl e ↦ inl (0, ap Some e)
  | inr ne ↦ elim (find n xs) [
    | inl f ↦ inl (suc f.0, f.1)
    | inr g ↦ inr (nowhere ne g)
  ]
]
  where
    nowhere : y ≢ n → ((i x : ℕ) → slice_get xs i ≡ Some x → x ≢ n) → (i x : ℕ) → slice_get (y ∷ xs) i ≡ Some x → x ≢ n
    nowhere ne g zero x at e = ne (same_number at ∙ e)
    nowhere ne g (suc i) x at e = g i x at e

less_unless : (n x : ℕ) → x < suc n → x ≢ n → x < n
less_unless n x less ne = elim (cases_eq x n) [
  | inl e ↦ absurd (ne e)
  | inr ne' ↦ omega (arith, less, ne')
]

few_apart : (n : ℕ) (xs : List ℕ) → AreBelow n xs → AreApart xs → length xs ≤ n
few_apart zero [] below apart = omega arith
few_apart zero (x ∷ xs) below apart = absurd (let none : x < 0 = below 0 x refl in omega arith)
few_apart (suc n) xs below apart = elim (find n xs) [
  | inl f ↦
      let less : length (remove xs f.0) + 1 ≡ length xs = length-remove xs f.0 (slice_get_within xs f.0 n f.1) in
      let few : length (remove xs f.0) ≤ n = few_apart n (remove xs f.0)
      (λ i x at.
      let m = get_remove xs f.0 i x at in
      less_unless n x (below m.0 x m.1) (λ e. not_removed f.0 i m.0 m.2 (apart m.0 f.0 n (m.1 ∙ ap Some e) f.1)))
      (λ i j x a b.
      let k = get_remove xs f.0 i x a in
      let l = get_remove xs f.0 j x b in
      apart_before f.0 i j k.0 l.0 k.2 l.2 (apart k.0 l.0 x k.1 l.1)) in
      omega arith
  | inr g ↦ let few : length xs ≤ n = few_apart n xs (λ i x at. less_unless n x (below i x at) (g i x at)) apart in
      omega arith
]

-- WHO IS TO BE WOKEN

from_map : (ws : List Wakeup) (i x : ℕ) → slice_get (map (λ (e : Wakeup). e.thread) ws) i ≡ Some x → (e : Wakeup)
    × (slice_get ws i ≡ Some e) × (e.thread ≡ x)
from_map ws i x at = go (slice_get ws i) refl
  where
    go : (o : Option Wakeup) → slice_get ws i ≡ o → (e : Wakeup) × (slice_get ws i ≡ Some e) × (e.thread ≡ x)
    go None e = absurd
        (none≢some (sym (slice_get-map (λ (e : Wakeup). e.thread) ws i ∙ ap (option_map (λ (e : Wakeup). e.thread)) e)
        ∙ at))
    go (Some w) e = (
      w,
      e,
      same_number (sym (slice_get-map (λ (e : Wakeup). e.thread) ws i ∙ ap (option_map (λ (e : Wakeup). e.thread)) e)
          ∙ at),
    )

-- threads that are each to be woken once
pub wakes_few : (n : ℕ) (ws : List Wakeup) → ((i : ℕ) (e : Wakeup) → slice_get ws i ≡ Some e → e.thread < n)
    → ((i j : ℕ) (e f : Wakeup) → slice_get ws i ≡ Some e → slice_get ws j ≡ Some f → e.thread ≡ f.thread → i ≡ j)
    → length ws ≤ n
wakes_few n ws low once =
    let few : length (map (λ (e : Wakeup). e.thread) ws) ≤ n = few_apart n (map (λ (e : Wakeup). e.thread) ws)
    (λ i x at. let m = from_map ws i x at in subst (λ y. y < n) m.2 (low i m.0 m.1))
    (λ i j x a b. let k = from_map ws i x a in let l = from_map ws j x b in once i j k.0 l.0 k.1 l.1 (k.2 ∙ sym l.2)) in
    omega (arith, few, length-map ws (λ (e : Wakeup). e.thread))

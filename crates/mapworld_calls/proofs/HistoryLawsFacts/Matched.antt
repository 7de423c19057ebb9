-- Two lists of keys without repeats, each of whose keys the other has too, are as long; what a search finds; and a sum
-- that is no greater, element by element.
use Rattle.std.proofs.Common.{◌≡◌, ◌≢◌, ℕ, zero, suc, ◌≤◌, ⊎_elim, Bool, true, IsSome, List, [], ◌∷◌, length, Option}
use Rattle.std.proofs.Common.{Some, None, slice_get, remove, sum, sum_by, refl, ap, sym, ◌∙◌, arith}
use Rattle.std.specs.List.{find}
use Rattle.std.specs.Cmp.{IsEquivalence}
use Rattle.std.proofs.lemmas.Bool.{cases_Bool}
use Rattle.std.proofs.lemmas.Option.{same_Some, none-some, slice_get_within}
use Rattle.std.proofs.lemmas.List.Edits.{length-remove}
use Rattle.std.proofs.lemmas.List.Sums.{sum_by-cons}
use Rattle.mapworld_calls.proofs.Lists.{slice_get-remove_kept}
use Rattle.mapworld_calls.specs.HistoryLaws.Walks.{AreOnce}
use Rattle.mapworld_calls.proofs.HistoryLawsFacts.Joined.{Passes}

-- each key of the one list has an equal one in the other
abbrev pub HasEach : {K : Type 0} → (K → K → Bool) → List K → List K → Type 0
HasEach {K} eq xs ys = (m : ℕ) (k : K) → slice_get xs m ≡ Some k → Passes (λ j. eq k j) ys

module _ {K : Type 0} (eq : K → K → Bool) (laws : IsEquivalence eq) where
  once-behind : (x : K) (xs : List K) → AreOnce eq (x ∷ xs) → AreOnce eq xs
  once-behind x xs once m n j k hm hn e = let same = once (suc m) (suc n) j k hm hn e in omega arith

  -- the key that the first one has isn't another one's
  apart : (x : K) (xs ys : List K) → AreOnce eq (x ∷ xs) → (a : Passes (λ j. eq x j) ys) (m : ℕ) (k : K)
      → slice_get xs m ≡ Some k → (b : Passes (λ j. eq k j) ys) → b.0 ≢ a.0
  apart x xs ys once a m k at b same =
      let one : b.1 ≡ a.1 = same_Some b.1 a.1 (sym b.2 ∙ ap (λ n. slice_get ys n) same ∙ a.2) in
      let equal : eq x k ≡ true = laws.congr x a.1 k a.3 ∙ laws.symm a.1 k ∙ ap (λ j. eq k j) (sym one) ∙ b.3 in
      let places = once 0 (suc m) x k refl at equal in
      omega arith

  pub length-le : (xs ys : List K) → AreOnce eq xs → HasEach eq xs ys → length xs ≤ length ys
  length-le [] ys once each = omega arith
  length-le (x ∷ xs) ys once each =
      let a = each 0 x refl in
      let shorter = length-remove ys a.0 (slice_get_within ys a.0 a.1 a.2) in
      let rest = length-le xs (remove ys a.0) (once-behind x xs once) (λ m k at. behind a m k at) in
      omega arith
    where
      behind : (a : Passes (λ j. eq x j) ys) (m : ℕ) (k : K) → slice_get xs m ≡ Some k
          → Passes (λ j. eq k j) (remove ys a.0)
      behind a m k at =
          let b = each (suc m) k at in
          let r = slice_get-remove_kept ys a.0 b.0 b.1 (apart x xs ys once a m k at b) b.2 in
          (r.0, b.1, r.1, b.3)

module _ {X : Type 0} (test : X → Bool) where
  pub find-passes : (xs : List X) → IsSome (find test xs) → Passes test xs
  find-passes [] h = absurd cc
  find-passes (x ∷ xs) h =
      ⊎_elim (λ own. (0, x, refl, own))
      (λ other. let r = find-passes xs (sym (rw other refl) ∙ h) in (suc r.0, r.1, r.2, r.3)) (cases_Bool (test x))

  pub find-there : (xs : List X) (n : ℕ) (x : X) → slice_get xs n ≡ Some x → test x ≡ true → IsSome (find test xs)
  find-there [] n x at is = absurd (none-some x at)
  find-there (z ∷ zs) zero x at is = let own : test z ≡ true = ap test (same_Some z x at) ∙ is in rw own refl
  find-there (z ∷ zs) (suc n) x at is = ⊎_elim (λ own. rw own refl) (λ other. rw other (find-there zs n x at is))
      (cases_Bool (test z))

pub what-is_there : {X : Type 0} (o : Option X) → IsSome o → (x : X) × (o ≡ Some x)
what-is_there None h = absurd cc
what-is_there (Some x) h = (x, refl)

pub sum_by-le : {X : Type 0} (g : X → ℕ) (xs : List X) (ns : List ℕ) → length ns ≡ length xs
    → ((i n : ℕ) (x : X) → slice_get ns i ≡ Some n → slice_get xs i ≡ Some x → g x ≤ n) → sum_by g xs ≤ sum ns
sum_by-le g [] ns same each = omega arith
sum_by-le g (x ∷ xs) [] same each = absurd (omega arith)
sum_by-le g (x ∷ xs) (n ∷ ns) same each =
    let one = each 0 n x refl refl in
    let rest = sum_by-le g xs ns (omega arith) (λ i m y hm hy. each (suc i) m y hm hy) in
    let left = sum_by-cons g x xs in
    let right = sum_by-cons (λ (y : ℕ). y) n ns in
    omega (arith, one, rest, left, right)

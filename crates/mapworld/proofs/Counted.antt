-- What a count has counted.
use Rattle.std.proofs.Common.{◌≡◌, ℕ, zero, suc, ◌+◌, ◌<◌, Bool, cond, true, false, List, [], ◌∷◌, take, Some}
use Rattle.std.proofs.Common.{slice_get, refl, ap, arith}
use Rattle.std.specs.List.{count_by}
use Rattle.std.proofs.lemmas.List.Sums.{sum_by-cons}

-- behind c that pass there is one more
pub record Nth {X : Type 0} (p : X → Bool) (xs : List X) (c : ℕ) : Type 0 where
  pub place : ℕ
  pub element : X
  pub listed : slice_get xs place ≡ Some element
  pub passes : p element ≡ true
  pub before : count_by p (take place xs) ≡ c

module _ {X : Type 0} (p : X → Bool) where
  count-cons : (x : X) (xs : List X) → count_by p (x ∷ xs) ≡ cond (p x) 1 0 + count_by p xs
  count-cons x xs = sum_by-cons (λ y. cond (p y) 1 0) x xs

  behind : (x : X) (xs : List X) (c n m : ℕ) → cond (p x) 1 0 ≡ n → n + c ≡ m → Nth p xs c → Nth p (x ∷ xs) m
  behind x xs c n m is sum y = record {
    place = suc y.place;
    element = y.element;
    listed = y.listed;
    passes = y.passes;
    before = let step = count-cons x (take y.place xs) in let more = y.before in omega (arith, step, more, is, sum);
  }

  counted : (x : X) (xs : List X) (more : (c : ℕ) → c < count_by p xs → Nth p xs c) (b : Bool) → p x ≡ b → (c : ℕ)
      → c < count_by p (x ∷ xs) → Nth p (x ∷ xs) c
  counted x xs more true is zero low = record { place = 0; element = x; listed = refl; passes = is; before = refl }
  counted x xs more true is (suc c) low =
      let one : cond (p x) 1 0 ≡ 1 = ap (λ b. cond b 1 0) is in
      let step = count-cons x xs in
      behind x xs c 1 (suc c) one (omega arith) (more c (omega (arith, step, one, low)))
  counted x xs more false is c low =
      let none : cond (p x) 1 0 ≡ 0 = ap (λ b. cond b 1 0) is in
      let step = count-cons x xs in
      behind x xs c 0 c none (omega arith) (more c (omega (arith, step, none, low)))

  pub nth : (xs : List X) (c : ℕ) → c < count_by p xs → Nth p xs c
  nth [] c low = let none : count_by p [] ≡ 0 = refl in absurd (omega (arith, low, none))
  nth (x ∷ xs) c low = counted x xs (λ k k_low. nth xs k k_low) (p x) refl c low

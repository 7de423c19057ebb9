-- Places by their numbers.
use Rattle.std.proofs.Common.{◌≡◌, ℕ, ◌+◌, ◌<◌, ◌≤◌, Bool, true, false, cond, not, nat_lt, ◌==◌, List, [], ◌∷◌, length}
use Rattle.std.proofs.Common.{map, Some, None, unwrap_or, slice_get, slice_set, position, is_some}
use Rattle.std.proofs.Common.{refl, sym, ap, ◌∙◌, arith, count_by, zero, suc, ◌++◌, add-zero, remove}
use Rattle.std.specs.List.{position_or_len}
use Rattle.std.proofs.lemmas.Bool.{cond-true, ltb-false, both_ways, eqb-false, ne_eqb, lt-ltb}
use Rattle.std.proofs.lemmas.List.Sums.{sum_by-set, sum_by-cons, sum_by-append, count_by-le-length}
use Rattle.std.proofs.lemmas.Option.{slice_get_within, get_or_from_slice_get, slice_get-get_or}
use Rattle.std.proofs.lemmas.List.Quantifiers.{position-Some}

-- 1 for true
abbrev pub flag : Bool → ℕ
flag b = cond b 1 0

pub flag-le : (b : Bool) → flag b ≤ 1
flag-le true = omega arith
flag-le false = omega arith

module _ {X : Type 0} where
  pub position_or_len-le : (p : X → Bool) (xs : List X) → position_or_len p xs ≤ length xs
  position_or_len-le p [] = omega arith
  position_or_len-le p (x ∷ xs) =
      let h = position_or_len-le p xs in
      elim (not (p x)) as (λ b. cond b (1 + position_or_len p xs) 0 ≤ length (x ∷ xs))
      [ true ↦ omega arith | false ↦ omega arith ]

  -- the first place that passes, or the length
  pub unwrap_or-position : (p : X → Bool) (xs : List X) → unwrap_or (position p xs) (length xs) ≡ position_or_len p xs
  unwrap_or-position p xs =
      let n = position_or_len p xs in
      let both : (b : Bool) → nat_lt n (length xs) ≡ b → unwrap_or (cond b (Some n) None) (length xs) ≡ n
      = elim [
        | true ↦ λ e. refl
        | false ↦ λ e.
            (let a : length xs ≤ n = ltb-false n (length xs) e in let b : n ≤ length xs = position_or_len-le p xs in
            omega arith)
      ] in
      both (nat_lt n (length xs)) refl

  -- one element changed
  pub slice_get-set_same : (xs : List X) (i : ℕ) (x y : X) → slice_get xs i ≡ Some x
      → slice_get (slice_set xs i y) i ≡ Some y
  slice_get-set_same [] i x y h = absurd (omega (arith, slice_get_within [] i x h))
  slice_get-set_same (z ∷ xs) zero x y h = refl
  slice_get-set_same (z ∷ xs) (suc i) x y h = slice_get-set_same xs i x y h

  pub slice_get-set_other : (xs : List X) (i j : ℕ) (y : X) → (j == i) ≡ false
      → slice_get (slice_set xs i y) j ≡ slice_get xs j
  slice_get-set_other [] i j y h = refl
  slice_get-set_other (z ∷ xs) zero zero y h = absurd (both_ways (0 == 0) h refl)
  slice_get-set_other (z ∷ xs) zero (suc j) y h = refl
  slice_get-set_other (z ∷ xs) (suc i) zero y h = refl
  slice_get-set_other (z ∷ xs) (suc i) (suc j) y h =
      slice_get-set_other xs i j y (ne_eqb j i (λ e. eqb-false (suc j) (suc i) h (ap suc e)))

  -- how many pass, with one element changed
  pub count_by-set : (p : X → Bool) (xs : List X) (i : ℕ) (x y : X) → slice_get xs i ≡ Some x
      → count_by p (slice_set xs i y) + flag (p x) ≡ count_by p xs + flag (p y)
  count_by-set p xs i x y h =
      ap (λ z. count_by p (slice_set xs i y) + flag (p z)) (sym (get_or_from_slice_get xs i x x h))
      ∙ sum_by-set (λ z. flag (p z)) xs i y x (slice_get_within xs i x h)

  pub count_by-cons : (p : X → Bool) (x : X) (xs : List X) → count_by p (x ∷ xs) ≡ flag (p x) + count_by p xs
  count_by-cons p x xs = sum_by-cons (λ z. flag (p z)) x xs

  -- not all pass
  pub count_by-lt : (p : X → Bool) (xs : List X) (i : ℕ) (x : X) → slice_get xs i ≡ Some x → p x ≡ false
      → count_by p xs < length xs
  count_by-lt p [] i x h e = absurd (omega (arith, slice_get_within [] i x h))
  count_by-lt p (z ∷ xs) zero x h e =
      let c = count_by-cons p z xs in
      let f : flag (p z) ≡ 0 = ap flag (ap (λ o. p (unwrap_or o z)) h ∙ e) in
      let l : count_by p xs ≤ length xs = count_by-le-length p xs in
      omega arith
  count_by-lt p (z ∷ xs) (suc i) x h e =
      let c = count_by-cons p z xs in
      let f : flag (p z) ≤ 1 = flag-le (p z) in
      let l : count_by p xs < length xs = count_by-lt p xs i x h e in
      omega arith

  pub count_by-append : (p : X → Bool) (xs ys : List X) → count_by p (xs ++ ys) ≡ count_by p xs + count_by p ys
  count_by-append p xs ys = sum_by-append (λ z. flag (p z)) xs ys

  pub count_by-push : (p : X → Bool) (xs : List X) (x : X) → count_by p (xs ++ x ∷ []) ≡ count_by p xs + flag (p x)
  count_by-push p xs x = count_by-append p xs (x ∷ [])
      ∙ ap (λ n. count_by p xs + n) (count_by-cons p x [] ∙ add-zero (flag (p x)))

  -- how many pass, with one element taken out
  pub count_by-remove : (p : X → Bool) (xs : List X) (i : ℕ) (x : X) → slice_get xs i ≡ Some x
      → count_by p (remove xs i) + flag (p x) ≡ count_by p xs
  count_by-remove p [] i x h = absurd (omega (arith, slice_get_within [] i x h))
  count_by-remove p (z ∷ xs) zero x h =
      let c = count_by-cons p z xs in
      let f : flag (p z) ≡ flag (p x) = ap flag (ap (λ o. p (unwrap_or o z)) h) in
      omega arith
  count_by-remove p (z ∷ xs) (suc i) x h =
      let c = count_by-cons p z xs in
      let d = count_by-cons p z (remove xs i) in
      let e : count_by p (remove xs i) + flag (p x) ≡ count_by p xs = count_by-remove p xs i x h in
      omega arith

  -- who stands in a list passes there
  pub count_by-at : (p : X → Bool) (xs : List X) (i : ℕ) (x : X) → slice_get xs i ≡ Some x → p x ≡ true
      → 1 ≤ count_by p xs
  count_by-at p xs i x h e =
      let r = count_by-remove p xs i x h in
      let f : flag (p x) ≡ 1 = ap flag e in
      omega arith

  -- a change that no test sees
  pub count_by-map_same : (p : X → Bool) (f : X → X) → ((x : X) → p (f x) ≡ p x) → (xs : List X)
      → count_by p (map f xs) ≡ count_by p xs
  count_by-map_same p f same [] = refl
  count_by-map_same p f same (x ∷ xs) =
      count_by-cons p (f x) (map f xs)
      ∙ (ap (λ b. flag b + count_by p (map f xs)) (same x)
      ∙ (ap (λ n. flag (p x) + n) (count_by-map_same p f same xs) ∙ sym (count_by-cons p x xs)))

  -- what isn't there is past the end
  pub slice_get_none : (xs : List X) (i : ℕ) → slice_get xs i ≡ None → length xs ≤ i
  slice_get_none [] i e = omega arith
  slice_get_none (x ∷ xs) zero e = absurd (some≢none e)
    where
      some≢none : Some x ≡ None → ⊥
      some≢none e = cc
  slice_get_none (x ∷ xs) (suc i) e = let h = slice_get_none xs i e in omega arith

  -- where some pass the first of them is found
  pub first_passes : (p : X → Bool) (xs : List X) → 1 ≤ count_by p xs → (x : X)
      × (slice_get xs (position_or_len p xs) ≡ Some x) × (p x ≡ true)
  first_passes p [] h = absurd (omega arith)
  first_passes p (y ∷ xs) h =
      let both : (b : Bool) → p y ≡ b → (x : X)
      × (slice_get (y ∷ xs) (cond (not b) (1 + position_or_len p xs) 0) ≡ Some x) × (p x ≡ true) = elim [
        | true ↦ λ e. (y, refl, e)
        | false ↦ λ e.
            let c = count_by-cons p y xs in
            let f : flag (p y) ≡ 0 = ap flag e in
            let r = first_passes p xs (omega arith) in
            (r.0, ap (slice_get (y ∷ xs)) (one_more (position_or_len p xs)) ∙ r.1, r.2)
      ] in
      both (p y) refl
    where
      one_more : (n : ℕ) → 1 + n ≡ suc n
      one_more n = omega arith

  pub position_passes : (p : X → Bool) (xs : List X) → position_or_len p xs < length xs
      → position p xs ≡ Some (position_or_len p xs)
  position_passes p xs h = cond-true (nat_lt (position_or_len p xs) (length xs)) (Some (position_or_len p xs)) None
      (lt-ltb (position_or_len p xs) (length xs) h)

  -- at a position that was found there is an element
  pub position_there : (p : X → Bool) (xs : List X) (i : ℕ) → position p xs ≡ Some i → is_some (slice_get xs i) ≡ true
  position_there p [] i h = absurd (none≢some h)
    where
      none≢some : {k : ℕ} → None ≡ Some k → ⊥
      none≢some e = cc
  position_there p (x ∷ xs) i h = ap is_some (slice_get-get_or (x ∷ xs) i x (position-Some p (x ∷ xs) i x h).0)

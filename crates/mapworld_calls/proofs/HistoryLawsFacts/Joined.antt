-- Lists by index: pieces that are joined end to end, a test that some element passes, and a map.
use Rattle.std.proofs.Common.{◌≡◌, ℕ, zero, suc, ◌+◌, inl, inr, ⊎_elim, Bool, true, List, [], ◌∷◌, ◌++◌, length, take}
use Rattle.std.proofs.Common.{map, filter, Some, slice_get, refl, ap, sym, ◌∙◌, zero-add, length-append, arith}
use Rattle.std.specs.List.{flat_map, list_any}
use Rattle.std.proofs.lemmas.Bool.{cases_Bool}
use Rattle.std.proofs.lemmas.Option.{same_Some, none-some}
use Rattle.mapworld_calls.proofs.Lists.{slice_get-append_left, slice_get-append_right, slice_get-append_cases}

-- the element at a place of the joined list stands in a piece
pub record IsInPiece {X A : Type 0} (f : X → List A) (xs : List X) (n : ℕ) (y : A) : Type 0 where
  pub piece : ℕ
  pub inner : ℕ
  pub whole : X
  pub at : slice_get xs piece ≡ Some whole
  pub inside : slice_get (f whole) inner ≡ Some y
  pub place : n ≡ length (flat_map f (take piece xs)) + inner

module _ {X A : Type 0} (f : X → List A) where
  pub joined-at : (xs : List X) (a b : ℕ) (x : X) (y : A) → slice_get xs a ≡ Some x → slice_get (f x) b ≡ Some y
      → slice_get (flat_map f xs) (length (flat_map f (take a xs)) + b) ≡ Some y
  joined-at [] a b x y at inside = absurd (none-some x at)
  joined-at (z ∷ zs) zero b x y at inside =
      ap (λ n. slice_get (f z ++ flat_map f zs) n) (zero-add b)
      ∙ slice_get-append_left (f z) (flat_map f zs) b y (ap (λ u. slice_get (f u) b) (same_Some z x at) ∙ inside)
  joined-at (z ∷ zs) (suc a) b x y at inside =
      let longer = length-append (f z) (flat_map f (take a zs)) in
      let there : length (f z ++ flat_map f (take a zs)) + b ≡ length (f z) + (length (flat_map f (take a zs)) + b) =
      omega (arith, longer) in
      ap (λ n. slice_get (f z ++ flat_map f zs) n) there
      ∙ slice_get-append_right (f z) (flat_map f zs) (length (flat_map f (take a zs)) + b)
      ∙ joined-at zs a b x y at inside

  piece-behind : (z : X) (zs : List X) (n m : ℕ) (y : A) → n ≡ length (f z) + m → IsInPiece f zs m y
      → IsInPiece f (z ∷ zs) n y
  piece-behind z zs n m y is p =
      let longer = length-append (f z) (flat_map f (take p.piece zs)) in
      let place = p.place in
      record {
        piece = suc p.piece;
        inner = p.inner;
        whole = p.whole;
        at = p.at;
        inside = p.inside;
        place = omega (arith, longer, place, is);
      }

  pub joined-cases : (xs : List X) (n : ℕ) (y : A) → slice_get (flat_map f xs) n ≡ Some y → IsInPiece f xs n y
  joined-cases [] n y at = absurd (none-some y at)
  joined-cases (z ∷ zs) n y at = elim (slice_get-append_cases (f z) (flat_map f zs) n y at) [
    | inl own ↦ record { piece = 0; inner = n; whole = z; at = refl; inside = own; place = sym (zero-add n) }
    | inr rest ↦ piece-behind z zs n rest.0 y rest.1 (joined-cases zs rest.0 y rest.2)
  ]

-- pieces that are as long are as long together
pub length-alike : {X A B : Type 0} (f : X → List A) (g : X → List B) (xs : List X)
    → ((n : ℕ) (x : X) → slice_get xs n ≡ Some x → length (g x) ≡ length (f x))
    → length (flat_map g xs) ≡ length (flat_map f xs)
length-alike f g [] same = refl
length-alike f g (x ∷ xs) same =
    length-append (g x) (flat_map g xs)
    ∙ ap (λ n. n + length (flat_map g xs)) (same 0 x refl)
    ∙ ap (λ n. length (f x) + n) (length-alike f g xs (λ n y at. same (suc n) y at))
    ∙ sym (length-append (f x) (flat_map f xs))

pub length-singles : {X A : Type 0} (f : X → List A) (xs : List X)
    → ((n : ℕ) (x : X) → slice_get xs n ≡ Some x → length (f x) ≡ 1) → length (flat_map f xs) ≡ length xs
length-singles f [] one = refl
length-singles f (x ∷ xs) one =
    let here = one 0 x refl in
    let rest = length-singles f xs (λ n y at. one (suc n) y at) in
    let both = length-append (f x) (flat_map f xs) in
    omega (arith, here, rest, both)

-- a front up to an element
pub length_of_take : {X : Type 0} (xs : List X) (n : ℕ) (x : X) → slice_get xs n ≡ Some x → length (take n xs) ≡ n
length_of_take [] n x at = absurd (none-some x at)
length_of_take (z ∷ zs) zero x at = refl
length_of_take (z ∷ zs) (suc n) x at = ap (λ m. suc m) (length_of_take zs n x at)

pub mapped-at : {X Y : Type 0} (g : X → Y) (xs : List X) (n : ℕ) (x : X) → slice_get xs n ≡ Some x
    → slice_get (map g xs) n ≡ Some (g x)
mapped-at g [] n x at = absurd (none-some x at)
mapped-at g (z ∷ zs) zero x at = ap (λ y. Some (g y)) (same_Some z x at)
mapped-at g (z ∷ zs) (suc n) x at = mapped-at g zs n x at

pub mapped-cases : {X Y : Type 0} (g : X → Y) (xs : List X) (n : ℕ) (y : Y) → slice_get (map g xs) n ≡ Some y → (x : X)
    × (slice_get xs n ≡ Some x) × (g x ≡ y)
mapped-cases g [] n y at = absurd (none-some y at)
mapped-cases g (z ∷ zs) zero y at = (z, refl, same_Some (g z) y at)
mapped-cases g (z ∷ zs) (suc n) y at = mapped-cases g zs n y at

-- some element passes, at some place
abbrev pub Passes : {X : Type 0} → (X → Bool) → List X → Type 0
Passes {X} test xs = (n : ℕ) × (x : X) × (slice_get xs n ≡ Some x) × (test x ≡ true)

pub any-at : {X : Type 0} (test : X → Bool) (xs : List X) → list_any test xs ≡ true → Passes test xs
any-at test [] h = absurd cc
any-at test (x ∷ xs) h =
    ⊎_elim (λ own. (0, x, refl, own))
    (λ other. let r = any-at test xs (sym (rw other refl) ∙ h) in (suc r.0, r.1, r.2, r.3)) (cases_Bool (test x))

-- where all pass, the list is what is left of it
pub filter-all : {X : Type 0} (test : X → Bool) (xs : List X)
    → ((n : ℕ) (x : X) → slice_get xs n ≡ Some x → test x ≡ true) → filter test xs ≡ xs
filter-all test [] all = refl
filter-all test (x ∷ xs) all = rw (all 0 x refl) (ap (λ ys. x ∷ ys) (filter-all test xs (λ n y at. all (suc n) y at)))

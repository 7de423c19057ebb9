-- A fold over a list of which one element is replaced. It knows nothing of what the elements are.
use Rattle.std.proofs.Common.{◌≡◌, ℕ, zero, suc, ◌<◌, ◌≤◌, List, [], ◌∷◌, Some, slice_get, slice_set, take, fold, refl}
use Rattle.std.proofs.Common.{ap, sym, ◌∙◌, arith, Bool}
use Rattle.std.specs.List.{find}
use Rattle.std.proofs.lemmas.Option.{same_Some}
use Rattle.std.proofs.Math.Path.{fun_ext}

module _ {B O : Type 0} (f : O → B → O) where
  -- elements that change nothing
  pub fold-idle : (a : O) (bs : List B) → ((j : ℕ) (b : B) → slice_get bs j ≡ Some b → (o : O) → f o b ≡ o)
      → fold f a bs ≡ a
  fold-idle a [] idle = refl
  fold-idle a (b ∷ bs) idle = ap (λ o. fold f o bs) (idle zero b refl a) ∙ fold-idle a bs (λ j c h. idle (suc j) c h)

  -- the replaced element does at its turn what the other did
  pub fold-replaced : (a : O) (bs : List B) (i : ℕ) (b c : B) → slice_get bs i ≡ Some b
      → f (fold f a (take i bs)) c ≡ f (fold f a (take i bs)) b
      → fold f a (slice_set bs i c) ≡ fold f a bs
  fold-replaced a [] i b c at same = absurd cc
  fold-replaced a (x ∷ bs) zero b c at same = ap (λ o. fold f o bs) (same ∙ ap (f a) (sym (same_Some x b at)))
  fold-replaced a (x ∷ bs) (suc i) b c at same = fold-replaced (f a x) bs i b c at same

  -- nothing behind the element changes what it left
  pub fold-last : (a : O) (bs : List B) (i : ℕ) (b c : B) → slice_get bs i ≡ Some b
      → ((j : ℕ) (d : B) → i < j → slice_get bs j ≡ Some d → (o : O) → f o d ≡ o)
      → fold f a (slice_set bs i c) ≡ f (fold f a (take i bs)) c
  fold-last a [] i b c at idle = absurd cc
  fold-last a (x ∷ bs) zero b c at idle = fold-idle (f a c) bs (λ j d h. idle (suc j) d (omega arith) h)
  fold-last a (x ∷ bs) (suc i) b c at idle = fold-last (f a x) bs i b c at (λ j d lt h. idle (suc j) d (omega arith) h)

module _ {B : Type 0} where
  pub slice_set-itself : (bs : List B) (i : ℕ) (b : B) → slice_get bs i ≡ Some b → slice_set bs i b ≡ bs
  slice_set-itself [] i b at = refl
  slice_set-itself (x ∷ bs) zero b at = ap (λ y. y ∷ bs) (sym (same_Some x b at))
  slice_set-itself (x ∷ bs) (suc i) b at = ap (λ ys. x ∷ ys) (slice_set-itself bs i b at)

  -- a front that doesn't reach the replaced element
  pub take-set_above : (bs : List B) (i j : ℕ) (c : B) → j ≤ i → take j (slice_set bs i c) ≡ take j bs
  take-set_above [] i j c le = refl
  take-set_above (x ∷ bs) i zero c le = refl
  take-set_above (x ∷ bs) zero (suc j) c le = absurd (omega arith)
  take-set_above (x ∷ bs) (suc i) (suc j) c le = ap (λ ys. x ∷ ys) (take-set_above bs i j c (omega arith))

  -- a front that has it
  pub take-set_below : (bs : List B) (i j : ℕ) (c : B) → i < j → take j (slice_set bs i c) ≡ slice_set (take j bs) i c
  take-set_below bs i zero c lt = absurd (omega arith)
  take-set_below [] i (suc j) c lt = refl
  take-set_below (x ∷ bs) zero (suc j) c lt = refl
  take-set_below (x ∷ bs) (suc i) (suc j) c lt = ap (λ ys. x ∷ ys) (take-set_below bs i j c (omega arith))

  pub slice_get-take : (bs : List B) (i j : ℕ) (b : B) → i < j → slice_get bs i ≡ Some b
      → slice_get (take j bs) i ≡ Some b
  slice_get-take bs i zero b lt at = absurd (omega arith)
  slice_get-take [] i (suc j) b lt at = at
  slice_get-take (x ∷ bs) zero (suc j) b lt at = at
  slice_get-take (x ∷ bs) (suc i) (suc j) b lt at = slice_get-take bs i j b (omega arith) at

  pub slice_get-from_take : (bs : List B) (i j : ℕ) (b : B) → slice_get (take j bs) i ≡ Some b → slice_get bs i ≡ Some b
  slice_get-from_take bs i zero b at = absurd cc
  slice_get-from_take [] i (suc j) b at = at
  slice_get-from_take (x ∷ bs) zero (suc j) b at = at
  slice_get-from_take (x ∷ bs) (suc i) (suc j) b at = slice_get-from_take bs i j b at

  pub take-take : (bs : List B) (i j : ℕ) → i ≤ j → take i (take j bs) ≡ take i bs
  take-take bs zero j le = refl
  take-take bs (suc i) zero le = absurd (omega arith)
  take-take [] (suc i) (suc j) le = refl
  take-take (x ∷ bs) (suc i) (suc j) le = ap (λ ys. x ∷ ys) (take-take bs i j (omega arith))

-- a search with a test that gives the same answers
pub find-same : {X : Type 0} (p q : X → Bool) (xs : List X) → ((x : X) → p x ≡ q x) → find p xs ≡ find q xs
find-same p q xs same = ap (λ test. find test xs) (fun_ext same)

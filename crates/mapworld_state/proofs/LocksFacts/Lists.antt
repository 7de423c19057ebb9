-- Lists of all threads, and facts of each element.
use Rattle.std.proofs.Common.{◌≡◌, ℕ, zero, suc, ◌+◌, ◌<◌, ◌≤◌, List, [], ◌∷◌, length, map, Some, None, slice_get}
use Rattle.std.proofs.Common.{slice_set, refl, sym, ap, ◌∙◌, subst, arith}
use Rattle.std.specs.List.{All, range_with_len}
use Rattle.std.proofs.lemmas.List.Elements.{All-cons, All-head, All-tail}
use Rattle.std.proofs.lemmas.Option.{none-some, same_Some, slice_get_within, slice_get_past}

module _ {X : Type 0} where
  pub all_at : (P : X → Type 0) (xs : List X) (i : ℕ) (x : X) → All P xs → slice_get xs i ≡ Some x → P x
  all_at P [] i x h e = absurd (none-some x e)
  all_at P (y ∷ ys) zero x h e = subst P (same_Some y x e) (All-head P y ys h)
  all_at P (y ∷ ys) (suc i) x h e = all_at P ys i x (All-tail P y ys h) e

  pub all_set : (P : X → Type 0) (xs : List X) (i : ℕ) (x : X) → All P xs → P x → All P (slice_set xs i x)
  all_set P [] i x h p = h
  all_set P (y ∷ ys) zero x h p = All-cons P x ys p (All-tail P y ys h)
  all_set P (y ∷ ys) (suc i) x h p = All-cons P y (slice_set ys i x) (All-head P y ys h)
      (all_set P ys i x (All-tail P y ys h) p)

  abbrev pub everyone : (ℕ → X) → ℕ → ℕ → List X
  everyone f a n = map f (range_with_len a n)

  pub length_everyone : (f : ℕ → X) (a n : ℕ) → length (everyone f a n) ≡ n
  length_everyone f a zero = refl
  length_everyone f a (suc n) = omega (arith, length_everyone f (a + 1) n)

  from : (f : ℕ → X) (a n i : ℕ) → i < n → slice_get (everyone f a n) i ≡ Some (f (a + i))
  from f a zero i h = absurd (omega (arith, h))
  from f a (suc n) zero h = ap (λ k. Some (f k)) (omega arith)
  from f a (suc n) (suc i) h = from f (a + 1) n i (omega (arith, h)) ∙ ap (λ k. Some (f k)) (omega arith)

  pub one_of_all : (f : ℕ → X) (n i : ℕ) → i < n → slice_get (everyone f 0 n) i ≡ Some (f i)
  one_of_all f n i h = from f 0 n i h ∙ ap (λ k. Some (f k)) (omega arith)

  pub beyond_all : (f : ℕ → X) (n i : ℕ) → n ≤ i → slice_get (everyone f 0 n) i ≡ None
  beyond_all f n i h = slice_get_past (everyone f 0 n) i (omega (arith, h, length_everyone f 0 n))

  pub among_all : (f : ℕ → X) (n i : ℕ) (x : X) → slice_get (everyone f 0 n) i ≡ Some x → (i < n) × (x ≡ f i)
  among_all f n i x h =
      let low : i < n = omega (arith, slice_get_within (everyone f 0 n) i x h, length_everyone f 0 n) in
      (low, same_Some x (f i) (sym h ∙ one_of_all f n i low))

-- Lists of all threads, by what each of them is.
use Rattle.std.proofs.Common.{◌≡◌, ◌≢◌, ℕ, zero, suc, ◌+◌, ◌<◌, ◌≤◌, inl, inr, ◌==◌, cond, eq-eqb, List, [], ◌∷◌}
use Rattle.std.proofs.Common.{length, map, Some, None, slice_get, slice_set, refl, sym, ap, ◌∙◌, arith}
use Rattle.std.specs.List.{range_with_len}
use Rattle.std.proofs.lemmas.Bool.{cases_lt, cases_eq, ne_eqb}
use Rattle.parking_lot_rules.proofs.Indexed.{get-set_same, get-set_other}
use Rattle.std.proofs.lemmas.Option.{none-some, same_Some, slice_get_within, slice_get_past}

module _ {R : Type 0} where
  -- two lists with the same at each index are the same
  pub same-lists : (xs ys : List R) → ((i : ℕ) → slice_get xs i ≡ slice_get ys i) → xs ≡ ys
  same-lists [] [] h = refl
  same-lists [] (y ∷ ys) h = absurd (none-some y (h 0))
  same-lists (x ∷ xs) [] h = absurd (none-some x (sym (h 0)))
  same-lists (x ∷ xs) (y ∷ ys) h = ap (λ z. z ∷ xs) (same_Some x y (h 0))
      ∙ ap (λ zs. y ∷ zs) (same-lists xs ys (λ i. h (suc i)))

  abbrev pub all : (ℕ → R) → ℕ → ℕ → List R
  all f a n = map f (range_with_len a n)

  pub length-all : (f : ℕ → R) (a n : ℕ) → length (all f a n) ≡ n
  length-all f a zero = refl
  length-all f a (suc n) = omega (arith, length-all f (a + 1) n)

  at : (f : ℕ → R) (a n i : ℕ) → i < n → slice_get (all f a n) i ≡ Some (f (a + i))
  at f a zero i h = absurd (omega (arith, h))
  at f a (suc n) zero h = ap (λ k. Some (f k)) (omega arith)
  at f a (suc n) (suc i) h = at f (a + 1) n i (omega (arith, h)) ∙ ap (λ k. Some (f k)) (omega arith)

  pub get-all : (f : ℕ → R) (n i : ℕ) → i < n → slice_get (all f 0 n) i ≡ Some (f i)
  get-all f n i h = at f 0 n i h ∙ ap (λ k. Some (f k)) (omega arith)

  pub past : (f : ℕ → R) (n i : ℕ) → n ≤ i → slice_get (all f 0 n) i ≡ None
  past f n i h = slice_get_past (all f 0 n) i (omega (arith, h, length-all f 0 n))

  pub within-all : (f : ℕ → R) (n i : ℕ) (r : R) → slice_get (all f 0 n) i ≡ Some r → i < n
  within-all f n i r h = omega (arith, slice_get_within (all f 0 n) i r h, length-all f 0 n)

  pub was-all : (f : ℕ → R) (n i : ℕ) (r : R) → slice_get (all f 0 n) i ≡ Some r → r ≡ f i
  was-all f n i r h = same_Some r (f i) (sym h ∙ get-all f n i (within-all f n i r h))

  -- a list of all, where each is the same
  pub same-all : (f g : ℕ → R) (n : ℕ) → ((u : ℕ) → u < n → g u ≡ f u) → all g 0 n ≡ all f 0 n
  same-all f g n h = same-lists (all g 0 n) (all f 0 n) (λ i. elim (cases_lt i n) [
    | inl b ↦ get-all g n i b ∙ ap Some (h i b) ∙ sym (get-all f n i b)
    | inr b ↦ past g n i b ∙ sym (past f n i b)
  ])

  -- where one has changed
  pub change-all : (f g : ℕ → R) (n t : ℕ) → t < n → ((u : ℕ) → u < n → u ≢ t → g u ≡ f u)
      → all g 0 n ≡ slice_set (all f 0 n) t (g t)
  change-all f g n t in_range h = same-lists (all g 0 n) (slice_set (all f 0 n) t (g t)) (λ i. elim (cases_lt i n) [
    | inl b ↦ get-all g n i b ∙ here i b
    | inr b ↦ past g n i b ∙ sym (beyond i b)
  ])
    where
      here : (i : ℕ) → i < n → Some (g i) ≡ slice_get (slice_set (all f 0 n) t (g t)) i
      here i b = elim (cases_eq i t) [
        | inl e ↦ ap (λ k. Some (g k)) e ∙ sym (get-set_same (all f 0 n) t (f t) (g t) (get-all f n t in_range))
            ∙ ap (slice_get (slice_set (all f 0 n) t (g t))) (sym e)
        | inr ne ↦ ap Some (h i b ne) ∙ sym (get-all f n i b)
            ∙ sym (get-set_other (all f 0 n) t i (g t) (λ e. ne (sym e)))
      ]

      beyond : (i : ℕ) → n ≤ i → slice_get (slice_set (all f 0 n) t (g t)) i ≡ None
      beyond i b = get-set_other (all f 0 n) t i (g t) (λ e. omega (arith, e, b, in_range)) ∙ past f n i b

  abbrev one-changed : (ℕ → R) → (ℕ → R) → ℕ → ℕ → R
  one-changed f g t u = cond (u == t) (g t) (f u)

  one-changed-here : (f g : ℕ → R) (t : ℕ) → one-changed f g t t ≡ g t
  one-changed-here f g t = ap (λ b. cond b (g t) (f t)) (eq-eqb t t refl)

  one-changed-elsewhere : (f g : ℕ → R) (t u : ℕ) → u ≢ t → one-changed f g t u ≡ f u
  one-changed-elsewhere f g t u nt = ap (λ b. cond b (g t) (f u)) (ne_eqb u t nt)

  -- and where two have
  pub change-two : (f g : ℕ → R) (n t v : ℕ) → t < n → v < n → t ≢ v → ((u : ℕ) → u < n → u ≢ t → u ≢ v → g u ≡ f u)
      → all g 0 n ≡ slice_set (slice_set (all f 0 n) t (g t)) v (g v)
  change-two f g n t v ht hv ne h =
      change-all (one-changed f g t) g n v hv (λ u b nv. elim (cases_eq u t) [
        | inl e ↦ ap g e ∙ sym (one-changed-here f g t) ∙ ap (one-changed f g t) (sym e)
        | inr nt ↦ h u b nt nv ∙ sym (one-changed-elsewhere f g t u nt)
      ])
      ∙ ap (λ xs. slice_set xs v (g v))
      (change-all f (one-changed f g t) n t ht (λ u b nt. one-changed-elsewhere f g t u nt)
      ∙ ap (slice_set (all f 0 n) t) (one-changed-here f g t))

  map-all : (h : R → R) (f : ℕ → R) (a n : ℕ) → map h (all f a n) ≡ all (λ u. h (f u)) a n
  map-all h f a zero = refl
  map-all h f a (suc n) = ap (λ xs. h (f a) ∷ xs) (map-all h f (a + 1) n)

  -- and where all others have changed in the same way
  pub settle-all : (h : R → R) (f g : ℕ → R) (n t : ℕ) → t < n → ((u : ℕ) → u < n → u ≢ t → g u ≡ h (f u))
      → all g 0 n ≡ slice_set (map h (all f 0 n)) t (g t)
  settle-all h f g n t in_range others = change-all (λ u. h (f u)) g n t in_range others
      ∙ ap (λ xs. slice_set xs t (g t)) (sym (map-all h f 0 n))

-- The first place of a list that passes a test, and what stands at a place after a write or a push.
use Rattle.std.proofs.Common.{◌≡◌, ◌≢◌, ℕ, suc, ◌+◌, cond, ◌<◌, ◌≤◌, Bool, true, false, List, [], ◌∷◌, ◌++◌, length}
use Rattle.std.proofs.Common.{Option, Some, None, slice_index_or, slice_set, is_some, refl, sym, ap, ◌∙◌, subst, inl}
use Rattle.std.proofs.Common.{inr, arith}
use Rattle.std.specs.List.{position, position_or_len, count_by}
use Rattle.std.proofs.lemmas.Bool.{cond-true, cond-false, lt-ltb, le-ltb, cases_lt, false≢true}
use Rattle.std.proofs.lemmas.Option.{none-some}
use Rattle.std.proofs.lemmas.List.{get_or-set_same, get_or_past, get_or_push, get_or_append_left, set_past, length_push}
use Rattle.std.proofs.lemmas.List.Sums.{sum_by-cons, sum_by-set, sum_by_push, fails_before_first, passes_at_first}
use Rattle.std.proofs.lemmas.List.Sums.{position_or_len_is}

module _ {X : Type 0} (p : X → Bool) (d : X) where
  pub position-None : (xs : List X) → p d ≡ false → position p xs ≡ None → (i : ℕ) → p (slice_index_or xs i d) ≡ false
  position-None xs past none i = elim (cases_lt i (length xs)) [
    | inl within ↦ elim (cases_lt (position_or_len p xs) (length xs)) [
      | inl here ↦
          absurd (none-some (position_or_len p xs)
          (sym none ∙ cond-true _ (Some (position_or_len p xs)) None
          (lt-ltb (position_or_len p xs) (length xs) here)))
      | inr after ↦ fails_before_first p xs i d (omega arith)
    ]
    | inr over ↦ ap p (get_or_past xs i d over) ∙ past
  ]

  pub position-None_from : (xs : List X) → ((i : ℕ) → p (slice_index_or xs i d) ≡ false) → position p xs ≡ None
  position-None_from xs fails = elim (cases_lt (position_or_len p xs) (length xs)) [
    | inl here ↦ absurd (false≢true (sym (fails (position_or_len p xs)) ∙ passes_at_first p xs d here))
    | inr after ↦ cond-false _ (Some (position_or_len p xs)) None (le-ltb (position_or_len p xs) (length xs) after)
  ]

  pub position-Some_from : (xs : List X) (i : ℕ) → i < length xs → p (slice_index_or xs i d) ≡ true
      → ((k : ℕ) → k < i → p (slice_index_or xs k d) ≡ false) → position p xs ≡ Some i
  position-Some_from xs i within passes fails =
      let is : position_or_len p xs ≡ i = position_or_len_is p xs i d (omega arith) fails (λ _. passes) in
      cond-true _ (Some (position_or_len p xs)) None
      (lt-ltb (position_or_len p xs) (length xs) (subst (λ k. k < length xs) (sym is) within)) ∙ ap (λ k. Some k) is

module _ {X : Type 0} where
  pub at_within : (xs : List (Option X)) (i : ℕ) (x : X) → slice_index_or xs i None ≡ Some x → i < length xs
  at_within xs i x e = elim (cases_lt i (length xs)) [
    | inl within ↦ within
    | inr over ↦ absurd (none-some x (sym (get_or_past xs i None over) ∙ e))
  ]

  -- a place written with nothing where nothing is, or with something within the list
  pub at-set_same : (xs : List (Option X)) (i : ℕ) (o : Option X)
      → (slice_index_or xs i None ≡ None → length xs ≤ i → o ≡ None) → slice_index_or (slice_set xs i o) i None ≡ o
  at-set_same xs i o past = elim (cases_lt i (length xs)) [
    | inl within ↦ get_or-set_same xs i o None within
    | inr over ↦
        let none = get_or_past xs i None over in
        ap (λ ys. slice_index_or ys i None) (set_past xs i o over) ∙ (none ∙ sym (past none over))
  ]

  pub at-push_same : (xs : List (Option X)) (o : Option X) → slice_index_or (xs ++ o ∷ []) (length xs) None ≡ o
  at-push_same xs o = get_or_push xs o None (length xs) refl

  pub at-push_other : (xs : List (Option X)) (o : Option X) (j : ℕ) → j ≢ length xs
      → slice_index_or (xs ++ o ∷ []) j None ≡ slice_index_or xs j None
  at-push_other xs o j other = elim (cases_lt j (length xs)) [
    | inl within ↦ get_or_append_left xs (o ∷ []) None j within
    | inr over ↦
        let longer = length_push xs o in
        get_or_past (xs ++ o ∷ []) j None (omega arith) ∙ sym (get_or_past xs j None over)
  ]

  -- how many places have something, after a write
  pub count-set : (xs : List (Option X)) (i : ℕ) (x : X) → i < length xs → slice_index_or xs i None ≡ None
      → count_by is_some (slice_set xs i (Some x)) ≡ count_by is_some xs + 1
  count-set xs i x within none =
      let both : count_by is_some (slice_set xs i (Some x)) + cond (is_some (slice_index_or xs i None)) 1 0 ≡ count_by
      is_some xs + 1 =
      sum_by-set (λ o. cond (is_some o) 1 0) xs i (Some x) None within in
      let free : cond {A = ℕ} (is_some (slice_index_or xs i None)) 1 0 ≡ 0 =
      ap (λ (o : Option X). cond {A = ℕ} (is_some o) 1 0) none in
      omega arith

  pub count-push : (xs : List (Option X)) (x : X) → count_by is_some (xs ++ Some x ∷ []) ≡ count_by is_some xs + 1
  count-push xs x = sum_by_push (λ o. cond (is_some o) 1 0) xs (Some x)

  pub count-set_like : (xs : List (Option X)) (i : ℕ) (o : Option X) → is_some o ≡ is_some (slice_index_or xs i None)
      → count_by is_some (slice_set xs i o) ≡ count_by is_some xs
  count-set_like xs i o like = elim (cases_lt i (length xs)) [
    | inl within ↦
        let both : count_by is_some (slice_set xs i o) + cond (is_some (slice_index_or xs i None)) 1 0 ≡ count_by
        is_some xs + cond (is_some o) 1 0 =
        sum_by-set (λ y. cond (is_some y) 1 0) xs i o None within in
        let same : cond {A = ℕ} (is_some o) 1 0 ≡ cond {A = ℕ} (is_some (slice_index_or xs i None)) 1 0 =
        ap (λ b. cond {A = ℕ} b 1 0) like in
        omega arith
    | inr over ↦ ap (count_by is_some) (set_past xs i o over)
  ]

  -- a list in which each place has something
  pub count-full : (xs : List (Option X)) → ((i : ℕ) → i < length xs → is_some (slice_index_or xs i None) ≡ true)
      → count_by is_some xs ≡ length xs
  count-full [] each = refl
  count-full (None ∷ xs) each = absurd (false≢true (each 0 (omega arith)))
  count-full (Some x ∷ xs) each =
      let rest = count-full xs (λ i within. each (suc i) (omega arith)) in
      let step : count_by is_some (Some x ∷ xs) ≡ 1 + count_by is_some xs = sum_by-cons (λ o. cond (is_some o) 1 0)
      (Some x) xs in
      omega arith

-- Items that are dealt out to lists, one after another.
use Rattle.std.proofs.Common.{◌≡◌, ℕ, ◌<◌, Bool, true, false, cond, nat_eq, List, [], ◌∷◌, ◌++◌, length, filter}
use Rattle.std.proofs.Common.{slice_index_or, slice_set, refl, sym, ap, ◌∙◌, subst, append-nil, inl, inr, eq-eqb}
use Rattle.std.specs.Prelude.{All}
use Rattle.std.specs.declared.vec.Vec.{Vec}
use Rattle.std.proofs.lemmas.Bool.{cases_eq, ne_eqb, cond-true, cond-false}
use Rattle.std.proofs.lemmas.List.{length-set, get_or-set_same, get_or-set_other}
use Rattle.std.proofs.lemmas.List.Elements.{All-nil, All-cons, All-head, All-tail, All-push, filter-append}
use Rattle.dashmap_parallel.specs.Puts.{AreDealt}

module _ {X : Type 0} (to : X → ℕ) where
  -- what is kept of one item
  one-here : (x : X) (k : ℕ) → to x ≡ k → filter (λ y. nat_eq (to y) k) (x ∷ []) ≡ x ∷ []
  one-here x k same = cond-true (nat_eq (to x) k) (x ∷ []) [] (eq-eqb (to x) k same)

  one-elsewhere : (x : X) (k : ℕ) → (to x ≡ k → ⊥) → filter (λ y. nat_eq (to y) k) (x ∷ []) ≡ []
  one-elsewhere x k other = cond-false (nat_eq (to x) k) (x ∷ []) [] (ne_eqb (to x) k other)

  -- one item more
  deals-one : {A : Type 0} (xs : List X) (x : X) (lists after : List (Vec X A)) (list : Vec X A) → to x < length lists
      → after ≡ slice_set lists (to x) list
      → ((d : Vec X A) → list.items ≡ (slice_index_or lists (to x) d).items ++ x ∷ []) → AreDealt to xs lists
      → AreDealt to (xs ++ x ∷ []) after
  deals-one xs x lists after list lt is grown h =
      let long = ap length is ∙ length-set lists (to x) list in
      record {
        below = subst (λ n. All (λ y. to y < n) (xs ++ x ∷ [])) (sym long)
            (All-push (λ y. to y < length lists) xs x h.below lt);
        each = λ k d within.
            let inside : k < length lists = subst (λ n. k < n) long within in
            ap (λ ls. (slice_index_or ls k d).items) is ∙ (elim (cases_eq (to x) k) [
              | inl same ↦
                  subst (λ n. (slice_index_or (slice_set lists n list) k d).items ≡ filter (λ y. nat_eq (to y) k)
                  (xs ++ x ∷ [])) (sym same)
                  (ap (λ v. v.items) (get_or-set_same lists k list d inside) ∙ grown d
                  ∙ ap (λ n. (slice_index_or lists n d).items ++ x ∷ []) same
                  ∙ ap (λ l. l ++ x ∷ []) (h.each k d inside) ∙ ap (λ l. filter (λ y. nat_eq (to y) k) xs ++ l)
                  (sym (one-here x k same))
                  ∙ sym (filter-append (λ y. nat_eq (to y) k) xs (x ∷ [])))
              | inr other ↦
                  ap (λ v. v.items) (get_or-set_other lists (to x) k list d (λ same. other (sym same)))
                  ∙ h.each k d inside
                  ∙ sym (append-nil (filter (λ y. nat_eq (to y) k) xs))
                  ∙ ap (λ l. filter (λ y. nat_eq (to y) k) xs ++ l) (sym (one-elsewhere x k other))
                  ∙ sym (filter-append (λ y. nat_eq (to y) k) xs (x ∷ []))
            ]);
      }

  -- the same, where the list's number was computed
  pub deals-at : {A : Type 0} (xs : List X) (x : X) (n : ℕ) (lists after : List (Vec X A)) (list : Vec X A) → n ≡ to x
      → n < length lists → after ≡ slice_set lists n list
      → ((d : Vec X A) → list.items ≡ (slice_index_or lists n d).items ++ x ∷ []) → AreDealt to xs lists
      → AreDealt to (xs ++ x ∷ []) after
  deals-at xs x n lists after list same lt is grown h =
      deals-one xs x lists after list (subst (λ k. k < length lists) same lt)
      (subst (λ k. after ≡ slice_set lists k list) same is)
      (λ d. subst (λ k. list.items ≡ (slice_index_or lists k d).items ++ x ∷ []) same (grown d)) h

  -- what holds of what is kept holds of the rest of it
  kept-rest : (P : X → Type 0) (b : Bool) (x : X) (l : List X) → All P (cond b (x ∷ l) l) → All P l
  kept-rest P true x l h = All-tail P x l h
  kept-rest P false x l h = h

  -- what holds of each that belongs to one of some numbers holds of each
  pub all-kept : (P : X → Type 0) (n : ℕ) (xs : List X) → All (λ x. to x < n) xs
      → ((k : ℕ) → k < n → All P (filter (λ x. nat_eq (to x) k) xs)) → All P xs
  all-kept P n [] below h = All-nil P
  all-kept P n (x ∷ xs) below h =
      let kept = filter (λ y. nat_eq (to y) (to x)) xs in
      All-cons P x xs
      (All-head P x kept
      (subst (All P) (cond-true (nat_eq (to x) (to x)) (x ∷ kept) kept (eq-eqb (to x) (to x) refl))
      (h (to x) (All-head (λ y. to y < n) x xs below))))
      (all-kept P n xs (All-tail (λ y. to y < n) x xs below)
      (λ k lt. kept-rest P (nat_eq (to x) k) x (filter (λ y. nat_eq (to y) k) xs) (h k lt)))

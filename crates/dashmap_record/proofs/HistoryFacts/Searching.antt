-- What a binary search by stamps finds in a list whose stamps rise.
use Rattle.std.proofs.Common.{◌≡◌, ℕ, zero, suc, ◌<◌, ◌≤◌, Bool, true, false, List, [], ◌∷◌, length, map, get_or}
use Rattle.std.proofs.Common.{IsTrue, Ok, Err, Result, IfOk, IfErr, inl, inr, refl, sym, ap, ◌∙◌, subst, arith}
use Rattle.std.specs.List.{list_any}
use Rattle.std.specs.List.Sorted.{IsSearchInRange, IsBinarySearchResult, IsNonDecreasingBy}
use Rattle.std.specs.Ordering.{nat_cmp, ordering_index}
use Rattle.std.proofs.lemmas.Cmp.{ranked}
use Rattle.std.proofs.lemmas.Bool.{cases_lt, cases_eq, or_left, or_right, false_from_ne_true}
use Rattle.std.proofs.lemmas.Bool.Decides.{nat_tests}
use Rattle.std.proofs.lemmas.List.{get_or-map}
use Rattle.std.proofs.lemmas.List.Elements.{All-from_recursion}
use Rattle.dashmap_record.specs.declared.history.entry.Entered.{Entered}
use Rattle.dashmap_record.proofs.HistoryFacts.Lists.{Has, Rises, has, meet}
use Rattle.dashmap_record.specs.History.Match.{rises, all_rise, list_at}
use Rattle.dashmap_record.proofs.HistoryFacts.Rising.{stamp_of, has_true, list_at-all, rises-up}
use Rattle.dashmap_record.proofs.HistoryFacts.Equal.{either}

module _ {X : Type 0} (n : X → ℕ) where
  rises_at : (xs : List X) → Rises n xs → (i j : ℕ) (d : X) → i < j → j < length xs
      → n (get_or xs i d) < n (get_or xs j d)
  rises_at [] u i j d less within = absurd (none j within)
    where
      none : (j : ℕ) → j < 0 → ⊥
      none j within = omega (arith, within)
  rises_at (x ∷ xs) u i zero d less within = absurd (none i less)
    where
      none : (i : ℕ) → i < 0 → ⊥
      none i less = omega (arith, less)
  rises_at (x ∷ xs) u zero (suc j) d less within = All-from_recursion (λ y. n x < n y) xs u.0 j d
      (omega (arith, within))
  rises_at (x ∷ xs) u (suc i) (suc j) d less within = rises_at xs u.1 i j d (omega (arith, less))
      (omega (arith, within))

  -- comparisons with a number rise along the list, as a binary search asks
  pub comparisons_rise : (k : ℕ) (xs : List X) → Rises n xs → IsNonDecreasingBy (λ x. ordering_index (nat_cmp (n x) k))
      xs
  comparisons_rise k xs u i j d le within = elim (cases_eq i j) [
    | inl same ↦ subst
        (λ z. ordering_index (nat_cmp (n (get_or xs i d)) k) ≤ ordering_index (nat_cmp (n (get_or xs z d)) k)) same
        (omega arith)
    | inr apart ↦
        let less : n (get_or xs i d) < n (get_or xs j d) = rises_at xs u i j d (omega (arith, le, apart)) within in
        grind (arith, nat_tests)
  ]

module _ {X : Type 0} where
  pub has_at : (P : X → Type 0) (xs : List X) (i : ℕ) (d : X) → i < length xs → P (get_or xs i d) → Has P xs
  has_at P [] i d within p = absurd (none i within)
    where
      none : (i : ℕ) → i < 0 → ⊥
      none i within = omega (arith, within)
  has_at P (x ∷ xs) zero d within p = inl p
  has_at P (x ∷ xs) (suc i) d within p = inr (has_at P xs i d (omega (arith, within)) p)

  pub at_of : (P : X → Type 0) (xs : List X) → Has P xs → (d : X) → (i : ℕ) × (i < length xs) × P (get_or xs i d)
  at_of P [] h d = absurd h
  at_of P (x ∷ xs) (inl h) d = (0, omega arith, h)
  at_of P (x ∷ xs) (inr h) d = let found = at_of P xs h d in (suc found.0, omega (arith, found.1), found.2)

  pub any_from : (test : X → Bool) (xs : List X) → Has (λ x. test x ≡ true) xs → list_any test xs ≡ true
  any_from test [] h = absurd h
  any_from test (x ∷ xs) (inl h) = or_left (test x) (list_any test xs) h
  any_from test (x ∷ xs) (inr h) = or_right (test x) (list_any test xs) (any_from test xs h)

module _ {K V : Type 0} (same : Entered K V → Entered K V → Bool)
    (level : (d e : Entered K V) → same d e ≡ true → d.stamp ≡ e.stamp) (es : List (Entered K V))
    (up : Rises stamp_of es) (e : Entered K V) where
  -- where an entry of the stamp is, an equal one is that one
  pub found : (at : ℕ) (d : Entered K V) → at < length es → d ≡ get_or es at d → d.stamp ≡ e.stamp
      → list_any (same e) es ≡ same e d
  found at d within here stamp =
      either (list_any (same e) es) (same e d)
      (λ any.
      let one = has (λ x. same e x ≡ true) (λ x. (same e x ≡ true) × (x.stamp ≡ e.stamp))
      (λ x is. (is, sym (level e x is))) es (has_true (same e) es any) in
      let other = has_at (λ x. (x ≡ d) × (x.stamp ≡ e.stamp)) es at d within (sym here, ap stamp_of (sym here) ∙ stamp)
      in
      let met = at_of (λ x. (same e x ≡ true) × (x ≡ d)) es
      (meet stamp_of (λ x. same e x ≡ true) (λ x. x ≡ d) e.stamp es up one other) d in
      ap (same e) (sym met.2.1) ∙ met.2.0)
      (λ is. any_from (same e) es (has_at (λ x. same e x ≡ true) es at d within (ap (same e) (sym here) ∙ is)))

  -- where there is none, no entry is equal
  pub missed : ((i : ℕ) (d : Entered K V) → i < length es → (get_or es i d).stamp ≡ e.stamp → ⊥)
      → list_any (same e) es ≡ false
  missed none = false_from_ne_true (list_any (same e) es) (λ any.
      let where_is = at_of (λ x. same e x ≡ true) es (has_true (same e) es any) e in
      none where_is.0 e where_is.1 (sym (level e (get_or es where_is.0 e) where_is.2)))

  pub searched : (r : Result ℕ ℕ) → IsSearchInRange r (length es) → IsBinarySearchResult (λ d. nat_cmp d.stamp e.stamp)
      es r
      → record {
        hit : IfOk r (λ at. (d : Entered K V) → d ≡ get_or es at d → list_any (same e) es ≡ same e d);
        miss : IfErr r (λ _. list_any (same e) es ≡ false);
      }
  searched (Ok at) within equal = record {
    hit = λ d here. found at d within here (ap stamp_of here ∙ ranked _ e.stamp _ (sym (equal d)));
    miss = tt;
  }
  searched (Err at) within parted = record {
    hit = tt;
    miss = missed (λ i d below stamp. elim (cases_lt i at) [
      | inl before ↦
          let less : (get_or es i d).stamp < e.stamp =
          ranked _ e.stamp _ (sym ((parted (comparisons_rise stamp_of e.stamp es up)).0 i d (omega arith) before))
          in
          omega (arith, less, stamp)
      | inr behind ↦
          let more : e.stamp < (get_or es i d).stamp =
          ranked _ e.stamp _ (sym ((parted (comparisons_rise stamp_of e.stamp es up)).1 i d behind below)) in
          omega (arith, more, stamp)
    ]);
  }

-- of lists that rise, the one that was read
module _ {K V L : Type 0} (items : L → List (Entered K V)) (lists : List L) (number : ℕ) (list : L)
    (within : number < length lists) (read : (d : L) → list ≡ get_or lists number d) where
  pub list_is : list_at (map items lists) number ≡ items list
  list_is = get_or-map items lists number list [] within ∙ ap items (sym (read list))

  pub list_rises : IsTrue (all_rise (map items lists)) → Rises stamp_of (items list)
  list_rises rise = rises-up (items list)
      (ap rises (sym list_is) ∙ list_at-all rises refl (map items lists) rise number)

-- All entries of histories, each in the history of its shard: none twice.
use Rattle.std.proofs.Common.{◌≡◌, ◌≢◌, ℕ, zero, suc, ◌+◌, ◌<◌, ◌≤◌, ◌&&◌, Bool, true, false, cond, nat_eq, List, []}
use Rattle.std.proofs.Common.{◌∷◌, ◌⊎◌, inl, inr, refl, sym, ap, ◌∙◌, subst, arith}
use Rattle.std.specs.List.{list_all, enumerate_from, sum_by}
use Rattle.std.specs.List.Sorted.{IsPermutation}
use Rattle.std.proofs.lemmas.Bool.{and_parts, and_from, and_cases, cases_Bool, eqb-true, eqb-false, eq-eqb, ne_eqb}
use Rattle.std.proofs.lemmas.Bool.{cases_eq}
use Rattle.std.proofs.lemmas.List.Sums.{sum_by-append, sum_by-cons}
use Rattle.std.proofs.lemmas.List.Sorted.{sum_by-IsPermutation}
use Rattle.dashmap_record.specs.declared.history.entry.Entered.{Entered}
use Rattle.dashmap_record.specs.History.Match.{list_at}
use Rattle.dashmap_record.specs.History.Merge.{IsBefore, IsUpTo, flat}
use Rattle.dashmap_record.proofs.HistoryFacts.Lists.{Each, Has, Up, Rises, each, each_both, each_append, has_left}
use Rattle.dashmap_record.proofs.HistoryFacts.Lists.{has_right}
use Rattle.dashmap_record.proofs.HistoryFacts.Rising.{stamp_of, each_true}

module _ {K V : Type 0} where
  -- each list is as a test of its number says
  pub each_numbered : (test : ℕ → Entered K V → Bool) (n : ℕ) (lists : List (List (Entered K V)))
      → list_all (λ p. list_all (test p.0) p.1) (enumerate_from n lists) ≡ true → (i : ℕ)
      → Each (λ e. test (n + i) e ≡ true) (list_at lists i)
  each_numbered test n [] is i = tt
  each_numbered test n (es ∷ lists) is zero =
      subst (λ k. Each (λ e. test k e ≡ true) es) {x = n} (omega arith)
      (each_true (test n) es
      (and_parts (list_all (test n) es) (list_all (λ p. list_all (test p.0) p.1) (enumerate_from (n + 1) lists))
      is).0)
  each_numbered test n (es ∷ lists) is (suc i) =
      subst (λ k. Each (λ e. test k e ≡ true) (list_at lists i)) {x = n + 1 + i} (omega arith)
      (each_numbered test (n + 1) lists
      (and_parts (list_all (test n) es) (list_all (λ p. list_all (test p.0) p.1) (enumerate_from (n + 1) lists))
      is).1 i)

  -- what is true of each entry of each list is true of each of all
  pub each_flat : (P : Entered K V → Type 0) (lists : List (List (Entered K V))) → ((i : ℕ) → Each P (list_at lists i))
      → Each P (flat lists)
  each_flat P [] h = tt
  each_flat P (es ∷ lists) h = each_append P es (flat lists) (h 0) (each_flat P lists (λ i. h (suc i)))

  pub has_flat : (P : Entered K V → Type 0) (lists : List (List (Entered K V))) (i : ℕ) → Has P (list_at lists i)
      → Has P (flat lists)
  has_flat P [] i h = h
  has_flat P (es ∷ lists) zero h = has_left P es (flat lists) h
  has_flat P (es ∷ lists) (suc i) h = has_right P es (flat lists) (has_flat P lists i h)

  -- an entry is at this stamp and shard
  pub is_at : ℕ → ℕ → Entered K V → Bool
  is_at s j e = nat_eq e.stamp s && nat_eq e.shard j

  pub weight : ℕ → ℕ → Entered K V → ℕ
  weight s j e = cond (is_at s j e) 1 0

  weight_one : (s j : ℕ) (e : Entered K V) (es : List (Entered K V)) → is_at s j e ≡ true
      → sum_by (weight s j) (e ∷ es) ≡ 1 + sum_by (weight s j) es
  unfolding weight
  weight_one s j e es it = sum_by-cons (weight s j) e es ∙ ap (λ b. cond b 1 0 + sum_by (weight s j) es) it

  weight_none : (s j : ℕ) (e : Entered K V) (es : List (Entered K V)) → is_at s j e ≡ false
      → sum_by (weight s j) (e ∷ es) ≡ sum_by (weight s j) es
  unfolding weight
  weight_none s j e es other =
      let plain : 0 + sum_by (weight s j) es ≡ sum_by (weight s j) es = omega arith in
      sum_by-cons (weight s j) e es ∙ (ap (λ b. cond b 1 0 + sum_by (weight s j) es) other ∙ plain)

  none_at : (s j : ℕ) (es : List (Entered K V)) → Each (λ e. is_at s j e ≡ false) es → sum_by (weight s j) es ≡ 0
  none_at s j [] h = refl
  none_at s j (e ∷ es) h = weight_none s j e es h.0 ∙ none_at s j es h.1

  not_at : (s j : ℕ) (es : List (Entered K V)) → sum_by (weight s j) es ≡ 0 → Each (λ e. is_at s j e ≡ false) es
  not_at s j [] h = tt
  not_at s j (e ∷ es) h = elim (cases_Bool (is_at s j e)) [
    | inl it ↦ absurd (positive (sum_by (weight s j) es) (sym (weight_one s j e es it) ∙ h))
    | inr other ↦ (other, not_at s j es (sym (weight_none s j e es other) ∙ h))
  ]
    where
      positive : (n : ℕ) → 1 + n ≡ 0 → ⊥
      positive n e = omega (arith, e)

  -- of one shard's entries none is twice
  once_in : (s j : ℕ) (es : List (Entered K V)) → Rises stamp_of es → sum_by (weight s j) es ≤ 1
  unfolding weight is_at
  once_in s j [] up = let none : sum_by (weight s j) [] ≡ 0 = refl in omega (arith, none)
  once_in s j (e ∷ es) up = elim (cases_Bool (is_at s j e)) [
    | inl it ↦
        let stamp : e.stamp ≡ s = eqb-true e.stamp s (and_parts (nat_eq e.stamp s) (nat_eq e.shard j) it).0 in
        let rest : sum_by (weight s j) es ≡ 0 =
        none_at s j es (each (λ d. e.stamp < d.stamp) (λ d. is_at s j d ≡ false)
        (λ d above. ap (λ b. b && nat_eq d.shard j)
        (ne_eqb d.stamp s (λ same. apart e.stamp d.stamp s above stamp same))) es up.0) in
        omega (arith, weight_one s j e es it, rest)
    | inr other ↦ omega (arith, weight_none s j e es other, once_in s j es up.1)
  ]
    where
      apart : (a b c : ℕ) → a < b → a ≡ c → b ≡ c → ⊥
      apart a b c less e f = omega (arith, less, e, f)

  other_shard : (s j : ℕ) (es : List (Entered K V)) → Each (λ e. e.shard ≢ j) es → sum_by (weight s j) es ≡ 0
  unfolding is_at
  other_shard s j es h =
      none_at s j es (each (λ e. e.shard ≢ j) (λ e. is_at s j e ≡ false) (λ e other. fails e other) es h)
    where
      fails : (e : Entered K V) → e.shard ≢ j → is_at s j e ≡ false
      fails e other = ap (λ b. nat_eq e.stamp s && b) (ne_eqb e.shard j other) ∙ and_false (nat_eq e.stamp s)
        where
          and_false : (b : Bool) → (b && false) ≡ false
          and_false true = refl
          and_false false = refl

  -- nor of all entries, where each list is of its own shard
  pub once : (s j n : ℕ) (lists : List (List (Entered K V))) → ((i : ℕ) → Rises stamp_of (list_at lists i))
      → ((i : ℕ) → Each (λ e. e.shard ≡ n + i) (list_at lists i)) → sum_by (weight s j) (flat lists) ≤ 1
  once s j n [] up on = let none : sum_by (weight s j) [] ≡ 0 = refl in omega (arith, none)
  once s j n (es ∷ lists) up on = elim (cases_eq n j) [
    | inl same ↦
        let rest : sum_by (weight s j) (flat lists) ≡ 0 =
        other_shard s j (flat lists)
        (each_flat (λ e. e.shard ≢ j) lists
        (λ i. each (λ e. e.shard ≡ n + suc i) (λ e. e.shard ≢ j) (λ e is it. above n i j e.shard is it same)
        (list_at lists i) (on (suc i)))) in
        omega (arith, sum_by-append (weight s j) es (flat lists), once_in s j es (up 0), rest)
    | inr other ↦
        let here : sum_by (weight s j) es ≡ 0 =
        other_shard s j es
        (each (λ e. e.shard ≡ n + 0) (λ e. e.shard ≢ j) (λ e is it. other (zeroed n e.shard j is it)) es (on 0)) in
        omega (
          arith,
          sum_by-append (weight s j) es (flat lists),
          here,
          once s j (n + 1) lists (λ i. up (suc i))
              (λ i. each (λ e. e.shard ≡ n + suc i) (λ e. e.shard ≡ n + 1 + i) (λ e is. is ∙ (omega arith))
              (list_at lists i) (on (suc i))),
        )
  ]
    where
      above : (n i j k : ℕ) → k ≡ n + suc i → k ≡ j → n ≡ j → ⊥
      above n i j k a b c = omega (arith, a, b, c)

      zeroed : (n k j : ℕ) → k ≡ n + 0 → k ≡ j → n ≡ j
      zeroed n k j a b = omega (arith, a, b)

  -- where none is twice, what isn't after is before
  strictly : (es : List (Entered K V)) → Up IsUpTo es → ((s j : ℕ) → sum_by (weight s j) es ≤ 1) → Up IsBefore es
  unfolding weight is_at
  strictly [] up few = tt
  strictly (e ∷ es) up few = (
    each (λ d. IsUpTo e d × (is_at e.stamp e.shard d ≡ false)) (IsBefore e) (λ d q. before d q.0 q.1) es
        (each_both (IsUpTo e) (λ d. is_at e.stamp e.shard d ≡ false) es up.0 (not_at e.stamp e.shard es alone)),
    strictly es up.1 (λ s j. fewer s j),
  )
    where
      it : is_at e.stamp e.shard e ≡ true
      it = and_from (nat_eq e.stamp e.stamp) (nat_eq e.shard e.shard) (eq-eqb e.stamp e.stamp refl)
          (eq-eqb e.shard e.shard refl)

      alone : sum_by (weight e.stamp e.shard) es ≡ 0
      alone = omega (arith, weight_one e.stamp e.shard e es it, few e.stamp e.shard)

      fewer : (s j : ℕ) → sum_by (weight s j) es ≤ 1
      fewer s j = elim (cases_Bool (is_at s j e)) [
        | inl yes' ↦ omega (arith, weight_one s j e es yes', few s j)
        | inr no' ↦ omega
            (arith, weight_none s j e es no', few s j)
      ]

      before : (d : Entered K V) → IsUpTo e d → is_at e.stamp e.shard d ≡ false → IsBefore e d
      before d (inl less) _ = inl less
      before d (inr level) not = inr (level.0, below (and_cases (nat_eq d.stamp e.stamp) (nat_eq d.shard e.shard) not))
        where
          below : (nat_eq d.stamp e.stamp ≡ false) ⊎ (nat_eq d.shard e.shard ≡ false) → e.shard < d.shard
          below (inl apart) = absurd (eqb-false d.stamp e.stamp apart (sym level.0))
          below (inr apart) = strict e.shard d.shard level.1 (λ same. eqb-false d.shard e.shard apart (sym same))
            where
              strict : (a b : ℕ) → a ≤ b → (a ≡ b → ⊥) → a < b
              strict a b le ne =
                  elim (cases_eq a b) [ inl same ↦ absurd (ne same) | inr other ↦ omega (arith, le, other) ]

  pub strictly_merged : (lists : List (List (Entered K V))) (all : List (Entered K V))
      → ((i : ℕ) → Rises stamp_of (list_at lists i)) → ((i : ℕ) → Each (λ e. e.shard ≡ i) (list_at lists i))
      → IsPermutation (flat lists) all → Up IsUpTo all → Up IsBefore all
  strictly_merged lists all up on moved sorted =
      strictly all sorted (λ s j. subst (λ n. n ≤ 1) (sym (sum_by-IsPermutation (weight s j) (flat lists) all moved))
      (once s j 0 lists up
      (λ i. each (λ e. e.shard ≡ i) (λ e. e.shard ≡ 0 + i) (λ e is. is ∙ (omega arith)) (list_at lists i) (on i))))

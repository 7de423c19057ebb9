-- Stamps that rise, list by list.
use Rattle.std.proofs.Common.{◌≡◌, ℕ, zero, suc, ◌+◌, ◌<◌, ◌≤◌, Bool, true, false, ◌&&◌, List, [], ◌∷◌, length, drop}
use Rattle.std.proofs.Common.{slice_index_or, Option, None, Some, inl, inr, sym, ap, ◌∙◌, arith}
use Rattle.std.proofs.lemmas.List.{at_drop_more, at_drop_all}
use Rattle.std.specs.Bool.{⊤}
use Rattle.std.specs.List.{list_all, list_any}
use Rattle.std.proofs.lemmas.Bool.{and_parts, ltb-true, or_cases}
use Rattle.dashmap_record.specs.declared.history.entry.Entered.{Entered}
use Rattle.dashmap_record.specs.History.Match.{is_above, rises_above, rises, list_at}
use Rattle.dashmap_record.proofs.HistoryFacts.Lists.{Each, Has, Rises, each}

abbrev IsAbove : Option ℕ → ℕ → Type 0
IsAbove None n = ⊤
IsAbove (Some last) n = last < n

above_is : (last : Option ℕ) (n : ℕ) → is_above last n ≡ true → IsAbove last n
above_is None n is = tt
above_is (Some last) n is = ltb-true last n is

above_far : (last : Option ℕ) (m n : ℕ) → IsAbove last m → m < n → IsAbove last n
above_far None m n a b = tt
above_far (Some last) m n a b = omega (arith, a, b)

module _ {K V : Type 0} where
  abbrev pub stamp_of : Entered K V → ℕ
  stamp_of e = e.stamp

  rising : (last : Option ℕ) (es : List (Entered K V)) → rises_above last es ≡ true
      → Each (λ e. IsAbove last e.stamp) es × Rises stamp_of es
  rising last [] is = (tt, tt)
  rising last (e ∷ es) is =
      let both = and_parts (is_above last e.stamp) (rises_above (Some e.stamp) es) is in
      let rest = rising (Some e.stamp) es both.1 in
      let here = above_is last e.stamp both.0 in (
        (
          here,
          each (λ d. IsAbove (Some e.stamp) d.stamp) (λ d. IsAbove last d.stamp)
              (λ d above. above_far last e.stamp d.stamp here above) es rest.0,
        ),
        (rest.0, rest.1),
      )

  pub rises-up : (es : List (Entered K V)) → rises es ≡ true → Rises stamp_of es
  rises-up es is = (rising None es is).1

  -- the list of a number is as each list is
  pub list_at-all : (test : List (Entered K V) → Bool) → test [] ≡ true → (lists : List (List (Entered K V)))
      → list_all test lists ≡ true → (i : ℕ) → test (list_at lists i) ≡ true
  list_at-all test none [] is i = none
  list_at-all test none (es ∷ lists) is zero = (and_parts (test es) (list_all test lists) is).0
  list_at-all test none (es ∷ lists) is (suc i) =
      list_at-all test none lists (and_parts (test es) (list_all test lists) is).1 i

  pub each_true : (test : Entered K V → Bool) (es : List (Entered K V)) → list_all test es ≡ true
      → Each (λ e. test e ≡ true) es
  each_true test [] is = tt
  each_true test (e ∷ es) is = let both = and_parts (test e) (list_all test es) is in (both.0, each_true test es both.1)

  pub has_true : (test : Entered K V → Bool) (es : List (Entered K V)) → list_any test es ≡ true
      → Has (λ e. test e ≡ true) es
  has_true test [] is = absurd (no is)
    where
      no : false ≡ true → ⊥
      no e = cc
  has_true test (e ∷ es) is = elim (or_cases (test e) (list_any test es) is)
      [ inl here ↦ inl here | inr later ↦ inr (has_true test es later) ]

  -- the rest of a list, at the next entry and at its end
  module _ (last : Option ℕ) (es : List (Entered K V)) (i : ℕ) where
    rises_next : (e : Entered K V) → i < length es → e ≡ slice_index_or es i e
        → rises_above last (drop i es) ≡ (is_above last e.stamp && rises_above (Some e.stamp) (drop (i + 1) es))
    rises_next e within here =
        at_drop_more (rises_above last) es i e within
        ∙ ap (λ d. is_above last d.stamp && rises_above (Some d.stamp) (drop (i + 1) es)) (sym here)

    pub rises_on : (e : Entered K V) → i < length es → e ≡ slice_index_or es i e → is_above last e.stamp ≡ true
        → rises_above last (drop i es) ≡ rises_above (Some e.stamp) (drop (i + 1) es)
    rises_on e within here above = rises_next e within here
        ∙ ap (λ b. b && rises_above (Some e.stamp) (drop (i + 1) es)) above

    pub rises_no : (e : Entered K V) → i < length es → e ≡ slice_index_or es i e → is_above last e.stamp ≡ false
        → rises_above last (drop i es) ≡ false
    rises_no e within here low = rises_next e within here ∙ ap (λ b. b && rises_above (Some e.stamp) (drop (i + 1) es))
        low

    pub rises_end : length es ≤ i → rises_above last (drop i es) ≡ true
    rises_end past = at_drop_all (rises_above last) es i past

-- What two callers wrote down, counted.
use Rattle.std.proofs.Common.{◌≡◌, ℕ, zero, suc, ◌+◌, nat_eq, length, Bool, true, false, cond, List, [], ◌∷◌, ◌++◌, map}
use Rattle.std.proofs.Common.{Option, Some, Vec, refl, sym, ap, ◌∙◌, subst, inl, inr, arith}
use Rattle.std.specs.Prelude.{IsTrue}
use Rattle.std.specs.List.{AllZip, filter}
use Rattle.std.specs.Option.{option_to_list}
use Rattle.std.proofs.lemmas.Bool.{cases_Bool, eq-eqb}
use Rattle.std.proofs.lemmas.List.Elements.{length_all_zip}
use Rattle.dashmap_record.specs.declared.history.entry.Entered.{Entered}
use Rattle.dashmap_record.specs.History.Entries.{same_entry}
use Rattle.dashmap_record.specs.History.Match.{list_at}
use Rattle.dashmap_record.specs.Recorded.{Calling, AreNew}

no : (n : ℕ) → suc n ≡ 0 → ⊥
no n is = omega (arith, is)

module _ {K V : Type 0} where
  -- the entries of a caller
  of_caller : ℕ → List (Entered K V) → List (Entered K V)
  of_caller i es = filter (λ e. nat_eq e.caller i) es

  -- each entry is of caller 0 or of caller 1
  counted : (es : List (Entered K V)) → ((i : ℕ) → length (of_caller (suc (suc i)) es) ≡ 0)
      → length es ≡ length (of_caller 0 es) + length (of_caller 1 es)
  unfolding of_caller
  counted [] none = refl
  counted (e ∷ es) none = by_caller (counted es rest) e.caller refl
    where
      rest : (i : ℕ) → length (of_caller (suc (suc i)) es) ≡ 0
      rest i = elim (cases_Bool (nat_eq e.caller (suc (suc i)))) [
        | inl same ↦ absurd
            (no (length (of_caller (suc (suc i)) es))
            (ap (λ b. length (cond b (e ∷ of_caller (suc (suc i)) es) (of_caller (suc (suc i)) es))) (sym same)
            ∙ none i))
        | inr other ↦ ap (λ b. length (cond b (e ∷ of_caller (suc (suc i)) es) (of_caller (suc (suc i)) es)))
            (sym other) ∙ none i
      ]

      by_caller : length es ≡ length (of_caller 0 es) + length (of_caller 1 es) → (n : ℕ) → e.caller ≡ n
          → length (e ∷ es) ≡ length (of_caller 0 (e ∷ es)) + length (of_caller 1 (e ∷ es))
      by_caller one zero is =
          let first = ap (λ m. length (cond (nat_eq m 0) (e ∷ of_caller 0 es) (of_caller 0 es))) is in
          let second = ap (λ m. length (cond (nat_eq m 1) (e ∷ of_caller 1 es) (of_caller 1 es))) is in
          omega (arith, one, first, second)
      by_caller one (suc zero) is =
          let first = ap (λ m. length (cond (nat_eq m 0) (e ∷ of_caller 0 es) (of_caller 0 es))) is in
          let second = ap (λ m. length (cond (nat_eq m 1) (e ∷ of_caller 1 es) (of_caller 1 es))) is in
          omega (arith, one, first, second)
      by_caller one (suc (suc k)) is =
          absurd (no (length (of_caller (suc (suc k)) es))
          (ap (λ b. length (cond b (e ∷ of_caller (suc (suc k)) es) (of_caller (suc (suc k)) es)))
          (sym (eq-eqb e.caller (suc (suc k)) is)) ∙ none k))

  -- all entries are in the logs of the two callers, each once
  pub both_counted : (R : Entered K V → Entered K V → Type 0) (all : List (Entered K V)) (one two : List (Entered K V))
      (logs : List (List (Entered K V))) → logs ≡ one ∷ two ∷ []
      → ((i : ℕ) → AllZip R (filter (λ e. nat_eq e.caller i) all) (list_at logs i))
      → length all ≡ length one + length two
  unfolding of_caller
  both_counted R all one two logs are each =
      let of = subst (λ l. (i : ℕ) → AllZip R (of_caller i all) (list_at l i)) are each in
      let first = length_all_zip R (of_caller 0 all) one (of 0) in
      let second = length_all_zip R (of_caller 1 all) two (of 1) in
      let sum = counted all (λ i. length_all_zip R (of_caller (suc (suc i)) all) [] (of (suc (suc i)))) in
      omega (arith, first, second, sum)

  -- two lists that were put in one after another
  pub logs_are : {A : Type 0} (none first second : List (Vec (Entered K V) A)) (one two : Vec (Entered K V) A)
      → none ≡ [] → first ≡ none ++ one ∷ [] → second ≡ first ++ two ∷ []
      → map (λ list. list.items) second ≡ one.items ∷ two.items ∷ []
  logs_are none first second one two empty put put_too =
      ap (map (λ list. list.items)) (put_too ∙ ap (λ l. l ++ two ∷ []) (put ∙ ap (λ l. l ++ one ∷ []) empty))

  last_new : (n : ℕ) (cs : List (Calling K V)) (c : Calling K V) → AreNew n (cs ++ c ∷ []) → AreNew n cs
      × (c.log.entries ≡ [])
  last_new n [] c are = (tt, are.0.empty)
  last_new n (d ∷ cs) c are = let rest = last_new (n + 1) cs c are.1 in ((are.0, rest.0), rest.1)

  -- two callers that were taken out of new ones
  pub two_new : (cs ds es : List (Calling K V)) (r s : Option (Calling K V)) (b a : Calling K V) → AreNew 0 cs
      → cs ≡ ds ++ option_to_list r → r ≡ Some b → ds ≡ es ++ option_to_list s → s ≡ Some a → (a.log.entries ≡ [])
      × (b.log.entries ≡ [])
  two_new cs ds es r s b a are taken is taken_too is_too =
      let outer = last_new 0 ds b (subst (AreNew 0) (taken ∙ ap (λ o. ds ++ option_to_list o) is) are) in
      let inner = last_new 0 es a (subst (AreNew 0) (taken_too ∙ ap (λ o. es ++ option_to_list o) is_too) outer.0) in
      (inner.1, outer.1)

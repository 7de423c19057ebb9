-- What a world opens with at a key: the first key and the last value, one opening pair more at a time.
use Rattle.std.proofs.Common.{◌≡◌, ◌⊎◌, Bool, true, false, cond, if◌then◌else◌, List, [], ◌∷◌, ◌++◌, reverse, Option}
use Rattle.std.proofs.Common.{Some, None, refl, sym, ap, ap₂, ◌∙◌, inl, inr}
use Rattle.std.specs.Cmp.{IsEquivalence}
use Rattle.std.specs.Option.{option_or}
use Rattle.std.proofs.lemmas.Option.{none-some, same_Some}
use Rattle.std.proofs.lemmas.Bool.{cond-true, cond-false, cases_Bool}
use Rattle.std.proofs.lemmas.List.{reverse-append}
use Rattle.std.proofs.lemmas.List.Folds.{find-append}
use Rattle.mapworld_calls.specs.Pairs.{has_key, pair_of, key_and_value, opening_pair}
use Rattle.dashmap_table.specs.Shards.{put_over}
use Rattle.dashmap_table.proofs.Cases.{choice}
use Rattle.mapworld_state.proofs.Tables.{pair_of-same, pair_of-is}

option_or-none : {X : Type 0} (o : Option X) → option_or o None ≡ o
option_or-none None = refl
option_or-none (Some x) = refl

option_or-parts : {X : Type 0} (o r : Option X) → option_or o r ≡ None → (o ≡ None) × (r ≡ None)
option_or-parts None r h = (refl, h)
option_or-parts (Some x) r h = absurd (none-some x (sym h))

key_and_value-None : {K V : Type 0} (first last : Option (K × V)) → key_and_value first last ≡ None → (first ≡ None)
    ⊎ (last ≡ None)
key_and_value-None None last h = inl refl
key_and_value-None (Some p) None h = inr refl
key_and_value-None (Some p) (Some r) h = absurd (none-some (p.0, r.1) (sym h))

key_and_value-Some : {K V : Type 0} (first last : Option (K × V)) (p : K × V) → key_and_value first last ≡ Some p
    → (x : K × V) × (first ≡ Some x) × (x.0 ≡ p.0)
key_and_value-Some None last p h = absurd (none-some p h)
key_and_value-Some (Some x) None p h = absurd (none-some p h)
key_and_value-Some {K} {V} (Some x) (Some r) p h = (x, refl, ap (λ (y : K × V). y.0) (same_Some (x.0, r.1) p h))

module _ {K V : Type 0} (eq : K → K → Bool) (laws : IsEquivalence eq) where
  pub opening_pair-none : (q : K) → opening_pair {V = V} eq [] q ≡ None
  opening_pair-none q = refl

  -- equal keys open with the same
  pub opening_pair-same : (ps : List (K × V)) (j k : K) → eq j k ≡ true → opening_pair eq ps j ≡ opening_pair eq ps k
  opening_pair-same ps j k e = ap₂ key_and_value (pair_of-same eq laws ps j k e)
      (pair_of-same eq laws (reverse ps) j k e)

  -- the last pair stands first in the reversed list
  reverse_push : (ps : List (K × V)) (p : K × V) → reverse (ps ++ p ∷ []) ≡ p ∷ reverse ps
  reverse_push ps p = reverse-append ps (p ∷ [])

  first_pushed : (ps : List (K × V)) (p : K × V) (q : K)
      → pair_of eq (ps ++ p ∷ []) q ≡ option_or (pair_of eq ps q) (pair_of eq (p ∷ []) q)
  first_pushed ps p q = find-append (has_key eq q) ps (p ∷ [])

  last_pushed : (ps : List (K × V)) (p : K × V) (q : K)
      → pair_of eq (reverse (ps ++ p ∷ [])) q ≡ cond (eq p.0 q) (Some p) (pair_of eq (reverse ps) q)
  last_pushed ps p q = ap (λ l. pair_of eq l q) (reverse_push ps p)

  single : (p : K × V) (q : K) → pair_of eq (p ∷ []) q ≡ None → eq p.0 q ≡ false
  single p q h = elim (cases_Bool (eq p.0 q)) [
    | inl e ↦ absurd (none-some p (sym h ∙ cond-true (eq p.0 q) (Some p) None e))
    | inr e ↦ e
  ]

  -- a key that the reversed list doesn't have isn't in the list
  none_back : (ps : List (K × V)) (q : K) → pair_of eq (reverse ps) q ≡ None → pair_of eq ps q ≡ None
  none_back [] q h = refl
  none_back (z ∷ zs) q h =
      let parts = option_or-parts (pair_of eq (reverse zs) q) (pair_of eq (z ∷ []) q)
      (sym (find-append (has_key eq q) (reverse zs) (z ∷ []))
      ∙ (ap (λ l. pair_of eq l q) (sym (reverse-append (z ∷ []) zs)) ∙ h)) in
      cond-false (eq z.0 q) (Some z) (pair_of eq zs q) (single z q parts.1) ∙ none_back zs q parts.0

  none_from : (ps : List (K × V)) (q : K) → opening_pair eq ps q ≡ None → pair_of eq ps q ≡ None
  none_from ps q h = elim (key_and_value-None (pair_of eq ps q) (pair_of eq (reverse ps) q) h) [
    | inl a ↦ a
    | inr b ↦ none_back ps q b
  ]

  -- the key that it opens with is equal to the one that was asked for
  pub opening_pair-is : (ps : List (K × V)) (q : K) (p : K × V) → opening_pair eq ps q ≡ Some p → eq p.0 q ≡ true
  opening_pair-is ps q p h =
      let a = key_and_value-Some (pair_of eq ps q) (pair_of eq (reverse ps) q) p h in
      ap (λ k. eq k q) (sym a.2) ∙ (pair_of-is eq laws ps q a.0 a.1).2

  -- another key's pair changes nothing
  push_other : (ps : List (K × V)) (k : K) (v : V) (q : K) → eq k q ≡ false
      → opening_pair eq (ps ++ (k, v) ∷ []) q ≡ opening_pair eq ps q
  push_other ps k v q e =
      ap₂ key_and_value
      (first_pushed ps (k, v) q ∙ (ap (option_or (pair_of eq ps q)) (cond-false (eq k q) (Some (k, v)) None e)
      ∙ option_or-none (pair_of eq ps q)))
      (last_pushed ps (k, v) q ∙ cond-false (eq k q) (Some (k, v)) (pair_of eq (reverse ps) q) e)

  -- an equal key's pair becomes the last
  push_same : (ps : List (K × V)) (k : K) (v : V) (q : K) → eq k q ≡ true
      → opening_pair eq (ps ++ (k, v) ∷ []) q ≡ key_and_value (option_or (pair_of eq ps q) (Some (k, v)))
      (Some (k, v))
  push_same ps k v q e =
      ap₂ key_and_value
      (first_pushed ps (k, v) q ∙ ap (option_or (pair_of eq ps q)) (cond-true (eq k q) (Some (k, v)) None e))
      (last_pushed ps (k, v) q ∙ cond-true (eq k q) (Some (k, v)) (pair_of eq (reverse ps) q) e)

  -- the first pair of a key opens it
  opening_pair-push_new : (ps : List (K × V)) (k : K) (v : V) → opening_pair eq ps k ≡ None → (q : K)
      → opening_pair eq (ps ++ (k, v) ∷ []) q ≡ (if eq k q then Some (k, v) else opening_pair eq ps q)
  opening_pair-push_new ps k v none q =
      choice (eq k q) (Some (k, v)) (opening_pair eq ps q) (opening_pair eq (ps ++ (k, v) ∷ []) q)
      (λ e.
      let absent : pair_of eq ps q ≡ None = sym (pair_of-same eq laws ps k q e) ∙ none_from ps k none in
      push_same ps k v q e ∙ ap (λ (o : Option (K × V)). key_and_value (option_or o (Some (k, v))) (Some (k, v)))
      absent)
      (λ e. push_other ps k v q e)

  -- each later one gives it its value
  opening_pair-push_again : (ps : List (K × V)) (k : K) (v : V) (p : K × V) → opening_pair eq ps k ≡ Some p → (q : K)
      → opening_pair eq (ps ++ (k, v) ∷ []) q ≡ (if eq k q then Some (p.0, v) else opening_pair eq ps q)
  opening_pair-push_again ps k v p some q =
      choice (eq k q) (Some (p.0, v)) (opening_pair eq ps q) (opening_pair eq (ps ++ (k, v) ∷ []) q)
      (λ e.
      let a = key_and_value-Some (pair_of eq ps k) (pair_of eq (reverse ps) k) p some in
      let there : pair_of eq ps q ≡ Some a.0 = sym (pair_of-same eq laws ps k q e) ∙ a.1 in
      push_same ps k v q e
      ∙ (ap (λ (o : Option (K × V)). key_and_value (option_or o (Some (k, v))) (Some (k, v))) there
      ∙ ap (λ (x : K). Some (x, v)) a.2))
      (λ e. push_other ps k v q e)

  -- so each pair more is put over what its key opened with
  pub opening_pair-put : (ps : List (K × V)) (k : K) (v : V) (o : Option (K × V)) → opening_pair eq ps k ≡ o → (q : K)
      → opening_pair eq (ps ++ (k, v) ∷ []) q ≡ (if eq k q then Some (put_over o k v) else opening_pair eq ps q)
  opening_pair-put ps k v None at q = opening_pair-push_new ps k v at q
  opening_pair-put ps k v (Some p) at q = opening_pair-push_again ps k v p at q

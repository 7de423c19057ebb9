-- What slots find: an entry by its hash and key, where no two are equal.
use Rattle.std.proofs.Common.{◌≡◌, ℕ, Bool, true, false, nat_eq, List, Option, Some, None, refl, sym, ap, ◌∙◌, inl, inr}
use Rattle.std.proofs.Common.{arith, eqb-true, eq-eqb}
use Rattle.std.specs.Cmp.{IsEquivalence}
use Rattle.std.specs.Option.{option_and_then}
use Rattle.std.proofs.lemmas.Bool.{and_parts, and_from, false_from_ne_true, false≢true}
use Rattle.std.proofs.lemmas.Option.{none-some}
use Rattle.std.proofs.lemmas.List.Quantifiers.{position-Some}
use Rattle.dashmap_table.specs.declared.entry.Entry.{Entry}
use Rattle.dashmap_table.specs.Slots.{at, holds, slot_of, entry_of, AreDistinct}
use Rattle.dashmap_table.proofs.Cases.{option_cases}
use Rattle.dashmap_table.proofs.Places.{position-None, position-None_from, position-Some_from, at_within}

module _ {K V : Type 0} (eq : K → K → Bool) where
  pub slot_of-is : (xs : List (Option (Entry K V))) (h : ℕ) (k : K) (i : ℕ) → slot_of eq xs h k ≡ Some i
      → (e : Entry K V) × (at xs i ≡ Some e) × (holds eq h k (Some e) ≡ true)
  slot_of-is xs h k i found =
      let here = (position-Some (holds eq h k) xs i None found).1 in
      elim (option_cases (at xs i)) [
        | inl none ↦ absurd (false≢true (sym (ap (holds eq h k) none) ∙ here))
        | inr some ↦ (some.0, some.1, sym (ap (holds eq h k) some.1) ∙ here)
      ]

  pub slot_of-none : (xs : List (Option (Entry K V))) (h : ℕ) (k : K) → slot_of eq xs h k ≡ None
      → (i : ℕ) (e : Entry K V) → at xs i ≡ Some e → holds eq h k (Some e) ≡ false
  slot_of-none xs h k none i e here =
      sym (ap (holds eq h k) here) ∙ position-None (holds eq h k) None xs refl none i

  pub slot_of-none_from : (xs : List (Option (Entry K V))) (h : ℕ) (k : K)
      → ((i : ℕ) (e : Entry K V) → at xs i ≡ Some e → holds eq h k (Some e) ≡ false) → slot_of eq xs h k ≡ None
  slot_of-none_from xs h k fails = position-None_from (holds eq h k) None xs each
    where
      each : (i : ℕ) → holds eq h k (at xs i) ≡ false
      each i = elim (option_cases (at xs i)) [
        | inl none ↦ ap (holds eq h k) none
        | inr some ↦ ap (holds eq h k) some.1 ∙ fails i some.0 some.1
      ]

  module _ (laws : IsEquivalence eq) where
    -- two entries that both have a hash and a key are equal under that hash
    pub holds-both : (h : ℕ) (k : K) (d e : Entry K V) → holds eq h k (Some d) ≡ true → holds eq h k (Some e) ≡ true
        → holds eq d.hash d.key (Some e) ≡ true
    holds-both h k d e hd he =
        let a = and_parts (nat_eq d.hash h) (eq d.key k) hd in
        let b = and_parts (nat_eq e.hash h) (eq e.key k) he in
        and_from (nat_eq e.hash d.hash) (eq e.key d.key)
        (eq-eqb e.hash d.hash (eqb-true e.hash h b.0 ∙ sym (eqb-true d.hash h a.0)))
        (laws.congr e.key k d.key b.1 ∙ (laws.symm k d.key ∙ a.1))

    -- an entry has its own hash and key
    pub holds-own : (e : Entry K V) → holds eq e.hash e.key (Some e) ≡ true
    holds-own e = and_from (nat_eq e.hash e.hash) (eq e.key e.key) (eq-eqb e.hash e.hash refl) (laws.refl e.key)

    pub holds-turned : (d e : Entry K V) → holds eq d.hash d.key (Some e) ≡ true → holds eq e.hash e.key (Some d) ≡ true
    holds-turned d e h = holds-both d.hash d.key e d h (holds-own d)

    module _ (xs : List (Option (Entry K V))) (distinct : AreDistinct eq xs) where
      -- among distinct entries the one that has a hash and a key is found
      pub slot_of-at : (h : ℕ) (k : K) (i : ℕ) (e : Entry K V) → at xs i ≡ Some e → holds eq h k (Some e) ≡ true
          → slot_of eq xs h k ≡ Some i
      slot_of-at h k i e here has =
          position-Some_from (holds eq h k) None xs i (at_within xs i e here) (ap (holds eq h k) here ∙ has)
          (λ j below. elim (option_cases (at xs j)) [
            | inl none ↦ ap (holds eq h k) none
            | inr some ↦
                ap (holds eq h k) some.1
                ∙ false_from_ne_true (holds eq h k (Some some.0)) (λ also.
                let same : i ≡ j = distinct i j e some.0 here some.1 (holds-both h k e some.0 has also) in
                absurd (omega (arith, same)))
          ])

      pub entry_of-at : (h : ℕ) (k : K) (i : ℕ) (e : Entry K V) → at xs i ≡ Some e → holds eq h k (Some e) ≡ true
          → entry_of eq xs h k ≡ Some e
      entry_of-at h k i e here has = ap (option_and_then (at xs)) (slot_of-at h k i e here has) ∙ here

  pub entry_of-is : (xs : List (Option (Entry K V))) (h : ℕ) (k : K) (e : Entry K V) → entry_of eq xs h k ≡ Some e
      → (i : ℕ) × (slot_of eq xs h k ≡ Some i) × (at xs i ≡ Some e) × (holds eq h k (Some e) ≡ true)
  entry_of-is xs h k e found = elim (option_cases (slot_of eq xs h k)) [
    | inl none ↦ absurd (none-some e (sym (ap (option_and_then (at xs)) none) ∙ found))
    | inr some ↦
        let is = slot_of-is xs h k some.0 some.1 in
        let here : at xs some.0 ≡ Some e = sym (ap (option_and_then (at xs)) some.1) ∙ found in
        (some.0, some.1, here, ap (λ x. holds eq h k x) (sym here ∙ is.1) ∙ is.2)
  ]

  pub entry_of-none : (xs : List (Option (Entry K V))) (h : ℕ) (k : K) → slot_of eq xs h k ≡ None
      → entry_of eq xs h k ≡ None
  entry_of-none xs h k none = ap (option_and_then (at xs)) none

  -- slots with the same entries for a hash and a key find the same
  pub entry_of-same : IsEquivalence eq → (xs ys : List (Option (Entry K V))) → AreDistinct eq ys → (h : ℕ) (k : K)
      → ((i : ℕ) (e : Entry K V) → at xs i ≡ Some e → holds eq h k (Some e) ≡ true → (j : ℕ) × (at ys j ≡ Some e))
      → ((j : ℕ) (e : Entry K V) → at ys j ≡ Some e → holds eq h k (Some e) ≡ true → (i : ℕ) × (at xs i ≡ Some e))
      → entry_of eq ys h k ≡ entry_of eq xs h k
  entry_of-same laws xs ys distinct h k there back = elim (option_cases (slot_of eq xs h k)) [
    | inl none ↦
        entry_of-none ys h k (slot_of-none_from ys h k (λ j e here. false_from_ne_true (holds eq h k (Some e)) (λ has.
        let old = back j e here has in false≢true (sym (slot_of-none xs h k none old.0 e old.1) ∙ has))))
        ∙ sym (entry_of-none xs h k none)
    | inr some ↦
        let is = slot_of-is xs h k some.0 some.1 in
        let new = there some.0 is.0 is.1 is.2 in
        entry_of-at laws ys distinct h k new.0 is.0 new.1 is.2 ∙ sym (ap (option_and_then (at xs)) some.1 ∙ is.1)
  ]

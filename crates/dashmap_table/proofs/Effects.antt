-- What each hash and key finds after a table's call, and which entries the table has then.
use Rattle.std.proofs.Common.{◌≡◌, ◌≢◌, ℕ, Bool, true, false, cond, nat_eq, List, Option, Some, None, refl, sym, ap}
use Rattle.std.proofs.Common.{◌∙◌, subst, inl, inr, eq-eqb}
use Rattle.std.specs.Cmp.{IsEquivalence}
use Rattle.std.specs.Option.{option_map}
use Rattle.std.proofs.lemmas.Bool.{cases_Bool, cases_eq, and_parts, and_from, and_right, false_from_ne_true, false≢true}
use Rattle.std.proofs.lemmas.Option.{none-some, same_Some}
use Rattle.dashmap_table.specs.declared.entry.Entry.{Entry}
use Rattle.dashmap_table.specs.Slots.{at, holds, slot_of, entry_of, AreDistinct, giving_value, changed}
use Rattle.dashmap_table.specs.Table.{Table, IsSound, Adds, SamePairs}
use Rattle.dashmap_table.proofs.Cases.{choice}
use Rattle.dashmap_table.proofs.Finding.{slot_of-none, slot_of-none_from, holds-both, holds-own, entry_of-at}
use Rattle.dashmap_table.proofs.Finding.{entry_of-is, entry_of-none, entry_of-same}
use Rattle.dashmap_table.proofs.Changing.{at-changed, at-changed_other}

-- what holds of the hash and key of every entry of a list of slots
abbrev pub Each : {K V : Type 0} → (ℕ → K → Type 0) → List (Option (Entry K V)) → Type 0
Each {K} {V} P xs = (i : ℕ) (e : Entry K V) → at xs i ≡ Some e → P e.hash e.key

module _ {K V : Type 0} (eq : K → K → Bool) (laws : IsEquivalence eq) where
  -- an entry that has a hash and a key has each equal key under the same hash, and no other key
  holds-equal : (h : ℕ) (k q : K) (e : Entry K V) → holds eq h k (Some e) ≡ true → eq k q ≡ true
      → holds eq h q (Some e) ≡ true
  holds-equal h k q e has same =
      let a = and_parts (nat_eq e.hash h) (eq e.key k) has in
      and_from (nat_eq e.hash h) (eq e.key q) a.0 (laws.congr e.key k q a.1 ∙ same)

  holds-differs : (h m : ℕ) (k q : K) (e : Entry K V) → holds eq h k (Some e) ≡ true → eq k q ≡ false
      → holds eq m q (Some e) ≡ false
  holds-differs h m k q e has apart =
      let a = and_parts (nat_eq e.hash h) (eq e.key k) has in
      and_right (nat_eq e.hash m) (eq e.key q) (laws.congr e.key k q a.1 ∙ apart)

  module _ (h : ℕ) (key q : K) (m : ℕ) (hashed : eq key q ≡ true → m ≡ h) where
    -- a hash and key that weren't found
    pub finds-absent : (xs : List (Option (Entry K V))) → slot_of eq xs h key ≡ None
        → entry_of eq xs m q ≡ cond (eq key q) None (entry_of eq xs m q)
    finds-absent xs absent =
        choice (eq key q) None (entry_of eq xs m q) (entry_of eq xs m q)
        (λ same. entry_of-none eq xs m q
        (slot_of-none_from eq xs m q (λ i e here. false_from_ne_true (holds eq m q (Some e)) (λ has.
        let back = holds-equal h q key e (subst (λ n. holds eq n q (Some e) ≡ true) (hashed same) has)
        (laws.symm q key ∙ same) in
        false≢true (sym (slot_of-none eq xs h key absent i e here) ∙ back)))))
        (λ _. refl)

    -- a slot where they were found
    module _ (xs ys : List (Option (Entry K V))) (i : ℕ) (d : Entry K V) (distinct : AreDistinct eq xs)
        (here : at xs i ≡ Some d) (has : holds eq h key (Some d) ≡ true)
        (stay : (j : ℕ) → j ≢ i → at ys j ≡ at xs j) where
      -- other keys find what they found, whatever the slot has now, as long as it isn't theirs
      unmoved : AreDistinct eq ys → ((e : Entry K V) → at ys i ≡ Some e → holds eq m q (Some e) ≡ false)
          → eq key q ≡ false → entry_of eq ys m q ≡ entry_of eq xs m q
      unmoved fresh not_here apart = entry_of-same eq laws xs ys fresh m q there back
        where
          there : (j : ℕ) (e : Entry K V) → at xs j ≡ Some e → holds eq m q (Some e) ≡ true → (k : ℕ)
              × (at ys k ≡ Some e)
          there j e at_j of_q = elim (cases_eq j i) [
            | inl same ↦
                let is : d ≡ e = same_Some d e (sym here ∙ (ap (at xs) (sym same) ∙ at_j)) in
                absurd (false≢true
                (sym (holds-differs h m key q d has apart) ∙ (ap (λ x. holds eq m q (Some x)) is ∙ of_q)))
            | inr other ↦ (j, stay j other ∙ at_j)
          ]

          back : (j : ℕ) (e : Entry K V) → at ys j ≡ Some e → holds eq m q (Some e) ≡ true → (k : ℕ)
              × (at xs k ≡ Some e)
          back j e at_j of_q = elim (cases_eq j i) [
            | inl same ↦ absurd (false≢true (sym (not_here e (ap (at ys) (sym same) ∙ at_j)) ∙ of_q))
            | inr other ↦ (j, sym (stay j other) ∙ at_j)
          ]

      -- the slot was freed
      pub finds-freed : AreDistinct eq ys → at ys i ≡ None → entry_of eq ys m q ≡ cond (eq key q) None
          (entry_of eq xs m q)
      finds-freed fresh freed =
          choice (eq key q) None (entry_of eq xs m q) (entry_of eq ys m q)
          (λ same. entry_of-none eq ys m q
          (slot_of-none_from eq ys m q (λ j e at_j. false_from_ne_true (holds eq m q (Some e)) (λ of_q.
          let away : j ≢ i = λ at_i. none-some e (sym freed ∙ (ap (at ys) (sym at_i) ∙ at_j)) in
          let of_key = holds-equal h q key e (subst (λ n. holds eq n q (Some e) ≡ true) (hashed same) of_q)
          (laws.symm q key ∙ same) in
          away (distinct j i e d (sym (stay j away) ∙ at_j) here (holds-both eq laws h key e d of_key has))))))
          (unmoved fresh (λ e at_i. absurd (none-some e (sym freed ∙ at_i))))

      -- the slot has another value
      pub finds-valued : AreDistinct eq ys → (value : V) → at ys i ≡ Some (giving_value value d)
          → entry_of eq ys m q ≡ cond (eq key q) (Some (giving_value value d)) (entry_of eq xs m q)
      finds-valued fresh value left =
          choice (eq key q) (Some (giving_value value d)) (entry_of eq xs m q) (entry_of eq ys m q)
          (λ same. entry_of-at eq laws ys fresh m q i (giving_value value d) left
          (subst (λ n. holds eq n q (Some (giving_value value d)) ≡ true) (sym (hashed same))
          (holds-equal h key q (giving_value value d) has same)))
          (λ apart. unmoved fresh
          (λ e at_i. ap (λ x. holds eq m q (Some x)) (same_Some e (giving_value value d) (sym at_i ∙ left))
          ∙ holds-differs h m key q d has apart) apart)

  -- a new entry
  pub finds-added : (old new : Table K V) (e : Entry K V) (i : ℕ) → IsSound eq new → Adds eq old new e i
      → (q : K) (m : ℕ) → (eq e.key q ≡ true → m ≡ e.hash) → entry_of eq new.slots m q ≡ cond (eq e.key q) (Some e)
      (entry_of eq old.slots m q)
  finds-added old new e i sound adds q m hashed =
      choice (eq e.key q) (Some e) (entry_of eq old.slots m q) (entry_of eq new.slots m q)
      (λ same. entry_of-at eq laws new.slots sound.distinct m q i e adds.placed
      (and_from (nat_eq e.hash m) (eq e.key q) (eq-eqb e.hash m (sym (hashed same))) same))
      (λ apart. adds.others m q (and_right (nat_eq e.hash m) (eq e.key q) apart))

  module _ (P : ℕ → K → Type 0) where
    found_each : (xs ys : List (Option (Entry K V))) → AreDistinct eq ys → Each P xs → (i : ℕ) (e : Entry K V)
        → at ys i ≡ Some e → entry_of eq ys e.hash e.key ≡ entry_of eq xs e.hash e.key → P e.hash e.key
    found_each xs ys distinct each i e here same =
        let was = entry_of-is eq xs e.hash e.key e
        (sym same ∙ entry_of-at eq laws ys distinct e.hash e.key i e here (holds-own eq laws e)) in
        each was.0 e was.2

    pub each-same : (old new : Table K V) → IsSound eq new → SamePairs eq old new → Each P old.slots → Each P new.slots
    each-same old new sound same each i e here = found_each old.slots new.slots sound.distinct each i e here
        (same.found e.hash e.key)

    pub each-added : (old new : Table K V) (d : Entry K V) (s : ℕ) → IsSound eq new → Adds eq old new d s
        → P d.hash d.key → Each P old.slots → Each P new.slots
    each-added old new d s sound adds own each i e here = elim (cases_Bool (holds eq e.hash e.key (Some d))) [
      | inl theirs ↦
          let place : i ≡ s = sound.distinct i s e d here adds.placed theirs in
          let is : d ≡ e = same_Some d e (sym adds.placed ∙ (ap (at new.slots) (sym place) ∙ here)) in
          subst (λ (x : Entry K V). P x.hash x.key) is own
      | inr apart ↦ found_each old.slots new.slots sound.distinct each i e here (adds.others e.hash e.key apart)
    ]

    pub each-changed : (f : Entry K V → Entry K V) → ((e : Entry K V) → P e.hash e.key → P (f e).hash (f e).key)
        → (xs : List (Option (Entry K V))) (s : ℕ) → Each P xs → Each P (changed f xs s)
    each-changed f keeps xs s each i e here = elim (cases_eq i s) [
      | inl same ↦ of_map (at xs s) refl (sym (at-changed f xs s) ∙ (ap (at (changed f xs s)) (sym same) ∙ here))
      | inr other ↦ each i e (sym (at-changed_other f xs s i other) ∙ here)
    ]
      where
        of_map : (o : Option (Entry K V)) → at xs s ≡ o → option_map f o ≡ Some e → P e.hash e.key
        of_map None was is = absurd (none-some e is)
        of_map (Some d) was is = subst (λ (x : Entry K V). P x.hash x.key) (same_Some (f d) e is)
            (keeps d (each s d was))

-- What a shard has after a call on one key, hash by hash.
use Rattle.std.proofs.Common.{◌≡◌, ◌≢◌, ℕ, nat_eq, List, Bool, true, false, cond, Option, Some, None, Result, Ok}
use Rattle.std.proofs.Common.{IfSome, IfNone, IfOk, refl, sym, ap, ◌∙◌, subst, inl, inr}
use Rattle.std.specs.Cmp.{IsEquivalence}
use Rattle.std.specs.Option.{option_map, option_and_then}
use Rattle.std.proofs.lemmas.Bool.{cases_Bool, cases_eq, and_parts, and_left, eqb-true, false≢true}
use Rattle.std.proofs.lemmas.List.{get_or-set_other}
use Rattle.std.proofs.lemmas.Option.{none-some, same_Some, MatchOption-at_some, MatchOption-at_none}
use Rattle.dashmap_table.specs.declared.entry.Entry.{Entry}
use Rattle.dashmap_table.specs.Slots.{at, pair_of, holds, slot_of, entry_of, AreDistinct, entry_with, giving_value}
use Rattle.dashmap_table.specs.Slots.{changed}
use Rattle.dashmap_table.specs.Table.{Table, IsSound, Adds, Frees, with_value}
use Rattle.dashmap_table.specs.Shards.{put_over}
use Rattle.dashmap_table.proofs.Cases.{option_cases}
use Rattle.dashmap_table.proofs.Places.{at-set_same}
use Rattle.dashmap_table.proofs.Finding.{slot_of-is, entry_of-none, entry_of-same}
use Rattle.dashmap_table.proofs.Changing.{at-changed, at-changed_other}
use Rattle.dashmap_table.proofs.Effects.{finds-absent, finds-freed, finds-valued, finds-added}
use Rattle.dashmap_record.specs.declared.history.entry.Call.TheVariants.{ReplaceIf}
use Rattle.dashmap_record.specs.History.Replay.{PlainMap, has_value, with_value_at, after}
use Rattle.dashmap_record.specs.Replaying.{found, after_under}

-- a choice between options, mapped
map-cond : {X Y : Type 0} (f : X → Y) (b : Bool) (x y : Option X) → option_map f (cond b x y) ≡ cond b (option_map f x)
    (option_map f y)
map-cond f true x y = refl
map-cond f false x y = refl

module _ {K V : Type 0} (eq : K → K → Bool) (laws : IsEquivalence eq) where
  -- slots that differ in one place, where both have only this hash: other hashes find what they found
  elsewhere : (xs ys : List (Option (Entry K V))) (i hash : ℕ) → AreDistinct eq ys
      → ((e : Entry K V) → at xs i ≡ Some e → e.hash ≡ hash) → ((e : Entry K V) → at ys i ≡ Some e → e.hash ≡ hash)
      → ((j : ℕ) → j ≢ i → at ys j ≡ at xs j) → (m : ℕ) (q : K) → nat_eq hash m ≡ false
      → entry_of eq ys m q ≡ entry_of eq xs m q
  elsewhere xs ys i hash distinct was is stay m q apart = entry_of-same eq laws xs ys distinct m q there back
    where
      not_here : (e : Entry K V) → e.hash ≡ hash → holds eq m q (Some e) ≡ true → ⊥
      not_here e of_hash of_q =
          false≢true (sym apart
          ∙ (ap (λ n. nat_eq n m) (sym of_hash) ∙ (and_parts (nat_eq e.hash m) (eq e.key q) of_q).0))

      there : (j : ℕ) (e : Entry K V) → at xs j ≡ Some e → holds eq m q (Some e) ≡ true → (k : ℕ) × (at ys k ≡ Some e)
      there j e at_j of_q = elim (cases_eq j i) [
        | inl same ↦ absurd (not_here e (was e (ap (at xs) (sym same) ∙ at_j)) of_q)
        | inr other ↦ (j, stay j other ∙ at_j)
      ]

      back : (j : ℕ) (e : Entry K V) → at ys j ≡ Some e → holds eq m q (Some e) ≡ true → (k : ℕ) × (at xs k ≡ Some e)
      back j e at_j of_q = elim (cases_eq j i) [
        | inl same ↦ absurd (not_here e (is e (ap (at ys) (sym same) ∙ at_j)) of_q)
        | inr other ↦ (j, sym (stay j other) ∙ at_j)
      ]

  module _ (old new : Table K V) (hash : ℕ) (key : K) where
    -- what happens under the hash, and what under others
    under : (x : Option (Entry K V)) (change : PlainMap K V → PlainMap K V)
        → ((q : K) → cond (eq key q) (option_map pair_of x) (found eq old hash q) ≡ change (found eq old hash) q)
        → ((q : K) → entry_of eq new.slots hash q ≡ cond (eq key q) x (entry_of eq old.slots hash q))
        → ((m : ℕ) (q : K) → nat_eq hash m ≡ false → entry_of eq new.slots m q ≡ entry_of eq old.slots m q)
        → (h : ℕ) (q : K) → found eq new h q ≡ cond (nat_eq hash h) (change (found eq old h)) (found eq old h) q
    under x change is same other h q = elim (cases_Bool (nat_eq hash h)) [
      | inl here ↦
          subst (λ n. found eq new n q ≡ cond (nat_eq hash h) (change (found eq old n)) (found eq old n) q)
          (eqb-true hash h here)
          (ap (option_map pair_of) (same q)
          ∙ (map-cond pair_of (eq key q) x (entry_of eq old.slots hash q)
          ∙ (is q ∙ ap (λ b. cond b (change (found eq old hash)) (found eq old hash) q) (sym here))))
      | inr away ↦ ap (option_map pair_of) (other h q away)
          ∙ ap (λ b. cond b (change (found eq old h)) (found eq old h) q) (sym away)
    ]

    -- nothing happened where nothing was found
    pub nothing_taken : slot_of eq old.slots hash key ≡ None → (h : ℕ) (q : K) → found eq old h q ≡ cond (nat_eq hash h)
        (λ p. cond (eq key p) None (found eq old h p)) (found eq old h) q
    nothing_taken none h q = elim (cases_Bool (nat_eq hash h)) [
      | inl here ↦
          subst (λ n. found eq old n q ≡ cond (nat_eq hash h) (λ p. cond (eq key p) None (found eq old n p))
          (found eq old n) q) (eqb-true hash h here)
          (ap (option_map pair_of) (finds-absent eq laws hash key q hash (λ _. refl) old.slots none)
          ∙ (map-cond pair_of (eq key q) None (entry_of eq old.slots hash q)
          ∙ ap (λ b. cond b (λ p. cond (eq key p) None (found eq old hash p)) (found eq old hash) q) (sym here)))
      | inr away ↦ ap (λ b. cond b (λ p. cond (eq key p) None (found eq old h p)) (found eq old h) q) (sym away)
    ]

    -- nothing is found where there is no slot
    pub found-none : slot_of eq old.slots hash key ≡ None → found eq old hash key ≡ None
    found-none none = ap (option_map pair_of) (entry_of-none eq old.slots hash key none)

    module _ (slot : ℕ) (here : slot_of eq old.slots hash key ≡ Some slot) where
      stood : (d : Entry K V) × (at old.slots slot ≡ Some d) × (holds eq hash key (Some d) ≡ true)
      stood = slot_of-is eq old.slots hash key slot here

      hash_is : (d : Entry K V) → holds eq hash key (Some d) ≡ true → d.hash ≡ hash
      hash_is d has = eqb-true d.hash hash (and_parts (nat_eq d.hash hash) (eq d.key key) has).0

      pub found-at : found eq old hash key ≡ option_map pair_of (at old.slots slot)
      found-at = ap (λ n. option_map pair_of (option_and_then (at old.slots) n)) here

      was_hash : (e : Entry K V) → at old.slots slot ≡ Some e → e.hash ≡ hash
      was_hash e at_slot = ap (λ x. x.hash) (sym (same_Some stood.0 e (sym stood.1 ∙ at_slot)))
          ∙ hash_is stood.0 stood.2

      -- the pair was taken out
      pub taken : IsSound eq old → IsSound eq new → Frees old new slot → (h : ℕ) (q : K)
          → found eq new h q ≡ cond (nat_eq hash h) (λ p. cond (eq key p) None (found eq old h p)) (found eq old h) q
      taken sound fresh frees =
          let stay : (j : ℕ) → j ≢ slot → at new.slots j ≡ at old.slots j = λ j other. ap (λ l. at l j) frees.freed
          ∙ get_or-set_other old.slots slot j None None other in
          let gone : at new.slots slot ≡ None = ap (λ l. at l slot) frees.freed
          ∙ at-set_same old.slots slot None (λ _ _. refl) in
          under None (λ m p. cond (eq key p) None (m p)) (λ q. refl)
          (λ q. finds-freed eq laws hash key q hash (λ _. refl) old.slots new.slots slot stood.0 sound.distinct stood.1
          stood.2 stay fresh.distinct gone)
          (elsewhere old.slots new.slots slot hash fresh.distinct was_hash
          (λ e is. absurd (none-some e (sym gone ∙ is))) stay)

      -- the value was written over
      module _ (value : V) (fresh : IsSound eq new) (is : new ≡ with_value old slot value) where
        slots_are : new.slots ≡ changed (giving_value value) old.slots slot
        slots_are = ap (λ (t : Table K V). t.slots) is

        stay : (j : ℕ) → j ≢ slot → at new.slots j ≡ at old.slots j
        stay j other = ap (λ l. at l j) slots_are ∙ at-changed_other (giving_value value) old.slots slot j other

        left : at new.slots slot ≡ option_map (giving_value value) (at old.slots slot)
        left = ap (λ l. at l slot) slots_are ∙ at-changed (giving_value value) old.slots slot

        left_here : at new.slots slot ≡ Some (giving_value value stood.0)
        left_here = left ∙ ap (λ x. option_map (giving_value value) x) stood.1

        -- each entry that was there is there with the same hash and key
        kept : (j : ℕ) (e : Entry K V) → at old.slots j ≡ Some e → (d : Entry K V) × (at new.slots j ≡ Some d)
            × (d.hash ≡ e.hash) × (d.key ≡ e.key)
        kept j e at_j = elim (cases_eq j slot) [
          | inl same ↦ (
            giving_value value e,
            ap (at new.slots) same
                ∙ (left ∙ ap (λ x. option_map (giving_value value) x) (ap (at old.slots) (sym same) ∙ at_j)),
            refl,
            refl,
          )
          | inr other ↦ (e, stay j other ∙ at_j, refl, refl)
        ]

        distinct : AreDistinct eq old.slots
        distinct i j d e at_i at_j has =
            let d' = kept i d at_i in
            let e' = kept j e at_j in
            fresh.distinct i j d'.0 e'.0 d'.1 e'.1
            (subst (λ n. holds eq n d'.0.key (Some e'.0) ≡ true) (sym d'.2)
            (subst (λ k. holds eq d.hash k (Some e'.0) ≡ true) (sym d'.3)
            (subst (λ n. holds eq d.hash d.key (Some (record e'.0 { hash = n })) ≡ true) (sym e'.2)
            (subst (λ k. holds eq d.hash d.key (Some (record e'.0 { hash = e.hash; key = k })) ≡ true) (sym e'.3)
            has))))

        pub written_over : (h : ℕ) (q : K) → found eq new h q ≡ cond (nat_eq hash h)
            (λ p. cond (eq key p) (Some (put_over (found eq old h key) key value)) (found eq old h p)) (found eq old h)
            q
        written_over =
            let was : found eq old hash key ≡ Some (pair_of stood.0) = found-at ∙ ap (λ x. option_map pair_of x) stood.1
            in
            under (Some (giving_value value stood.0)) (λ m p. cond (eq key p) (Some (put_over (m key) key value)) (m p))
            (λ q. ap (λ p. cond (eq key q) (Some (put_over p key value)) (found eq old hash q)) (sym was))
            (λ q. finds-valued eq laws hash key q hash (λ _. refl) old.slots new.slots slot stood.0 distinct stood.1
            stood.2 stay fresh.distinct value left_here)
            (elsewhere old.slots new.slots slot hash fresh.distinct was_hash
            (λ e at_slot. ap (λ x. x.hash) (same_Some e (giving_value value stood.0) (sym at_slot ∙ left_here))
            ∙ hash_is stood.0 stood.2) stay)

    -- an insertion
    module _ (value : V) (r : Result (ℕ × Option V) (K × V)) (fresh : IsSound eq new)
        (present : IfSome (slot_of eq old.slots hash key)
        (λ i. (r ≡ Ok (i, option_map (λ e. e.value) (at old.slots i))) × (new ≡ with_value old i value)))
        (added : IfNone (slot_of eq old.slots hash key)
        (IfOk r (λ x. (x.1 ≡ None) × Adds eq old new (entry_with hash key value) x.0))) where
      present_at : (i : ℕ) → slot_of eq old.slots hash key ≡ Some i
          → (r ≡ Ok (i, option_map (λ e. e.value) (at old.slots i))) × (new ≡ with_value old i value)
      present_at i here =
          MatchOption-at_some _
          (λ n. (r ≡ Ok (n, option_map (λ e. e.value) (at old.slots n))) × (new ≡ with_value old n value)) i here
          present

      added_at : (x : ℕ × Option V) → r ≡ Ok x → slot_of eq old.slots hash key ≡ None → (x.1 ≡ None)
          × Adds eq old new (entry_with hash key value) x.0
      added_at x ok none = subst (λ z. IfOk z (λ x. (x.1 ≡ None) × Adds eq old new (entry_with hash key value) x.0)) ok
          (MatchOption-at_none _ _ none added)

      second : (x y : ℕ × Option V) → ◌≡◌ {A = Result (ℕ × Option V) (K × V)} (Ok x) (Ok y) → x.1 ≡ y.1
      second x y e = cc

      map-map : (o : Option (Entry K V)) → option_map (λ e. e.value) o ≡ option_map (λ p. p.1) (option_map pair_of o)
      map-map None = refl
      map-map (Some e) = refl

      -- the value that was there
      pub put_old : (x : ℕ × Option V) → r ≡ Ok x → x.1 ≡ option_map (λ p. p.1) (found eq old hash key)
      put_old x ok = elim (option_cases (slot_of eq old.slots hash key)) [
        | inl none ↦ (added_at x ok none).0 ∙ ap (λ o. option_map (λ p. p.1) o) (sym (found-none none))
        | inr some ↦
            second x (some.0, option_map (λ e. e.value) (at old.slots some.0)) (sym ok ∙ (present_at some.0 some.1).0)
            ∙ (map-map (at old.slots some.0) ∙ ap (λ o. option_map (λ p. p.1) o) (sym (found-at some.0 some.1)))
      ]

      -- what is there afterwards
      pub put_after : (x : ℕ × Option V) → r ≡ Ok x → (h : ℕ) (q : K) → found eq new h q ≡ cond (nat_eq hash h)
          (λ p. cond (eq key p) (Some (put_over (found eq old h key) key value)) (found eq old h p)) (found eq old h) q
      put_after x ok = elim (option_cases (slot_of eq old.slots hash key)) [
        | inl none ↦
            let adds = (added_at x ok none).1 in
            under (Some (entry_with hash key value)) (λ m p. cond (eq key p) (Some (put_over (m key) key value)) (m p))
            (λ q. ap (λ p. cond (eq key q) (Some (put_over p key value)) (found eq old hash q)) (sym (found-none none)))
            (λ q. finds-added eq laws old new (entry_with hash key value) x.0 fresh adds q hash (λ _. refl))
            (λ m q apart. adds.others m q (and_left (nat_eq hash m) (eq key q) apart))
        | inr some ↦ written_over some.0 some.1 value fresh (present_at some.0 some.1).1
      ]

  -- a value that isn't the one that was seen stays
  pub nothing_replaced : (alike : V → V → Bool) (old : Table K V) (hash : ℕ) (key : K) (seen value : V)
      → has_value alike seen (found eq old hash key) ≡ false
      → (h : ℕ) (q : K) → found eq old h q ≡ after_under eq alike hash (ReplaceIf key seen value) (found eq old) h q
  nothing_replaced alike old hash key seen value other h q = elim (cases_Bool (nat_eq hash h)) [
    | inl here ↦
        subst (λ n. found eq old n q ≡ cond (nat_eq hash h) (after eq alike (ReplaceIf key seen value) (found eq old n))
        (found eq old n) q) (eqb-true hash h here)
        (ap (λ b. cond b (with_value_at eq key value (found eq old hash)) (found eq old hash) q) (sym other)
        ∙ ap (λ b. cond b (after eq alike (ReplaceIf key seen value) (found eq old hash)) (found eq old hash) q)
        (sym here))
    | inr away ↦ ap (λ b. cond b (after eq alike (ReplaceIf key seen value) (found eq old h)) (found eq old h) q)
        (sym away)
  ]

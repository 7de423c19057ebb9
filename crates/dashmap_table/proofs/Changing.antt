-- Slots stay distinct when one of them is changed or filled, and the others are found as before.
use Rattle.std.proofs.Common.{◌≡◌, ◌≢◌, ℕ, ◌<◌, Bool, true, false, nat_eq, List, Option, Some, None, is_some, IsTrue}
use Rattle.std.proofs.Common.{IfSome, length, eq-eqb, slice_index_or, slice_set, refl, sym, ap, ◌∙◌, subst, inl, inr}
use Rattle.std.specs.Cmp.{IsEquivalence}
use Rattle.std.specs.Option.{option_map}
use Rattle.std.proofs.lemmas.Bool.{and_from, cases_eq, false≢true}
use Rattle.std.proofs.lemmas.Option.{none-some, same_Some, MatchOption-at_some}
use Rattle.std.proofs.lemmas.List.{get_or-set_other, get_or_read}
use Rattle.dashmap_table.specs.declared.entry.Entry.{Entry}
use Rattle.dashmap_table.specs.Slots.{at, count, holds, slot_of, entry_of, AreDistinct, giving_value, giving_pair}
use Rattle.dashmap_table.specs.Slots.{changed}
use Rattle.dashmap_table.specs.Table.{Table}
use Rattle.dashmap_table.proofs.Places.{at-set_same, count-set_like}
use Rattle.dashmap_table.proofs.Finding.{slot_of-none, holds-both, holds-own, holds-turned, entry_of-same}

option_map-some : {X Y : Type 0} (f : X → Y) (o : Option X) (y : Y) → option_map f o ≡ Some y → (x : X) × (o ≡ Some x)
    × (f x ≡ y)
option_map-some f None y e = absurd (none-some y e)
option_map-some f (Some x) y e = (x, refl, same_Some (f x) y e)

is_some-option_map : {X Y : Type 0} (f : X → Y) (o : Option X) → is_some (option_map f o) ≡ is_some o
is_some-option_map f None = refl
is_some-option_map f (Some x) = refl

module _ {K V : Type 0} where
  pub at-changed : (f : Entry K V → Entry K V) (xs : List (Option (Entry K V))) (i : ℕ)
      → at (changed f xs i) i ≡ option_map f (at xs i)
  at-changed f xs i = at-set_same xs i (option_map f (at xs i)) (λ none _. ap (option_map f) none)

  pub at-changed_other : (f : Entry K V → Entry K V) (xs : List (Option (Entry K V))) (i j : ℕ) → j ≢ i
      → at (changed f xs i) j ≡ at xs j
  at-changed_other f xs i j other = get_or-set_other xs i j (option_map f (at xs i)) None other

  pub count-changed : (f : Entry K V → Entry K V) (xs : List (Option (Entry K V))) (i : ℕ)
      → count (changed f xs i) ≡ count xs
  count-changed f xs i = count-set_like xs i (option_map f (at xs i)) (is_some-option_map f (at xs i))

module _ {K V : Type 0} (eq : K → K → Bool) (laws : IsEquivalence eq) where
  -- slots are distinct where each entry took the place of one with its hash and an equal key
  AreDistinct-like : (xs ys : List (Option (Entry K V))) → AreDistinct eq xs
      → ((i : ℕ) (e : Entry K V) → at ys i ≡ Some e → (d : Entry K V) × (at xs i ≡ Some d)
      × (holds eq d.hash d.key (Some e) ≡ true))
      → AreDistinct eq ys
  AreDistinct-like xs ys distinct like i j d e hi hj has =
      let a = like i d hi in
      let b = like j e hj in
      let far = holds-both eq laws e.hash e.key d b.0 (holds-turned eq laws d e has) (holds-turned eq laws b.0 e b.2) in
      distinct i j a.0 b.0 a.1 b.1 (holds-both eq laws d.hash d.key a.0 b.0 (holds-turned eq laws a.0 d a.2) far)

  -- a change that keeps the hash and the key up to its equals
  pub AreDistinct-changed : (f : Entry K V → Entry K V) (xs : List (Option (Entry K V))) (i : ℕ) → AreDistinct eq xs
      → ((e : Entry K V) → at xs i ≡ Some e → holds eq e.hash e.key (Some (f e)) ≡ true)
      → AreDistinct eq (changed f xs i)
  AreDistinct-changed f xs i distinct keeps = AreDistinct-like xs (changed f xs i) distinct like
    where
      like : (j : ℕ) (e : Entry K V) → at (changed f xs i) j ≡ Some e → (d : Entry K V) × (at xs j ≡ Some d)
          × (holds eq d.hash d.key (Some e) ≡ true)
      like j e here = elim (cases_eq j i) [
        | inl same ↦
            let was = option_map-some f (at xs i) e
            (sym (at-changed f xs i) ∙ (ap (at (changed f xs i)) (sym same) ∙ here)) in (
              was.0,
              ap (at xs) same ∙ was.1,
              ap (λ x. holds eq was.0.hash was.0.key (Some x)) (sym was.2)
                  ∙ keeps was.0 was.1,
            )
        | inr other ↦ (e, sym (at-changed_other f xs i j other) ∙ here, holds-own eq laws e)
      ]

  -- a new entry in a place where none was
  module _ (xs ys : List (Option (Entry K V))) (e : Entry K V) (i : ℕ) (distinct : AreDistinct eq xs)
      (absent : slot_of eq xs e.hash e.key ≡ None)
      (was : at xs i ≡ None) (placed : at ys i ≡ Some e) (stay : (j : ℕ) → j ≢ i → at ys j ≡ at xs j) where
    pub AreDistinct-added : AreDistinct eq ys
    AreDistinct-added j k c d hj hk has = elim (cases_eq j i) [
      | inl jn ↦ elim (cases_eq k i) [
        | inl kn ↦ jn ∙ sym kn
        | inr ko ↦
            let is : c ≡ e = same_Some c e (sym hj ∙ (ap (at ys) jn ∙ placed)) in
            absurd (false≢true (sym (slot_of-none eq xs e.hash e.key absent k d (sym (stay k ko) ∙ hk))
            ∙ ap (λ (x : Entry K V). holds eq x.hash x.key (Some d)) (sym is) ∙ has))
      ]
      | inr jo ↦ elim (cases_eq k i) [
        | inl kn ↦
            let is : d ≡ e = same_Some d e (sym hk ∙ (ap (at ys) kn ∙ placed)) in
            absurd (false≢true (sym (slot_of-none eq xs e.hash e.key absent j c (sym (stay j jo) ∙ hj))
            ∙ ap (λ (x : Entry K V). holds eq x.hash x.key (Some c)) (sym is) ∙ holds-turned eq laws c d has))
        | inr ko ↦ distinct j k c d (sym (stay j jo) ∙ hj) (sym (stay k ko) ∙ hk) has
      ]
    ]

    pub entry_of-added : (h : ℕ) (k : K) → holds eq h k (Some e) ≡ false → entry_of eq ys h k ≡ entry_of eq xs h k
    entry_of-added h k not = entry_of-same eq laws xs ys AreDistinct-added h k there back
      where
        there : (j : ℕ) (d : Entry K V) → at xs j ≡ Some d → holds eq h k (Some d) ≡ true → (m : ℕ) × (at ys m ≡ Some d)
        there j d here has =
            (j, stay j (λ same. none-some d (sym was ∙ (ap (at xs) (sym same) ∙ here))) ∙ here)

        back : (j : ℕ) (d : Entry K V) → at ys j ≡ Some d → holds eq h k (Some d) ≡ true → (m : ℕ) × (at xs m ≡ Some d)
        back j d here has = elim (cases_eq j i) [
          | inl same ↦
              let is : d ≡ e = same_Some d e (sym here ∙ (ap (at ys) same ∙ placed)) in
              absurd (false≢true (sym not ∙ (ap (λ x. holds eq h k (Some x)) (sym is) ∙ has)))
          | inr other ↦ (j, sym (stay j other) ∙ here)
        ]

module _ {K V : Type 0} where
  -- a write of what a slot's content was changed to
  pub is_changed : (f : Entry K V → Entry K V) (xs : List (Option (Entry K V))) (i : ℕ) (read left : Option (Entry K V))
      → i < length xs → read ≡ slice_index_or xs i read → left ≡ option_map f read
      → slice_set xs i left ≡ changed f xs i
  is_changed f xs i read left within here is =
      ap (slice_set xs i) (is ∙ ap (option_map f) (get_or_read xs i read within here None))

  -- a table that was read as these slots and this room, after the change
  pub change-after : (old : Table K V) (xs : List (Option (Entry K V))) (room : ℕ)
      → record { slots = xs; room = room } ≡ old → (f : Entry K V → Entry K V) (i : ℕ) (zs : List (Option (Entry K V)))
      → zs ≡ changed f xs i
      → record { slots = zs; room = room } ≡ record old { slots = changed f old.slots i }
  change-after old xs room was f i zs is =
      ap (λ l. record { slots = l; room = room }) is ∙ ap (λ (t : Table K V). record t { slots = changed f t.slots i })
      was

  module _ (eq : K → K → Bool) (laws : IsEquivalence eq) (xs : List (Option (Entry K V))) (full i : ℕ)
      (distinct : AreDistinct eq xs) (counted : full ≡ count xs) where
    change-sound : (f : Entry K V → Entry K V)
        → ((e : Entry K V) → at xs i ≡ Some e → holds eq e.hash e.key (Some (f e)) ≡ true)
        → (zs : List (Option (Entry K V))) → zs ≡ changed f xs i → AreDistinct eq zs × (full ≡ count zs)
    change-sound f keeps zs is = (
      subst (AreDistinct eq) (sym is) (AreDistinct-changed eq laws f xs i distinct keeps),
      counted
          ∙ (sym (count-changed f xs i) ∙ ap count (sym is)),
    )

    -- another value
    pub value-sound : (value : V) (zs : List (Option (Entry K V))) → zs ≡ changed (giving_value value) xs i
        → AreDistinct eq zs × (full ≡ count zs)
    value-sound value = change-sound (giving_value value) (λ e here. holds-own eq laws e)

    -- another value, and an equal key
    pub pair-sound : (old : Table K V) (room : ℕ) → record { slots = xs; room = room } ≡ old → (key : K) (value : V)
        → IfSome (at old.slots i) (λ e. IsTrue (eq e.key key)) → (zs : List (Option (Entry K V)))
        → zs ≡ changed (giving_pair key value) xs i → AreDistinct eq zs × (full ≡ count zs)
    pair-sound old room was key value equal = change-sound (giving_pair key value) keeps
      where
        keeps : (e : Entry K V) → at xs i ≡ Some e → holds eq e.hash e.key (Some (giving_pair key value e)) ≡ true
        keeps e here =
            let there : at old.slots i ≡ Some e = ap (λ (t : Table K V). at t.slots i) (sym was) ∙ here in
            let same : eq e.key key ≡ true = MatchOption-at_some _ (λ e. IsTrue (eq e.key key)) e there equal in
            and_from (nat_eq e.hash e.hash) (eq key e.key) (eq-eqb e.hash e.hash refl) (laws.symm key e.key ∙ same)

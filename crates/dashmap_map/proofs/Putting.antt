-- What an insertion into a shard and a removal from it come to.
use Rattle.std.proofs.Common.{◌≡◌, ℕ, Bool, true, nat_eq, IsTrue, Option, Some, None, Result, Ok, Err, MatchOption}
use Rattle.std.proofs.Common.{IfSome, IfNone, IfOk, sym, ap, ◌∙◌, subst, inl, inr}
use Rattle.std.specs.Option.{option_map, option_and_then}
use Rattle.std.proofs.lemmas.Bool.{and_parts}
use Rattle.std.proofs.lemmas.Option.{none-some, same_Some, MatchOption-at_some, MatchOption-at_none}
use Rattle.dashmap_table.specs.declared.entry.Entry.{Entry}
use Rattle.dashmap_table.specs.Slots.{at, pair_of, slot_of, entry_of, entry_with, giving_value}
use Rattle.dashmap_table.specs.Table.{Table, Adds, Frees, TakesOut, PutsIn, with_value}
use Rattle.dashmap_guard.specs.Guarded.{pair_in, key_in}
use Rattle.dashmap_table.proofs.Cases.{option_cases}
use Rattle.dashmap_table.proofs.Changing.{at-changed}
use Rattle.dashmap_table.proofs.Finding.{slot_of-is, entry_of-none}

module _ {K V : Type 0} where
  -- the key of a pair in a slot
  pub key_in-pair : (t : Table K V) (slot : ℕ) (k : K) (v : V) → pair_in t slot ≡ Some (k, v) → key_in t slot ≡ Some k
  key_in-pair t slot k v shown = elim (option_cases (at t.slots slot)) [
    | inl none ↦ absurd (none-some (k, v) (sym (ap (option_map pair_of) none) ∙ shown))
    | inr some ↦
        let same = same_Some (pair_of some.0) (k, v) (sym (ap (option_map pair_of) some.1) ∙ shown) in
        ap (option_map (λ e. e.key)) some.1 ∙ ap (λ p. Some p.0) same
  ]

module _ {K V : Type 0} (eq : K → K → Bool) (old new : Table K V) (hash : ℕ) (key : K) where
  -- a pair that is found goes
  pub took_out : (slot : ℕ) → slot_of eq old.slots hash key ≡ Some slot → Frees old new slot
      → TakesOut eq old new hash key
  took_out slot found frees = subst (λ z. MatchOption z (new ≡ old) (λ n. Frees old new n)) (sym found) frees

  -- what stands in the slot that was found is what is found
  pub found_there : (slot : ℕ) → slot_of eq old.slots hash key ≡ Some slot → at old.slots slot ≡ entry_of eq old.slots
      hash key
  found_there slot found = sym (ap (option_and_then (at old.slots)) found)

  -- the entry of a slot whose pair is known
  shown_at : (slot : ℕ) (k : K) (v : V) → option_map pair_of (at old.slots slot) ≡ Some (k, v) → (e : Entry K V)
      × (at old.slots slot ≡ Some e) × (e.key ≡ k) × (e.value ≡ v)
  shown_at slot k v shown = elim (option_cases (at old.slots slot)) [
    | inl none ↦ absurd (none-some (k, v) (sym (ap (option_map pair_of) none) ∙ shown))
    | inr some ↦
        let same = same_Some (pair_of some.0) (k, v) (sym (ap (option_map pair_of) some.1) ∙ shown) in
        (some.0, some.1, ap (λ p. p.0) same, ap (λ p. p.1) same)
  ]

  -- what holds of the pair that was found holds of the entry that is found
  pub found_so : (P : K → V → Type 0) (slot : ℕ) (k : K) (v : V) → slot_of eq old.slots hash key ≡ Some slot
      → option_map pair_of (at old.slots slot) ≡ Some (k, v) → P k v
      → IfSome (entry_of eq old.slots hash key) (λ e. P e.key e.value)
  found_so P slot k v found shown holds =
      let at' = shown_at slot k v shown in
      subst (λ z. IfSome z (λ e. P e.key e.value)) (sym at'.1 ∙ found_there slot found)
      (subst (λ x. P x at'.0.value) (sym at'.2) (subst (P k) (sym at'.3) holds))

  -- and so of its slot
  pub found_slot_so : (P : ℕ → K → V → Type 0) (slot : ℕ) (k : K) (v : V) → slot_of eq old.slots hash key ≡ Some slot
      → option_map pair_of (at old.slots slot) ≡ Some (k, v) → P slot k v
      → IfSome (slot_of eq old.slots hash key) (λ i. IfSome (entry_of eq old.slots hash key) (λ e. P i e.key e.value))
  found_slot_so P slot k v found shown holds =
      subst (λ z. IfSome z (λ i. IfSome (entry_of eq old.slots hash key) (λ e. P i e.key e.value))) (sym found)
      (found_so (P slot) slot k v found shown holds)

  -- the pair that was found has the key that was asked for
  pub asked_at : (slot : ℕ) (k : K) (v : V) → slot_of eq old.slots hash key ≡ Some slot
      → option_map pair_of (at old.slots slot) ≡ Some (k, v) → IsTrue (eq k key)
  asked_at slot k v found shown =
      let at' = shown_at slot k v shown in
      let is = slot_of-is eq old.slots hash key slot found in
      let same = same_Some is.0 at'.0 (sym is.1 ∙ at'.1) in
      subst (λ x. eq x key ≡ true) at'.2
      (subst (λ e. eq e.key key ≡ true) same (and_parts (nat_eq is.0.hash hash) (eq is.0.key key) is.2).1)

  -- a value that is written there stands beside the same key
  pub written_at : (slot : ℕ) (k : K) (v w : V) → option_map pair_of (at old.slots slot) ≡ Some (k, v)
      → option_map pair_of (at (with_value old slot w).slots slot) ≡ Some (k, w)
  written_at slot k v w shown =
      let at' = shown_at slot k v shown in
      ap (option_map pair_of) (at-changed (giving_value w) old.slots slot ∙ ap (option_map (giving_value w)) at'.1)
      ∙ ap (λ x. Some (x, w)) at'.2

  module _ (value : V) (r : Result (ℕ × Option V) (K × V))
      (present : IfSome (slot_of eq old.slots hash key)
      (λ i. (r ≡ Ok (i, option_map (λ e. e.value) (at old.slots i))) × (new ≡ with_value old i value)))
      (added : IfNone (slot_of eq old.slots hash key)
      (IfOk r (λ x. (x.1 ≡ None) × Adds eq old new (entry_with hash key value) x.0))) where
    present_at : (i : ℕ) → slot_of eq old.slots hash key ≡ Some i
        → (r ≡ Ok (i, option_map (λ e. e.value) (at old.slots i))) × (new ≡ with_value old i value)
    present_at i found =
        MatchOption-at_some _
        (λ n. (r ≡ Ok (n, option_map (λ e. e.value) (at old.slots n))) × (new ≡ with_value old n value)) i found present

    added_at : (x : ℕ × Option V) → r ≡ Ok x → slot_of eq old.slots hash key ≡ None → (x.1 ≡ None)
        × Adds eq old new (entry_with hash key value) x.0
    added_at x ok none =
        subst (λ z. IfOk z (λ x. (x.1 ≡ None) × Adds eq old new (entry_with hash key value) x.0)) ok
        (MatchOption-at_none _ _ none added)

    pub puts_in : (x : ℕ × Option V) → r ≡ Ok x → PutsIn eq old new hash key value
    puts_in x ok = elim (option_cases (slot_of eq old.slots hash key)) [
      | inl none ↦
          subst (λ z. MatchOption z ((n : ℕ) × Adds eq old new (entry_with hash key value) n)
          (λ n. new ≡ with_value old n value)) (sym none) (x.0, (added_at x ok none).1)
      | inr some ↦
          subst (λ z. MatchOption z ((n : ℕ) × Adds eq old new (entry_with hash key value) n)
          (λ n. new ≡ with_value old n value)) (sym some.1) (present_at some.0 some.1).1
    ]

    second : (x y : ℕ × Option V) → ◌≡◌ {A = Result (ℕ × Option V) (K × V)} (Ok x) (Ok y) → x.1 ≡ y.1
    second x y e = cc

    pub old_value : (x : ℕ × Option V) → r ≡ Ok x → x.1 ≡ option_map (λ e. e.value) (entry_of eq old.slots hash key)
    old_value x ok = elim (option_cases (slot_of eq old.slots hash key)) [
      | inl none ↦ (added_at x ok none).0
          ∙ ap (option_map (λ e. e.value)) (sym (entry_of-none eq old.slots hash key none))
      | inr some ↦
          second x (some.0, option_map (λ e. e.value) (at old.slots some.0)) (sym ok ∙ (present_at some.0 some.1).0)
          ∙ ap (option_map (λ e. e.value)) (found_there some.0 some.1)
    ]

    apart : (x : ℕ × Option V) (y : K × V) → ◌≡◌ {A = Result (ℕ × Option V) (K × V)} (Err y) (Ok x) → ⊥
    apart x y e = cc

    pub refused_absent : (back : K × V) → r ≡ Err back → slot_of eq old.slots hash key ≡ None
    refused_absent back err = elim (option_cases (slot_of eq old.slots hash key)) [
      | inl none ↦ none
      | inr some ↦ absurd (apart _ back (sym err ∙ (present_at some.0 some.1).0))
    ]

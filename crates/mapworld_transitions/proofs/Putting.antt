-- A pair that is put into a shard, whether its key is there or not.
use Rattle.std.proofs.Common.{◌≡◌, ℕ, ◌+◌, Bool, true, false, not, nat_lt, Option, Some, None, is_some, IfSome, IfNone}
use Rattle.std.proofs.Common.{refl, sym, ap, ◌∙◌, subst, inl, inr, arith, lt-ltb, le-ltb}
use Rattle.std.specs.Cmp.{IsEquivalence}
use Rattle.std.proofs.lemmas.Bool.{false≢true}
use Rattle.dashmap_table.specs.Shards.{put_over}
use Rattle.dashmap_table.specs.Slots.{count, slot_of, pairs_of, entry_with}
use Rattle.dashmap_table.specs.Table.{Table, IsSound, Adds, with_value}
use Rattle.dashmap_table.proofs.Cases.{option_cases}
use Rattle.dashmap_table.proofs.Sounds.{length-pairs_of}
use Rattle.mapworld_calls.specs.Pairs.{pair_of}
use Rattle.mapworld_state.specs.Shards.{shard_pairs, number_of, Puts}
use Rattle.mapworld_state.specs.Slots.{HasHashes}
use Rattle.mapworld_transitions.specs.Slots.{LeavesAt, HashesAlike}
use Rattle.mapworld_transitions.proofs.Slotted.{value-left, slot-of_key, slot-present, pair-at_key, puts-left}
use Rattle.mapworld_transitions.proofs.Slotted.{hashes-left, distinct-pairs, hashes-added, puts-added}

none-by : {X : Type 0} (o : Option X) → is_some o ≡ false → o ≡ None
none-by None h = refl
none-by (Some x) h = absurd (false≢true (sym h))

module _ {K V : Type 0} (eq : K → K → Bool) (laws : IsEquivalence eq) (hash : K → ℕ) (alike : HashesAlike eq hash)
    (old new : Table K V) (key : K) (value : V)
    (hashed : HasHashes hash old) (before : IsSound eq old) (sound : IsSound eq new) where
  -- what stays of the key's pair
  abbrev was : Option (K × V)
  was = pair_of eq (pairs_of old.slots) key

  put-present : (i : ℕ) → slot_of eq old.slots (hash key) key ≡ Some i → new ≡ with_value old i value
      → Puts eq (shard_pairs old) (shard_pairs new) key (Some (put_over was key value)) × HasHashes hash new
  put-present i there is =
      let k = slot-of_key eq hash alike old hashed key i there in
      let distinct = distinct-pairs eq laws hash alike old before.distinct hashed in
      let leaves : LeavesAt old new i (Some (k.entry.key, value)) = is ∙ value-left old i k.entry value k.there in
      let found = pair-at_key eq laws old i key distinct k in
      let kept : (z : K × V) → Some (k.entry.key, value) ≡ Some z → eq k.entry.key z.0 ≡ true =
      λ z e. ap (λ (o : Option (K × V)). equal_to k.entry.key o) (sym e) ∙ laws.refl k.entry.key in (
        subst (λ (o : Option (K × V)). Puts eq (shard_pairs old) (shard_pairs new) key (Some (put_over o key value)))
            (sym found)
            (puts-left eq laws old new i key distinct k (Some (k.entry.key, value)) kept leaves),
        hashes-left eq laws old new i key distinct k hash alike (Some (k.entry.key, value)) kept leaves hashed,
      )
    where
      equal_to : K → Option (K × V) → Bool
      equal_to j None = true
      equal_to j (Some z) = eq j z.0

  put-absent : (i : ℕ) → slot_of eq old.slots (hash key) key ≡ None → Adds eq old new (entry_with (hash key) key value)
      i → Puts eq (shard_pairs old) (shard_pairs new) key (Some (put_over was key value)) × HasHashes hash new
  put-absent i none adds =
      let absent : was ≡ None = none-by was (sym (slot-present eq hash alike old hashed key) ∙ ap is_some none) in (
        subst (λ (o : Option (K × V)). Puts eq (shard_pairs old) (shard_pairs new) key (Some (put_over o key value)))
            (sym absent)
            (puts-added eq laws hash alike old new key value i hashed sound adds absent),
        hashes-added eq laws hash alike old new key value i hashed sound adds,
      )

  pub put-done : (h i : ℕ) (P : ℕ → Type 0) (Q : Type 0) → h ≡ hash key
      → IfSome (slot_of eq old.slots h key) (λ j. P j × (new ≡ with_value old j value))
      → IfNone (slot_of eq old.slots h key) (Q × Adds eq old new (entry_with h key value) i)
      → Puts eq (shard_pairs old) (shard_pairs new) key (Some (put_over was key value)) × HasHashes hash new
  put-done h i P Q is present added = elim (option_cases (slot_of eq old.slots h key)) [
    | inl none ↦
        put-absent i (ap (λ k. slot_of eq old.slots k key) (sym is) ∙ none)
        (subst (λ k. Adds eq old new (entry_with k key value) i) is
        (subst (λ (o : Option ℕ). IfNone o (Q × Adds eq old new (entry_with h key value) i)) none added).1)
    | inr some ↦
        put-present some.0 (ap (λ k. slot_of eq old.slots k key) (sym is) ∙ some.1)
        (subst (λ (o : Option ℕ). IfSome o (λ j. P j × (new ≡ with_value old j value))) some.1 present).1
  ]

-- a key is new where there is one pair more
pub new-more : {K V : Type 0} (eq : K → K → Bool) (old new : Table K V) (key : K) (r : K × V) (n m : ℕ)
    → n ≡ count old.slots → m ≡ count new.slots → Puts eq (shard_pairs old) (shard_pairs new) key (Some r)
    → nat_lt n m ≡ not (is_some (pair_of eq (pairs_of old.slots) key))
new-more eq old new key r n m before after puts =
    let some = length-pairs_of old.slots in
    let now = length-pairs_of new.slots in
    by-number (pair_of eq (pairs_of old.slots) key) n m (omega (arith, before, after, some, now, puts.counted))
  where
    by-number : {X : Type 0} (o : Option X) (n m : ℕ) → m + number_of o ≡ n + 1 → nat_lt n m ≡ not (is_some o)
    by-number None n m h = lt-ltb n m (omega (arith, h))
    by-number (Some x) n m h = le-ltb n m (omega (arith, h))

-- The slots of a shard and the list of its pairs: what a key finds in both, and what a call in one slot does to the
-- list.
use Rattle.std.proofs.Common.{◌≡◌, ℕ, zero, suc, ◌+◌, ◌≤◌, Bool, true, false, cond, ◌==◌, if◌then◌else◌, List, [], ◌∷◌}
use Rattle.std.proofs.Common.{length, Option, Some, None, IfSome, Result, Ok, Err, OnOk, is_some, slice_get, slice_set}
use Rattle.std.proofs.Common.{slice_index_or, remove, find, refl, sym, ap, ◌∙◌, subst, inl, inr, IsTrue, arith, eq-eqb}
use Rattle.std.proofs.Common.{length-set, IsSome, ◌*◌, max}
use Rattle.std.specs.Cmp.{IsEquivalence}
use Rattle.std.specs.Hash.{HashWrites}
use Rattle.std.specs.declared.hash.BuildHasher as builder
use Rattle.std.specs.declared.hash.Hasher as hasher
use Rattle.std.specs.Option.{option_map, option_and_then}
use Rattle.std.proofs.lemmas.Bool.{cases_Bool, cases_eq, and_from, and_right, false≢true}
use Rattle.std.proofs.lemmas.Option.{none-some, same_Some, slice_get_within}
use Rattle.std.proofs.lemmas.List.Edits.{length-remove}
use Rattle.std.proofs.lemmas.List.{set-get_or, get_or-set_other}
use Rattle.dashmap_table.specs.declared.entry.Entry.{Entry}
use Rattle.dashmap_table.specs.Route.{hash_of}
use Rattle.dashmap_table.specs.Slots.{at, count, holds, slot_of, entry_of, pair_of as entry_pair, pairs_of, entry_with}
use Rattle.dashmap_table.specs.Slots.{giving_value, giving_pair, changed, AreDistinct as AreApart}
use Rattle.dashmap_table.specs.Table.{Table, IsSound, Adds, SamePairs, with_value, with_pair, grown_to}
use Rattle.dashmap_table.proofs.Cases.{option_cases}
use Rattle.dashmap_table.proofs.Places.{at-set_same}
use Rattle.dashmap_table.proofs.Changing.{at-changed, at-changed_other}
use Rattle.dashmap_table.proofs.Finding.{slot_of-is, slot_of-none}
use Rattle.dashmap_table.proofs.Sounds.{length-pairs_of}
use Rattle.dashmap_table.proofs.Effects.{finds-added, each-same, each-added}
use Rattle.mapworld_calls.specs.Pairs.{has_key, pair_of, AreDistinct}
use Rattle.mapworld_state.specs.Shards.{shard_pairs, number_of, used, Puts, Grown, Shrunk}
use Rattle.mapworld_state.specs.Slots.{HasHashes, HasKeyAt, key_hash}
use Rattle.mapworld_state.proofs.Finds.{find_at_position, find-None, find-None_from}
use Rattle.mapworld_state.proofs.Tables.{pair_of-at, pair_of-put, AreDistinct-put, pair_of-remove, AreDistinct-remove}
use Rattle.mapworld_transitions.specs.Slots.{LeavesAt, HashesAlike}

module _ {K V : Type 0} where
  -- how many pairs stand in the slots before one
  abbrev pub rank : List (Option (Entry K V)) → ℕ → ℕ
  rank [] j = 0
  rank (x ∷ xs) zero = 0
  rank (None ∷ xs) (suc j) = rank xs j
  rank (Some e ∷ xs) (suc j) = suc (rank xs j)

  -- a slot's pair stands in the list, and what stands in the list has a slot
  pub pairs-have : (xs : List (Option (Entry K V))) (j : ℕ) (e : Entry K V) → at xs j ≡ Some e
      → slice_get (pairs_of xs) (rank xs j) ≡ Some (entry_pair e)
  pairs-have [] j e here = absurd (none-some e here)
  pairs-have (None ∷ xs) zero e here = absurd (none-some e here)
  pairs-have (None ∷ xs) (suc j) e here = pairs-have xs j e here
  pairs-have (Some d ∷ xs) zero e here = ap (λ (z : Entry K V). Some (entry_pair z)) (same_Some d e here)
  pairs-have (Some d ∷ xs) (suc j) e here = pairs-have xs j e here

  pub pairs-from : (xs : List (Option (Entry K V))) (i : ℕ) (p : K × V) → slice_get (pairs_of xs) i ≡ Some p → (j : ℕ)
      × (e : Entry K V) × (at xs j ≡ Some e) × (entry_pair e ≡ p) × (rank xs j ≡ i)
  pairs-from [] i p h = absurd (none-some p h)
  pairs-from (None ∷ xs) i p h = let r = pairs-from xs i p h in (suc r.0, r.1, r.2, r.3, r.4)
  pairs-from (Some d ∷ xs) zero p h = (0, d, refl, same_Some (entry_pair d) p h, refl)
  pairs-from (Some d ∷ xs) (suc i) p h = let r = pairs-from xs i p h in (suc r.0, r.1, r.2, r.3, ap suc r.4)

  -- two full slots before which there are as many pairs are one
  rank-same : (xs : List (Option (Entry K V))) (i j : ℕ) (d e : Entry K V) → at xs i ≡ Some d → at xs j ≡ Some e
      → rank xs i ≡ rank xs j → i ≡ j
  rank-same [] i j d e a b same = absurd (none-some d a)
  rank-same (None ∷ xs) zero j d e a b same = absurd (none-some d a)
  rank-same (None ∷ xs) (suc i) zero d e a b same = absurd (none-some e b)
  rank-same (None ∷ xs) (suc i) (suc j) d e a b same = ap suc (rank-same xs i j d e a b same)
  rank-same (Some c ∷ xs) zero zero d e a b same = refl
  rank-same (Some c ∷ xs) zero (suc j) d e a b same = absurd (omega (arith, same))
  rank-same (Some c ∷ xs) (suc i) zero d e a b same = absurd (omega (arith, same))
  rank-same (Some c ∷ xs) (suc i) (suc j) d e a b same = ap suc (rank-same xs i j d e a b (omega (arith, same)))

  -- of distinct keys each has one slot
  pub one-slot : (eq : K → K → Bool) (xs : List (Option (Entry K V))) → AreDistinct eq (pairs_of xs)
      → (i j : ℕ) (d e : Entry K V) → at xs i ≡ Some d → at xs j ≡ Some e → eq d.key e.key ≡ true → i ≡ j
  one-slot eq xs distinct i j d e a b same =
      rank-same xs i j d e a b
      (distinct (rank xs i) (rank xs j) (entry_pair d) (entry_pair e) (pairs-have xs i d a) (pairs-have xs j e b)
      same)

  -- a slot that gets another pair, and one that is freed
  pairs-put : (xs : List (Option (Entry K V))) (i : ℕ) (d e : Entry K V) → at xs i ≡ Some d
      → pairs_of (slice_set xs i (Some e)) ≡ slice_set (pairs_of xs) (rank xs i) (entry_pair e)
  pairs-put [] i d e here = absurd (none-some d here)
  pairs-put (None ∷ xs) zero d e here = absurd (none-some d here)
  pairs-put (None ∷ xs) (suc i) d e here = pairs-put xs i d e here
  pairs-put (Some c ∷ xs) zero d e here = refl
  pairs-put (Some c ∷ xs) (suc i) d e here = ap (λ z. entry_pair c ∷ z) (pairs-put xs i d e here)

  pairs-freed : (xs : List (Option (Entry K V))) (i : ℕ) (d : Entry K V) → at xs i ≡ Some d
      → pairs_of (slice_set xs i None) ≡ remove (pairs_of xs) (rank xs i)
  pairs-freed [] i d here = absurd (none-some d here)
  pairs-freed (None ∷ xs) zero d here = absurd (none-some d here)
  pairs-freed (None ∷ xs) (suc i) d here = pairs-freed xs i d here
  pairs-freed (Some c ∷ xs) zero d here = refl
  pairs-freed (Some c ∷ xs) (suc i) d here = ap (λ z. entry_pair c ∷ z) (pairs-freed xs i d here)

  -- a slot that keeps its pair, or gets another value
  pub stays-left : (t : Table K V) (i : ℕ) (e : Entry K V) → at t.slots i ≡ Some e → t ≡ with_pair t i e.key e.value
  stays-left t i e here =
      let same : changed (giving_pair e.key e.value) t.slots i ≡ t.slots =
      ap (λ o. slice_set t.slots i (option_map (giving_pair e.key e.value) o)) here
      ∙ (ap (slice_set t.slots i) (sym here) ∙ set-get_or t.slots i None) in
      ap (λ xs. record t { slots = xs }) (sym same)

  pub value-left : (t : Table K V) (i : ℕ) (e : Entry K V) (v : V) → at t.slots i ≡ Some e
      → with_value t i v ≡ with_pair t i e.key v
  value-left t i e v here =
      ap (λ o. record t { slots = slice_set t.slots i (option_map (giving_value v) o) }) here
      ∙ ap (λ o. record t { slots = slice_set t.slots i (option_map (giving_pair e.key v) o) }) (sym here)

-- what stands in a slot that was found, if one was
abbrev entry-in : {X : Type 0} → Option (Option X) → Option X
entry-in None = None
entry-in (Some o) = o

entry-at : {X : Type 0} (xs : List (Option X)) (i : ℕ) → entry-in (slice_get xs i) ≡ slice_index_or xs i None
entry-at [] i = refl
entry-at (x ∷ xs) zero = refl
entry-at (x ∷ xs) (suc i) = entry-at xs i

entry-and_then : {X : Type 0} (xs : List (Option X)) (o : Option ℕ) → entry-in (option_and_then (λ i. slice_get xs i) o)
    ≡ option_and_then (λ i. slice_index_or xs i None) o
entry-and_then xs None = refl
entry-and_then xs (Some i) = entry-at xs i

module _ {K V : Type 0} (eq : K → K → Bool) (hash : K → ℕ) (alike : HashesAlike eq hash) where
  -- under its key's hash an entry has a key as it is equal to it
  holds-is : (q : K) (e : Entry K V) → e.hash ≡ hash e.key → holds eq (hash q) q (Some e) ≡ eq e.key q
  holds-is q e own = elim (cases_Bool (eq e.key q)) [
    | inl same ↦ and_from (e.hash == hash q) (eq e.key q) (eq-eqb e.hash (hash q) (own ∙ alike e.key q same)) same
        ∙ sym same
    | inr apart ↦ and_right (e.hash == hash q) (eq e.key q) apart ∙ sym apart
  ]

  module _ (t : Table K V) (hashed : HasHashes hash t) where
    -- a key's slot has its pair, and a key without a slot has none
    pub slot-of_key : (q : K) (i : ℕ) → slot_of eq t.slots (hash q) q ≡ Some i → HasKeyAt eq t i q
    slot-of_key q i found =
        let is = slot_of-is eq t.slots (hash q) q i found in
        record { entry = is.0; there = is.1; equal = sym (holds-is q is.0 (hashed i is.0 is.1)) ∙ is.2 }

    none-of_key : (q : K) → slot_of eq t.slots (hash q) q ≡ None → pair_of eq (pairs_of t.slots) q ≡ None
    none-of_key q none = find-None_from (has_key eq q) (pairs_of t.slots) each
      where
        each : (i : ℕ) (p : K × V) → slice_get (pairs_of t.slots) i ≡ Some p → eq p.0 q ≡ false
        each i p here =
            let r = pairs-from t.slots i p here in
            ap (λ (z : K × V). eq z.0 q) (sym r.3)
            ∙ (sym (holds-is q r.1 (hashed r.0 r.1 r.2)) ∙ slot_of-none eq t.slots (hash q) q none r.0 r.1 r.2)

    slot-none : (q : K) → pair_of eq (pairs_of t.slots) q ≡ None → slot_of eq t.slots (hash q) q ≡ None
    slot-none q none = elim (option_cases (slot_of eq t.slots (hash q) q)) [
      | inl absent ↦ absent
      | inr some ↦
          let is = slot-of_key q some.0 some.1 in
          absurd (false≢true
          (sym (find-None (has_key eq q) (pairs_of t.slots) none (rank t.slots some.0) (entry_pair is.entry)
          (pairs-have t.slots some.0 is.entry is.there)) ∙ is.equal))
    ]

    -- a key has a slot as it has a pair
    pub slot-present : (q : K) → is_some (slot_of eq t.slots (hash q) q) ≡ is_some (pair_of eq (pairs_of t.slots) q)
    slot-present q = elim (option_cases (slot_of eq t.slots (hash q) q)) [
      | inl none ↦ ap is_some none ∙ sym (ap is_some (none-of_key q none))
      | inr some ↦ elim (option_cases (pair_of eq (pairs_of t.slots) q)) [
        | inl absent ↦ absurd (none-some some.0 (sym (slot-none q absent) ∙ some.1))
        | inr pair ↦ ap is_some some.1 ∙ sym (ap is_some pair.1)
      ]
    ]

    pub slot-absent : (q : K) → pair_of eq (pairs_of t.slots) q ≡ None → slot_of eq t.slots (hash q) q ≡ None
    slot-absent = slot-none

module _ {K V : Type 0} (eq : K → K → Bool) (laws : IsEquivalence eq) where
  -- the pair in a key's slot is the key's
  pub pair-at_key : (t : Table K V) (i : ℕ) (q : K) → AreDistinct eq (pairs_of t.slots) → (k : HasKeyAt eq t i q)
      → pair_of eq (pairs_of t.slots) q ≡ Some (entry_pair k.entry)
  pair-at_key t i q distinct k = pair_of-at eq laws (pairs_of t.slots) (rank t.slots i) (entry_pair k.entry) q distinct
      (pairs-have t.slots i k.entry k.there) k.equal

  module _ (old new : Table K V) (i : ℕ) (key : K) (distinct : AreDistinct eq (pairs_of old.slots))
      (k : HasKeyAt eq old i key) where
    -- what another pair under an equal key does to the list
    puts-set : (z : K × V) → eq k.entry.key z.0 ≡ true → LeavesAt old new i (Some z)
        → Puts eq (shard_pairs old) (shard_pairs new) key (Some z)
    puts-set z same is =
        let r = rank old.slots i in
        let ps = pairs_of old.slots in
        let here = pairs-have old.slots i k.entry k.there in
        let put : pairs_of new.slots ≡ slice_set ps r z =
        ap (λ (t : Table K V). pairs_of t.slots) is
        ∙ (ap (λ o. pairs_of (slice_set old.slots i (option_map (giving_pair z.0 z.1) o))) k.there
        ∙ pairs-put old.slots i k.entry (giving_pair z.0 z.1 k.entry) k.there) in
        let found = pair-at_key old i key distinct k in
        let many = ap length put ∙ length-set ps r z in
        let was : number_of (pair_of eq ps key) ≡ 1 = ap number_of found in
        let free : used (pair_of eq ps key) (Some z) ≡ 0 = ap (λ o. used o (Some z)) found in
        let room = ap (λ (t : Table K V). t.room) is in
        record {
          found = λ q. ap (λ xs. pair_of eq xs q) put
              ∙ (pair_of-put eq laws ps r (entry_pair k.entry) z same distinct here q
              ∙ ap (λ b. if b then Some z else pair_of eq ps q) (laws.congr k.entry.key key q k.equal));
          distinct = subst (AreDistinct eq) (sym put)
              (AreDistinct-put eq laws ps r (entry_pair k.entry) z same distinct here);
          counted = omega (arith, many, was);
          spare = omega (arith, many, free, room);
          no_more = λ _. omega (arith, room);
        }

    puts-freed : LeavesAt old new i None → Puts eq (shard_pairs old) (shard_pairs new) key None
    puts-freed is =
        let r = rank old.slots i in
        let ps = pairs_of old.slots in
        let here = pairs-have old.slots i k.entry k.there in
        let put : pairs_of new.slots ≡ remove ps r = ap pairs_of is.freed ∙ pairs-freed old.slots i k.entry k.there in
        let found = pair-at_key old i key distinct k in
        let many = length-remove ps r (slice_get_within ps r (entry_pair k.entry) here) in
        let fewer = ap length put in
        let was : number_of (pair_of eq ps key) ≡ 1 = ap number_of found in
        let free : used (pair_of eq ps key) None ≡ 0 = ap (λ o. used o None) found in
        let before = length-pairs_of old.slots in
        let after = length-pairs_of new.slots in
        let left = is.left in
        record {
          found = λ q. ap (λ xs. pair_of eq xs q) put
              ∙ (pair_of-remove eq laws ps r (entry_pair k.entry) distinct here q
              ∙ ap (λ b. if b then None else pair_of eq ps q) (laws.congr k.entry.key key q k.equal));
          distinct = subst (AreDistinct eq) (sym put) (AreDistinct-remove eq laws ps r distinct);
          counted = omega (arith, many, fewer, was);
          spare = omega (arith, free, before, after, left);
          no_more = λ _. is.no_more;
        }

    -- what a call leaves in a key's slot is what the key has
    pub puts-left : (o : Option (K × V)) → ((z : K × V) → o ≡ Some z → eq k.entry.key z.0 ≡ true) → LeavesAt old new i o
        → Puts eq (shard_pairs old) (shard_pairs new) key o
    puts-left None same is = puts-freed is
    puts-left (Some z) same is = puts-set z (same z refl) is

    entry-left : (z : K × V) → LeavesAt old new i (Some z) → at new.slots i ≡ Some (giving_pair z.0 z.1 k.entry)
    entry-left z is = ap (λ (t : Table K V). at t.slots i) is
        ∙ (at-changed (giving_pair z.0 z.1) old.slots i ∙ ap (option_map (giving_pair z.0 z.1)) k.there)

    -- and its slot has the key still, if it has a pair
    pub key-left : (z : K × V) → eq k.entry.key z.0 ≡ true → LeavesAt old new i (Some z) → HasKeyAt eq new i key
    key-left z same is = record {
      entry = giving_pair z.0 z.1 k.entry;
      there = entry-left z is;
      equal = sym (laws.congr k.entry.key z.0 key same) ∙ k.equal;
    }

    -- and each pair stands under its key's hash
    pub hashes-left : (hash : K → ℕ) → HashesAlike eq hash → (o : Option (K × V))
        → ((z : K × V) → o ≡ Some z → eq k.entry.key z.0 ≡ true) → LeavesAt old new i o → HasHashes hash old
        → HasHashes hash new
    hashes-left hash alike None same is hashed j e here = elim (cases_eq j i) [
      | inl own ↦ absurd
          (none-some e (sym (at-set_same old.slots i None (λ _ _. refl))
          ∙ (ap (λ xs. at xs i) (sym is.freed) ∙ (ap (at new.slots) (sym own) ∙ here))))
      | inr other ↦ hashed j e
          (sym (get_or-set_other old.slots i j None None other) ∙ (ap (λ xs. at xs j) (sym is.freed) ∙ here))
    ]
    hashes-left hash alike (Some z) same is hashed j e here = elim (cases_eq j i) [
      | inl own ↦
          let there = entry-left z is in
          let now : giving_pair z.0 z.1 k.entry ≡ e = same_Some (giving_pair z.0 z.1 k.entry) e
          (sym there ∙ (ap (at new.slots) (sym own) ∙ here)) in
          subst (λ (d : Entry K V). d.hash ≡ hash d.key) now
          (hashed i k.entry k.there ∙ alike k.entry.key z.0 (same z refl))
      | inr other ↦ hashed j e
          (sym (at-changed_other (giving_pair z.0 z.1) old.slots i j other)
          ∙ (ap (λ (t : Table K V). at t.slots j) (sym is) ∙ here))
    ]

  -- a key that a slot has stays there under a pair that is left in it
  pub key-kept : (old new : Table K V) (i : ℕ) (key : K) → AreDistinct eq (pairs_of old.slots)
      → (k : HasKeyAt eq old i key) (z : K × V) → eq k.entry.key z.0 ≡ true → LeavesAt old new i (Some z)
      → (q : K) → HasKeyAt eq old i q → HasKeyAt eq new i q
  key-kept old new i key distinct k z same is q has =
      let one : k.entry ≡ has.entry = same_Some k.entry has.entry (sym k.there ∙ has.there) in
      key-left old new i q distinct has z (ap (λ (e : Entry K V). eq e.key z.0) (sym one) ∙ same) is

  module _ (hash : K → ℕ) (alike : HashesAlike eq hash) where
    -- the pairs of distinct slots are distinct
    pub distinct-pairs : (t : Table K V) → AreApart eq t.slots → HasHashes hash t → AreDistinct eq (pairs_of t.slots)
    distinct-pairs t apart hashed i j p r hp hr e =
        let a = pairs-from t.slots i p hp in
        let b = pairs-from t.slots j r hr in
        let equal : eq a.1.key b.1.key ≡ true = ap (λ (z : K × V). eq z.0 b.1.key) a.3
        ∙ (ap (λ (z : K × V). eq p.0 z.0) b.3 ∙ e) in
        let under : b.1.hash ≡ a.1.hash = hashed b.0 b.1 b.2
        ∙ (sym (alike a.1.key b.1.key equal) ∙ sym (hashed a.0 a.1 a.2)) in
        let place : a.0 ≡ b.0 =
        apart a.0 b.0 a.1 b.1 a.2 b.2
        (and_from (b.1.hash == a.1.hash) (eq b.1.key a.1.key) (eq-eqb b.1.hash a.1.hash under)
        (laws.symm b.1.key a.1.key ∙ equal)) in
        sym a.4 ∙ (ap (rank t.slots) place ∙ b.4)

    first-by : (e : Entry K V) (b c : Bool) → c ≡ b → (found : Option (K × V)) (r : Option (Option (Entry K V)))
        → found ≡ option_map entry_pair (entry-in r)
        → cond b (Some (entry_pair e)) found ≡ option_map entry_pair (entry-in (cond c (Some (Some e)) r))
    first-by e true true h found r is = refl
    first-by e false false h found r is = is
    first-by e true false h found r is = absurd (false≢true h)
    first-by e false true h found r is = absurd (false≢true (sym h))

    first-pair : (xs : List (Option (Entry K V))) → ((j : ℕ) (e : Entry K V) → at xs j ≡ Some e → e.hash ≡ hash e.key)
        → (q : K) → find (has_key eq q) (pairs_of xs) ≡ option_map entry_pair (entry-in (find (holds eq (hash q) q) xs))
    first-pair [] hashed q = refl
    first-pair (None ∷ xs) hashed q = first-pair xs (λ j. hashed (suc j)) q
    first-pair (Some e ∷ xs) hashed q =
        first-by e (eq e.key q) (holds eq (hash q) q (Some e)) (holds-is eq hash alike q e (hashed 0 e refl))
        (find (has_key eq q) (pairs_of xs)) (find (holds eq (hash q) q) xs)
        (first-pair xs (λ j. hashed (suc j)) q)

    -- a key finds in the list what it finds under its hash
    pub pair-of_entry : (t : Table K V) → HasHashes hash t → (q : K) → pair_of eq (pairs_of t.slots) q ≡ option_map
        entry_pair (entry_of eq t.slots (hash q) q)
    pair-of_entry t hashed q =
        first-pair t.slots hashed q
        ∙ ap (option_map entry_pair)
        (ap entry-in (find_at_position (holds eq (hash q) q) t.slots)
        ∙ entry-and_then t.slots (slot_of eq t.slots (hash q) q))

    -- a new pair
    module _ (old new : Table K V) (key : K) (value : V) (i : ℕ) (hashed : HasHashes hash old) (sound : IsSound eq new)
        (adds : Adds eq old new (entry_with (hash key) key value) i) where
      pub hashes-added : HasHashes hash new
      hashes-added = each-added eq laws (λ h k. h ≡ hash k) old new (entry_with (hash key) key value) i sound adds refl
          hashed

      pub key-added : HasKeyAt eq new i key
      key-added = record { entry = entry_with (hash key) key value; there = adds.placed; equal = laws.refl key }

      pub puts-added : pair_of eq (pairs_of old.slots) key ≡ None → Puts eq (shard_pairs old) (shard_pairs new) key
          (Some (key, value))
      puts-added absent =
          let was : number_of (pair_of eq (pairs_of old.slots) key) ≡ 0 = ap number_of absent in
          let more : used (pair_of eq (pairs_of old.slots) key) (Some (key, value)) ≡ 1 =
          ap (λ o. used o (Some (key, value))) absent in
          let before = length-pairs_of old.slots in
          let after = length-pairs_of new.slots in
          let one = adds.counted in
          let left = adds.left in
          record {
            found = λ q.
                pair-of_entry new hashes-added q
                ∙ (ap (option_map entry_pair)
                (finds-added eq laws old new (entry_with (hash key) key value) i sound adds q (hash q)
                (λ same. sym (alike key q same)))
                ∙ (if-map (eq key q) (Some (entry_with (hash key) key value)) (entry_of eq old.slots (hash q) q)
                ∙ ap (λ o. if eq key q then Some (key, value) else o) (sym (pair-of_entry old hashed q))));
            distinct = distinct-pairs new sound.distinct hashes-added;
            counted = omega (arith, was, before, after, one);
            spare = omega (arith, more, before, after, left);
            no_more = λ there. absurd (false≢true (subst IsSome absent there));
          }
        where
          if-map : (b : Bool) (x y : Option (Entry K V)) → option_map entry_pair (cond b x y) ≡ cond b
              (option_map entry_pair x) (option_map entry_pair y)
          if-map true x y = refl
          if-map false x y = refl

    -- the same pairs, with more room
    pub grown-same : (old new : Table K V) → HasHashes hash old → IsSound eq new → SamePairs eq old new
        → count old.slots + (count old.slots + 4) ≤ new.room
        → new.room ≤ max old.room (4 * grown_to (count old.slots) (count old.slots + 4))
        → Grown eq (shard_pairs old) (shard_pairs new)
    grown-same old new hashed sound same enough most =
        let now = each-same eq laws (λ h k. h ≡ hash k) old new sound same hashed in
        let before = length-pairs_of old.slots in
        let after = length-pairs_of new.slots in
        let counted = same.counted in
        record {
          found = λ q. pair-of_entry new now q
              ∙ (ap (option_map entry_pair) (same.found (hash q) q) ∙ sym (pair-of_entry old hashed q));
          distinct = distinct-pairs new sound.distinct now;
          counted = omega (arith, before, after, counted);
          room = omega (arith, enough, before);
          most = omega (arith, most, before);
        }

    -- the same pairs, with no more room than they need
    pub shrunk-same : (old new : Table K V) → HasHashes hash old → IsSound eq new → SamePairs eq old new
        → new.room ≤ old.room → new.room ≤ 4 * count new.slots → Shrunk eq (shard_pairs old) (shard_pairs new)
    shrunk-same old new hashed sound same room tight =
        let now = each-same eq laws (λ h k. h ≡ hash k) old new sound same hashed in
        let before = length-pairs_of old.slots in
        let after = length-pairs_of new.slots in
        let counted = same.counted in
        record {
          found = λ q. pair-of_entry new now q
              ∙ (ap (option_map entry_pair) (same.found (hash q) q) ∙ sym (pair-of_entry old hashed q));
          distinct = distinct-pairs new sound.distinct now;
          counted = omega (arith, before, after, counted);
          room = room;
          tight = omega (arith, tight, after);
        }

-- equal keys write the same into a hasher, so they have one hash
pub hashes-alike : {K S H : Type 0} (b : builder.Ghosts S H) (h : hasher.Ghosts H) (input : K → HashWrites) (s : S)
    (eq : K → K → Bool) → ((j k : K) → IsTrue (eq j k) → input j ≡ input k) → HashesAlike eq (key_hash b h input s)
hashes-alike b h input s eq respects j k same = ap (hash_of b h s) (respects j k same)

pub if-some : {X : Type 0} {P : X → Type 0} (o : Option X) → ((x : X) → o ≡ Some x → P x) → IfSome o P
if-some None each = tt
if-some (Some x) each = each x refl

pub on-ok : {X E : Type 0} {Q : Type 0} (r : Result X E) (P : Type 0) → OnOk r P → (P → Q) → OnOk r Q
on-ok (Ok x) P h each = each h
on-ok (Err e) P h each = tt

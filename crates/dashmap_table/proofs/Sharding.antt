-- Plain shards after a call of one of them: still routed, and with the pairs that the call's table tells.
use Rattle.std.proofs.Common.{◌≡◌, ◌≢◌, ℕ, ◌^◌, ◌<◌, ◌≤◌, nat_eq, eq-eqb, Bool, true, cond, List, length, replicate}
use Rattle.std.proofs.Common.{Option, Some, None, Result, Ok, Err, MatchOption, IfSome, IfNone, IfOk, IfErr, IsTrue}
use Rattle.std.proofs.Common.{slice_index_or, slice_set, refl, sym, ap, ◌∙◌, subst, inl, inr, arith}
use Rattle.std.specs.Cmp.{IsEquivalence}
use Rattle.std.specs.Hash.{HashWrites}
use Rattle.std.specs.Option.{option_map, option_and_then}
use Rattle.std.specs.declared.hash.BuildHasher as builder
use Rattle.std.specs.declared.hash.Hasher as hasher
use Rattle.std.proofs.lemmas.Bool.{and_from, cases_eq, cases_lt, cond-true, cond-false}
use Rattle.std.proofs.lemmas.Option.{none-some, MatchOption-at_some, MatchOption-at_none}
use Rattle.std.proofs.lemmas.List.{length-replicate, get_or-replicate, get_or_past, length-set, set-get_or}
use Rattle.std.proofs.lemmas.List.{get_or-set_same, get_or-set_other, get_or_read, get_or_default}
use Rattle.dashmap_table.specs.declared.entry.Entry.{Entry}
use Rattle.dashmap_table.specs.Route.{IsShardAmount, route_of, hash_of}
use Rattle.dashmap_table.specs.Slots.{at, count, pair_of, holds, slot_of, entry_of, AreDistinct, entry_with}
use Rattle.dashmap_table.specs.Slots.{giving_value, changed}
use Rattle.dashmap_table.specs.Table.{Table, IsSound, SamePairs, Adds, Frees, TakesOut, PutsIn, with_value}
use Rattle.dashmap_table.specs.Shards.{Tables, no_pairs, table_at, put_over, IsFull, key_hash, key_shard, pair_at}
use Rattle.dashmap_table.specs.Shards.{with_value_at, AreApart, AreSharded, IsSeenByItsKey}
use Rattle.dashmap_table.proofs.Cases.{option_cases, choice}
use Rattle.dashmap_table.proofs.Places.{at-set_same}
use Rattle.dashmap_table.proofs.Finding.{slot_of-is, slot_of-at, holds-own, entry_of-none}
use Rattle.dashmap_table.proofs.Changing.{at-changed, at-changed_other, count-changed, AreDistinct-changed}
use Rattle.dashmap_table.proofs.Effects.{Each, finds-absent, finds-freed, finds-valued, finds-added, each-added}
use Rattle.dashmap_table.proofs.Effects.{each-changed}

module _ {K V S H : Type 0} (b : builder.Ghosts S H) (h : hasher.Ghosts H) (input : K → HashWrites) (eq : K → K → Bool)
  where
    -- the hash and the shard of a key, as an entry has to have them
    abbrev pub IsAt : List (Table K V) → S → ℕ → ℕ → K → Type 0
    IsAt items s i hash k = (hash ≡ key_hash b h input s k) × (route_of (key_hash b h input s k) (length items) ≡ i)

    module _ (items : List (Table K V)) (s : S) (i : ℕ) (within : i < length items) where
      -- the shard that was read at its place
      pub read_at : (o : Table K V) → o ≡ slice_index_or items i o → table_at items i ≡ o
      read_at o here = sym (get_or_read items i o within here no_pairs)

      pub each_at : AreSharded b h input eq (record { tables = items; hasher = s }) → (o : Table K V)
          → o ≡ slice_index_or items i o → Each (IsAt items s i) o.slots
      each_at sharded o here slot e at_slot =
          sharded.routed i slot e (ap (λ (t : Table K V). at t.slots slot) (read_at o here) ∙ at_slot)

      pub sound_at : AreSharded b h input eq (record { tables = items; hasher = s }) → (o : Table K V)
          → o ≡ slice_index_or items i o → IsSound eq o
      sound_at sharded o here = subst (IsSound eq) (read_at o here) (sharded.sound i)

      module _ (u : Table K V) where
        pub at_same : table_at (slice_set items i u) i ≡ u
        at_same = get_or-set_same items i u no_pairs within

        at_other : (j : ℕ) → j ≢ i → table_at (slice_set items i u) j ≡ table_at items j
        at_other j other = get_or-set_other items i j u no_pairs other

        -- another table of keys that belong there
        pub AreSharded-set : AreSharded b h input eq (record { tables = items; hasher = s }) → IsSound eq u
            → Each (IsAt items s i) u.slots
            → AreSharded b h input eq (record { tables = slice_set items i u; hasher = s })
        AreSharded-set sharded fresh each =
            let long = length-set items i u in
            record {
              amount = subst IsShardAmount (sym long) sharded.amount;
              sound = λ j. elim (cases_eq j i) [
                | inl same ↦ subst (IsSound eq) (sym (ap (table_at (slice_set items i u)) same ∙ at_same)) fresh
                | inr other ↦ subst (IsSound eq) (sym (at_other j other)) (sharded.sound j)
              ];
              routed = λ j slot e here. elim (cases_eq j i) [
                | inl same ↦
                    let is = each slot e
                    (ap (λ (t : Table K V). at t.slots slot)
                    (sym (ap (table_at (slice_set items i u)) same ∙ at_same)) ∙ here) in
                    (is.0, ap (route_of (key_hash b h input s e.key)) long ∙ (is.1 ∙ sym same))
                | inr other ↦
                    let is = sharded.routed j slot e (ap (λ (t : Table K V). at t.slots slot) (sym (at_other j other))
                    ∙ here) in
                    (is.0, ap (route_of (key_hash b h input s e.key)) long ∙ is.1)
              ];
            }

        -- what a key finds in its own shard is what it finds
        found_same : (q : K) → route_of (key_hash b h input s q) (length items) ≡ i
            → pair_at b h input eq (record { tables = slice_set items i u; hasher = s }) q ≡ option_map pair_of
            (entry_of eq u.slots (key_hash b h input s q) q)
        found_same q on =
            ap (λ (t : Table K V). option_map pair_of (entry_of eq t.slots (key_hash b h input s q) q))
            (ap (λ n. table_at (slice_set items i u) (route_of (key_hash b h input s q) n)) (length-set items i u)
            ∙ (ap (table_at (slice_set items i u)) on ∙ at_same))

        found_other : (q : K) → route_of (key_hash b h input s q) (length items) ≢ i
            → pair_at b h input eq (record { tables = slice_set items i u; hasher = s }) q ≡ pair_at b h input eq
            (record { tables = items; hasher = s }) q
        found_other q off =
            ap (λ (t : Table K V). option_map pair_of (entry_of eq t.slots (key_hash b h input s q) q))
            (ap (λ n. table_at (slice_set items i u) (route_of (key_hash b h input s q) n)) (length-set items i u)
            ∙ at_other (route_of (key_hash b h input s q) (length items)) off)

        found_before : (o : Table K V) → o ≡ slice_index_or items i o → (q : K)
            → route_of (key_hash b h input s q) (length items) ≡ i
            → pair_at b h input eq (record { tables = items; hasher = s }) q ≡ option_map pair_of
            (entry_of eq o.slots (key_hash b h input s q) q)
        found_before o here q on =
            ap (λ (t : Table K V). option_map pair_of (entry_of eq t.slots (key_hash b h input s q) q))
            (ap (table_at items) on ∙ read_at o here)

        -- the same pairs in one shard are the same pairs in all
        pub pair_at-same : (o : Table K V) → o ≡ slice_index_or items i o → SamePairs eq o u → (old : Tables K V S)
            → record { tables = items; hasher = s } ≡ old → (q : K)
            → pair_at b h input eq (record { tables = slice_set items i u; hasher = s }) q ≡ pair_at b h input eq old q
        pair_at-same o here same old was q =
            elim (cases_eq (route_of (key_hash b h input s q) (length items)) i) [
              | inl on ↦
                  found_same q on ∙ (ap (λ e. option_map pair_of e) (same.found (key_hash b h input s q) q)
                  ∙ sym (found_before o here q on))
              | inr off ↦ found_other q off
            ] ∙ ap (λ (t : Tables K V S). pair_at b h input eq t q) was

        -- what a call did for a key of this shard
        module _ (respects : (j k : K) → IsTrue (eq j k) → input j ≡ input k) (o : Table K V)
            (here : o ≡ slice_index_or items i o) (key : K)
            (on_shard : route_of (key_hash b h input s key) (length items) ≡ i) (e : Option (Entry K V))
            (effect : (q : K) (m : ℕ) → (eq key q ≡ true → m ≡ key_hash b h input s key)
            → entry_of eq u.slots m q ≡ cond (eq key q) e (entry_of eq o.slots m q)) where
          hash_same : (q : K) → eq key q ≡ true → key_hash b h input s q ≡ key_hash b h input s key
          hash_same q same = ap (hash_of b h s) (sym (respects key q same))

          pub pair_at-after : (old : Tables K V S) → record { tables = items; hasher = s } ≡ old → (q : K)
              → pair_at b h input eq (record { tables = slice_set items i u; hasher = s }) q ≡ cond (eq key q)
              (option_map pair_of e) (pair_at b h input eq old q)
          pair_at-after old was q =
              choice (eq key q) (option_map pair_of e) (pair_at b h input eq old q)
              (pair_at b h input eq (record { tables = slice_set items i u; hasher = s }) q)
              (λ same.
              let on = ap (λ n. route_of n (length items)) (hash_same q same) ∙ on_shard in
              found_same q on
              ∙ ap (λ x. option_map pair_of x)
              (effect q (key_hash b h input s q) (hash_same q)
              ∙ cond-true (eq key q) e (entry_of eq o.slots (key_hash b h input s q) q) same))
              (λ apart.
              elim (cases_eq (route_of (key_hash b h input s q) (length items)) i) [
                | inl on ↦
                    found_same q on
                    ∙ (ap (λ x. option_map pair_of x) (effect q (key_hash b h input s q) (λ same. hash_same q same)
                    ∙ cond-false (eq key q) e (entry_of eq o.slots (key_hash b h input s q) q) apart)
                    ∙ sym (found_before o here q on))
                | inr off ↦ found_other q off
              ] ∙ ap (λ (t : Tables K V S). pair_at b h input eq t q) was)

module _ {K V S H : Type 0} (b : builder.Ghosts S H) (h : hasher.Ghosts H) (input : K → HashWrites) (eq : K → K → Bool)
    (laws : IsEquivalence eq) where
  IsSound-value : (t : Table K V) (slot : ℕ) (value : V) → IsSound eq t → IsSound eq (with_value t slot value)
  IsSound-value t slot value sound =
      let many = count-changed (giving_value value) t.slots slot in
      let long = length-set t.slots slot (option_map (giving_value value) (at t.slots slot)) in
      record {
        distinct = AreDistinct-changed eq laws (giving_value value) t.slots slot sound.distinct
            (λ e _. holds-own eq laws e);
        fits = subst (λ n. n ≤ t.room) (sym many) sound.fits;
        numbered = subst (λ n. n < 2 ^ 63) (sym long) sound.numbered;
      }

  -- another value in one slot
  pub AreSharded-value : (items : List (Table K V)) (s : S) (old : Tables K V S) → record { tables = items; hasher = s }
      ≡ old → (i : ℕ) → i < length old.tables → AreSharded b h input eq (record { tables = items; hasher = s })
      → (o : Table K V) → o ≡ slice_index_or items i o → (slot : ℕ) (value : V)
      → AreSharded b h input eq (record { tables = slice_set items i (with_value o slot value); hasher = s })
  AreSharded-value items s old was i below sharded o here slot value =
      let within : i < length items = subst (λ (t : Tables K V S). i < length t.tables) (sym was) below in
      AreSharded-set b h input eq items s i within (with_value o slot value) sharded
      (IsSound-value o slot value (sound_at b h input eq items s i within sharded o here))
      (each-changed eq laws (IsAt b h input eq items s i) (giving_value value) (λ e p. p) o.slots slot
      (each_at b h input eq items s i within sharded o here))

  -- equal keys have one hash, so they are in one shard, and there in one slot
  pub AreApart-sharded : ((j k : K) → IsTrue (eq j k) → input j ≡ input k) → (t : Tables K V S)
      → AreSharded b h input eq t → AreApart eq t.tables
  AreApart-sharded respects t sharded i j m n d e at_m at_n same =
      let a = sharded.routed i m d at_m in
      let c = sharded.routed j n e at_n in
      let hashes : key_hash b h input t.hasher d.key ≡ key_hash b h input t.hasher e.key =
      ap (hash_of b h t.hasher) (respects d.key e.key same) in
      let shards : i ≡ j = sym a.1 ∙ (ap (λ k. route_of k (length t.tables)) hashes ∙ c.1) in
      let there : at (table_at t.tables i).slots n ≡ Some e = ap (λ k. at (table_at t.tables k).slots n) shards
      ∙ at_n in
      let alike = and_from (nat_eq e.hash d.hash) (eq e.key d.key) (eq-eqb e.hash d.hash (c.0 ∙ (sym hashes ∙ sym a.0)))
      (laws.symm e.key d.key ∙ same) in
      (shards, (sharded.sound i).distinct m n d e at_m there alike)

module _ {K V S H : Type 0} (b : builder.Ghosts S H) (h : hasher.Ghosts H) (input : K → HashWrites) (eq : K → K → Bool)
  where
    no_pairs-sound : IsSound {K = K} {V = V} eq no_pairs
    no_pairs-sound = record {
      distinct = λ i j d e at_i at_j has. absurd (none-some d at_i);
      fits = omega arith;
      numbered = omega arith;
    }

    -- shards without pairs
    pub AreSharded-empty : (n : ℕ) (items : List (Table K V)) (s : S) → IsShardAmount n → items ≡ replicate n no_pairs
        → AreSharded b h input eq (record { tables = items; hasher = s })
    AreSharded-empty n items s amount is =
        record {
          amount = subst IsShardAmount (sym (ap length is ∙ length-replicate n no_pairs)) amount;
          sound = λ i. subst (IsSound eq) (sym (each i)) no_pairs-sound;
          routed = λ i slot e here. absurd
              (none-some e (sym (ap (λ (t : Table K V). at t.slots slot) (each i)) ∙ here));
        }
      where
        each : (i : ℕ) → table_at items i ≡ no_pairs
        each i =
            ap (λ l. table_at l i) is ∙ elim (cases_lt i n) [
              | inl within ↦ get_or-replicate n i no_pairs no_pairs within
              | inr past ↦
                  let long = length-replicate n (no_pairs {K = K} {V = V}) in get_or_past (replicate n no_pairs) i
                  no_pairs (omega arith)
            ]

-- a key's call on its shard: what was read, and what the shard was left as
module _ {K V S H : Type 0} (b : builder.Ghosts S H) (h : hasher.Ghosts H) (input : K → HashWrites) (eq : K → K → Bool)
    (laws : IsEquivalence eq) (respects : (j k : K) → IsTrue (eq j k) → input j ≡ input k)
    (items : List (Table K V)) (s : S) (old : Tables K V S) (was : record { tables = items; hasher = s } ≡ old)
    (sharded : AreSharded b h input eq (record { tables = items; hasher = s }))
    (key : K) (hash : ℕ) (hashed : hash ≡ key_hash b h input old.hasher key) (i : ℕ)
    (place : i ≡ route_of hash (length old.tables)) (below : i < length old.tables)
    (o u : Table K V) (here : o ≡ slice_index_or items i o) where
  within : i < length items
  within = subst (λ (t : Tables K V S). i < length t.tables) (sym was) below

  hash_is : hash ≡ key_hash b h input s key
  hash_is = hashed ∙ ap (λ (t : Tables K V S). key_hash b h input t.hasher key) (sym was)

  on_shard : route_of (key_hash b h input s key) (length items) ≡ i
  on_shard = ap (λ n. route_of n (length items)) (sym hash_is)
      ∙ (ap (λ (t : Tables K V S). route_of hash (length t.tables)) was ∙ sym place)

  before : pair_at b h input eq old key ≡ option_map pair_of (entry_of eq o.slots hash key)
  before =
      ap (λ (t : Tables K V S). pair_at b h input eq t key) (sym was)
      ∙ (found_before b h input eq items s i within o o here key on_shard
      ∙ ap (λ n. option_map pair_of (entry_of eq o.slots n key)) (sym hash_is))

  distinct : AreDistinct eq o.slots
  distinct = (sound_at b h input eq items s i within sharded o here).distinct

  after : (e : Option (Entry K V))
      → ((q : K) (m : ℕ) → (eq key q ≡ true → m ≡ hash) → entry_of eq u.slots m q ≡ cond (eq key q) e
      (entry_of eq o.slots m q))
      → (q : K) → pair_at b h input eq (record { tables = slice_set items i u; hasher = s }) q ≡ cond (eq key q)
      (option_map pair_of e) (pair_at b h input eq old q)
  after e effect = pair_at-after b h input eq items s i within u respects o here key on_shard e
      (λ q m same. effect q m (λ t. same t ∙ sym hash_is)) old was

  pub absent-before : slot_of eq o.slots hash key ≡ None → pair_at b h input eq old key ≡ None
  absent-before none = before ∙ ap (λ e. option_map pair_of e) (entry_of-none eq o.slots hash key none)

  shard_is : i ≡ key_shard b h input old key
  shard_is = place ∙ ap (λ n. route_of n (length old.tables)) hashed

  -- what is known of the shard that was read and left is known of the key's shard
  of_key : (Q : Table K V → Table K V → ℕ → Type 0) → Q o u hash → Q (table_at old.tables (key_shard b h input old key))
      (table_at (slice_set items i u) (key_shard b h input old key)) (key_hash b h input old.hasher key)
  of_key Q known =
      let was_o : o ≡ table_at old.tables i =
      sym (ap (λ (t : Tables K V S). table_at t.tables i) (sym was) ∙ read_at b h input eq items s i within o here)
      in
      let is_u : u ≡ table_at (slice_set items i u) i = sym (at_same b h input eq items s i within u) in
      subst (λ j. Q (table_at old.tables j) (table_at (slice_set items i u) j) (key_hash b h input old.hasher key))
      shard_is
      (subst (λ (x : Table K V). Q x (table_at (slice_set items i u) i) (key_hash b h input old.hasher key)) was_o
      (subst (λ (x : Table K V). Q o x (key_hash b h input old.hasher key)) is_u (subst (λ n. Q o u n) hashed known)))

  pub remove-table : (slot : ℕ) → slot_of eq o.slots hash key ≡ Some slot → Frees o u slot
      → TakesOut eq (table_at old.tables (key_shard b h input old key))
      (table_at (slice_set items i u) (key_shard b h input old key)) (key_hash b h input old.hasher key) key
  remove-table slot found frees =
      of_key (λ x y n. TakesOut eq x y n key) (subst (λ z. MatchOption z (u ≡ o) (λ n. Frees o u n)) (sym found) frees)

  -- nothing was taken, and nothing was written
  pub remove-no_table : slot_of eq o.slots hash key ≡ None
      → TakesOut eq (table_at old.tables (key_shard b h input old key))
      (table_at old.tables (key_shard b h input old key)) (key_hash b h input old.hasher key) key
  remove-no_table none =
      let was_o : o ≡ table_at old.tables i =
      sym (ap (λ (t : Tables K V S). table_at t.tables i) (sym was) ∙ read_at b h input eq items s i within o here)
      in
      let known : TakesOut eq o o hash key = subst (λ z. MatchOption z (o ≡ o) (λ n. Frees o o n)) (sym none) refl in
      subst (λ j. TakesOut eq (table_at old.tables j) (table_at old.tables j) (key_hash b h input old.hasher key) key)
      shard_is
      (subst (λ (x : Table K V). TakesOut eq x x (key_hash b h input old.hasher key) key) was_o
      (subst (λ n. TakesOut eq o o n key) hashed known))

  -- the key isn't there, and the shards stay
  pub remove-none : slot_of eq o.slots hash key ≡ None → (q : K) → pair_at b h input eq old q ≡ cond (eq key q) None
      (pair_at b h input eq old q)
  remove-none none q =
      choice (eq key q) None (pair_at b h input eq old q) (pair_at b h input eq old q)
      (λ same.
      let hashes : key_hash b h input s q ≡ hash = ap (hash_of b h s) (sym (respects key q same)) ∙ sym hash_is in
      let on = ap (λ n. route_of n (length items)) (hashes ∙ hash_is) ∙ on_shard in
      ap (λ (t : Tables K V S). pair_at b h input eq t q) (sym was)
      ∙ (found_before b h input eq items s i within o o here q on
      ∙ ap (λ e. option_map pair_of e)
      (finds-absent eq laws hash key q (key_hash b h input s q) (λ _. hashes) o.slots none
      ∙ cond-true (eq key q) None (entry_of eq o.slots (key_hash b h input s q) q) same)))
      (λ _. refl)

  -- the key's slot was freed
  module _ (slot : ℕ) (found : slot_of eq o.slots hash key ≡ Some slot) where
    stood : (d : Entry K V) × (at o.slots slot ≡ Some d) × (holds eq hash key (Some d) ≡ true)
    stood = slot_of-is eq o.slots hash key slot found

    pub found-before : pair_at b h input eq old key ≡ option_map pair_of (at o.slots slot)
    found-before = before ∙ ap (λ n. option_map pair_of (option_and_then (at o.slots) n)) found

    pub remove-after : IsSound eq u → Frees o u slot → (q : K)
        → pair_at b h input eq (record { tables = slice_set items i u; hasher = s }) q ≡ cond (eq key q) None
        (pair_at b h input eq old q)
    remove-after sound frees =
        after None (λ q m same. finds-freed eq laws hash key q m same o.slots u.slots slot stood.0 distinct stood.1
        stood.2
        (λ j other. ap (λ l. at l j) frees.freed ∙ get_or-set_other o.slots slot j None None other) sound.distinct
        (ap (λ l. at l slot) frees.freed ∙ at-set_same o.slots slot None (λ _ _. refl)))

    value-after : (value : V) → IsSound eq u → u ≡ with_value o slot value → (q : K)
        → pair_at b h input eq (record { tables = slice_set items i u; hasher = s }) q ≡ cond (eq key q)
        (Some (put_over (pair_at b h input eq old key) key value)) (pair_at b h input eq old q)
    value-after value sound is q =
        let slots : u.slots ≡ changed (giving_value value) o.slots slot = ap (λ (t : Table K V). t.slots) is in
        let kept : pair_at b h input eq old key ≡ Some (pair_of stood.0) = found-before
        ∙ ap (λ x. option_map pair_of x) stood.1 in
        after (Some (giving_value value stood.0))
        (λ p m same. finds-valued eq laws hash key p m same o.slots u.slots slot stood.0 distinct stood.1 stood.2
        (λ j other. ap (λ l. at l j) slots ∙ at-changed_other (giving_value value) o.slots slot j other) sound.distinct
        value
        (ap (λ l. at l slot) slots
        ∙ (at-changed (giving_value value) o.slots slot ∙ ap (λ x. option_map (giving_value value) x) stood.1))) q
        ∙ ap (λ p. cond (eq key q) (Some (put_over p key value)) (pair_at b h input eq old q)) (sym kept)

  -- an insertion
  module _ (value : V) (r : Result (ℕ × Option V) (K × V)) (sound : IsSound eq u)
      (present : IfSome (slot_of eq o.slots hash key)
      (λ slot. (r ≡ Ok (slot, option_map (λ e. e.value) (at o.slots slot))) × (u ≡ with_value o slot value)))
      (added : IfNone (slot_of eq o.slots hash key)
      (IfOk r (λ x. (x.1 ≡ None) × Adds eq o u (entry_with hash key value) x.0)))
      (refused : IfErr r (λ back. (back ≡ (key, value)) × (u ≡ o) × (o.room ≤ count o.slots))) where
    each_old : Each (IsAt b h input eq items s i) o.slots
    each_old = each_at b h input eq items s i within sharded o here

    present_at : (slot : ℕ) → slot_of eq o.slots hash key ≡ Some slot
        → (r ≡ Ok (slot, option_map (λ e. e.value) (at o.slots slot))) × (u ≡ with_value o slot value)
    present_at slot found =
        MatchOption-at_some _ (λ n. (r ≡ Ok (n, option_map (λ e. e.value) (at o.slots n))) × (u ≡ with_value o n value))
        slot found present

    added_at : (x : ℕ × Option V) → r ≡ Ok x → slot_of eq o.slots hash key ≡ None → (x.1 ≡ None)
        × Adds eq o u (entry_with hash key value) x.0
    added_at x ok none =
        subst (λ z. IfOk z (λ x. (x.1 ≡ None) × Adds eq o u (entry_with hash key value) x.0)) ok
        (MatchOption-at_none _ _ none added)

    pub insert-after : (x : ℕ × Option V) → r ≡ Ok x → (q : K)
        → pair_at b h input eq (record { tables = slice_set items i u; hasher = s }) q ≡ cond (eq key q)
        (Some (put_over (pair_at b h input eq old key) key value)) (pair_at b h input eq old q)
    insert-after x ok q = elim (option_cases (slot_of eq o.slots hash key)) [
      | inl none ↦
          after (Some (entry_with hash key value))
          (λ p m same. finds-added eq laws o u (entry_with hash key value) x.0 sound (added_at x ok none).1 p m
          same) q
          ∙ ap (λ p. cond (eq key q) (Some (put_over p key value)) (pair_at b h input eq old q))
          (sym (absent-before none))
      | inr some ↦ value-after some.0 some.1 value sound (present_at some.0 some.1).1 q
    ]

    pub insert-table : (x : ℕ × Option V) → r ≡ Ok x → PutsIn eq (table_at old.tables (key_shard b h input old key))
        (table_at (slice_set items i u) (key_shard b h input old key)) (key_hash b h input old.hasher key) key value
    insert-table x ok = of_key (λ y z n. PutsIn eq y z n key value) (elim (option_cases (slot_of eq o.slots hash key)) [
      | inl none ↦
          subst (λ z. MatchOption z ((n : ℕ) × Adds eq o u (entry_with hash key value) n)
          (λ n. u ≡ with_value o n value)) (sym none) (x.0, (added_at x ok none).1)
      | inr some ↦
          subst (λ z. MatchOption z ((n : ℕ) × Adds eq o u (entry_with hash key value) n)
          (λ n. u ≡ with_value o n value)) (sym some.1) (present_at some.0 some.1).1
    ])

    pub insert-sharded : AreSharded b h input eq (record { tables = slice_set items i u; hasher = s })
    insert-sharded = AreSharded-set b h input eq items s i within u sharded sound (by_result r refl)
      where
        by_result : (z : Result (ℕ × Option V) (K × V)) → r ≡ z → Each (IsAt b h input eq items s i) u.slots
        by_result (Ok x) ok = elim (option_cases (slot_of eq o.slots hash key)) [
          | inl none ↦ each-added eq laws (IsAt b h input eq items s i) o u (entry_with hash key value) x.0 sound
              (added_at x ok none).1 (hash_is, on_shard) each_old
          | inr some ↦
              subst (λ (t : Table K V). Each (IsAt b h input eq items s i) t.slots) (sym (present_at some.0 some.1).1)
              (each-changed eq laws (IsAt b h input eq items s i) (giving_value value) (λ e p. p) o.slots some.0
              each_old)
        ]
        by_result (Err back) err =
            let left : u ≡ o =
            (subst (λ z. IfErr z (λ back. (back ≡ (key, value)) × (u ≡ o) × (o.room ≤ count o.slots))) err
            refused).1 in
            subst (λ (t : Table K V). Each (IsAt b h input eq items s i) t.slots) (sym left) each_old

    -- a refused insertion changes nothing, and comes only where the key is absent
    pub insert-refused : (back : K × V) → r ≡ Err back → (back ≡ (key, value))
        × (record { tables = slice_set items i u; hasher = s } ≡ old) × (pair_at b h input eq old key ≡ None)
        × IsFull (table_at old.tables (key_shard b h input old key))
    insert-refused back err =
        let is = subst (λ z. IfErr z (λ back. (back ≡ (key, value)) × (u ≡ o) × (o.room ≤ count o.slots))) err refused
        in
        let same : slice_set items i u ≡ items =
        ap (slice_set items i) (is.1 ∙ sym (read_at b h input eq items s i within o here))
        ∙ set-get_or items i no_pairs in
        let at_key : table_at old.tables (key_shard b h input old key) ≡ o =
        ap (table_at old.tables) (ap (λ n. route_of n (length old.tables)) (sym hashed) ∙ sym place)
        ∙ (ap (λ (t : Tables K V S). table_at t.tables i) (sym was) ∙ read_at b h input eq items s i within o here) in (
          is.0,
          ap (λ l. record { tables = l; hasher = s }) same ∙ was,
          elim (option_cases (slot_of eq o.slots hash key))
              [ inl none ↦ absent-before none | inr some ↦ absurd (apart (sym err ∙ (present_at some.0 some.1).0)) ],
          subst IsFull (sym at_key) is.2,
        )
      where
        apart : {x : ℕ × Option V} {y : K × V} → ◌≡◌ {A = Result (ℕ × Option V) (K × V)} (Err y) (Ok x) → ⊥
        apart e = cc

-- a write into a full slot is found under its key alone
module _ {K V S H : Type 0} (b : builder.Ghosts S H) (h : hasher.Ghosts H) (input : K → HashWrites) (eq : K → K → Bool)
    (laws : IsEquivalence eq) (respects : (j k : K) → IsTrue (eq j k) → input j ≡ input k)
    (t : Tables K V S) (sharded : AreSharded b h input eq t) (i slot : ℕ) where
  table_within : (e : Entry K V) → at (table_at t.tables i).slots slot ≡ Some e → i < length t.tables
  table_within e full = elim (cases_lt i (length t.tables)) [
    | inl within ↦ within
    | inr past ↦
        absurd (none-some e (sym (ap (λ (u : Table K V). at u.slots slot) (get_or_past t.tables i no_pairs past))
        ∙ full))
  ]

  seen_at : (e : Entry K V) → at (table_at t.tables i).slots slot ≡ Some e → (value : V) (q : K)
      → pair_at b h input eq (record t { tables = with_value_at t.tables i slot value }) q ≡ cond (eq e.key q)
      (Some (e.key, value)) (pair_at b h input eq t q)
  seen_at e full value q =
      let o = table_at t.tables i in
      let within = table_within e full in
      let routed = sharded.routed i slot e full in
      let place : i ≡ route_of e.hash (length t.tables) = sym routed.1 ∙ ap (λ n. route_of n (length t.tables))
      (sym routed.0) in
      let here : o ≡ slice_index_or t.tables i o = get_or_default t.tables i no_pairs o within in
      let found = slot_of-at eq laws o.slots (sharded.sound i).distinct e.hash e.key slot e full (holds-own eq laws e)
      in
      let kept : pair_at b h input eq t e.key ≡ Some (pair_of e) =
      found-before b h input eq laws respects t.tables t.hasher t refl sharded e.key e.hash routed.0 i place within o
      (with_value o slot value) here slot found ∙ ap (λ x. option_map pair_of x) full in
      value-after b h input eq laws respects t.tables t.hasher t refl sharded e.key e.hash routed.0 i place within o
      (with_value o slot value) here slot found value
      (IsSound-value b h input eq laws o slot value (sharded.sound i)) refl q
      ∙ ap (λ p. cond (eq e.key q) (Some (put_over p e.key value)) (pair_at b h input eq t q)) kept

  IsSeenByItsKey-of : IsSeenByItsKey b h input eq t i slot
  IsSeenByItsKey-of = elim (option_cases (at (table_at t.tables i).slots slot)) [
    | inl none ↦
        subst (λ o. IfSome o
        (λ e. (value : V) (q : K) → pair_at b h input eq (record t { tables = with_value_at t.tables i slot value })
        q ≡ cond (eq e.key q) (Some (e.key, value)) (pair_at b h input eq t q))) (sym none) tt
    | inr some ↦
        subst (λ o. IfSome o
        (λ e. (value : V) (q : K) → pair_at b h input eq (record t { tables = with_value_at t.tables i slot value })
        q ≡ cond (eq e.key q) (Some (e.key, value)) (pair_at b h input eq t q))) (sym some.1)
        (seen_at some.0 some.1)
  ]

pub seen_by_its_key : {K V S H : Type 0} (b : builder.Ghosts S H) (h : hasher.Ghosts H) (input : K → HashWrites)
    (eq : K → K → Bool) → IsEquivalence eq → ((j k : K) → IsTrue (eq j k) → input j ≡ input k)
    → (items : List (Table K V)) (s : S) (old : Tables K V S) → record { tables = items; hasher = s } ≡ old
    → AreSharded b h input eq (record { tables = items; hasher = s })
    → (i slot : ℕ) → IsSeenByItsKey b h input eq old i slot
seen_by_its_key b h input eq laws respects items s old was sharded i slot =
    subst (λ t. IsSeenByItsKey b h input eq t i slot) was
    (IsSeenByItsKey-of b h input eq laws respects (record { tables = items; hasher = s }) sharded i slot)

-- Plain shards as contracts see them: each key on the shard of its route.
use Rattle.std.specs.Prelude.{◌≡◌, ◌≢◌, ℕ, ◌≤◌, Bool, List, [], length, Option, Some, None, IsTrue, IfSome}
use Rattle.std.specs.Prelude.{slice_index_or, slice_set, if◌then◌else◌}
use Rattle.std.specs.Option.{option_map}
use Rattle.std.specs.Hash.{HashWrites}
use Rattle.std.specs.declared.hash.BuildHasher as builder
use Rattle.std.specs.declared.hash.Hasher as hasher
use Rattle.dashmap_table.specs.declared.entry.Entry.{Entry}
use Rattle.dashmap_table.specs.Route.{IsShardAmount, route_of, hash_of}
use Rattle.dashmap_table.specs.Slots.{at, count, pair_of, slot_of, entry_of}
use Rattle.dashmap_table.specs.Table.{Table, IsSound, with_value}

pub record Tables (K V S : Type 0) : Type 0 where
  -- the shards, from shard 0 on
  pub tables : List (Table K V)
  pub hasher : S

module _ {K V : Type 0} where
  -- a table without slots
  abbrev pub no_pairs : Table K V
  no_pairs = record { slots = []; room = 0 }

  -- the table of a shard; one without slots behind the last
  abbrev pub table_at : List (Table K V) → ℕ → Table K V
  table_at tables i = slice_index_or tables i no_pairs

  -- the shards with another value in one slot of one of them
  abbrev pub with_value_at : List (Table K V) → ℕ → ℕ → V → List (Table K V)
  with_value_at tables i slot value = slice_set tables i (with_value (table_at tables i) slot value)

  -- no shard but one changes, nor how many there are
  pub record OnlyChanges {S : Type 0} (old new : Tables K V S) (i : ℕ) : Type 0 where
    pub hasher : new.hasher ≡ old.hasher
    pub count : length new.tables ≡ length old.tables
    pub others : (j : ℕ) → j ≢ i → table_at new.tables j ≡ table_at old.tables j

  -- the pair that an insertion leaves: a stored key stays
  abbrev pub put_over : Option (K × V) → K → V → K × V
  put_over None key value = (key, value)
  put_over (Some p) key value = (p.0, value)

  -- there is room for no more pairs
  abbrev pub IsFull : Table K V → Type 0
  IsFull t = t.room ≤ count t.slots

  -- no two slots, of one shard or of two, have equal keys
  abbrev pub AreApart : (K → K → Bool) → List (Table K V) → Type 0
  AreApart eq tables = (i j m n : ℕ) (d e : Entry K V) → at (table_at tables i).slots m ≡ Some d
      → at (table_at tables j).slots n ≡ Some e
      → IsTrue (eq d.key e.key) → (i ≡ j) × (m ≡ n)

-- a key's hash
abbrev pub key_hash : {K S H : Type 0} → builder.Ghosts S H → hasher.Ghosts H → (K → HashWrites) → S → K → ℕ
key_hash b h input hasher k = hash_of b h hasher (input k)

module _ {K V S H : Type 0} (b : builder.Ghosts S H) (h : hasher.Ghosts H) (input : K → HashWrites) where
  -- the shard that a key is on
  abbrev pub key_shard : Tables K V S → K → ℕ
  key_shard t k = route_of (key_hash b h input t.hasher k) (length t.tables)

  -- the shard and slot of a key
  abbrev pub place_of : (K → K → Bool) → Tables K V S → K → Option (ℕ × ℕ)
  place_of eq t k = option_map (λ slot. (key_shard t k, slot))
      (slot_of eq (table_at t.tables (key_shard t k)).slots (key_hash b h input t.hasher k) k)

  -- the pair of a key
  abbrev pub pair_at : (K → K → Bool) → Tables K V S → K → Option (K × V)
  pair_at eq t k = option_map pair_of
      (entry_of eq (table_at t.tables (key_shard t k)).slots (key_hash b h input t.hasher k) k)

  -- another value in a full slot is found under its key, and every other key finds what it found
  abbrev pub IsSeenByItsKey : (K → K → Bool) → Tables K V S → ℕ → ℕ → Type 0
  IsSeenByItsKey eq t i slot = IfSome (at (table_at t.tables i).slots slot) (λ e. (value : V) (q : K)
      → pair_at eq (record t { tables = with_value_at t.tables i slot value }) q
      ≡ (if eq e.key q then Some (e.key, value) else pair_at eq t q))

  -- what holds of all plain shards
  pub record AreSharded (eq : K → K → Bool) (t : Tables K V S) : Type 0 where
    pub amount : IsShardAmount (length t.tables)
    pub sound : (i : ℕ) → IsSound eq (table_at t.tables i)
    -- every pair is kept under its key's hash, in the shard of its route
    pub routed : (i slot : ℕ) (e : Entry K V) → at (table_at t.tables i).slots slot ≡ Some e
        → (e.hash ≡ key_hash b h input t.hasher e.key) × (key_shard t e.key ≡ i)

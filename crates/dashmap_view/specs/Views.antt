-- Plain shards as a view sees them: where their pairs belong, and in which order they are.
use Rattle.std.specs.Prelude.{◌≡◌, ℕ, ◌-◌, ◌^◌, Bool, List, [], ◌∷◌, ◌++◌, length, Some, min, drop, sum_by}
use Rattle.std.specs.List.{flat_map}
use Rattle.std.specs.Hash.{HashWrites}
use Rattle.std.specs.declared.hash.BuildHasher as builder
use Rattle.std.specs.declared.hash.Hasher as hasher
use Rattle.dashmap_table.specs.declared.entry.Entry.{Entry}
use Rattle.dashmap_table.specs.Route.{route_of}
use Rattle.dashmap_table.specs.Slots.{at, count, pairs_of}
use Rattle.dashmap_table.specs.Table.{Table, IsSound}
use Rattle.dashmap_table.specs.Shards.{table_at, key_hash}

module _ {K V S H : Type 0} (b : builder.Ghosts S H) (h : hasher.Ghosts H) (input : K → HashWrites) where
  -- an entry is kept under its key's hash, in the shard of its route
  abbrev pub IsHome : S → ℕ → ℕ → Entry K V → Type 0
  IsHome hasher amount number e = (e.hash ≡ key_hash b h input hasher e.key)
      × (route_of (key_hash b h input hasher e.key) amount ≡ number)

  -- each entry of a shard is
  abbrev pub IsShardHome : S → ℕ → ℕ → Table K V → Type 0
  IsShardHome hasher amount number t = (slot : ℕ) (e : Entry K V) → at t.slots slot ≡ Some e
      → IsHome hasher amount number e

  -- each entry of each shard is
  abbrev pub AreRouted : S → List (Table K V) → Type 0
  AreRouted hasher tables = (i : ℕ) → IsShardHome hasher (length tables) i (table_at tables i)

module _ {K V : Type 0} where
  -- the pairs of some shards, shards and slots in order
  abbrev pub all_pairs : List (Table K V) → List (K × V)
  all_pairs tables = flat_map (λ t. pairs_of t.slots) tables

  -- the pairs of some shards, but for those of the first slots of the first shard
  abbrev pub pairs_from : ℕ → List (Table K V) → List (K × V)
  pairs_from slot [] = []
  pairs_from slot (t ∷ ts) = pairs_of (drop slot t.slots) ++ all_pairs ts

  -- how many pairs there are, and for how many there is room
  abbrev pub pair_count : List (Table K V) → ℕ
  pair_count tables = sum_by (λ t. count t.slots) tables

  abbrev pub room_in : List (Table K V) → ℕ
  room_in tables = sum_by (λ t. t.room) tables

-- a number that stops at the greatest of 64 bits
abbrev pub at_most_max : ℕ → ℕ
at_most_max n = min n (2 ^ 64 - 1)

-- what holds of each shard
abbrev pub AllSound : {K V : Type 0} → (K → K → Bool) → List (Table K V) → Type 0
AllSound eq tables = (i : ℕ) → IsSound eq (table_at tables i)

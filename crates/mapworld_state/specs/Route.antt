-- The shard of a key in a world: that of the plain shards.
use Rattle.std.specs.Prelude.{◌≡◌, ℕ, ◌^◌, ◌≤◌}
use Rattle.std.specs.Hash.{HashWrites}
use Rattle.std.specs.declared.hash.BuildHasher as builder
use Rattle.std.specs.declared.hash.Hasher as hasher
use Rattle.dashmap_table.specs.Route.{log2, route_of, hash_of}

-- a world may have so many shards: a power of two from 2 to 4,096
abbrev pub IsWorldAmount : ℕ → Type 0
IsWorldAmount n = (n ≡ 2 ^ log2 n) × (2 ≤ n) × (n ≤ 4096)

-- the shard of each key
abbrev pub key_route : {K S H : Type 0} → builder.Ghosts S H → hasher.Ghosts H → (K → HashWrites) → S → ℕ → K → ℕ
key_route b h input hasher shards key = route_of (hash_of b h hasher (input key)) shards

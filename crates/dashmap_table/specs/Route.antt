-- Amounts of shards, the shard of a hash and a shard's share of a capacity.
use Rattle.std.specs.Prelude.{◌≡◌, ℕ, zero, suc, ◌+◌, ◌-◌, ◌*◌, ◌/◌, ◌%◌, ◌^◌, ◌≤◌, ◌<◌, ◌⊎◌, max, nat_le}
use Rattle.std.specs.Prelude.{if◌then◌else◌}
use Rattle.std.specs.List.{fold}
use Rattle.std.specs.Hash.{HashWrites}
use Rattle.std.specs.declared.hash.BuildHasher as builder
use Rattle.std.specs.declared.hash.Hasher as hasher

-- the greatest exponent up to `most` whose power of two isn't above n; 0 if there is none
abbrev pub exponent_up_to : ℕ → ℕ → ℕ
exponent_up_to zero n = 0
exponent_up_to (suc most) n = if nat_le (2 ^ suc most) n then suc most else exponent_up_to most n

-- the base-2 logarithm of a number of 64 bits, rounded down
unfoldable pub log2 : ℕ → ℕ
log2 n = exponent_up_to 63 n

-- a power of two from 2 to 65,536
abbrev pub IsShardAmount : ℕ → Type 0
IsShardAmount n = (n ≡ 2 ^ log2 n) × (2 ≤ n) × (n ≤ 2 ^ 16)

-- the shard of a hash: its seven highest bits are dropped, and the highest of the others are the number
abbrev pub route_of : ℕ → ℕ → ℕ
route_of hash shards = (hash % 2 ^ 57) / 2 ^ (57 - log2 shards)

-- a capacity shared out over the shards, each share rounded up
abbrev pub share_of : ℕ → ℕ → ℕ
share_of capacity shards = (capacity + (shards - 1)) / shards

-- a capacity that has no share: rounding it up leaves the machine's numbers, or a shard would have to hold more than
-- 2^48
abbrev pub HasNoShare : ℕ → ℕ → Type 0
HasNoShare capacity shards = (2 ^ 64 ≤ capacity + (shards - 1)) ⊎ (2 ^ 48 < share_of capacity shards)

-- how many shards suit so many threads at the least: four for each, and no threads count as one
abbrev pub wanted_shards : ℕ → ℕ
wanted_shards parallelism = 4 * max parallelism 1

-- the hash of what a key writes into a hasher
abbrev pub hash_of : {S H : Type 0} → builder.Ghosts S H → hasher.Ghosts H → S → HashWrites → ℕ
hash_of b h hasher writes = h.finish (fold h.write (b.build_hasher hasher) writes)

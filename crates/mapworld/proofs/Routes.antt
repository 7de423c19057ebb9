-- Amounts of shards and the routes of keys.
use Rattle.std.proofs.Common.{◌≡◌, ℕ, ◌<◌, Bool, IsTrue, ap, arith}
use Rattle.std.specs.Hash.{HashWrites}
use Rattle.std.specs.declared.hash.BuildHasher as builder
use Rattle.std.specs.declared.hash.Hasher as hasher
use Rattle.dashmap_table.specs.Route.{IsShardAmount, route_of, hash_of}
use Rattle.dashmap_table.proofs.ShardAmounts.{route_of-below}
use Rattle.mapworld_state.specs.Route.{IsWorldAmount, key_route}

-- a world has as many shards as a map may have
pub IsShardAmount-of : (n : ℕ) → IsWorldAmount n → IsShardAmount n
IsShardAmount-of n amount = (amount.0, amount.1, omega (arith, amount.2))

module _ {K S H : Type 0} (b : builder.Ghosts S H) (h : hasher.Ghosts H) (input : K → HashWrites) (hasher : S)
    (shards : ℕ) where
  pub key_route-below : IsWorldAmount shards → (k : K) → key_route b h input hasher shards k < shards
  key_route-below amount k = route_of-below (hash_of b h hasher (input k)) shards (IsShardAmount-of shards amount)

  -- keys that write alike have one route
  pub key_route-equal : (eq : K → K → Bool) → ((j k : K) → IsTrue (eq j k) → input j ≡ input k) → (j k : K)
      → IsTrue (eq j k) → key_route b h input hasher shards j ≡ key_route b h input hasher shards k
  key_route-equal eq respects j k e = ap (λ writes. route_of (hash_of b h hasher writes) shards) (respects j k e)

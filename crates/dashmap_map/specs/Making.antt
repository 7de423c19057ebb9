-- What came of the shards of a map that is being made.
use Rattle.std.specs.Prelude.{◌≡◌, ℕ, length, ⊤}
use Rattle.std.specs.Int.{IsNextPowerOfTwo}
use Rattle.dashmap_table.specs.Route.{IsShardAmount, HasNoShare, wanted_shards}
use Rattle.dashmap_table.specs.Table.{Table}
use Rattle.dashmap_map.specs.Owner.{IsFresh, EachBehind}
use Rattle.dashmap_map.specs.declared.room.Made.{Made}
use Rattle.dashmap_map.specs.declared.room.Made.TheVariants.{Whole, Short}

module _ {K V Q A : Type 0} where
  -- so many are there, if there are any, and as many that are spare
  abbrev pub has_shards : ℕ → Made K V Q A → Type 0
  has_shards amount (Whole shards spare) = (length shards.items ≡ amount) × (length spare.items ≡ amount)
  has_shards amount (Short lock) = ⊤

  -- those that are there have no pairs, and room for that share
  abbrev pub have_room : (Q → Table K V → Type 0) → ℕ → Made K V Q A → Type 0
  have_room put share (Whole shards spare) = EachBehind put (IsFresh share) shards.items
  have_room put share (Short lock) = ⊤

-- a capacity that has no share of the default amount of shards for so many threads
abbrev pub HasNoDefaultShare : ℕ → ℕ → Type 0
HasNoDefaultShare capacity parallelism = (amount : ℕ) × IsNextPowerOfTwo (wanted_shards parallelism) amount
    × IsShardAmount amount × HasNoShare capacity amount

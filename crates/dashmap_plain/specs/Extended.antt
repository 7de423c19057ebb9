-- What plain shards become when pairs are put in, one after another.
use Rattle.std.specs.Prelude.{◌≡◌, Bool, List, Some, if◌then◌else◌}
use Rattle.std.specs.Hash.{HashWrites}
use Rattle.std.specs.List.{FoldsTo}
use Rattle.std.specs.declared.hash.BuildHasher as builder
use Rattle.std.specs.declared.hash.Hasher as hasher
use Rattle.dashmap_table.specs.Shards.{Tables, OnlyChanges, key_shard, pair_at, put_over}

module _ {K V S H : Type 0} (b : builder.Ghosts S H) (h : hasher.Ghosts H) (input : K → HashWrites) (eq : K → K → Bool)
  where
    -- a pair is put in: a stored key stays, every other key finds what it found, and no other shard changes
    pub record Puts (old : Tables K V S) (p : K × V) (new : Tables K V S) : Type 0 where
      pub finds : (q : K)
          → pair_at b h input eq new q
          ≡ (if eq p.0 q then Some (put_over (pair_at b h input eq old p.0) p.0 p.1) else pair_at b h input eq old q)
      pub others : OnlyChanges old new (key_shard b h input old p.0)

    -- pairs are put in, one after another
    abbrev pub PutsAll : List (K × V) → Tables K V S → Tables K V S → Type 0
    PutsAll pairs old new = FoldsTo Puts old pairs new

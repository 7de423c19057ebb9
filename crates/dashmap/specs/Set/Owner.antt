-- What the owner of a set puts behind its locks.
use Rattle.std.specs.Prelude.{Bool}
use Rattle.std.specs.Hash.{HashWrites}
use Rattle.std.specs.declared.hash.BuildHasher as builder
use Rattle.std.specs.declared.hash.Hasher as hasher
use Rattle.dashmap_table.specs.Table.{Table}
use Rattle.dashmap_map.specs.Locked.{Locked}
use Rattle.dashmap_map.specs.Owner.{IsPut, HadNoRoom}

module _ {K Q S H : Type 0} (taken put : Q → Table K (Unit {0}) → Type 0) (b : builder.Ghosts S H) (h : hasher.Ghosts H)
    (input : K → HashWrites) (eq : K → K → Bool) (m : Locked Q S) where
  -- a key was put in behind the lock of its shard
  abbrev pub KeyIsPut : K → Type 0
  KeyIsPut key = IsPut taken put b h input m eq (key, tt {0})

  -- there was no room for a key there, which is new
  abbrev pub KeyHadNoRoom : K → Type 0
  KeyHadNoRoom key = HadNoRoom taken put b h input m eq (key, tt {0})

-- What plain shards end as, once a value that they lent for writing is given back.
use Rattle.std.specs.Prelude.{ℕ, Option}
use Rattle.std.specs.Borrow.{Fml, RattleType, MutBor, Lends, LendsIf}
use Rattle.std.specs.HashMap.Lent.{HashMembers}
use Rattle.std.specs.declared.alloc.Allocator as alloc
use Rattle.std.specs.declared.hash.BuildHasher as builder
use Rattle.std.specs.declared.hash.Hasher as hasher
use Rattle.dashmap_table.specs.contracts.shards.Shards as shards
use Rattle.dashmap_table.specs.Shards.{Tables, with_value_at}

module _ (K V S A H : RattleType) (key : HashMembers K.Denot) (build : builder.Ghosts S.Denot H.Denot)
    (hash : hasher.Ghosts H.Denot) (heap : alloc.Ghosts A.Denot) (t : MutBor (Tables K.Denot V.Denot S.Denot))
    (i slot : ℕ) where
  -- the slot of the shard has the last value written through r
  abbrev pub lends_at : MutBor V.Denot → Fml
  lends_at r = Lends
      (shards.the_row K V S A H (record { eq = key.eq }) (record { hash_input = key.hash_input }) build hash heap) V t r
      (λ w. record t.now { tables = with_value_at t.now.tables i slot w })

  -- the same where r is a reference, and at `None` the shards stay as they are
  abbrev pub lends_at_if : Option (MutBor V.Denot) → Fml
  lends_at_if r = LendsIf
      (shards.the_row K V S A H (record { eq = key.eq }) (record { hash_input = key.hash_input }) build hash heap) V t r
      (λ w. record t.now { tables = with_value_at t.now.tables i slot w }) t.now

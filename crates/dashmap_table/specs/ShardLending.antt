-- What a shard ends as, once a value that it lent for writing is given back.
use Rattle.std.specs.Prelude.{ℕ, Option}
use Rattle.std.specs.Borrow.{Fml, RattleType, MutBor, Lends, LendsIf}
use Rattle.std.specs.HashMap.Lent.{HashMembers}
use Rattle.std.specs.declared.alloc.Allocator as alloc
use Rattle.dashmap_table.specs.contracts.shard.Shard as shard
use Rattle.dashmap_table.specs.Table.{Table, with_value}

module _ (K V A : RattleType) (key : HashMembers K.Denot) (heap : alloc.Ghosts A.Denot)
    (t : MutBor (Table K.Denot V.Denot)) (i : ℕ) where
  -- the slot has the last value written through r
  abbrev pub lends_slot : MutBor V.Denot → Fml
  lends_slot r = Lends (shard.the_row K V A (record { eq = key.eq }) (record { hash_input = key.hash_input }) heap) V t
      r (with_value t.now i)

  -- the same where r is a reference, and at `None` the shard stays as it is
  abbrev pub lends_slot_if : Option (MutBor V.Denot) → Fml
  lends_slot_if r = LendsIf (shard.the_row K V A (record { eq = key.eq }) (record { hash_input = key.hash_input }) heap)
      V t r (with_value t.now i) t.now

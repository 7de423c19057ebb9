-- What a slot and a table end as, once a value that they lent for writing is given back.
use Rattle.std.specs.Prelude.{ℕ, Option}
use Rattle.std.specs.Option.{option_map}
use Rattle.std.specs.Borrow.{Fml, RattleType, MutBor, Lends, LendsIf}
use Rattle.std.specs.HashMap.Lent.{HashMembers}
use Rattle.std.specs.declared.alloc.Allocator as alloc
use Rattle.std.specs.contracts.option.Option as option
use Rattle.dashmap_table.specs.declared.entry.Entry.{Entry}
use Rattle.dashmap_table.specs.contracts.entry.Entry as entry
use Rattle.dashmap_table.specs.contracts.tag_table.TagTable as tagged
use Rattle.dashmap_table.specs.Slots.{giving_value}
use Rattle.dashmap_table.specs.Table.{Table, with_value}

-- an entry has the last value written through r
abbrev pub lends_own : (K V : RattleType) → MutBor (Entry K.Denot V.Denot) → MutBor V.Denot → Fml
lends_own K V e r = Lends (entry.the_row K V) V e r (λ w. giving_value w e.now)

-- a full slot has the last value written through r
abbrev pub lends_value : (K V : RattleType) → MutBor (Option (Entry K.Denot V.Denot)) → MutBor V.Denot → Fml
lends_value K V s r = Lends (option.the_row (entry.the_row K V)) V s r (λ w. option_map (giving_value w) s.now)

module _ (K V A : RattleType) (key : HashMembers K.Denot) (heap : alloc.Ghosts A.Denot)
    (t : MutBor (Table K.Denot V.Denot)) (i : ℕ) where
  -- the slot of a table of tags has the last value written through r
  abbrev pub lends_tagged : MutBor V.Denot → Fml
  lends_tagged r = Lends (tagged.the_row K V A (record { eq = key.eq }) (record { hash_input = key.hash_input }) heap) V
      t r (with_value t.now i)

  -- the same where r is a reference, and at `None` the table stays as it is
  abbrev pub lends_tagged_if : Option (MutBor V.Denot) → Fml
  lends_tagged_if r =
      LendsIf (tagged.the_row K V A (record { eq = key.eq }) (record { hash_input = key.hash_input }) heap) V t r
      (with_value t.now i) t.now

use Rattle.std.proofs.Common.{refl, sym}
use Rattle.dashmap_table.proofs.Moving.{absent-carried, adds-after}
use Rattle.dashmap_table.proofs.TagChanges.{if-none}
use Rattle.dashmap_table.proofs.tag_table.TagTable.insert_growing.Goals as goal

pub add-requires-clause-absent : goal.add-requires-clause-absent
add-requires-clause-absent g c =
    absent-carried g.K.PartialEq.eq c.reserve.new.self.slots c.args.self.now.slots c.args.hash c.args.key
    (c.reserve.ensures.pairs.found c.args.hash c.args.key) (sym c.in_default.ensures.slot)

pub returns-in-Ok-clause-added : goal.returns-in-Ok-clause-added
returns-in-Ok-clause-added g c =
    if-none _ _ c.in_default.ensures.slot (
      refl,
      adds-after g.K.PartialEq.eq c.args.self.now c.reserve.new.self c.add.new.self _ c.add.result
          c.reserve.ensures.pairs c.reserve.ensures.room (λ some. (c.reserve.ensures.enough some).1)
          c.add.ensures.added,
    )

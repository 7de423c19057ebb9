use Rattle.std.proofs.Common.{rules}
use Rattle.dashmap_table.proofs.TagChanges.{found-equal}
use Rattle.dashmap_table.proofs.tag_table.TagTable.find.Goals as goal

pub returns-clause-equal : goal.returns-clause-equal
returns-clause-equal g c = found-equal g.K.PartialEq.eq c.args.self.now.slots c.args.hash c.args.key.now
    c.find_slot.result (search rules)

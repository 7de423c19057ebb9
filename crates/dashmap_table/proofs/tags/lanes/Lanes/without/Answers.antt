use Rattle.std.proofs.Common.{rules}
use Rattle.dashmap_table.proofs.TagsFacts.Bits.{bit-within, without-others, without-fewer}
use Rattle.dashmap_table.proofs.tags.lanes.Lanes.without.Goals as goal

pub overflow_shl-result : goal.overflow_shl-result
overflow_shl-result c = bit-within c.args.self.bits c.args.lane (search rules) c.requires

pub returns-clause-others : goal.returns-clause-others
returns-clause-others c = without-others c.args.self.bits c.args.lane (search rules) c.requires

pub returns-clause-fewer : goal.returns-clause-fewer
returns-clause-fewer c = without-fewer c.args.self.bits c.args.lane (search rules) c.requires

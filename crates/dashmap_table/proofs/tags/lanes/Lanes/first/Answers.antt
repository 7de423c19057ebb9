use Rattle.std.proofs.Common.{arith, rules}
use Rattle.dashmap_table.proofs.TagsFacts.Bits.{lowest}
use Rattle.dashmap_table.proofs.tags.lanes.Lanes.first.Goals as goal

pub returns-else-self-eq0 : goal.returns-else-self-eq0
returns-else-self-eq0 c = lowest c.args.self.bits (omega (arith, c.if-self-eq0.false)) (search rules)

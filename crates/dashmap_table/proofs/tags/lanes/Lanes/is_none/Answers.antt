use Rattle.std.proofs.Common.{eqb-true, eq-eqb, rules}
use Rattle.dashmap_table.proofs.TagsFacts.Bits.{none_of_zero, zero_of_none}
use Rattle.dashmap_table.proofs.tags.lanes.Lanes.is_none.Goals as goal

pub returns : goal.returns
returns c = (
  λ zero k. none_of_zero c.args.self.bits k (eqb-true c.args.self.bits 0 zero),
  λ none. eq-eqb c.args.self.bits 0 (zero_of_none c.args.self.bits (search rules) none),
)

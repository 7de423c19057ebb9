use Rattle.dashmap_table.proofs.TagsFacts.Masks.{lane-is}
use Rattle.dashmap_table.proofs.tags.window.whole_lanes_at.Goals as goal

pub returns : goal.returns
returns c = lane-is c.args.wanted c.args.tags.now c.args.from c.whole.result c.whole.ensures

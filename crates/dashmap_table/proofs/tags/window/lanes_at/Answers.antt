use Rattle.dashmap_table.proofs.TagsFacts.Masks.{lane-is}
use Rattle.dashmap_table.proofs.tags.window.lanes_at.Goals as goal

pub returns-else-tags-from-ge-WIDTH : goal.returns-else-tags-from-ge-WIDTH
returns-else-tags-from-ge-WIDTH c = lane-is c.args.wanted c.args.tags.now c.args.from c.part.result c.part.ensures

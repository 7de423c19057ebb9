use Rattle.std.proofs.Common.{◌*◌, ap, sym}
use Rattle.dashmap_table.proofs.TagsFacts.Ways.{first-window}
use Rattle.dashmap_table.proofs.tags.way.first_on_way.Goals as goal

pub returns-clause-window : goal.returns-clause-window
returns-clause-window c =
    ap (λ w. 16 * w) (sym (first-window c.args.slots c.args.hash c.requires.some c.requires.whole))

use Rattle.std.proofs.Common.{ap, ◌∙◌}
use Rattle.parking_lot_core_model.specs.Lists.{lists_of}
use Rattle.parking_lot_core_model.proofs.Kept.{lists_of-clear}
use Rattle.parking_lot_core_model.proofs.lists.Lists.clear.Goals as goal

pub returns : goal.returns
returns g c = ap lists_of c.drop_under.ensures ∙ lists_of-clear c.args.self.now.entries.items
    c.args.key

use Rattle.parking_lot_core.proofs.Lists.{nobody_there}
use Rattle.parking_lot_core.proofs.line.Line.is_empty.Goals as goal

pub returns-then-is_nil : goal.returns-then-is_nil
returns-then-is_nil g c = λ e. nobody_there c.args.self.now.front c.args.self.now.back
    (c.is_nil.ensures c.if-is_nil.true) (c.is_nil-then-is_nil.ensures e)

use Rattle.std.proofs.Common.{◌∙◌, ap}
use Rattle.parking_lot_core.specs.Waits.{onto}
use Rattle.parking_lot_core.proofs.Lists.{settled}
use Rattle.parking_lot_core.proofs.line.Line.fold.Goals as goal

pub returns-clause-front : goal.returns-clause-front
returns-clause-front g c =
    settled c.args.self.now.front c.args.self.now.back c.pour.new.to c.pour.new.self
    c.pour-2.new.to c.pour-3.new.to
    (c.pour.ensures.to ∙ ap (onto c.args.self.now.front) c.new-passed.ensures)
    c.pour.ensures.left c.pour-2.ensures.to
    c.pour-3.ensures.to

use Rattle.std.proofs.Common.{sym}
use Rattle.parking_lot_core.proofs.Lists.{none_newer}
use Rattle.parking_lot_core.proofs.line.Line.settle.Goals as goal

pub returns-then-is_nil-clause-front : goal.returns-then-is_nil-clause-front
returns-then-is_nil-clause-front g c =
    sym (none_newer c.args.self.now.front c.args.self.now.back (c.is_nil.ensures c.if-is_nil.true))

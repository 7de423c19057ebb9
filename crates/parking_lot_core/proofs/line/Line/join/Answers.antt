use Rattle.std.proofs.Common.{◌∙◌, sym}
use Rattle.parking_lot_core.proofs.Lists.{one_joins}
use Rattle.parking_lot_core.proofs.line.Line.join.Goals as goal

pub returns-in-Some-clause-joined : goal.returns-in-Some-clause-joined
returns-in-Some-clause-joined g c = λ _.
    one_joins c.args.self.now.front c.args.self.now.back c.args.mine.now c.name.new.self
    c.move_first.new.to c.in-Some.field-0 c.args.waiting (sym c.head.ensures ∙ c.in-Some.is) c.name.ensures
    c.move_first.ensures.to

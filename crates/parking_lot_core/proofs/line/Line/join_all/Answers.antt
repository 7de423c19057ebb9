use Rattle.std.proofs.Common.{◌∙◌, ap, ◌++◌, []}
use Rattle.parking_lot_core.specs.Waits.{onto, under}
use Rattle.parking_lot_core.proofs.Lists.{newer}
use Rattle.parking_lot_core.proofs.line.Line.join_all.Goals as goal

pub returns : goal.returns
returns g c =
    let front = c.args.self.now.front in
    ap (λ xs. front ++ onto xs []) c.pour_under.ensures.to
    ∙ newer front c.args.self.now.back (under c.args.key c.args.chain.now)

use Rattle.std.proofs.Common.{◌∙◌, sym, ap, cond, true}
use Rattle.parking_lot_core.specs.Waits.{fits, any}
use Rattle.parking_lot_core.proofs.Lists.{any_line}
use Rattle.parking_lot_core.proofs.line.Line.has.Goals as goal

pub returns-then-has : goal.returns-then-has
returns-then-has g c =
    let p = fits c.args.wanted in
    let back = any p c.args.self.now.back in
    sym (any_line p c.args.self.now.front c.args.self.now.back
    ∙ (ap (λ b. cond b true back) (sym c.has.ensures ∙ c.if-has.true) ∙ sym c.if-has.true))

pub returns-else-has : goal.returns-else-has
returns-else-has g c =
    let p = fits c.args.wanted in
    let back = any p c.args.self.now.back in
    c.has-else-has.ensures
    ∙ sym (any_line p c.args.self.now.front c.args.self.now.back
    ∙ ap (λ b. cond b true back) (sym c.has.ensures ∙ c.if-has.false))

use Rattle.std.proofs.Common.{sym, subst}
use Rattle.parking_lot_core_model.specs.declared.parking.FilterOp.{FilterOp}
use Rattle.parking_lot_protocol.specs.WakeRules.{LooksRightly}
use Rattle.parking_lot_protocol.proofs.WakeFollowing.{looks_rightly}
use Rattle.parking_lot_protocol.proofs.wake.wake_sum.Goals as goal

pub returns-clause-rules : goal.returns-clause-rules
returns-clause-rules c =
    let P : FilterOp → Type 0 = λ r. LooksRightly c.args.sum c.args.token.0 r in
    subst P (sym c.answer_at.ensures) (looks_rightly c.args.sum c.args.token.0)

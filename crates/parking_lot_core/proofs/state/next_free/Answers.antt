use Rattle.std.proofs.Common.{◌∙◌, ap, unwrap_or, length, not}
use Rattle.parking_lot_core_model.proofs.Numbers.{unwrap_or-position}
use Rattle.parking_lot_core.proofs.state.next_free.Goals as goal

pub returns : goal.returns
returns c = c.unwrap_or.ensures
    ∙ (ap (λ o. unwrap_or o (length c.args.given.now)) c.first_free.ensures
    ∙ unwrap_or-position not c.args.given.now)

use Rattle.std.proofs.Common.{◌∙◌, ap, unwrap_or, length}
use Rattle.parking_lot_core_model.proofs.Numbers.{unwrap_or-position}
use Rattle.parking_lot_machine.specs.Rows.{is_for}
use Rattle.parking_lot_machine.proofs.late_acts.first_for.Goals as goal

pub returns : goal.returns
returns c = c.unwrap_or.ensures
    ∙ (ap (λ o. unwrap_or o (length c.args.wakes.now)) c.place_for.ensures ∙ unwrap_or-position (is_for c.args.thread)
    c.args.wakes.now)

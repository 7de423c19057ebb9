use Rattle.std.proofs.Common.{◌∙◌, ap, unwrap_or, length}
use Rattle.parking_lot_core_model.proofs.Numbers.{unwrap_or-position}
use Rattle.parking_lot_machine.specs.Rows.{is_by}
use Rattle.parking_lot_machine.proofs.acts.first_by.Goals as goal

pub returns : goal.returns
returns c = c.unwrap_or.ensures
    ∙ (ap (λ o. unwrap_or o (length c.args.wakes.now)) c.place_by.ensures ∙ unwrap_or-position (is_by c.args.by)
    c.args.wakes.now)

use Rattle.std.proofs.Common.{◌∙◌, ap, ℕ, unwrap_or, is_none, length}
use Rattle.parking_lot_core_model.proofs.Numbers.{unwrap_or-position}
use Rattle.parking_lot_core_model.proofs.places.free_number.Goals as goal

pub returns : goal.returns
returns c = c.unwrap_or.ensures
    ∙ (ap (λ o. unwrap_or o (length c.args.places.now)) c.first_free.ensures
    ∙ unwrap_or-position is_none c.args.places.now)

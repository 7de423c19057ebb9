use Rattle.std.proofs.Common.{◌∙◌, ◌==◌, ap, ℕ, unwrap_or, length}
use Rattle.parking_lot_core_model.proofs.Numbers.{unwrap_or-position}
use Rattle.parking_lot_core.proofs.deadlock.place_of.Goals as goal

pub returns : goal.returns
returns c = c.unwrap_or.ensures
    ∙ (ap (λ o. unwrap_or o (length c.args.keys.now)) c.first_of.ensures
    ∙ unwrap_or-position (λ (k : ℕ). k == c.args.key) c.args.keys.now)

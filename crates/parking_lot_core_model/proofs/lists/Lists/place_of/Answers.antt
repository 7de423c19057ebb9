use Rattle.std.proofs.Common.{◌==◌, filter}
use Rattle.std.proofs.Common.{ap, ◌∙◌, position}
use Rattle.parking_lot_core_model.specs.Lists.{is_under}
use Rattle.parking_lot_core_model.proofs.Kept.{position-map}
use Rattle.parking_lot_core_model.proofs.lists.Lists.place_of.Goals as goal

pub returns : goal.returns
returns g c =
    let number = λ (item : g.row.T.Denot). g.T.Numbered.number_of item == c.args.number in
    c.position_under.ensures
    ∙ (ap (λ es. position (λ e. number e.item) (filter (is_under c.args.key) es)) c.deref.ensures.value
    ∙ position-map (λ e. e.item) number (filter (is_under c.args.key) c.args.self.now.entries.items))

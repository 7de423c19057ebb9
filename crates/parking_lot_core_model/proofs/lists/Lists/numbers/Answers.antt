use Rattle.std.proofs.Common.{ap, ◌∙◌, sym, map, filter}
use Rattle.std.proofs.lemmas.Result.{IfOk-weaker}
use Rattle.std.proofs.lemmas.Simd.{map-map}
use Rattle.parking_lot_core_model.specs.Lists.{is_under}
use Rattle.parking_lot_core_model.proofs.lists.Lists.numbers.Goals as goal

pub returns : goal.returns
returns g c =
    IfOk-weaker c.numbers_under.result _ _
    (λ numbers h. h ∙
    (ap (λ es. map (λ e. g.T.Numbered.number_of e.item) (filter (is_under c.args.key) es)) c.deref.ensures.value
    ∙ sym (map-map g.T.Numbered.number_of (λ e. e.item)
    (filter (is_under c.args.key) c.args.self.now.entries.items)))) c.numbers_under.ensures

use Rattle.std.proofs.Common.{◌≡◌, Some, refl, sym, ap, ◌∙◌}
use Rattle.std.specs.Option.{option_map}
use Rattle.dashmap_map.specs.Calls.{AnswersAt}
use Rattle.dashmap_map.proofs.Putting.{found_so, asked_at}
use Rattle.dashmap_map.proofs.held.view_in.Goals as goal

pub returns-clause-present : goal.returns-clause-present
returns-clause-present g c =
    let shown = sym c.pair.ensures ∙ ap (option_map (λ p. (p.0.now, p.1.now))) c.in_ok-stored.was in
    found_so g.K.PartialEq.eq c.args.shard.now c.args.shard.now c.args.hash c.args.key.now
    (λ k v. (u : g.row.U.Denot) × AnswersAt g.F.FnOnce c.args.f k v u × (Some c.answer_of.result ≡ Some u))
    c.in_ok-slot.slot _ _ (sym c.find.ensures.slot ∙ c.in_ok-slot.was) shown
    (c.answer_of.result, c.answer_of.ensures, refl)

pub returns-clause-asked : goal.returns-clause-asked
returns-clause-asked g c =
    let shown = sym c.pair.ensures ∙ ap (option_map (λ p. (p.0.now, p.1.now))) c.in_ok-stored.was in
    let asked = asked_at g.K.PartialEq.eq c.args.shard.now c.args.shard.now c.args.hash c.args.key.now c.in_ok-slot.slot
    _ _ (sym c.find.ensures.slot ∙ c.in_ok-slot.was) shown in
    (_, _, asked, c.answer_of.ensures)

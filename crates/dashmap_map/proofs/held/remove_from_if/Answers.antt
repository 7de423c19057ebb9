use Rattle.std.proofs.Common.{◌≡◌, Bool, true, false, Some, None, IsTrue, IfSome, cond, refl, sym, ap, subst, ◌∙◌}
use Rattle.std.specs.Option.{option_map}
use Rattle.dashmap_map.specs.Calls.{AnswersAt}
use Rattle.dashmap_map.proofs.Putting.{found_so, asked_at}
use Rattle.dashmap_map.proofs.held.remove_from_if.Goals as goal

pub returns-then-answer_of-clause-present : goal.returns-then-answer_of-clause-present
returns-then-answer_of-clause-present g c =
    let shown = sym c.pair.ensures ∙ ap (option_map (λ p. (p.0.now, p.1.now))) c.in_ok-stored.was in
    found_so g.K.PartialEq.eq c.args.shard.now c.args.shard.now c.args.hash c.args.key.now
    (λ k v. (x : Bool) × AnswersAt g.F.FnOnce c.args.f k v x × (c.remove.result ≡ cond x (Some (k, v)) None))
    c.in_ok-slot.slot _ _ (sym c.find.ensures.slot ∙ c.in_ok-slot.was) shown (
      true,
      subst (AnswersAt g.F.FnOnce c.args.f _ _) c.if-answer_of.true c.answer_of.ensures,
      c.remove.ensures.pair
          ∙ shown,
    )

pub returns-else-answer_of-clause-present : goal.returns-else-answer_of-clause-present
returns-else-answer_of-clause-present g c =
    let shown = sym c.pair.ensures ∙ ap (option_map (λ p. (p.0.now, p.1.now))) c.in_ok-stored.was in
    found_so g.K.PartialEq.eq c.args.shard.now c.args.shard.now c.args.hash c.args.key.now
    (λ k v. (x : Bool) × AnswersAt g.F.FnOnce c.args.f k v x × (None ≡ cond x (Some (k, v)) None))
    c.in_ok-slot.slot _ _ (sym c.find.ensures.slot ∙ c.in_ok-slot.was) shown
    (false, subst (AnswersAt g.F.FnOnce c.args.f _ _) c.if-answer_of.false c.answer_of.ensures, refl)

pub returns-then-answer_of-clause-asked : goal.returns-then-answer_of-clause-asked
returns-then-answer_of-clause-asked g c =
    let shown = sym c.pair.ensures ∙ ap (option_map (λ p. (p.0.now, p.1.now))) c.in_ok-stored.was in
    let asked = asked_at g.K.PartialEq.eq c.args.shard.now c.args.shard.now c.args.hash c.args.key.now c.in_ok-slot.slot
    _ _ (sym c.find.ensures.slot ∙ c.in_ok-slot.was) shown in
    subst (λ z. IfSome z
    (λ p. IsTrue (g.K.PartialEq.eq p.0 c.args.key.now) × AnswersAt g.F.FnOnce c.args.f p.0 p.1 true))
    (sym (c.remove.ensures.pair ∙ shown))
    (asked, subst (AnswersAt g.F.FnOnce c.args.f _ _) c.if-answer_of.true c.answer_of.ensures)

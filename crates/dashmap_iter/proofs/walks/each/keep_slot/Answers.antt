use Rattle.std.proofs.Common.{true, false, refl, subst}
use Rattle.dashmap_iter.specs.Walks.Visits.{AnswersNext, Keeps}
use Rattle.dashmap_iter.proofs.WalksFacts.Walking.{visits_shown, answers_entry}
use Rattle.dashmap_iter.proofs.walks.each.keep_slot.Goals as goal

pub returns-then-stays-clause-visit : goal.returns-then-stays-clause-visit
returns-then-stays-clause-visit g c =
    let key = c.lend-value.result.0.now in
    let value = c.lend-value.result.1.now in
    let left = c.ask-stays.new.value in
    let next = c.ask-stays.result.1 in
    visits_shown (Keeps g.F.FnMut) (c.args.f, c.args.shard.now) _ c.args.slot key value c.lend-value.ensures.pair
    (λ e ke ve. (
      true,
      left,
      subst (λ b. AnswersNext g.F.FnMut c.args.f e.key e.value b left next) c.if-stays.true
          (answers_entry g.F.FnMut c.args.f key value c.ask-stays.result.0 left next e ke ve
          c.ask-stays.ensures.answer),
      refl,
    ))

pub returns-clause-visit : goal.returns-clause-visit
returns-clause-visit g c =
    let key = c.lend-value.result.0.now in
    let value = c.lend-value.result.1.now in
    let left = c.ask-stays.new.value in
    let next = c.ask-stays.result.1 in
    visits_shown (Keeps g.F.FnMut) (c.args.f, c.args.shard.now) _ c.args.slot key value c.lend-value.ensures.pair
    (λ e ke ve. (
      false,
      left,
      subst (λ b. AnswersNext g.F.FnMut c.args.f e.key e.value b left next) c.if-stays.false
          (answers_entry g.F.FnMut c.args.f key value c.ask-stays.result.0 left next e ke ve
          c.ask-stays.ensures.answer),
      c.remove-pair.ensures.frees,
    ))

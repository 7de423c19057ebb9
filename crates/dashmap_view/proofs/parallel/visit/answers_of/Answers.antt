use Rattle.std.proofs.Common.{refl, ap, sym, ◌∙◌, subst, drop, ◌+◌}
use Rattle.std.specs.Option.{option_map}
use Rattle.std.proofs.lemmas.Option.{same_Some}
use Rattle.dashmap_table.specs.Slots.{pair_of, pairs_of}
use Rattle.dashmap_view.proofs.Walking.{value_of, pairs-none}
use Rattle.dashmap_view.specs.Parallel.Calls.{AnswersOf}
use Rattle.dashmap_view.proofs.ParallelFacts.Gathering.{Gathers, pairs-at, gathers-one, gathers-all}
use Rattle.dashmap_view.proofs.parallel.visit.answers_of.Goals as goal

pub loop-slot-preserved : goal.loop-slot-preserved
loop-slot-preserved g c =
    let slots = c.args.shard.now.slots in
    let next = c.in-Some.ensures in
    let there = value_of _ next.full in
    let answer = c.answer_at-answer.ensures in
    let pair = same_Some (pair_of there.0) answer.0 (sym (ap (option_map pair_of) there.1) ∙ answer.1) in
    let says = subst (λ p. AnswersOf g.F.Fn c.args.f.now p c.answer_at-answer.result) (sym pair) answer.2 in
    subst (Gathers (AnswersOf g.F.Fn c.args.f.now) (pairs_of slots) (pairs_of (drop (c.in-Some.slot + 1) slots)))
    (sym c.in_ok-push.ensures.items)
    (gathers-one (AnswersOf g.F.Fn c.args.f.now) (pairs_of slots) _ _ (pair_of there.0) c.loop-slot.answers.items
    c.answer_at-answer.result
    (pairs-at slots c.loop-slot.from c.in-Some.slot there.0 next there.1) says c.loop-slot.invariant)

pub returns : goal.returns
returns g c =
    gathers-all (AnswersOf g.F.Fn c.args.f.now) (pairs_of c.args.shard.now.slots) _ c.loop-slot.answers.items
    (pairs-none c.loop-slot.from c.args.shard.now.slots c.in_default.ensures) c.loop-slot.invariant

use Rattle.std.proofs.Common.{refl, ap, sym, ◌∙◌, ◌+◌, subst, drop}
use Rattle.std.specs.Prelude.{All}
use Rattle.std.specs.Option.{option_map}
use Rattle.std.proofs.lemmas.Option.{same_Some}
use Rattle.std.proofs.lemmas.List.Elements.{All-cons, All-nil}
use Rattle.dashmap_table.specs.Slots.{pair_of, pairs_of}
use Rattle.dashmap_view.proofs.Walking.{value_of, pairs-none}
use Rattle.dashmap_view.specs.Parallel.Calls.{AnswersOf}
use Rattle.dashmap_view.proofs.ParallelFacts.Gathering.{pairs-at}
use Rattle.dashmap_view.proofs.parallel.visit.visit_each.Goals as goal

pub loop-slot-preserved : goal.loop-slot-preserved
loop-slot-preserved g c =
    let slots = c.args.shard.now.slots in
    let next = c.in-Some.ensures in
    let there = value_of _ next.full in
    let answer = c.answer_at.ensures in
    let pair = same_Some (pair_of there.0) answer.0 (sym (ap (option_map pair_of) there.1) ∙ answer.1) in
    let says = subst (λ p. AnswersOf g.F.Fn c.args.f.now p tt) (sym pair) answer.2 in
    (λ rest. c.loop-slot.invariant
    (subst (All (λ p. AnswersOf g.F.Fn c.args.f.now p tt))
    (sym (pairs-at slots c.loop-slot.from c.in-Some.slot there.0 next there.1))
    (All-cons (λ p. AnswersOf g.F.Fn c.args.f.now p tt) (pair_of there.0) _ says rest)))

pub returns : goal.returns
returns g c =
    c.loop-slot.invariant
    (subst (All (λ p. AnswersOf g.F.Fn c.args.f.now p tt))
    (sym (pairs-none c.loop-slot.from c.args.shard.now.slots c.in_default.ensures))
    (All-nil (λ p. AnswersOf g.F.Fn c.args.f.now p tt)))

use Rattle.std.proofs.Common.{◌∙◌, rules}
use Rattle.refusing_heap.proofs.Running.{under, one_more}
use Rattle.refusing_heap.proofs.turns.each_growth.Goals as goal

pub returns-in-Err-clause-err : goal.returns-in-Err-clause-err
returns-in-Err-clause-err g c = record {
  turn = c.loop-turn.turn;
  within = search rules;
  is = c.later-refusal.ensures;
  now = c.loop-turn.check;
  before = c.loop-turn.invariant.1;
  last = c.ask-said.result.1;
  fails = under g.C.FnMut c.new-heap.result c.new-heap.ensures.inner c.new-heap.ensures.refusal c.in-Err.is
      c.ask-said.ensures.ran;
}

pub returns-then-refused-eq0-clause-ok : goal.returns-then-refused-eq0-clause-ok
returns-then-refused-eq0-clause-ok g c =
    let ran = under g.C.FnMut c.new-heap.result c.new-heap.ensures.inner
    (c.new-heap.ensures.refusal ∙ c.later-refusal.ensures) c.in_default.is c.ask-said.ensures.ran in
    (search rules, (c.ask-said.result.1, (c.loop-turn.check, c.loop-turn.invariant.1, ran)))

pub loop-turn-preserved : goal.loop-turn-preserved
loop-turn-preserved g c =
    let ran = under g.C.FnMut c.new-heap.result c.new-heap.ensures.inner
    (c.new-heap.ensures.refusal ∙ c.later-refusal.ensures) c.in_default.is c.ask-said.ensures.ran in (
      c.ask-said.ensures.again,
      one_more g.C.FnMut c.args.alloc c.args.first c.loop-turn.turn c.args.check
          c.loop-turn.check c.ask-said.result.1 c.loop-turn.invariant.1 ran,
    )

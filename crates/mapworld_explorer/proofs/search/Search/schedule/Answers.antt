use Rattle.std.proofs.Common.{◌∙◌, Some, None, ap, arith, rules, suc, sym, append-nil}
use Rattle.mapworld_explorer.proofs.Searching.{gone_back}
use Rattle.mapworld_explorer.specs.Searches.{last_steps}
use Rattle.mapworld_explorer.proofs.search.Search.schedule.Goals as goal

pub loop-step-preserved : goal.loop-step-preserved
loop-step-preserved c left e = elim c.match-reached.branch [
  | goal.in-Some+in_ok-push w ↦ gone_back c.args.self.now.states.items left c.loop-step.index
      c.match-reached.index c.loop-step.schedule.items c.match-reached.schedule.items _
      (Some w.in-Some.reached) (search rules) (search rules) (search rules)
      (c.loop-step.invariant (suc left) (omega (arith, e)))
  | goal.in_default w ↦ gone_back c.args.self.now.states.items left c.loop-step.index
      c.match-reached.index c.loop-step.schedule.items c.match-reached.schedule.items _
      None (search rules) (search rules) (search (rules, append-nil))
      (c.loop-step.invariant (suc left) (omega (arith, e)))
]

pub returns : goal.returns
returns c = c.reverse.ensures.items
    ∙ sym (c.loop-step.invariant 0 (omega (arith, c.loop-step-test.false, c.loop-step.auto._step-end)))
    ∙ ap (λ n. last_steps c.args.self.now.states.items n c.args.state) c.steps_to-steps.ensures

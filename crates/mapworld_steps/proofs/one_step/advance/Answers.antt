use Rattle.mapworld_state.specs.Steps.{by_itself}
use Rattle.mapworld_steps.proofs.one_step.advance.Goals as goal

pub returns-clause-made : goal.returns-clause-made
returns-clause-made g c = by_itself c.if-step.false c.go_on.ensures.step

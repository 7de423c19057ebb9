use Rattle.mapworld_explorer.proofs.Leading.{of-led}
use Rattle.mapworld_explorer.specs.Outcomes.{IsOutcomeOf}
use Rattle.mapworld_explorer.specs.Standing.{HasEnded}
use Rattle.mapworld_explorer.proofs.reading.outcome_behind.Goals as goal

pub returns-clause-told : goal.returns-clause-told
returns-clause-told c = of-led _ HasEnded IsOutcomeOf c.in_ok-world.world c.outcome_at_end.result c.in_ok-world.ensures
    c.outcome_at_end.ensures.told

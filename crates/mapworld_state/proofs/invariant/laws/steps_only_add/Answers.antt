use Rattle.mapworld_state.proofs.InvariantFacts.Adding.{step-adds, adds-none, adds-more}
use Rattle.mapworld_state.proofs.invariant.laws.steps_only_add.Goals as goal

pub returns : goal.returns
returns g c = λ x w s w' sound step. let added = step-adds x w s w' sound step in
    (adds-more w w w' s (adds-none w) added, added.fixed)

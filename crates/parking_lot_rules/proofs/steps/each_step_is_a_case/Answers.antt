use Rattle.parking_lot_rules.specs.Owners.{IsOfItsCase}
use Rattle.parking_lot_rules.proofs.Running.{throughout}
use Rattle.parking_lot_rules.proofs.Casing.{step_case}
use Rattle.parking_lot_rules.proofs.steps.each_step_is_a_case.Goals as goal

pub returns : goal.returns
returns c = throughout IsOfItsCase (λ recursive t step l sound may. step_case recursive t l sound step may)

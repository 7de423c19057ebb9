use Rattle.parking_lot_machine.proofs.UpgradeMoving.{upgrades_are_steps}
use Rattle.parking_lot_machine.proofs.upgrade_laws.upgradable_answers_are_steps.Goals as goal

pub returns : goal.returns
returns c = upgrades_are_steps

use Rattle.parking_lot_machine.proofs.UpgradePaying.{upgrade_steps_fall}
use Rattle.parking_lot_machine.proofs.upgrade_laws.upgrade_steps_fall.Goals as goal

pub returns : goal.returns
returns c = upgrade_steps_fall

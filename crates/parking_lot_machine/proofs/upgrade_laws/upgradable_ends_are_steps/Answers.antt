use Rattle.parking_lot_machine.proofs.UpgradeKeeping.{upgrades_end}
use Rattle.parking_lot_machine.proofs.upgrade_laws.upgradable_ends_are_steps.Goals as goal

pub returns : goal.returns
returns c = upgrades_end

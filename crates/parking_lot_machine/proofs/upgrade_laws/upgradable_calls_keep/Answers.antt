use Rattle.parking_lot_machine.proofs.UpgradeGoing.{upgrades_keep}
use Rattle.parking_lot_machine.proofs.upgrade_laws.upgradable_calls_keep.Goals as goal

pub returns : goal.returns
returns c = upgrades_keep

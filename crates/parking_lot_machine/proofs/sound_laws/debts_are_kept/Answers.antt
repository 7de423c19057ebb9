use Rattle.parking_lot_machine.proofs.Indebting.{debts_are_kept}
use Rattle.parking_lot_machine.proofs.sound_laws.debts_are_kept.Goals as goal

pub returns : goal.returns
returns c = debts_are_kept

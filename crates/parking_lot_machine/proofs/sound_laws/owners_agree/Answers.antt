use Rattle.parking_lot_machine.proofs.Agreeing.{owners_agree}
use Rattle.parking_lot_machine.proofs.sound_laws.owners_agree.Goals as goal

pub returns : goal.returns
returns c = owners_agree

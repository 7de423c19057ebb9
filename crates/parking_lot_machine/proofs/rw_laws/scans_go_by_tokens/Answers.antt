use Rattle.parking_lot_machine.proofs.RwTaking.{scans_go_by_tokens}
use Rattle.parking_lot_machine.proofs.rw_laws.scans_go_by_tokens.Goals as goal

pub returns : goal.returns
returns c = scans_go_by_tokens

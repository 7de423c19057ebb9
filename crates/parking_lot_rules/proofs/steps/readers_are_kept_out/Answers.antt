use Rattle.parking_lot_rules.specs.Laws.{ReadersAreKeptOut}
use Rattle.parking_lot_rules.proofs.Running.{throughout}
use Rattle.parking_lot_rules.proofs.Keeping.{readers_are_kept_out}
use Rattle.parking_lot_rules.proofs.steps.readers_are_kept_out.Goals as goal

pub returns : goal.returns
returns c = throughout ReadersAreKeptOut readers_are_kept_out

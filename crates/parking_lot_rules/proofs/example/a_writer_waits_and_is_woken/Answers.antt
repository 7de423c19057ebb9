use Rattle.parking_lot_rules.proofs.ExampleRun.{runs_are_there}
use Rattle.parking_lot_rules.proofs.example.a_writer_waits_and_is_woken.Goals as goal

pub returns : goal.returns
returns c = runs_are_there

use Rattle.parking_lot_rules.proofs.OnceFacts.OnceExampleRun.{run_is_there}
use Rattle.parking_lot_rules.proofs.once.example.a_caller_sleeps_and_is_woken.Goals as goal

pub returns : goal.returns
returns c = run_is_there

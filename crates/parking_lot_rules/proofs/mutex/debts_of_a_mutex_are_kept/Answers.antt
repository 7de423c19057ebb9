use Rattle.parking_lot_rules.specs.MutexLaws.{DebtsAreKept}
use Rattle.parking_lot_rules.proofs.MutexRuns.{always}
use Rattle.parking_lot_rules.proofs.MutexFollowing.{debts_are_kept}
use Rattle.parking_lot_rules.proofs.mutex.debts_of_a_mutex_are_kept.Goals as goal

pub returns : goal.returns
returns c = always DebtsAreKept debts_are_kept

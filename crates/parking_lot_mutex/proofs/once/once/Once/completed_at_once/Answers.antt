use Rattle.std.proofs.Common.{eqb-true}
use Rattle.parking_lot_mutex.proofs.OnceFacts.OnceRunning.{completed}
use Rattle.parking_lot_mutex.proofs.once.once.Once.completed_at_once.Goals as goal

-- one look is such a call
pub returns : goal.returns
returns g c = λ wish seen. completed wish c.load-word.result (eqb-true c.load-word.result 1 seen)

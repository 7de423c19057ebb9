use Rattle.std.proofs.Common.{subst, sym}
use Rattle.parking_lot_protocol.specs.declared.timed.timed_act.TimedAct.{TimedAct}
use Rattle.parking_lot_protocol_rw.specs.Timed.TimedRules.{EndsRightly}
use Rattle.parking_lot_protocol_rw.proofs.TimedFacts.TimedFollowing.{timed_ends, timed_follows}
use Rattle.parking_lot_protocol_rw.proofs.timed.timed_core.TimedRwCore.next.Goals as goal

pub returns-clause-rules : goal.returns-clause-rules
returns-clause-rules c = timed_follows _ _

pub returns-clause-end : goal.returns-clause-end
returns-clause-end c = subst (λ (last : TimedAct). EndsRightly c.after-self.result last) (sym c.act.ensures)
    (timed_ends c.after-self.result)

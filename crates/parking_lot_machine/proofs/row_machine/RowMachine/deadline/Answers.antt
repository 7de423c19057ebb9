use Rattle.std.proofs.Common.{sym, ap, ◌∙◌, subst}
use Rattle.parking_lot_machine.specs.LateLaws.{Expires}
use Rattle.parking_lot_machine.specs.Machines.{may_expire_in}
use Rattle.parking_lot_machine.specs.Rows.{State, state}
use Rattle.parking_lot_machine.proofs.Holding.{fits}
use Rattle.parking_lot_machine.proofs.LateActs.{laws}
use Rattle.parking_lot_machine.proofs.Stepping.{expires_so}
use Rattle.parking_lot_machine.proofs.row_machine.RowMachine.deadline.Goals as goal

pub returns-in-Some : goal.returns-in-Some
returns-in-Some g c =
    let s : State = state c.args.self.now in
    let here = sym c.call.ensures ∙ c.in-Some.is in
    let so = expires_so c.in-Some.call (sym (ap may_expire_in here) ∙ c.requires.may) in
    record {
      call = c.in-Some.call;
      here = here;
      became = c.expire.ensures;
      lawful = subst (Expires c.args.thread c.in-Some.call s) (sym c.expire.ensures)
          (laws.expires s c.args.thread c.in-Some.call so (fits c.self.view_is c.self.invariant.0) here);
    }

pub expire-requires-clause-asleep : goal.expire-requires-clause-asleep
expire-requires-clause-asleep g c =
    expires_so c.in-Some.call (sym (ap may_expire_in (sym c.call.ensures ∙ c.in-Some.is)) ∙ c.requires.may)

use Rattle.std.proofs.Common.{sym, ap, ◌∙◌, subst}
use Rattle.parking_lot_machine.specs.Requeues.{IsRousedIn}
use Rattle.parking_lot_machine.specs.RowActs.{with_call}
use Rattle.parking_lot_machine.specs.RowFits.{FitsTogether}
use Rattle.parking_lot_machine.specs.Rows.{Rows, State, state}
use Rattle.parking_lot_machine.proofs.Calling.{room_set}
use Rattle.parking_lot_machine.proofs.Holding.{fits}
use Rattle.parking_lot_machine.proofs.RequeueActs.{is_free, rouses_in}
use Rattle.parking_lot_machine.proofs.RequeueMays.{rouses_by}
use Rattle.parking_lot_machine.proofs.row_machine.RowMachine.rouse_in.Goals as goal

-- src/requeue.rt:39:5
pub returns : goal.returns
returns g c =
    let s : State = state c.args.self.now in
    let fit : FitsTogether s = fits c.self.view_is c.self.invariant.0 in
    let asked = rouses_by s c.args.waiter c.args.lock c.requires.may in
    let may = is_free s c.args.waiter c.args.lock fit asked.0 in
    subst (IsRousedIn c.args.waiter c.args.lock c.args.timed s)
    (sym (ap (λ (m : Rows). with_call (state m) c.args.waiter c.retrying.result) c.self.view_is
    ∙ ap (with_call s c.args.waiter) c.retrying.ensures))
    (rouses_in s c.args.waiter c.args.lock c.args.timed fit may.low may.alone may.kind may.owns asked.1)

-- src/requeue.rt:39:5
pub invariant_of-self : goal.invariant_of-self
invariant_of-self g c = ((returns g c).fits, room_set _ _ _ _ c.self.invariant.1)

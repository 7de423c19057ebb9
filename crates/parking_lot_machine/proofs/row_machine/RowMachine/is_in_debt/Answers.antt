use Rattle.std.proofs.Common.{◌||◌, sym, ap, ◌∙◌, is_some}
use Rattle.parking_lot_machine_calls.specs.CallViews.{call_in_debt}
use Rattle.parking_lot_machine.specs.Rows.{state, taken_by}
use Rattle.parking_lot_machine.proofs.Viewing.{as_slept, owing}
use Rattle.parking_lot_machine.proofs.row_machine.RowMachine.is_in_debt.Goals as goal
use Rattle.parking_lot_machine.proofs.Woken.{some_is}

-- src/machine_views.rt:49:5
pub returns-else-looks : goal.returns-else-looks
returns-else-looks g c =
    let s = state c.args.self.now in
    let us = taken_by s.wakes c.args.thread in
    let call = c.in-Some.call in
    c.is_in_debt.ensures (as_slept s c.known.ensures c.args.thread call (sym c.in-Some.ensures)) us
    (some_is us ∙ ap is_some (sym c.taken.ensures) ∙ sym c.is_some.ensures)
    ∙ sym (owing s c.args.thread c.known.ensures call (sym c.in-Some.ensures)
    ∙ ap (λ b. b || call_in_debt us call) (sym c.if-looks.ensures))

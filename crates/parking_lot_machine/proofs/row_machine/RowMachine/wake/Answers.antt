use Rattle.std.proofs.Common.{inl, inr, is_some, sym, ap, ◌∙◌}
use Rattle.parking_lot_machine.specs.Rows.{State, state, taken_by}
use Rattle.parking_lot_machine.proofs.Woken.{none_first, some_first}
use Rattle.parking_lot_machine.proofs.row_machine.RowMachine.wake.Goals as goal

pub returns-then-is_some : goal.returns-then-is_some
returns-then-is_some g c = inl c.wake_first.ensures

pub returns-else-is_some : goal.returns-else-is_some
returns-else-is_some g c =
    let s : State = state c.args.self.now in
    inr (
      none_first (taken_by s.wakes c.args.thread)
          (ap is_some (sym c.taken.ensures) ∙ sym c.is_some.ensures ∙ c.if-is_some.false),
      c.wake_nobody.ensures,
    )

pub wake_first-requires-clause-some : goal.wake_first-requires-clause-some
wake_first-requires-clause-some g c =
    let s : State = state c.args.self.now in
    some_first (taken_by s.wakes c.args.thread)
    (ap is_some (sym c.taken.ensures) ∙ sym c.is_some.ensures ∙ c.if-is_some.true)

pub wake_nobody-requires-clause-gone : goal.wake_nobody-requires-clause-gone
wake_nobody-requires-clause-gone g c =
    let s : State = state c.args.self.now in
    none_first (taken_by s.wakes c.args.thread)
    (ap is_some (sym c.taken.ensures) ∙ sym c.is_some.ensures ∙ c.if-is_some.false)

use Rattle.std.proofs.Common.{slice_get, sym, ap, ◌∙◌, subst}
use Rattle.parking_lot_machine.specs.Rows.{call_at, lock_at, state, taken_by}
use Rattle.parking_lot_machine.specs.Worlds.{mode_in}
use Rattle.parking_lot_machine_calls.specs.CallViews.{hold_mode}
use Rattle.parking_lot_machine.proofs.Viewing.{IsApart, apart_owner, call_owns, in_order}
use Rattle.parking_lot_machine.proofs.row_machine.RowMachine.owner.Goals.{in_default-via-in-Some+else-call-lock}
use Rattle.parking_lot_machine.proofs.row_machine.RowMachine.owner.Goals.{in_default-via-in_default}
use Rattle.parking_lot_machine.proofs.row_machine.RowMachine.owner.Goals as goal

-- src/machine_views.rt:39:5
pub returns-in-Some : goal.returns-in-Some
returns-in-Some g c =
    let s = state c.args.self.now in
    let call = c.in-Some.call in
    c.owns.ensures (in_order s c.known.ensures c.args.thread call (sym c.in-Some.ensures))
    (taken_by s.wakes c.args.thread) ∙ sym (call_owns s c.args.thread c.known.ensures call (sym c.in-Some.ensures))
    ∙ ap (λ i. mode_in (lock_at s i) c.args.thread) c.if-call-lock.true

-- src/machine_views.rt:39:5
pub returns-in_default : goal.returns-in_default
returns-in_default g c =
    let s = state c.args.self.now in
    let apart : IsApart c.args.lock (call_at s c.args.thread) = elim c.in_default.branch [
      | in_default-via-in-Some+else-call-lock w ↦ subst (IsApart c.args.lock) w.in-Some.ensures w.if-call-lock.false
      | in_default-via-in_default w ↦ subst (IsApart c.args.lock) w.in_default.ensures tt
    ] in
    c.mode.ensures ∙ ap (λ k. hold_mode k c.hold.result) c.kind.ensures ∙ ap (hold_mode (slice_get s.kinds c.args.lock))
    c.hold.ensures
    ∙ sym (apart_owner s c.args.thread c.known.ensures c.args.lock apart)

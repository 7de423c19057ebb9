use Rattle.parking_lot_machine.proofs.Calling.{room_set}
use Rattle.std.proofs.Common.{Some, sym, ap, ◌∙◌, subst}
use Rattle.parking_lot_core_model.specs.Machine.{Machine, opened, machine}
use Rattle.parking_lot_core_model.specs.Sound.{Sound}
use Rattle.parking_lot_machine_calls.specs.declared.open_call.Call.{Call}
use Rattle.parking_lot_machine.specs.Rows.{Rows, State, state}
use Rattle.parking_lot_machine.specs.RowActs.{with_call, with_lot}
use Rattle.parking_lot_machine_calls.specs.CallActs.{key_of}
use Rattle.parking_lot_machine.specs.RowFits.{FitsTogether}
use Rattle.parking_lot_machine.proofs.Acting.{laws}
use Rattle.parking_lot_machine.proofs.Holding.{fits}
use Rattle.parking_lot_machine.proofs.row_machine.RowMachine.enter.Goals as goal

-- src/acts.rt:90:5
pub returns : goal.returns
returns g c =
    let s : State = state c.args.self.now in
    let done : State → Call → Machine → State = λ s next lot. with_lot (with_call s c.args.thread next) lot in
    ap (λ (m : Rows). done (state m) c.told.result (machine c.enter.new.lot)) c.self.view_is
    ∙ ap (done s c.told.result)
    (c.enter.ensures.opened ∙ ap (λ (m : Rows). opened (machine m.lot) (Some c.args.thread) c.key.result)
    c.self.view_is ∙ ap (opened s.lot (Some c.args.thread)) c.key.ensures)
    ∙ ap (λ next. done s next (opened s.lot (Some c.args.thread) (key_of c.args.call c.args.which))) c.told.ensures

-- src/acts.rt:90:5
pub invariant_of-self : goal.invariant_of-self
invariant_of-self g c = (
  let e = returns g c in
      subst FitsTogether (sym e)
      (laws.enter (state c.args.self.now) c.args.thread c.args.call c.args.which c.requires.asked c.requires.free
      (subst Sound (ap (λ (s : State). s.lot) e) c.enter.ensures.sound)
      (fits c.self.view_is c.self.invariant.0) c.requires.here).1.fits,
  room_set _ _ _ _ c.self.invariant.1,
)

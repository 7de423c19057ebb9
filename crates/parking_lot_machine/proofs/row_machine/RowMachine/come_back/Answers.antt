use Rattle.parking_lot_machine.proofs.Calling.{room_set}
use Rattle.std.proofs.Common.{◌≡◌, None, sym, ap, ◌∙◌, subst, arith}
use Rattle.parking_lot_core_model.specs.Machine as lot
use Rattle.parking_lot_core_model.specs.Machine.{Machine, machine, return_fault}
use Rattle.parking_lot_core_model.specs.Sound.{Sound}
use Rattle.parking_lot_machine_calls.specs.declared.open_call.Call.{Call}
use Rattle.parking_lot_machine_calls.specs.LateCalls.{late_key}
use Rattle.parking_lot_machine.specs.Rows.{Rows, State, state}
use Rattle.parking_lot_machine.specs.RowActs.{with_call, with_lot}
use Rattle.parking_lot_machine_calls.specs.CallActs.{key_of}
use Rattle.parking_lot_machine.specs.RowFits.{FitsTogether}
use Rattle.parking_lot_machine.proofs.LateActs.{laws}
use Rattle.parking_lot_machine.proofs.LateCalls.{may_return_there, sleeps_there}
use Rattle.parking_lot_machine.proofs.Holding.{fits, held, low}
use Rattle.parking_lot_machine.specs.Rows.{open_at}
use Rattle.parking_lot_machine.proofs.row_machine.RowMachine.come_back.Goals as goal

pub come_back-requires : goal.come_back-requires
come_back-requires g c =
    record {
      free = subst (λ k. return_fault (machine c.self.inside.lot) c.args.thread k ≡ None)
          (sym (c.key.ensures ∙ ap (key_of c.args.call) c.late_list.ensures))
          (may_return_there (machine c.self.inside.lot) c.args.thread (late_key c.args.call)
          (ap (λ (m : Rows). open_at (state m) (late_key c.args.call)) c.self.view_is ∙ c.requires.free)
          (sleeps_there _ c.self.invariant.0 c.args.thread c.args.call
          (held c.args.thread c.args.call c.self.view_is c.requires.here) c.requires.late c.requires.listed));
    }

pub index_mut-requires : goal.index_mut-requires
index_mut-requires g c =
    omega (arith, low c.args.thread c.args.call c.self.view_is c.requires.here, c.self.inside.calls.ok.0)

pub returns : goal.returns
returns g c =
    let s : State = state c.args.self.now in
    let done : State → Call → Machine → State = λ s next m. with_lot (with_call s c.args.thread next) m in
    ap (λ (m : Rows). done (state m) c.told.result (machine c.come_back.new.lot)) c.self.view_is
    ∙ ap (done s c.told.result)
    (c.come_back.ensures.returned ∙ ap (λ (m : Rows). lot.returned (machine m.lot) c.args.thread c.key.result)
    c.self.view_is ∙ ap (lot.returned s.lot c.args.thread)
    (c.key.ensures ∙ ap (key_of c.args.call) c.late_list.ensures))
    ∙ ap (λ next. done s next (lot.returned s.lot c.args.thread (late_key c.args.call))) c.told.ensures

pub invariant_of-self : goal.invariant_of-self
invariant_of-self g c = (
  let e = returns g c in
      subst FitsTogether (sym e)
      (laws.returns (state c.args.self.now) c.args.thread c.args.call c.requires.late c.requires.listed c.requires.free
      (subst Sound (ap (λ (s : State). s.lot) e) c.come_back.ensures.sound)
      (fits c.self.view_is c.self.invariant.0) c.requires.here).1.fits,
  room_set _ _ _ _ c.self.invariant.1,
)

use Rattle.std.proofs.Common.{false, sym, ap, ◌∙◌, subst, arith}
use Rattle.parking_lot_machine.proofs.Calling.{room_set}
use Rattle.parking_lot_core_model.specs.Machine.{Machine, closed, machine}
use Rattle.parking_lot_core_model.specs.Sound.{Sound}
use Rattle.parking_lot_machine_calls.specs.declared.open_call.Call.{Call}
use Rattle.parking_lot_machine.specs.Rows.{Rows, State, state}
use Rattle.parking_lot_machine.specs.RowActs.{with_call, with_lot}
use Rattle.parking_lot_machine.specs.RowFits.{FitsTogether}
use Rattle.parking_lot_machine.proofs.Acting.{laws}
use Rattle.parking_lot_machine.proofs.Holding.{fits, held, low}
use Rattle.parking_lot_machine.proofs.LotCalls.{leaves_in, lot_never_refuses}
use Rattle.parking_lot_machine.specs.RowActs.{key_in}
use Rattle.std.proofs.Common.{ℕ}
use Rattle.parking_lot_machine.proofs.row_machine.RowMachine.leave.Goals as goal

-- src/acts.rt:184:9
pub leave-requires : goal.leave-requires
leave-requires g c =
    record {
      inside = lot_never_refuses.leaves _ c.args.thread c.args.call
          (c.self.invariant.0.lots, held c.args.thread c.args.call c.self.view_is c.requires.here, c.requires.asked);
    }

-- src/acts.rt:185:9
pub index_mut-requires : goal.index_mut-requires
index_mut-requires g c =
    omega (arith, low c.args.thread c.args.call c.self.view_is c.requires.here, c.self.inside.calls.ok.0)

-- src/acts.rt:170:5
pub returns : goal.returns
returns g c =
    let done : State → Call → Machine → State = λ s next lot. with_lot (with_call s c.args.thread next) lot in
    let s : State = state c.args.self.now in
    let key : ℕ = key_in c.args.call in
    let in_it = leaves_in _ c.args.thread c.args.call c.self.invariant.0.lots
    (held c.args.thread c.args.call c.self.view_is c.requires.here) c.requires.asked in
    ap (λ (m : Rows). done (state m) c.told.result (machine c.leave.new.lot)) c.self.view_is
    ∙ ap (done s c.told.result)
    (c.leave.ensures.closed in_it.0 in_it.1 ∙ ap (λ (k : ℕ). closed (machine c.self.inside.lot) k false) in_it.2
    ∙ ap (λ (m : Rows). closed (machine m.lot) key false) c.self.view_is)
    ∙ ap (λ next. done s next (closed s.lot key false)) c.told.ensures

-- src/acts.rt:170:5
pub invariant_of-self : goal.invariant_of-self
invariant_of-self g c = (
  let e = returns g c in
      subst FitsTogether (sym e)
      (laws.leave (state c.args.self.now) c.args.thread c.args.call c.requires.asked
      (subst Sound (ap (λ (s : State). s.lot) e) c.leave.ensures.sound)
      (fits c.self.view_is c.self.invariant.0) c.requires.here).1.fits,
  room_set _ _ _ _ c.self.invariant.1,
)

use Rattle.parking_lot_machine.proofs.Calling.{room_set}
use Rattle.std.proofs.Common.{refl, Bool, cond, sym, ap, ◌∙◌, subst, arith}
use Rattle.parking_lot_core_model.specs.declared.place.Phase.TheVariants as phase
use Rattle.parking_lot_core_model.specs.Machine.{Machine, in_phase, machine}
use Rattle.parking_lot_core_model.specs.Sound.{Sound}
use Rattle.parking_lot_protocol.specs.declared.act.Act.TheVariants as act
use Rattle.parking_lot_protocol.specs.declared.act.SectionAct.TheVariants as section
use Rattle.parking_lot_protocol.specs.declared.act.ActResult.TheVariants as seen
use Rattle.parking_lot_machine_calls.specs.declared.open_call.Call.{Call}
use Rattle.parking_lot_machine.specs.Rows.{Rows, State, state}
use Rattle.parking_lot_machine_calls.specs.Stances.{stance}
use Rattle.parking_lot_machine.specs.RowActs.{with_call, with_lot}
use Rattle.parking_lot_machine_calls.specs.CallActs.{hears, joins}
use Rattle.parking_lot_machine.specs.RowFits.{FitsTogether}
use Rattle.parking_lot_machine.proofs.Acting.{laws}
use Rattle.parking_lot_machine.proofs.Holding.{fits, held, low}
use Rattle.parking_lot_machine.proofs.LotCalls.{inside_key, lot_never_refuses}
use Rattle.parking_lot_machine.specs.RowActs.{key_in}
use Rattle.parking_lot_machine_calls.proofs.Stancing.{leads_by}
use Rattle.std.proofs.Common.{ℕ}
use Rattle.parking_lot_machine.proofs.row_machine.RowMachine.check.Goals as goal

-- src/acts.rt:108:9
pub check-requires : goal.check-requires
check-requires g c =
    record {
      inside = lot_never_refuses.checks _ c.args.thread c.args.call
          (c.self.invariant.0.lots, held c.args.thread c.args.call c.self.view_is c.requires.here, c.requires.asked);
    }

-- src/acts.rt:109:9
pub index_mut-requires : goal.index_mut-requires
index_mut-requires g c =
    omega (arith, low c.args.thread c.args.call c.self.view_is c.requires.here, c.self.inside.calls.ok.0)

-- src/acts.rt:102:5
pub returns : goal.returns
returns g c =
    let s : State = state c.args.self.now in
    let valid : Machine → ℕ → Bool → Machine = λ lot k b. in_phase lot k (cond b phase.Valid phase.Invalid) in
    let key : ℕ = key_in c.args.call in
    let l = leads_by c.args.call.core (act.Section section.Check) 0 (seen.Word 0) c.requires.asked refl in
    let in_it = inside_key _ c.args.thread c.args.call l.0 _ c.self.invariant.0.lots
    (held c.args.thread c.args.call c.self.view_is c.requires.here) l.1 in
    let done : State → Call → Machine → State = λ s next lot. with_lot (with_call s c.args.thread next) lot in
    ap (λ (m : Rows). done (state m) c.told-next.result (machine c.check.new.lot)) c.self.view_is
    ∙ ap (done s c.told-next.result)
    (c.check.ensures.checked in_it.0 in_it.1
    ∙ ap (λ (k : ℕ). valid (machine c.self.inside.lot) k c.joins.result) in_it.2
    ∙ ap (λ (m : Rows). valid (machine m.lot) key c.joins.result) c.self.view_is
    ∙ ap (valid s.lot key) c.joins.ensures)
    ∙ ap (λ (next : Call). done s next (valid s.lot key (joins (stance next.core))))
    (c.told-next.ensures ∙ ap (λ w. hears c.args.call (seen.Word w)) c.word.ensures)

-- src/acts.rt:102:5
pub invariant_of-self : goal.invariant_of-self
invariant_of-self g c = (
  let e = returns g c in
      subst FitsTogether (sym e)
      (laws.check (state c.args.self.now) c.args.thread c.args.call c.requires.asked
      (subst Sound (ap (λ (s : State). s.lot) e) c.check.ensures.sound) (fits c.self.view_is c.self.invariant.0)
      c.requires.here).1.fits,
  room_set _ _ _ _ c.self.invariant.1,
)

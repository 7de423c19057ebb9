use Rattle.std.proofs.Common.{ℕ, false, Some, sym, ap, ◌∙◌, subst, arith}
use Rattle.std.proofs.lemmas.List.{length-set}
use Rattle.parking_lot_core_model.specs.declared.place.Phase.TheVariants as phase
use Rattle.parking_lot_core_model.specs.Machine.{Machine, joined, in_phase, machine}
use Rattle.parking_lot_core_model.specs.Sound.{Sound}
use Rattle.parking_lot_protocol.specs.declared.act.Act.TheVariants as act
use Rattle.parking_lot_protocol.specs.declared.act.SectionAct.TheVariants as section
use Rattle.parking_lot_protocol.specs.declared.act.ActResult.TheVariants as seen
use Rattle.parking_lot_machine_calls.specs.declared.open_call.Call.{Call}
use Rattle.parking_lot_machine.specs.Rows.{Rows, State, state}
use Rattle.parking_lot_machine_calls.specs.Stances.{Joins}
use Rattle.parking_lot_machine.specs.RowActs.{with_call, with_lot}
use Rattle.parking_lot_machine_calls.specs.CallActs.{key_of}
use Rattle.parking_lot_machine.specs.RowFits.{FitsTogether}
use Rattle.parking_lot_machine.proofs.Holding.{fits, held, low}
use Rattle.parking_lot_machine.proofs.LotCalls.{lot_never_refuses}
use Rattle.parking_lot_machine_calls.proofs.Stancing.{leads_by}
use Rattle.parking_lot_machine.proofs.TakeLaws.{laws}
use Rattle.parking_lot_machine.proofs.row_machine.RowMachine.append.Goals as goal

-- src/acts.rt:209:9
pub append-requires : goal.append-requires
append-requires g c =
    record {
      inside = lot_never_refuses.appends _ c.args.thread c.args.call c.args.token
          (c.self.invariant.0.lots, held c.args.thread c.args.call c.self.view_is c.requires.here, c.requires.asked);
    }

-- src/acts.rt:210:9
pub index_mut-requires : goal.index_mut-requires
index_mut-requires g c =
    omega (arith, low c.args.thread c.args.call c.self.view_is c.requires.here, c.self.inside.calls.ok.0)

-- src/acts.rt:119:5
pub returns : goal.returns
returns g c =
    let s : State = state c.args.self.now in
    let l = leads_by c.args.call.core (act.Section (section.Append c.args.token)) 0 seen.Made c.requires.asked tt in
    let at = lot_never_refuses.inside _ c.args.thread c.args.call l.0 (Joins c.args.token) c.self.invariant.0.lots
    (held c.args.thread c.args.call c.self.view_is c.requires.here) l.2 in
    let done : State → Call → Machine → State = λ s next lot. with_lot (with_call s c.args.thread next) lot in
    let put : Machine → ℕ → Machine = λ lot key. joined (in_phase lot key phase.Joined) c.args.thread key c.args.token
    false
    in (
      l.0,
      l.2,
      ap (λ (m : Rows). done (state m) c.listed.result (machine c.append.new.lot)) c.self.view_is
          ∙ ap (done s c.listed.result)
          (c.append.ensures.joined at.section at.own ∙ ap (λ (m : Rows). put (machine m.lot) at.section.key)
          c.self.view_is ∙ ap (put s.lot) at.key)
          ∙ ap (λ next. done s next (put s.lot (key_of c.args.call l.0))) c.listed.ensures,
    )

-- src/acts.rt:119:5
pub invariant_of-self : goal.invariant_of-self
invariant_of-self g c =
    let e = returns g c in (
      subst FitsTogether (sym e.2)
          (laws.append (state c.args.self.now) c.args.thread c.args.call e.0 c.args.token c.requires.asked e.1
          (subst Sound (ap (λ (s : State). s.lot) e.2) c.append.ensures.sound)
          (fits c.self.view_is c.self.invariant.0) c.requires.here).1.fits,
      omega (arith, length-set c.self.inside.calls.items c.args.thread (Some c.listed.result), c.self.invariant.1),
    )

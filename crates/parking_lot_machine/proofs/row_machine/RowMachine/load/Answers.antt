use Rattle.parking_lot_machine.proofs.Calling.{room_set}
use Rattle.std.proofs.Common.{sym, ap, ◌∙◌, subst}
use Rattle.parking_lot_protocol.specs.declared.act.ActResult.TheVariants as seen
use Rattle.parking_lot_machine.specs.Rows.{Rows, state}
use Rattle.parking_lot_machine.specs.RowActs.{with_call}
use Rattle.parking_lot_machine_calls.specs.CallActs.{hears}
use Rattle.parking_lot_machine.specs.RowFits.{FitsTogether}
use Rattle.parking_lot_machine.proofs.Acting.{laws}
use Rattle.parking_lot_machine.proofs.Holding.{fits}
use Rattle.parking_lot_machine.proofs.row_machine.RowMachine.load.Goals as goal

-- src/acts.rt:27:5
pub returns : goal.returns
returns g c =
    ap (λ (m : Rows). with_call (state m) c.args.thread c.told.result) c.self.view_is
    ∙ ap (with_call (state c.args.self.now) c.args.thread)
    (c.told.ensures ∙ ap (λ w. hears c.args.call (seen.Word w)) c.word-word.ensures)

-- src/acts.rt:27:5
pub invariant_of-self : goal.invariant_of-self
invariant_of-self g c = (
  subst FitsTogether (sym (returns g c))
      (laws.load (state c.args.self.now) c.args.thread c.args.call c.requires.asked
      (fits c.self.view_is c.self.invariant.0) c.requires.here).1.fits,
  room_set _ _ _ _ c.self.invariant.1,
)

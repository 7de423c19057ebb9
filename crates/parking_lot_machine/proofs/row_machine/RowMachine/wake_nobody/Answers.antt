use Rattle.std.proofs.Common.{sym, ap, ◌∙◌, subst}
use Rattle.parking_lot_machine.specs.Rows.{Rows, state}
use Rattle.parking_lot_machine.specs.RowActs.{with_call}
use Rattle.parking_lot_machine.specs.RowFits.{FitsTogether}
use Rattle.parking_lot_machine.proofs.Calling.{room_set}
use Rattle.parking_lot_machine.proofs.Holding.{fits}
use Rattle.parking_lot_machine.proofs.TellActs.{laws}
use Rattle.parking_lot_machine.proofs.row_machine.RowMachine.wake_nobody.Goals as goal

pub returns : goal.returns
returns g c = ap (λ (m : Rows). with_call (state m) c.args.thread c.told.result) c.self.view_is
    ∙ ap (with_call (state c.args.self.now) c.args.thread) c.told.ensures

pub invariant_of-self : goal.invariant_of-self
invariant_of-self g c = (
  subst FitsTogether (sym (returns g c))
      (laws.nobody (state c.args.self.now) c.args.thread c.args.call c.requires.asked c.requires.gone
      (fits c.self.view_is c.self.invariant.0) c.requires.here).1.fits,
  room_set _ _ _ _ c.self.invariant.1,
)

use Rattle.std.proofs.Common.{sym, ◌∙◌}
use Rattle.parking_lot_machine.specs.Rows.{state}
use Rattle.parking_lot_machine.proofs.Holding.{fits}
use Rattle.parking_lot_machine.proofs.RequeueMays.{attended_by}
use Rattle.parking_lot_machine.proofs.row_machine.RowMachine.may_take_in.Goals as goal

-- src/requeue.rt:27:5
pub returns-then-may_rouse_in-clause-may : goal.returns-then-may_rouse_in-clause-may
returns-then-may_rouse_in-clause-may g c = λ e.
    record {
      may = sym c.may_rouse_in.ensures ∙ c.if-may_rouse_in.true;
      attended = attended_by (state c.args.self.now) (fits c.self.view_is c.self.invariant.0) c.args.lock
          (sym c.is_kept.ensures ∙ e);
    }

use Rattle.std.proofs.Common.{◌≡◌, ℕ, true, sym, subst}
use Rattle.parking_lot_machine.specs.Machines.{may_begin}
use Rattle.parking_lot_machine.specs.Rows.{state}
use Rattle.parking_lot_machine_waits.specs.Joint.{Joint}
use Rattle.parking_lot_machine_waits.proofs.LocksKept.{may_there}
use Rattle.parking_lot_machine_waits.proofs.machines.Machines.ask.Goals as goal

pub begin-requires : goal.begin-requires
begin-requires g c =
    let may = may_there c.args.self.now c.args.thread c.args.lock c.args.call c.requires.may in
    record {
      may = subst (λ (j : Joint). may_begin (state j.rows) c.asking_number-number.result c.args.lock c.args.call ≡ true)
          (sym c.self.view_is)
          (subst (λ (k : ℕ). may_begin (state c.args.self.now.rows) k c.args.lock c.args.call ≡ true)
          (sym c.asking_number-number.ensures) may);
    }

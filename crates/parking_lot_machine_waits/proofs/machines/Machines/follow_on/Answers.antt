use Rattle.std.proofs.Common.{◌≡◌, true, false, ap, sym, ◌∙◌, subst}
use Rattle.std.specs.Option.{option_map_or}
use Rattle.parking_lot_machine_calls.specs.declared.open_call.Call.{Call}
use Rattle.parking_lot_machine.specs.Rows.{call_at, state}
use Rattle.parking_lot_machine_waits.specs.Joint.{Joint, row_goes}
use Rattle.parking_lot_machine_waits.specs.Ready.{is_there}
use Rattle.parking_lot_machine_waits.specs.Turns.{is_at_mutex}
use Rattle.parking_lot_machine_waits.proofs.machines.Machines.follow_on.Goals as goal

pub follow-requires-clause-can : goal.follow-requires-clause-can
follow-requires-clause-can g c = subst (λ k. row_goes c.args.self.now k ≡ true) (sym c.back_number-number.ensures)
    c.requires.can

pub follow-requires-clause-mutex : goal.follow-requires-clause-mutex
follow-requires-clause-mutex g c =
    let may = subst (λ k. is_there c.args.self.now k ≡ true) (sym c.back_number-number.ensures) c.requires.there in
    sym (ap (λ o. option_map_or (λ (d : Call). is_at_mutex d.core) o false)
    (ap (λ (j : Joint). call_at (state j.rows) c.back_number-number.result) (sym c.self.view_is)
    ∙ sym c.call.ensures ∙ c.in-Some.is)) ∙ may

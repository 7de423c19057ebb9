use Rattle.std.proofs.Common.{◌≡◌, ◌∙◌, None, sym, subst}
use Rattle.parking_lot_core_model.specs.Machine.{Parts, machine, status_at, runs, enter_fault}
use Rattle.parking_lot_core_model.specs.Sound.{Sound}
use Rattle.parking_lot_core_model.proofs.Entering.{none_of_some}
use Rattle.parking_lot_core_model.proofs.Outcomes.{entering}
use Rattle.parking_lot_core_model.proofs.Closing.{running}
use Rattle.parking_lot_core_model.proofs.Sounds.{is_outside}
use Rattle.parking_lot_core_model.proofs.lot.Lot.park.Goals as goal

pub join-requires-clause-outside : goal.join-requires-clause-outside
join-requires-clause-outside g c =
    let m = machine c.args.self.now in
    let t = c.args.thread in
    let free : enter_fault m t c.args.key ≡ None = sym c.enter_fault.ensures ∙ c.in_default.is in
    let at = running m t (entering m c.args.key (runs (status_at m t)) free).0 in
    let sound : Sound m = subst (λ (v : Parts). Sound (machine v)) c.self.view_is c.self.invariant.0 in
    λ b s is whose. absurd (is_outside m t sound (none_of_some (m.inside t) at.1) b s is whose)

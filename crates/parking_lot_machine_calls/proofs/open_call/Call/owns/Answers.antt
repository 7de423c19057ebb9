use Rattle.std.proofs.Common.{sym, ap, ◌∙◌, subst}
use Rattle.parking_lot_machine_calls.specs.CallViews.{IsInOrder, core_mode, upgrade_mode}
use Rattle.parking_lot_machine_calls.proofs.UpgradeViewing.{mode_so}
use Rattle.parking_lot_machine_calls.proofs.open_call.Call.owns.Goals as goal

-- src/call_views.rt:212:5
pub returns-in-Upgrade : goal.returns-in-Upgrade
returns-in-Upgrade c = λ order us.
    let call = c.args.self.now in
    let ready = subst IsInOrder c.in-Upgrade.is order in
    c.upgrade_mode.ensures ∙ ap (upgrade_mode call.spot) c.phase-in-Upgrade.ensures
    ∙ mode_so call.others call.spot us c.in-Upgrade.core.phase ready.0 ready.1
    ∙ sym (ap (core_mode call.others call.spot us) c.in-Upgrade.is)

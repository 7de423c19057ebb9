use Rattle.std.proofs.Common.{sym, ap, ◌∙◌, subst}
use Rattle.parking_lot_protocol.specs.RwRules as of_rw
use Rattle.parking_lot_protocol.specs.MutexRules as of_mutex
use Rattle.parking_lot_rules.specs.Roles.{Back}
use Rattle.parking_lot_machine_calls.specs.CallViews.{IsLateInOrder, rw_mode}
use Rattle.parking_lot_machine_calls.specs.LateRoles.{late_rw_role, sleeper_role}
use Rattle.parking_lot_machine_calls.specs.CallRoles.{rw_spot}
use Rattle.parking_lot_machine_calls.proofs.Staying.{mode_stays}
use Rattle.parking_lot_machine_calls.proofs.call_views.late_rw_mode.Goals as goal

pub returns-in-Quits : goal.returns-in-Quits
returns-in-Quits c = λ order us.
    let k = c.in-Quits.sleeper in
    c.late_sleeper_mode-in-Quits.ensures (subst IsLateInOrder c.in-Quits.is order) us
    ∙ sym (mode_stays Back (sleeper_role c.args.others of_rw.Listed us k))
    ∙ ap (λ p. rw_mode (late_rw_role c.args.others (rw_spot c.args.spot) us p)) (sym c.in-Quits.is)

pub returns-in-WasTaken : goal.returns-in-WasTaken
returns-in-WasTaken c = λ order us.
    let k = c.in-WasTaken.sleeper in
    c.late_sleeper_mode-in-WasTaken.ensures (subst IsLateInOrder c.in-WasTaken.is order) us
    ∙ ap (λ m. rw_mode (sleeper_role c.args.others (of_rw.Off c.in-WasTaken.by m) us k)) c.told_as.ensures
    ∙ sym (mode_stays Back
    (sleeper_role c.args.others (of_rw.Off c.in-WasTaken.by (of_mutex.mark_of c.in-WasTaken.handed)) us k))
    ∙ ap (λ p. rw_mode (late_rw_role c.args.others (rw_spot c.args.spot) us p)) (sym c.in-WasTaken.is)

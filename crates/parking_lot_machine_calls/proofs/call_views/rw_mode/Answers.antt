use Rattle.std.proofs.Common.{⊎_elim, sym, ap, ◌∙◌}
use Rattle.parking_lot_protocol.specs.RwRules as of_rw
use Rattle.parking_lot_machine_calls.specs.CallViews.{rw_mode}
use Rattle.parking_lot_machine_calls.specs.CallRoles.{rw_spot}
use Rattle.parking_lot_machine_calls.proofs.call_views.rw_mode.Goals as goal

pub returns-in-Sleeps : goal.returns-in-Sleeps
returns-in-Sleeps c = λ us. c.sleeper_mode.ensures us
    ∙ ap (λ p. rw_mode (of_rw.role c.args.others (rw_spot c.args.spot) us p)) (sym c.in-Sleeps.is)

pub returns-in-Scans : goal.returns-in-Scans
returns-in-Scans c = λ us.
    let s = c.in-Scans.scanning in
    let given = c.giver_mode.ensures c.args.others s.shared s.upgradable s.writer us in
    ⊎_elim (λ e. given ∙ ap (λ p. rw_mode (of_rw.role c.args.others (rw_spot c.args.spot) us p)) (sym e))
    (λ e. given ∙ ap (λ p. rw_mode (of_rw.role c.args.others (rw_spot c.args.spot) us p)) (sym e.1))
    c.in-Scans.is

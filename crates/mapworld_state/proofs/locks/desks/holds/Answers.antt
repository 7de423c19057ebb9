use Rattle.std.proofs.Common.{sym, ap, ◌∙◌}
use Rattle.parking_lot_machine.specs.Rows.{state}
use Rattle.mapworld_state.specs.Locks.Views.{held_as}
use Rattle.mapworld_state.proofs.LocksFacts.Handing.{mode_is}
use Rattle.mapworld_state.proofs.locks.desks.holds.Goals as goal

pub returns : goal.returns
returns g c =
    c.held_as.ensures
    ∙ ap held_as (c.owner.ensures
    ∙ sym (mode_is (state c.args.machine.now) c.requires.plain.kinds c.args.shard c.args.thread))

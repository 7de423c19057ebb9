use Rattle.std.proofs.Common.{◌≡◌, true, subst}
use Rattle.parking_lot_machine.specs.Rows.{call_at, state}
use Rattle.mapworld_state.specs.Locks.Aims.{is_within}
use Rattle.mapworld_state.specs.Locks.Stands.{Stand}
use Rattle.mapworld_state.specs.Locks.Views.{held_at}
use Rattle.mapworld_state.proofs.LocksFacts.Stepping.{call_within, called}
use Rattle.mapworld_state.proofs.locks.laws.calls_hold_within.Goals as goal

pub returns : goal.returns
returns c sh fit t st stands =
    let (d, here, same) = called (call_at (state sh.rows) t) st stands in
    subst (λ (x : Stand). is_within x.aim (held_at (state sh.rows) x.shard t) ≡ true) same
    (call_within (state sh.rows) t d fit.fits fit.plain here)

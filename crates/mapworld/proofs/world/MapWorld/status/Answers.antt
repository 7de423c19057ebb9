use Rattle.std.proofs.Common.{refl}
use Rattle.mapworld_state.specs.Core.{state_of}
use Rattle.mapworld.proofs.Sleeping.{status-asleep, status-finished-any}
use Rattle.mapworld.proofs.world.MapWorld.status.Goals as goal

pub returns-clause-asleep : goal.returns-clause-asleep
returns-clause-asleep g c =
    rw (← c.self.view_is) (status-asleep _ _ c.self.invariant.0 c.known.ensures c.queues_are_waiters.ensures
    c.args.thread c.status.result c.status.ensures)

pub returns-clause-finished : goal.returns-clause-finished
returns-clause-finished g c =
    let w = state_of c.self.inside.core in
    rw (← c.self.view_is) (status-finished-any _ w c.self.invariant.0 refl c.self.invariant.1.places c.args.thread
    c.status.result c.status.ensures)

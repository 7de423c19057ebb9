use Rattle.std.proofs.Common.{false, ap, ◌∙◌}
use Rattle.parking_lot_machine.specs.Machines.{at_rest}
use Rattle.mapworld_state.proofs.LocksFacts.Making.{are_fresh, fresh_fit}
use Rattle.mapworld_state.proofs.locks.shard_locks.ShardLocks.new.Goals as goal

pub invariant_of-result : goal.invariant_of-result
invariant_of-result g c =
    fresh_fit c.args.threads c.args.shards c.in_ok-machine.machine c.in_ok-desks.desks.items
    (c.in_ok-machine.ensures.made
    ∙ ap (at_rest false c.args.threads) (c.in_ok-kinds.ensures.items_if_clones_equal (λ y e. e))) c.known.ensures
    c.in_ok-desks.ensures.made.0
    c.in_ok-desks.ensures.made.1

pub returns-clause-made : goal.returns-clause-made
returns-clause-made g c =
    are_fresh c.args.threads c.args.shards c.in_ok-machine.machine c.in_ok-desks.desks.items
    (c.in_ok-machine.ensures.made
    ∙ ap (at_rest false c.args.threads) (c.in_ok-kinds.ensures.items_if_clones_equal (λ y e. e))) c.known.ensures
    c.in_ok-desks.ensures.made.0
    c.in_ok-desks.ensures.made.1

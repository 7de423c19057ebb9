use Rattle.std.proofs.Common.{subst}
use Rattle.dashmap_map.specs.Evidence.{SumsTo}
use Rattle.dashmap.proofs.set.DashSet.capacity.Goals as goal

pub returns : goal.returns
returns g c =
    subst (λ m. SumsTo g.Q.Evidence.showed m (λ shard. shard.room) c.args.td.now c.capacity.new.td c.capacity.result)
    c.self.view_is c.capacity.ensures

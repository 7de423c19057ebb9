use Rattle.std.proofs.Common.{subst}
use Rattle.dashmap_table.specs.Slots.{count}
use Rattle.dashmap_map.specs.Evidence.{SumsTo}
use Rattle.dashmap.proofs.set.DashSet.len.Goals as goal

pub returns : goal.returns
returns g c =
    subst (λ m. SumsTo g.Q.Evidence.showed m (λ shard. count shard.slots) c.args.td.now c.len.new.td c.len.result)
    c.self.view_is c.len.ensures

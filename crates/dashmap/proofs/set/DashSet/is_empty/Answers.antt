use Rattle.std.proofs.Common.{subst}
use Rattle.dashmap_table.specs.Slots.{count}
use Rattle.dashmap_map.specs.Evidence.{SumsTo}
use Rattle.dashmap.proofs.set.DashSet.is_empty.Goals as goal

pub returns : goal.returns
returns g c =
    let told = c.is_empty.ensures in (
      told.0,
      subst (λ m. SumsTo g.Q.Evidence.showed m (λ shard. count shard.slots) c.args.td.now c.is_empty.new.td told.0)
          c.self.view_is told.1,
      told.2,
    )

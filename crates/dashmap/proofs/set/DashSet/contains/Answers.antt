use Rattle.std.proofs.Common.{◌≡◌, subst}
use Rattle.std.specs.Option.{is_some}
use Rattle.dashmap_table.specs.Slots.{slot_of}
use Rattle.dashmap_map.specs.Evidence.{OnSightOfKey}
use Rattle.dashmap.proofs.set.DashSet.contains.Goals as goal

pub returns : goal.returns
returns g c =
    subst (λ m. OnSightOfKey g.S.BuildHasher g.S.Hasher.Hasher g.K.Hash.hash_input g.Q.Evidence.showed m c.args.key.now
    c.args.td.now c.contains_key.new.td
    (λ hash shard. c.contains_key.result ≡ is_some (slot_of g.K.PartialEq.eq shard.slots hash c.args.key.now)))
    c.self.view_is c.contains_key.ensures

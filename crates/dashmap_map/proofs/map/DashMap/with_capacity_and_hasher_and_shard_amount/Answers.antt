use Rattle.std.proofs.Common.{◌≡◌, length}
use Rattle.dashmap_map.specs.Locked.{Locked}
use Rattle.dashmap_map.proofs.Rooms.{has_room, both_ok}
use Rattle.dashmap_map.proofs.map.DashMap.with_capacity_and_hasher_and_shard_amount.Goals as goal

pub returns-in-Ok-clause-made : goal.returns-in-Ok-clause-made
returns-in-Ok-clause-made g c = both_ok
    (λ (m : Locked g.row.Q.Denot g.row.S.Denot). length m.locks ≡ c.args.shard_amount)
    (λ (m : Locked g.row.Q.Denot g.row.S.Denot). m.hasher ≡ c.args.hasher) c.with_given_hasher.result
    (c.with_given_hasher.ensures.made c.args.shard_amount c.in-Ok.ensures.shards) c.with_given_hasher.ensures.hasher

pub returns-in-Ok-clause-room : goal.returns-in-Ok-clause-room
returns-in-Ok-clause-room g c = has_room g.Q.OwnerEvidence.put c.args.capacity c.args.shard_amount c.in_ok-share.share
    c.in_ok-share.ensures.share c.with_given_hasher.result
    (c.with_given_hasher.ensures.made c.args.shard_amount c.in-Ok.ensures.shards)
    (c.with_given_hasher.ensures.room c.in_ok-share.share c.in-Ok.ensures.room)

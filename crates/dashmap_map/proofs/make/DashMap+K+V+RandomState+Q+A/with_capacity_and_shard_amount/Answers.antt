use Rattle.dashmap_map.proofs.Rooms.{has_room}
use Rattle.dashmap_map.proofs.make.DashMap+K+V+RandomState+Q+A.with_capacity_and_shard_amount.Goals as goal

pub returns-in-Ok-clause-room : goal.returns-in-Ok-clause-room
returns-in-Ok-clause-room g c = has_room g.Q.OwnerEvidence.put c.args.capacity c.args.shard_amount c.in_ok-share.share
    c.in_ok-share.ensures.share c.with_own_hasher.result
    (c.with_own_hasher.ensures.made c.args.shard_amount c.in-Ok.ensures.shards)
    (c.with_own_hasher.ensures.room c.in_ok-share.share c.in-Ok.ensures.room)

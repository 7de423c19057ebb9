use Rattle.std.proofs.Common.{length, ap, arith}
use Rattle.dashmap_map.proofs.room.Made.of.Goals as goal

pub returns-in_ok-lock_shards-in-Ok-clause-room : goal.returns-in_ok-lock_shards-in-Ok-clause-room
returns-in_ok-lock_shards-in-Ok-clause-room g c =
    c.in_ok-lock_shards-in-Ok.ensures.fresh c.args.share c.in-Ok.ensures.fresh
    (λ k d lt. absurd (omega (arith, lt, ap length c.in-Ok.ensures.empty)))

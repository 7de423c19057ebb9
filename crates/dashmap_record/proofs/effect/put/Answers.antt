use Rattle.dashmap_record.proofs.Changes.{put_after}
use Rattle.dashmap_record.proofs.effect.put.Goals as goal

pub returns-in-Ok-clause-after : goal.returns-in-Ok-clause-after
returns-in-Ok-clause-after g c =
    put_after g.K.PartialEq.eq g.met.K.Eq.laws c.args.shard.now c.insert.new.self c.args.hash c.args.key c.args.value
    c.insert.result c.insert.ensures.sound c.insert.ensures.present c.insert.ensures.added _ c.in-Ok.is

use Rattle.dashmap_record.specs.Notes.{written}
use Rattle.dashmap_record.proofs.Replaying.{replayed_on}
use Rattle.dashmap_record.proofs.shard.RecordingShard.record.Goals as goal

pub invariant_of-self-2 : goal.invariant_of-self-2
invariant_of-self-2 g c =
    replayed_on g.K.PartialEq.eq g.V.PartialEq.eq
    (record { table = c.self.inside.shard; history = c.self.inside.history })
    (record { table = c.answer.new.shard; history = c.add-2.new.self }) c.make_room-2.new.self
    (written c.number.result c.in-Some.stamp c.args.number c.args.hash c.args.call c.in_ok-reply.reply) c.self.invariant
    c.make_room-2.ensures.notes c.add-2.ensures c.in_ok-reply.ensures.reply c.in_ok-reply.ensures.after

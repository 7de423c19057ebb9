use Rattle.dashmap_record.proofs.Answering.{inserted}
use Rattle.dashmap_record.proofs.recorded.Recorded.insert.Goals as goal

pub value_told-requires : goal.value_told-requires
value_told-requires g c = inserted g.K.PartialEq.eq g.V.PartialEq.eq c.args.key c.args.value c.in_ok-reply.reply
    c.in_ok-reply.ensures.reply

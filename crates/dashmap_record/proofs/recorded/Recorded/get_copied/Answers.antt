use Rattle.dashmap_record.proofs.Answering.{copied}
use Rattle.dashmap_record.proofs.recorded.Recorded.get_copied.Goals as goal

pub value_told-requires : goal.value_told-requires
value_told-requires g c = copied g.K.PartialEq.eq g.V.PartialEq.eq c.args.key.now c.in_ok-reply.reply
    c.in_ok-reply.ensures.reply

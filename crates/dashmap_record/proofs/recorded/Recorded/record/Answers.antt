use Rattle.dashmap_record.proofs.Answering.{replied}
use Rattle.dashmap_record.proofs.recorded.Recorded.record.Goals as goal

pub returns-clause-reply : goal.returns-clause-reply
returns-clause-reply g c = replied g.K.PartialEq.eq g.V.PartialEq.eq c.record.result c.args.call
    c.deref_mut.result.now.table c.hash_one-hash.result c.record.ensures.reply

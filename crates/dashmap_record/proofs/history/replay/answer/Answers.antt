use Rattle.std.proofs.Common.{ap}
use Rattle.dashmap_record.specs.declared.history.entry.CallReply.TheVariants.{Flag}
use Rattle.dashmap_record.proofs.history.replay.answer.Goals as goal

pub returns-in-Insert-clause-reply : goal.returns-in-Insert-clause-reply
returns-in-Insert-clause-reply g c = rw c.in-Insert.is (c.insert.ensures.reply)

pub returns-in_ok-replace_if-in-ReplaceIf-clause-reply : goal.returns-in_ok-replace_if-in-ReplaceIf-clause-reply
returns-in_ok-replace_if-in-ReplaceIf-clause-reply g c =
    rw c.in-ReplaceIf.is (ap (λ b. Flag b) c.in_ok-replace_if-in-ReplaceIf.ensures.flag)

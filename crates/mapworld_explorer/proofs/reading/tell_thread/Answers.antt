use Rattle.std.proofs.Common.{rules}
use Rattle.mapworld_explorer.proofs.Telling.{told_next, told_same}
use Rattle.mapworld_explorer.proofs.reading.tell_thread.Goals as goal

pub loop-reply-preserved : goal.loop-reply-preserved
loop-reply-preserved c before told = elim c.if-reply-thread.branch [
  | goal.then-reply-thread+in_ok-answering_of+in_ok-push w ↦ told_next c.args.thread before c.args.replies.now
      c.loop-reply.reply-index c.reply-item.result _ _ _ c.loop-reply-test.true c.reply-item.is (search rules)
      w.in_ok-answering_of.ensures (search rules) (c.loop-reply.invariant before told)
  | goal.else-reply-thread w ↦ told_same c.args.thread before c.args.replies.now c.loop-reply.reply-index
      c.reply-item.result _ _ c.loop-reply-test.true c.reply-item.is (search rules) (search rules)
      (c.loop-reply.invariant before told)
]

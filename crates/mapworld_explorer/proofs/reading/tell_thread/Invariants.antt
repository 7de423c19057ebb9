use Rattle.std.proofs.Common.{◌++◌, take}
use Rattle.mapworld_explorer.specs.Outcomes.{of_thread, AreRepliesTold}
use Rattle.mapworld_explorer.proofs.reading.tell_thread.Given as goal

-- the thread's replies so far are told behind those that were told before
abbrev pub invariant-loop-reply : goal.invariant-loop-reply
invariant-loop-reply l = (before : _) → AreRepliesTold before l.fn.answers.items
    → AreRepliesTold (before ++ of_thread l.thread (take l.reply-index l.replies)) l.answers.items

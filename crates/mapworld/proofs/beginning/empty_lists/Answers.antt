use Rattle.std.proofs.Common.{length, ap, arith, length-append}
use Rattle.mapworld.proofs.beginning.empty_lists.Goals as goal

pub loop-preserved : goal.loop-preserved
loop-preserved g c = let more = simp length-append at (ap length c.in_ok-push.ensures.items) in omega
    (arith, more, c.loop.invariant)

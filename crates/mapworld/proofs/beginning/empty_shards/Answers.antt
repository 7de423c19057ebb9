use Rattle.std.proofs.Common.{length, ap, arith, length-append}
use Rattle.mapworld.proofs.Placing.{AreEmpty-push}
use Rattle.mapworld.proofs.beginning.empty_shards.Goals as goal

pub loop-preserved : goal.loop-preserved
loop-preserved g c = (
  let more = simp length-append at (ap length c.in_ok-push.ensures.items) in omega (arith, more, c.loop.invariant.0),
  AreEmpty-push c.loop.tables.items _ c.new.result c.loop.invariant.1 c.new.ensures.slots c.in_ok-push.ensures.items,
)

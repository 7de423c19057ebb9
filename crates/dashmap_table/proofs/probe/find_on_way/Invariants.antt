use Rattle.dashmap_table.proofs.Tagging.{Passed}
use Rattle.dashmap_table.proofs.probe.find_on_way.Given as goal

-- no slot of the windows that were looked through has the hash and an equal key
abbrev pub invariant-loop-passed : goal.invariant-loop-passed
invariant-loop-passed g l = Passed g.K.PartialEq.eq l.tags l.slots l.hash l.key l.passed

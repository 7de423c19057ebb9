use Rattle.dashmap_parallel.specs.Puts.{PutInTurn}
use Rattle.dashmap_parallel.proofs.put.put_each.Given as goal

-- the pairs so far are put in
abbrev pub invariant-loop-hash : goal.invariant-loop-hash
invariant-loop-hash g l =
    PutInTurn g.K.PartialEq.eq g.Q.Evidence.held l.locks l.initial.td l.yielded l.td

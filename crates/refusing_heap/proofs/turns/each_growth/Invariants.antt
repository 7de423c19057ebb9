use Rattle.refusing_heap.specs.Turns.{Turns}
use Rattle.refusing_heap.proofs.turns.each_growth.Given as goal

-- it was run in each turn so far
abbrev pub invariant-loop-turn : goal.invariant-loop-turn
invariant-loop-turn g l = goal.C-IsAlwaysCallable g l.check × Turns g.C.FnMut l.alloc l.first l.turn l.initial.check
    l.check

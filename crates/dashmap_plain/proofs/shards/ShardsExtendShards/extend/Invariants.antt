use Rattle.std.specs.Iterator.{IsFinite, size}
use Rattle.dashmap_plain.specs.Extended.{PutsAll}
use Rattle.dashmap_plain.proofs.shards.ShardsExtendShards.extend.Given as goal

-- the pairs that came so far were put in
abbrev pub invariant-loop-key : goal.invariant-loop-key
invariant-loop-key g l =
    g.I.Iterator.can_next l.rest
    × IsFinite (g.I.Iterator.remaining l.rest)
    × PutsAll g.S.BuildHasher g.S.Hasher.Hasher g.K.Hash.hash_input g.K.PartialEq.eq l.yielded l.initial.self l.self

abbrev pub decreases-loop-key : goal.decreases-loop-key
decreases-loop-key g l = size (g.I.Iterator.remaining l.rest)

use Rattle.std.proofs.Common.{◌≡◌}
use Rattle.std.specs.Iterator.{IsFinite, size}
use Rattle.std.specs.List.{All}
use Rattle.dashmap.specs.Set.Owner.{KeyIsPut}
use Rattle.dashmap.proofs.set.DashSet.extend.Given as goal

-- the locks stay, the iterator may be asked on, and the keys that came so far were put in
abbrev pub invariant-loop-key : goal.invariant-loop-key
invariant-loop-key g l =
    (l.self ≡ l.fn.self)
    × g.I.Iterator.can_next l.rest
    × IsFinite (g.I.Iterator.remaining l.rest)
    × All (KeyIsPut g.Q.OwnerEvidence.taken g.Q.OwnerEvidence.put g.S.BuildHasher g.S.Hasher.Hasher g.K.Hash.hash_input
    g.K.PartialEq.eq l.fn.self) l.yielded

abbrev pub decreases-loop-key : goal.decreases-loop-key
decreases-loop-key g l = size (g.I.Iterator.remaining l.rest)

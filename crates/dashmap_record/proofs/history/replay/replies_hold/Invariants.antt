use Rattle.std.proofs.Common.{◌≡◌, drop}
use Rattle.dashmap_table.specs.Shards.{pair_at}
use Rattle.dashmap_record.specs.History.Replay.{replies_hold}
use Rattle.dashmap_record.proofs.history.replay.replies_hold.Given as goal

-- the whole holds on the first map where the rest holds on this one
abbrev pub invariant-loop-entry : goal.invariant-loop-entry
invariant-loop-entry g l =
    replies_hold g.K.PartialEq.eq g.V.PartialEq.eq
    (pair_at g.S.BuildHasher g.S.Hasher.Hasher g.K.Hash.hash_input g.K.PartialEq.eq l.fn.map) l.history
    ≡ replies_hold g.K.PartialEq.eq g.V.PartialEq.eq
    (pair_at g.S.BuildHasher g.S.Hasher.Hasher g.K.Hash.hash_input g.K.PartialEq.eq l.map)
    (drop l.entry-index l.history)

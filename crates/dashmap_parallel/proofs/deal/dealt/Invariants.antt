use Rattle.std.proofs.Common.{◌≡◌, length, map}
use Rattle.dashmap_parallel.specs.Puts.{piece_at, hashed, AreDealt}
use Rattle.dashmap_parallel.proofs.deal.dealt.Given as goal

-- the pairs so far are dealt out
abbrev pub invariant-loop-key : goal.invariant-loop-key
invariant-loop-key g l =
    (length l.lists.items ≡ l.pieces)
    × AreDealt (piece_at (length l.map.locks) l.pieces)
    (map (hashed g.S.BuildHasher g.S.Hasher.Hasher g.K.Hash.hash_input l.map.hasher) l.yielded) l.lists.items

use Rattle.std.proofs.Common.{◌≡◌}
use Rattle.std.specs.List.{AllWithin}
use Rattle.crossbeam_utils.specs.Padded.{padded_value}
use Rattle.dashmap_map.specs.Owner.{Alone, Reserves}
use Rattle.dashmap_map.proofs.alone.reserve_each.Given as goal

-- room was made behind the locks before this one
abbrev pub invariant-loop-shard : goal.invariant-loop-shard
invariant-loop-shard g l = (l.locks ≡ l.initial.locks)
    × AllWithin (λ lock. Alone g.Q.OwnerEvidence.taken g.Q.OwnerEvidence.put
    (Reserves g.K.PartialEq.eq l.fn.additional) (padded_value lock)) l.initial.locks 0 l.shard

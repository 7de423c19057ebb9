use Rattle.std.proofs.Common.{take}
use Rattle.std.specs.List.{AllZip}
use Rattle.crossbeam_utils.specs.Padded.{padded_value}
use Rattle.dashmap_plain.specs.Clones.Clones.{IsCloneBehind}
use Rattle.dashmap_plain.proofs.clones.map.clone_locked.Given as goal

-- the clones of the shards that were held so far
abbrev pub invariant-loop-lock : goal.invariant-loop-lock
invariant-loop-lock g l =
    AllZip (λ lock clone. IsCloneBehind g.Q.Evidence.showed
    g.K.PartialEq.eq (padded_value lock) clone) (take l.lock-index l.locks) l.clones.items

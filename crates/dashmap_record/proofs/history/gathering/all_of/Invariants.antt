use Rattle.std.proofs.Common.{◌≡◌, flat_map, take}
use Rattle.dashmap_record.proofs.history.gathering.all_of.Given as goal

abbrev pub invariant-loop-history : goal.invariant-loop-history
invariant-loop-history g l = l.all.items ≡ flat_map (λ history. history.items) (take l.history-index l.histories)

use Rattle.std.proofs.Common.{◌≡◌, take, true}
use Rattle.std.specs.List.{list_all}
use Rattle.dashmap_record.specs.History.Replay.{nothing, replies_hold}
use Rattle.dashmap_record.proofs.history.replay.are_replayed.Given as goal

abbrev pub invariant-loop-history : goal.invariant-loop-history
invariant-loop-history g l =
    list_all (λ history. replies_hold g.K.PartialEq.eq g.V.PartialEq.eq (nothing g.row.K.Denot g.row.V.Denot)
    history.items) (take l.history-index l.histories) ≡ true

use Rattle.std.proofs.Common.{◌≡◌, map, take, true}
use Rattle.std.specs.List.{list_all}
use Rattle.dashmap_record.specs.History.Match.{is_in}
use Rattle.dashmap_record.proofs.history.matching.are_logged.Given as goal

abbrev pub invariant-loop-history : goal.invariant-loop-history
invariant-loop-history g l =
    list_all (λ history. list_all
    (λ e. is_in g.K.PartialEq.eq g.V.PartialEq.eq (map (λ list. list.items) l.logs) e.caller e) history.items)
    (take l.history-index l.histories) ≡ true

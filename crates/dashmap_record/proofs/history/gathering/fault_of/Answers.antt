use Rattle.std.proofs.Common.{sym, ◌∙◌}
use Rattle.std.proofs.lemmas.List.Folds.{list_all-map}
use Rattle.dashmap_record.specs.History.Replay.{nothing, replies_hold}
use Rattle.dashmap_record.proofs.HistoryFacts.Verdicts.{no_fault, wrong_reply}
use Rattle.dashmap_record.proofs.history.gathering.fault_of.Goals as goal

pub returns-then-branch : goal.returns-then-branch
returns-then-branch g c =
    no_fault _ _ (sym c.mismatch.ensures ∙ c.in_default.is)
    (list_all-map (replies_hold g.K.PartialEq.eq g.V.PartialEq.eq (nothing g.row.K.Denot g.row.V.Denot)) (λ l. l.items)
    c.args.histories.now ∙ (sym c.in_ok-are_replayed.ensures ∙ c.if-branch.true))

pub returns-else-branch : goal.returns-else-branch
returns-else-branch g c =
    wrong_reply _ _ (sym c.mismatch.ensures ∙ c.in_default.is)
    (list_all-map (replies_hold g.K.PartialEq.eq g.V.PartialEq.eq (nothing g.row.K.Denot g.row.V.Denot)) (λ l. l.items)
    c.args.histories.now ∙ (sym c.in_ok-are_replayed.ensures ∙ c.if-branch.false))

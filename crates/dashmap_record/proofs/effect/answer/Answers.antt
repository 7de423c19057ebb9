use Rattle.dashmap_record.proofs.effect.answer.Goals as goal

pub returns-in_ok-replace_if-in-ReplaceIf-clause-after : goal.returns-in_ok-replace_if-in-ReplaceIf-clause-after
returns-in_ok-replace_if-in-ReplaceIf-clause-after g c =
    rw c.in-ReplaceIf.is (c.in_ok-replace_if-in-ReplaceIf.ensures.after)

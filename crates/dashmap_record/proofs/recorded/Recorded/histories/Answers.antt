use Rattle.std.proofs.lemmas.List.Elements.{All-weaker}
use Rattle.dashmap_record.specs.Replaying.{no_pair, Replies, HoldsForJudges}
use Rattle.dashmap_record.proofs.Judging.{judged}
use Rattle.dashmap_record.proofs.recorded.Recorded.histories.Goals as goal

pub returns-clause-judged : goal.returns-clause-judged
returns-clause-judged g c =
    let eq = g.K.PartialEq.eq in
    let alike = g.V.PartialEq.eq in
    All-weaker (λ history. Replies eq alike (no_pair g.row.K.Denot g.row.V.Denot) history.items)
    (λ history. HoldsForJudges eq alike history.items)
    (λ history hold. judged eq alike g.met.K.Eq.laws g.met.V.Eq.laws history.items hold) c.take_histories.result.items
    c.take_histories.ensures.replies

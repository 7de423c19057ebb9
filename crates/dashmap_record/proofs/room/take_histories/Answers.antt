use Rattle.std.proofs.Common.{◌≡◌, ◌∷◌, ◌+◌, ◌∙◌, sym, subst}
use Rattle.std.specs.Prelude.{IsTrue}
use Rattle.std.specs.List.{All}
use Rattle.std.specs.Vec.Iter.{into_iter_items, into_iter_len}
use Rattle.std.proofs.lemmas.Option.{MatchOption-at_some}
use Rattle.std.proofs.lemmas.List.Elements.{All-push}
use Rattle.dashmap_record.specs.History.Match.{rises}
use Rattle.dashmap_record.specs.Replaying.{no_pair, Replies}
use Rattle.dashmap_record.proofs.Answering.{count-taken}
use Rattle.dashmap_record.proofs.room.take_histories.Goals as goal

pub loop-shard-preserved : goal.loop-shard-preserved
loop-shard-preserved g c =
    let inv = c.loop-shard.invariant in
    let before = c.loop-shard.shard-iterator in
    let after = c.next.new.self in
    let step = MatchOption-at_some _
    (λ x. (into_iter_items before ≡ x ∷ into_iter_items after) × (into_iter_len after + 1 ≡ into_iter_len before))
    c.in-Some.shard c.in-Some.is c.next.ensures.steps in
    let items = c.push_reserved.ensures.items in (
      tt,
      tt,
      count-taken c.loop-shard.histories.items c.push_reserved.new.self.items c.into_history.result
          (into_iter_items before) (into_iter_items after) c.in-Some.shard _ inv.2 step.0 items,
      c.push_reserved.ensures.capacity ∙ inv.3,
      subst (λ l. All (λ history. IsTrue (rises history.items)) l) (sym items)
          (All-push (λ history. IsTrue (rises history.items)) c.loop-shard.histories.items c.into_history.result inv.4
          c.into_history.ensures.rise),
      subst (λ l. All (λ history. Replies g.K.PartialEq.eq g.V.PartialEq.eq (no_pair g.row.K.Denot g.row.V.Denot)
          history.items) l) (sym items)
          (All-push (λ history. Replies g.K.PartialEq.eq g.V.PartialEq.eq (no_pair g.row.K.Denot g.row.V.Denot)
          history.items) c.loop-shard.histories.items c.into_history.result inv.5 c.into_history.ensures.replies),
    )

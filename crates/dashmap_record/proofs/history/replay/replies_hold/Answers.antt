use Rattle.std.proofs.Common.{◌+◌, drop, refl, sym, ap, ◌∙◌}
use Rattle.dashmap_table.specs.Shards.{pair_at}
use Rattle.dashmap_record.specs.History.Entries.{same_reply}
use Rattle.dashmap_record.specs.History.Replay.{after}
use Rattle.dashmap_record.proofs.HistoryFacts.Replaying.{replies-agree, replies_on, replies_no, replies_end}
use Rattle.dashmap_record.proofs.history.replay.replies_hold.Goals as goal

pub loop-entry-init : goal.loop-entry-init
loop-entry-init g c = refl

pub returns-then-not-same_reply : goal.returns-then-not-same_reply
returns-then-not-same_reply g c =
    let plain = pair_at g.S.BuildHasher g.S.Hasher.Hasher g.K.Hash.hash_input g.K.PartialEq.eq c.loop-entry.map in
    sym (c.loop-entry.invariant
    ∙ replies_no g.K.PartialEq.eq g.V.PartialEq.eq plain c.args.history.now c.loop-entry.entry-index c.entry-item.result
    c.loop-entry-test.true c.entry-item.is
    (sym (c.same_reply.ensures ∙ ap (same_reply g.K.PartialEq.eq g.V.PartialEq.eq c.entry-item.result.reply)
    c.in_ok-reply.ensures.reply) ∙ c.if-not-same_reply.true))

pub loop-entry-preserved : goal.loop-entry-preserved
loop-entry-preserved g c =
    let plain = pair_at g.S.BuildHasher g.S.Hasher.Hasher g.K.Hash.hash_input g.K.PartialEq.eq c.loop-entry.map in
    let next = pair_at g.S.BuildHasher g.S.Hasher.Hasher g.K.Hash.hash_input g.K.PartialEq.eq c.answer.new.map in
    c.loop-entry.invariant
    ∙ (replies_on g.K.PartialEq.eq g.V.PartialEq.eq plain c.args.history.now c.loop-entry.entry-index
    c.entry-item.result c.loop-entry-test.true c.entry-item.is
    (sym (c.same_reply.ensures ∙ ap (same_reply g.K.PartialEq.eq g.V.PartialEq.eq c.entry-item.result.reply)
    c.in_ok-reply.ensures.reply) ∙ c.if-not-same_reply.false)
    ∙ replies-agree g.K.PartialEq.eq g.V.PartialEq.eq
    (after g.K.PartialEq.eq g.V.PartialEq.eq c.entry-item.result.call plain) next
    (λ q. sym (c.in_ok-reply.ensures.after q)) (drop (c.loop-entry.entry-index + 1) c.args.history.now))

pub returns : goal.returns
returns g c =
    let plain = pair_at g.S.BuildHasher g.S.Hasher.Hasher g.K.Hash.hash_input g.K.PartialEq.eq c.loop-entry.map in
    sym (c.loop-entry.invariant ∙ replies_end g.K.PartialEq.eq g.V.PartialEq.eq plain c.args.history.now
    c.loop-entry.entry-index c.loop-entry-test.false)

use Rattle.std.proofs.Common.{sym, ◌∙◌}
use Rattle.dashmap_record.proofs.Changes.{nothing_replaced}
use Rattle.dashmap_record.proofs.effect.replace_if.Goals as goal

pub returns-then-not-has_value-clause-after : goal.returns-then-not-has_value-clause-after
returns-then-not-has_value-clause-after g c =
    nothing_replaced g.K.PartialEq.eq g.met.K.Eq.laws g.V.PartialEq.eq c.args.shard.now c.args.hash c.args.key
    c.args.seen c.args.value (sym c.has_value.ensures ∙ c.if-not-has_value.true)

use Rattle.std.proofs.Common.{◌-◌, ◌/◌, ◌%◌, ◌^◌, ◌<◌, sym, ap, ◌∙◌, subst, arith}
use Rattle.dashmap_table.proofs.ShardAmounts.{log2-is, exponent_within, shifts-are, route_of-below}
use Rattle.dashmap_table.proofs.routing.route.Goals as goal

pub returns-clause-value : goal.returns-clause-value
returns-clause-value c =
    let exponent = log2-is c.ilog2.result c.args.shards c.ilog2.ensures.bound c.ilog2.ensures.power_le
    c.ilog2.ensures.next_power_gt in
    let most = (exponent_within c.args.shards c.requires).1 in
    shifts-are c.args.hash c.ilog2.result (omega (arith, most, exponent))
    ∙ ap (λ k. (c.args.hash % 2 ^ 57) / 2 ^ (57 - k)) (sym exponent)

pub returns-clause-below : goal.returns-clause-below
returns-clause-below c =
    subst (λ n. n < c.args.shards) (sym (returns-clause-value c)) (route_of-below c.args.hash c.args.shards c.requires)

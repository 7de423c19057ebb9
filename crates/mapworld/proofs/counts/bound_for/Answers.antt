use Rattle.std.proofs.Common.{arith}
use Rattle.mapworld.proofs.Bounds.{visits_fit, deeds_fit}
use Rattle.mapworld.proofs.counts.bound_for.Goals as goal

pub overflow_mul-visits-4 : goal.overflow_mul-visits-4
overflow_mul-visits-4 c =
    let fits = visits_fit c.args.threads c.args.calls c.args.shards c.requires.threads c.requires.calls
    c.requires.shards in
    omega (arith, fits)

pub overflow_add-result : goal.overflow_add-result
overflow_add-result c =
    let visits = visits_fit c.args.threads c.args.calls c.args.shards c.requires.threads c.requires.calls
    c.requires.shards in
    let deeds = deeds_fit c.args.calls c.args.pairs c.requires.calls c.requires.pairs in
    omega (arith, visits, deeds)

pub returns-clause-fits : goal.returns-clause-fits
returns-clause-fits c =
    let visits = visits_fit c.args.threads c.args.calls c.args.shards c.requires.threads c.requires.calls
    c.requires.shards in
    let deeds = deeds_fit c.args.calls c.args.pairs c.requires.calls c.requires.pairs in
    omega (arith, visits, deeds)

use Rattle.std.proofs.Common.{◌==◌, rules}
use borrow.Author.Tests.{tests}
use Rattle.parking_lot_core_model.specs.Chains.{walk_from, left_of}
use Rattle.std.proofs.lemmas.Iterator.Consumers.{YieldsList-from_first, YieldsList-from_filter, YieldsList-at}
use Rattle.std.proofs.lemmas.Iterator.{items_from_collect, YieldsList-from_map}
use Rattle.parking_lot_core_model.proofs.chains.threads_under.Goals as goal

pub returns : goal.returns
returns g c = items_from_collect c.collect.result c.collect.ensures.ran
    (YieldsList-from_map _ (λ spot. spot.waiter.thread)
    (YieldsList-at c.map.ensures.source (YieldsList-from_filter _ (λ spot. spot.key == c.args.key)
    (YieldsList-from_first (λ x. x) left_of (walk_from c.args.nodes.now c.args.first) cc) c.filter.ensures.closure
    (λ x r q k. search (rules, tests)))) c.map.ensures.closure (λ x r q k. search (rules, tests)))

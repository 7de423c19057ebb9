use Rattle.std.proofs.Common.{inl, ◌==◌, ◌+◌, ◌<◌, ◌^◌, sym, subst, arith, rules, length}
use borrow.Author.Tests.{tests}
use Rattle.parking_lot_core_model.specs.declared.chains.Trail.{Trail}
use Rattle.parking_lot_core_model.specs.Chains.{walk_from, left_of}
use Rattle.std.proofs.lemmas.Iterator.Consumers.{YieldsList-from_first, YieldsList-from_filter}
use Rattle.std.proofs.lemmas.Iterator.Search.{position_from_yields_List}
use Rattle.parking_lot_core_model.proofs.chains.position_under.Goals as goal

pub position-requires-clause-fits : goal.position-requires-clause-fits
position-requires-clause-fits c = inl (subst (λ (w : Trail). 0
    + length (left_of w) < 2 ^ 64) (sym c.filter.ensures.source) (omega (arith, c.walk.ensures.few)))

pub returns : goal.returns
returns c = position_from_yields_List (λ spot. spot.waiter.thread == c.args.thread) c.position.new.self _
    c.position.result c.position.ensures.ran
    (YieldsList-from_filter _ (λ spot. spot.key == c.args.key)
    (YieldsList-from_first (λ x. x) left_of (walk_from c.args.nodes.now c.args.first) cc) c.filter.ensures.closure
    (λ x r q k. search (rules, tests)))
    (λ x b q k. search (rules, tests))

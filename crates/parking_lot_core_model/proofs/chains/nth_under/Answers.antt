use Rattle.std.proofs.Common.{◌==◌, ◌∙◌, sym, rules}
use borrow.Author.Tests.{tests}
use Rattle.parking_lot_core_model.specs.Chains.{walk_from, left_of}
use Rattle.std.proofs.lemmas.Iterator.Consumers.{YieldsList-from_first, YieldsList-from_filter, nth_from_yields_List}
use Rattle.std.proofs.lemmas.Iterator.Adapters.{option_map_id}
use Rattle.parking_lot_core_model.proofs.chains.nth_under.Goals as goal

pub returns : goal.returns
returns c = sym (option_map_id c.nth.result)
    ∙ nth_from_yields_List c.nth.result c.nth.new.self c.args.nth c.nth.ensures.ran
    (YieldsList-from_filter _ (λ spot. spot.key == c.args.key)
    (YieldsList-from_first (λ x. x) left_of (walk_from c.args.nodes.now c.args.first) cc) c.filter.ensures.closure
    (λ x r q k. search (rules, tests)))

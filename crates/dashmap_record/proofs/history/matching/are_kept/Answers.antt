use Rattle.std.proofs.Common.{rules, tests, map, ◌∙◌}
use Rattle.std.proofs.lemmas.Iterator.{YieldsList-from_slice}
use Rattle.std.proofs.lemmas.Iterator.Consumers.{YieldsList-from_enumerate}
use Rattle.std.proofs.lemmas.Iterator.Search.{all_from_yields_List}
use Rattle.dashmap_record.specs.History.Match.{is_kept_list}
use Rattle.dashmap_record.proofs.HistoryFacts.Numbered.{list_all-numbered}
use Rattle.dashmap_record.proofs.history.matching.are_kept.Goals as goal

pub returns : goal.returns
returns g c =
    all_from_yields_List
    (λ p. is_kept_list g.K.PartialEq.eq g.V.PartialEq.eq (map (λ list. list.items) c.args.histories.now)
    (p.0, p.1.items)) _ _ _ c.all.ensures.ran
    (YieldsList-from_enumerate (YieldsList-from_slice c.args.logs.now cc) (cc)) (λ x b q k. search (rules, tests))
    ∙ list_all-numbered (is_kept_list g.K.PartialEq.eq g.V.PartialEq.eq (map (λ list. list.items) c.args.histories.now))
    (λ list. list.items) 0 c.args.logs.now

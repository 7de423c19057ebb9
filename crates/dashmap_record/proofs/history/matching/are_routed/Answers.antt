use Rattle.std.proofs.Common.{rules, tests, length, map, ◌∙◌, ap, sym}
use Rattle.std.specs.List.{list_all, enumerate_from}
use Rattle.std.proofs.lemmas.Iterator.{YieldsList-from_slice}
use Rattle.std.proofs.lemmas.Iterator.Consumers.{YieldsList-from_enumerate}
use Rattle.std.proofs.lemmas.Iterator.Search.{all_from_yields_List}
use Rattle.std.proofs.lemmas.List.{length-map}
use Rattle.dashmap_record.specs.History.Match.{is_routed_list}
use Rattle.dashmap_record.proofs.HistoryFacts.Numbered.{list_all-numbered}
use Rattle.dashmap_record.proofs.history.matching.are_routed.Goals as goal

pub returns : goal.returns
returns g c =
    all_from_yields_List (λ p. is_routed_list (length c.args.histories.now) (p.0, p.1.items)) _ _ _ c.all.ensures.ran
    (YieldsList-from_enumerate (YieldsList-from_slice c.args.histories.now cc) (cc))
    (λ x b q k. search (rules, tests))
    ∙ (list_all-numbered (is_routed_list (length c.args.histories.now)) (λ list. list.items) 0 c.args.histories.now
    ∙ ap (λ n. list_all (is_routed_list n) (enumerate_from 0 (map (λ list. list.items) c.args.histories.now)))
    (sym (length-map c.args.histories.now (λ list. list.items))))

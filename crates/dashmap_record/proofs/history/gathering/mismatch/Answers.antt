use Rattle.std.proofs.Common.{◌==◌, map, sym, ◌∙◌}
use Rattle.std.specs.List.{list_all}
use Rattle.std.proofs.lemmas.List.Folds.{list_all-map}
use Rattle.dashmap_table.specs.Shards.{key_hash}
use Rattle.dashmap_record.specs.History.Entries.{key_of}
use Rattle.dashmap_record.specs.History.Match.{rises, is_in}
use Rattle.dashmap_record.proofs.HistoryFacts.Verdicts.{not_rising, both_rise, first_falls, second_falls, not_logged}
use Rattle.dashmap_record.proofs.HistoryFacts.Verdicts.{not_kept, not_routed, not_hashed, no_mismatch}
use Rattle.dashmap_record.proofs.history.gathering.mismatch.Goals as goal

pub returns-then-not-all_rise : goal.returns-then-not-all_rise
returns-then-not-all_rise g c =
    not_rising _ _ _ _ _
    (first_falls _ _ (list_all-map rises (λ l. l.items) c.args.histories.now ∙ sym c.if-not-all_rise.ensures))

pub returns-then-not-all_rise-2 : goal.returns-then-not-all_rise-2
returns-then-not-all_rise-2 g c =
    not_rising _ _ _ _ _
    (second_falls _ _ (list_all-map rises (λ l. l.items) c.args.histories.now ∙ sym c.if-not-all_rise.ensures)
    (list_all-map rises (λ l. l.items) c.args.logs.now ∙ sym c.if-not-all_rise-2.ensures))

pub are_logged-requires : goal.are_logged-requires
are_logged-requires g c =
    list_all-map rises (λ l. l.items) c.args.logs.now ∙ sym c.if-not-all_rise-2.ensures

pub returns-then-not-are_logged : goal.returns-then-not-are_logged
returns-then-not-are_logged g c =
    not_logged _ _ _ _ _
    (both_rise _ _ (list_all-map rises (λ l. l.items) c.args.histories.now ∙ sym c.if-not-all_rise.ensures)
    (list_all-map rises (λ l. l.items) c.args.logs.now ∙ sym c.if-not-all_rise-2.ensures))
    (list_all-map (λ es. list_all
    (λ e. is_in g.K.PartialEq.eq g.V.PartialEq.eq (map (λ l. l.items) c.args.logs.now) e.caller e) es)
    (λ l. l.items) c.args.histories.now ∙ sym c.if-not-are_logged.ensures)

pub are_kept-requires : goal.are_kept-requires
are_kept-requires g c =
    list_all-map rises (λ l. l.items) c.args.histories.now ∙ sym c.if-not-all_rise.ensures

pub returns-then-not-are_kept : goal.returns-then-not-are_kept
returns-then-not-are_kept g c =
    not_kept _ _ _ _ _
    (both_rise _ _ (list_all-map rises (λ l. l.items) c.args.histories.now ∙ sym c.if-not-all_rise.ensures)
    (list_all-map rises (λ l. l.items) c.args.logs.now ∙ sym c.if-not-all_rise-2.ensures))
    (list_all-map (λ es. list_all
    (λ e. is_in g.K.PartialEq.eq g.V.PartialEq.eq (map (λ l. l.items) c.args.logs.now) e.caller e) es)
    (λ l. l.items) c.args.histories.now ∙ sym c.if-not-are_logged.ensures) (sym c.if-not-are_kept.ensures)

pub returns-then-not-are_routed : goal.returns-then-not-are_routed
returns-then-not-are_routed g c =
    not_routed _ _ _ _ _
    (both_rise _ _ (list_all-map rises (λ l. l.items) c.args.histories.now ∙ sym c.if-not-all_rise.ensures)
    (list_all-map rises (λ l. l.items) c.args.logs.now ∙ sym c.if-not-all_rise-2.ensures))
    (list_all-map (λ es. list_all
    (λ e. is_in g.K.PartialEq.eq g.V.PartialEq.eq (map (λ l. l.items) c.args.logs.now) e.caller e) es)
    (λ l. l.items) c.args.histories.now ∙ sym c.if-not-are_logged.ensures) (sym c.if-not-are_kept.ensures)
    (sym c.if-not-are_routed.ensures)

pub returns-then-not-are_hashed : goal.returns-then-not-are_hashed
returns-then-not-are_hashed g c =
    not_hashed _ _ _ _ _
    (both_rise _ _ (list_all-map rises (λ l. l.items) c.args.histories.now ∙ sym c.if-not-all_rise.ensures)
    (list_all-map rises (λ l. l.items) c.args.logs.now ∙ sym c.if-not-all_rise-2.ensures))
    (list_all-map (λ es. list_all
    (λ e. is_in g.K.PartialEq.eq g.V.PartialEq.eq (map (λ l. l.items) c.args.logs.now) e.caller e) es)
    (λ l. l.items) c.args.histories.now ∙ sym c.if-not-are_logged.ensures) (sym c.if-not-are_kept.ensures)
    (sym c.if-not-are_routed.ensures)
    (list_all-map (λ es. list_all
    (λ e. e.hash == key_hash g.S.BuildHasher g.S.Hasher.Hasher g.K.Hash.hash_input c.args.hasher.now
    (key_of e.call)) es) (λ l. l.items) c.args.histories.now ∙ sym c.if-not-are_hashed.ensures)

pub returns : goal.returns
returns g c =
    no_mismatch _ _ _ _ _
    (both_rise _ _ (list_all-map rises (λ l. l.items) c.args.histories.now ∙ sym c.if-not-all_rise.ensures)
    (list_all-map rises (λ l. l.items) c.args.logs.now ∙ sym c.if-not-all_rise-2.ensures))
    (list_all-map (λ es. list_all
    (λ e. is_in g.K.PartialEq.eq g.V.PartialEq.eq (map (λ l. l.items) c.args.logs.now) e.caller e) es)
    (λ l. l.items) c.args.histories.now ∙ sym c.if-not-are_logged.ensures) (sym c.if-not-are_kept.ensures)
    (sym c.if-not-are_routed.ensures)
    (list_all-map (λ es. list_all
    (λ e. e.hash == key_hash g.S.BuildHasher g.S.Hasher.Hasher g.K.Hash.hash_input c.args.hasher.now
    (key_of e.call)) es) (λ l. l.items) c.args.histories.now ∙ sym c.if-not-are_hashed.ensures)

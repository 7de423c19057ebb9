use Rattle.std.proofs.Common.{◌≡◌, ◌∙◌, ◌++◌, sym, ap, subst, length, arith}
use Rattle.parking_lot_core_model.specs.Chains.{entries, MayBeLinked}
use Rattle.parking_lot_core_model.proofs.Spreading.{empty_linked, empty_entries, may_be_linked}
use Rattle.parking_lot_core_model.proofs.spread.spread.Goals as goal

pub link_all-requires-clause-linked : goal.link_all-requires-clause-linked
link_all-requires-clause-linked g c = empty_linked c.args.nodes.now.items c.add_chains.new.heads.items
    c.add_chains.ensures.empty (let h = c.add_chains.ensures.count in let m = c.requires.more in omega (arith, h, m))

pub link_all-requires-clause-empty : goal.link_all-requires-clause-empty
link_all-requires-clause-empty g c = empty_entries c.args.nodes.now.items c.add_chains.new.heads.items
    c.add_chains.ensures.empty

pub link_all-requires-clause-order : goal.link_all-requires-clause-order
link_all-requires-clause-order g c =
    let ns = c.args.nodes.now.items in
    let hs = c.args.heads.now.items in
    let order : c.deref-3.result.now ≡ entries ns hs =
    c.deref-3.ensures.value
    ∙ (c.in_ok-gather.ensures
    ∙ (ap (λ es. es ++ entries c.deref-2.result.now c.deref.result.now) (c.in_ok-reserve-2.ensures.items
    ∙ c.clear.ensures.items)
    ∙ (ap (λ xs. entries xs c.deref.result.now) c.deref-2.ensures.value
    ∙ ap (entries ns) (c.deref.ensures.value ∙ c.in_ok-reserve.ensures.items)))) in
    subst (MayBeLinked (length ns)) (sym order) (may_be_linked ns hs c.requires.linked)

use Rattle.std.proofs.Common.{◌<◌, ◌∙◌, ◌++◌, take, sym, ap, get_or, length, arith, append_assoc}
use Rattle.std.proofs.lemmas.Option.{slice_get-get_or, get_or_from_slice_get}
use Rattle.parking_lot_core_model.specs.declared.chains.Head.{Head}
use Rattle.parking_lot_core_model.specs.Chains.{entries, chain, nobody}
use Rattle.parking_lot_core_model.proofs.Spreading.{entries_more}
use Rattle.parking_lot_core_model.proofs.spread.gather.Goals as goal

pub loop-head-preserved : goal.loop-head-preserved
loop-head-preserved g c =
    let hs = c.args.heads.now in
    let ns = c.args.nodes.now in
    let i = c.loop-head.head-index in
    let less : i < length hs = omega arith in
    let x : Head = get_or hs i nobody in
    c.in_ok-gather_chain.ensures
    ∙ (ap (λ es. es ++ chain ns x) c.loop-head.invariant
    ∙ (append_assoc c.args.order.now.items (entries ns (take i hs)) (chain ns x)
    ∙ ap (λ es. c.args.order.now.items ++ es)
    (sym (entries_more ns hs i x less (get_or_from_slice_get hs i x x (slice_get-get_or hs i nobody less))))))

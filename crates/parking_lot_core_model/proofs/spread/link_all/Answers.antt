use Rattle.std.proofs.Common.{ℕ, ◌<◌, sym, subst, get_or, length, arith}
use Rattle.std.proofs.lemmas.Option.{slice_get-get_or}
use Rattle.parking_lot_core_model.proofs.Spreading.{within_at, one_more, blank}
use Rattle.parking_lot_core_model.proofs.spread.link_all.Goals as goal

pub link-requires-clause-within : goal.link-requires-clause-within
link-requires-clause-within g c =
    let xs = c.args.order.now in
    let i = c.loop-entry.entry-index in
    let less : i < length xs = omega arith in
    subst (λ (n : ℕ). (get_or xs i blank).item.thread < n) (sym c.loop-entry.invariant.room)
    (within_at (length c.args.nodes.now.items) xs i (get_or xs i blank) c.requires.order.within
    (slice_get-get_or xs i blank less))

pub loop-entry-preserved : goal.loop-entry-preserved
loop-entry-preserved g c =
    let xs = c.args.order.now in
    let i = c.loop-entry.entry-index in
    let less : i < length xs = omega arith in
    let h = c.loop-entry.invariant in
    let r = one_more c.loop-entry.heads.items c.loop-entry.nodes.items xs i (length c.args.nodes.now.items)
    (length c.args.heads.now.items) (get_or xs i blank) c.link.new.heads.items c.link.new.nodes.items
    (record { linked = h.linked; lists = h.lists; total = h.total; room = h.room; chains = h.chains }) c.requires.order
    (slice_get-get_or xs i blank less) c.link.ensures in
    record { linked = r.linked; lists = r.lists; total = r.total; room = r.room; chains = r.chains }

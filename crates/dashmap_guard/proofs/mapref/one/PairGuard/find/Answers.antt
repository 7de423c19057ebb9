use Rattle.std.proofs.Common.{IsSome, refl, sym, subst, ◌∙◌}
use Rattle.dashmap_table.specs.Slots.{at}
use Rattle.dashmap_table.proofs.Finding.{slot_of-is}
use Rattle.dashmap_guard.proofs.mapref.one.PairGuard.find.Goals as goal

pub of_slot-requires : goal.of_slot-requires
of_slot-requires g c =
    let is = slot_of-is g.K.PartialEq.eq c.look.result.now.slots c.args.hash c.args.key.now c.in-Some.slot
    (sym c.find.ensures.slot ∙ c.in-Some.is) in
    subst (λ t. IsSome (at t.slots c.in-Some.slot)) c.look.ensures (subst IsSome (sym is.1) refl)

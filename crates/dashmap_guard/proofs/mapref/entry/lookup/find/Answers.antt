use Rattle.std.proofs.Common.{◌≡◌, ◌<◌, None, IsSome, refl, sym, subst, ◌∙◌, arith}
use Rattle.dashmap_table.specs.Slots.{at, count, slot_of}
use Rattle.dashmap_table.proofs.Finding.{slot_of-is}
use Rattle.dashmap_guard.proofs.Absent.{absent-same}
use Rattle.dashmap_guard.proofs.mapref.entry.lookup.find.Goals as goal

pub of_slot-requires : goal.of_slot-requires
of_slot-requires g c =
    let is = slot_of-is g.K.PartialEq.eq c.look.result.now.slots c.args.hash c.args.key c.in-Some.slot
    (sym c.find.ensures.slot ∙ c.in-Some.is) in
    subst (λ t. IsSome (at t.slots c.in-Some.slot)) c.look.ensures (subst IsSome (sym is.1) refl)

pub invariant_of-result-in-Ok : goal.invariant_of-result-in-Ok
invariant_of-result-in-Ok g c =
    let back = g.met.W.LenderMut.reads_written c.args.guard.inner c.reserve.new.self in
    let shown = subst (λ t. slot_of g.K.PartialEq.eq t.slots c.args.hash c.args.key ≡ None) c.look.ensures
    (sym c.find.ensures.slot ∙ c.in-None.is) in
    let lent = subst (λ t. slot_of g.K.PartialEq.eq t.slots c.args.hash c.args.key ≡ None) (sym c.lend.ensures.value)
    shown in
    let absent = absent-same g.K.PartialEq.eq c.lend.result.now c.reserve.new.self c.reserve.ensures.pairs c.args.hash
    c.args.key lent in
    let room : count c.reserve.new.self.slots < c.reserve.new.self.room = omega (arith, c.in-Ok.ensures.ok) in (
      subst (λ t. slot_of g.K.PartialEq.eq t.slots c.args.hash c.args.key ≡ None) (sym back) absent,
      subst (λ t. count t.slots < t.room) (sym back) room,
    )

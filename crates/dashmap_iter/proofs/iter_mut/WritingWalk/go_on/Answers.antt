use Rattle.std.proofs.Common.{suc, refl}
use Rattle.std.proofs.lemmas.Option.{MatchOption-at_none}
use Rattle.dashmap_table.specs.Slots.{IsNextFull}
use Rattle.dashmap_iter.specs.Lending.{slots_held, IsThrough}
use Rattle.dashmap_iter.proofs.iter_mut.WritingWalk.go_on.Goals as goal

pub loop-self-init : goal.loop-self-init
loop-self-init g c = (0, refl)

pub loop-self-preserved : goal.loop-self-preserved
loop-self-preserved g c =
    let through = MatchOption-at_none (IsThrough (λ h. g.W.Lender.part h.inner) c.loop-self.self)
    (IsNextFull (slots_held (λ h. g.W.Lender.part h.inner) c.loop-self.self.held) c.loop-self.self.from)
    c.in_default.is c.next_slot.ensures in
    (suc c.loop-self.invariant.0, (c.loop-self.self, c.loop-self.invariant.1, through, c.enter.ensures))

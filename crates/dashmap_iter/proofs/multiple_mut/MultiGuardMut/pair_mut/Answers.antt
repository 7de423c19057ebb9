use Rattle.std.proofs.Common.{refl}
use Rattle.dashmap_table.specs.Slots.{at}
use Rattle.dashmap_iter.specs.Lending.{slots_held}
use Rattle.dashmap_iter.specs.Writing.{walk_written}
use Rattle.dashmap_iter.proofs.Writing.{if_full_at}
use Rattle.dashmap_iter.proofs.multiple_mut.MultiGuardMut.pair_mut.Goals as goal

pub returns : goal.returns
returns g c = (
  (
    refl,
    λ w.
        let walk = walk_written (λ h. g.W.Lender.part h.inner)
        (λ h table. record h { inner = g.W.LenderMut.with_part h.inner table }) c.args.self.now.walk.now
        c.args.self.now.slot w in
        if_full_at (at (slots_held (λ h. g.W.Lender.part h.inner) walk.held) c.args.self.now.slot)
        (λ full. record c.args.self.now { walk = record c.args.self.now.walk { now = walk }; full = full })
        c.args.self.now _,
  ),
  record { writes_back = tt; pair = c.lend.ensures.pair },
)

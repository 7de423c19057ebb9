use Rattle.std.proofs.Common.{subst}
use Rattle.dashmap_view.specs.Parallel.Calls.{WritesEach}
use Rattle.dashmap_iter.specs.Walks.Held.{WhileHeld}
use Rattle.dashmap_parallel.proofs.written.fn.SharedIterMut.for_each.in_pieces.Goals as goal

pub returns : goal.returns
returns g c =
    subst (λ lock. WhileHeld g.Q.Evidence.held lock
    (WritesEach g.F.Fn c.captures.f.now)) c.deref.ensures c.write_behind.ensures

use Rattle.std.proofs.Common.{subst}
use Rattle.std.specs.Prelude.{All}
use Rattle.crossbeam_utils.specs.Padded.{padded_value}
use Rattle.dashmap_view.specs.Parallel.Calls.{WritesEach}
use Rattle.dashmap_iter.specs.Walks.Held.{WhileHeld}
use Rattle.dashmap_parallel.proofs.written.SharedIterMut.for_each.Goals as goal

pub returns : goal.returns
returns g c =
    subst (All (λ lock. WhileHeld g.Q.Evidence.held
    (padded_value lock) (WritesEach g.F.Fn c.args.f))) c.self.view_is
    (λ k d lt.
    let visit = c.in_pieces.ensures k d lt in
    subst (λ lock. WhileHeld g.Q.Evidence.held (padded_value lock)
    (WritesEach g.F.Fn c.args.f)) visit.shows visit.says.met)

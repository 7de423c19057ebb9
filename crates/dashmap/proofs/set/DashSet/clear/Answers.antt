use Rattle.std.proofs.Common.{◌≡◌, ℕ, None, subst}
use Rattle.dashmap_table.specs.Slots.{at}
use Rattle.dashmap_iter.specs.Walks.Held.{EachLocked}
use Rattle.dashmap.proofs.set.DashSet.clear.Goals as goal

pub returns : goal.returns
returns g c =
    subst (λ m. EachLocked {K = g.row.K.Denot} {V = Unit {0}} g.Q.Evidence.held m
    (λ p q. (i : ℕ) → at q.1.slots i ≡ None) (c.args.td.now, tt {0}) (c.clear.new.td, tt {0})) c.self.view_is
    c.clear.ensures

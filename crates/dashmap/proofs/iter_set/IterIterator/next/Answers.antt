use Rattle.std.proofs.Common.{sym, subst}
use Rattle.std.specs.Sync.RwLock.{read_guard_value}
use Rattle.dashmap_iter.specs.Lending.{by_some_wait, Gives}
use Rattle.dashmap.proofs.iter_set.IterIterator.next.Goals as goal

pub returns-clause-steps : goal.returns-clause-steps
returns-clause-steps g c =
    subst (λ v. Gives {V = Unit {0}} g.K.PartialEq.eq (λ h. read_guard_value h.inner) (λ h. h.held.0.place.now)
    (by_some_wait g.Q.Evidence.showed) v c.of_item.result c.next.new.self) c.self.view_is
    (subst (λ r. Gives {V = Unit {0}} g.K.PartialEq.eq (λ h. read_guard_value h.inner) (λ h. h.held.0.place.now)
    (by_some_wait g.Q.Evidence.showed) c.self.inside.walk r c.next.new.self) (sym c.of_item.ensures)
    c.next.ensures.steps)

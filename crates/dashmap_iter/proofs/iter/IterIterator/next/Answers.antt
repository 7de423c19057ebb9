use Rattle.std.proofs.Common.{Some, true, sym, ap, ◌∙◌}
use Rattle.std.specs.Sync.RwLock.{read_guard_value}
use Rattle.dashmap_iter.specs.Lending.{by_some_wait}
use Rattle.dashmap_iter.proofs.Leaving.{shared, progress}
use Rattle.dashmap_iter.proofs.iter.IterIterator.next.Goals as goal

pub returns-in-Ok-Some-clause-steps : goal.returns-in-Ok-Some-clause-steps
returns-in-Ok-Some-clause-steps g c =
    let there = c.in-Ok-Some.ensures.there in
    let next = rw c.in-Ok-Some.field-0-is at there.2 in
    shared g.K.PartialEq.eq (λ h. read_guard_value h.inner) (λ h. h.held.0.place.now) (by_some_wait g.Q.Evidence.showed) c.args.self.now c.go_on.new.self
    c.in-Ok-Some.slot there.0 c.share.result c.share.new.self
    (sym (ap (λ w. w.failed) c.self.view_is) ∙ c.if-self.false) there.1 next c.share.ensures.lent
    c.share.ensures.refused

pub returns-in-Ok-Some-clause-goes : goal.returns-in-Ok-Some-clause-goes
returns-in-Ok-Some-clause-goes g c =
    progress g.K.PartialEq.eq (λ h. read_guard_value h.inner) (λ h. h.held.0.place.now) (by_some_wait g.Q.Evidence.showed) c.args.self.now
    (Some c.share.result) c.share.new.self (returns-in-Ok-Some-clause-steps g c)

pub returns-in-Err-clause-steps : goal.returns-in-Err-clause-steps
returns-in-Err-clause-steps g c =
    record {
      ready = sym (ap (λ w. w.failed) c.self.view_is) ∙ c.if-self.false;
      passed = c.in-Err.ensures.refused.0;
      stop = c.go_on.new.self;
      passes = c.in-Err.ensures.refused.1;
      after = ap (λ w. record { locks = w.locks; next = w.next; held = w.held; from = w.from; failed = true })
          c.self-in-Err.view_is;
    }

pub returns-in-Err-clause-goes : goal.returns-in-Err-clause-goes
returns-in-Err-clause-goes g c =
    progress g.K.PartialEq.eq (λ h. read_guard_value h.inner) (λ h. h.held.0.place.now) (by_some_wait g.Q.Evidence.showed) c.args.self.now _ _
    (returns-in-Err-clause-steps g c)

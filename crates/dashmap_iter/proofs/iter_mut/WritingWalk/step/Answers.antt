use Rattle.std.proofs.Common.{◌+◌, ap, sym, subst}
use Rattle.dashmap_iter.specs.Writing.{LendsToWrite}
use Rattle.dashmap_iter.proofs.Leaving.{item_left}
use Rattle.dashmap_iter.proofs.Writing.{lends_found}
use Rattle.dashmap_iter.proofs.iter_mut.WritingWalk.step.Goals as goal

pub returns-in-Some-clause-lends : goal.returns-in-Some-clause-lends
returns-in-Some-clause-lends g c =
    let there = c.in-Some.ensures in
    subst (λ w. LendsToWrite (λ h. g.W.Lender.part h.inner) g.K.PartialEq.eq (λ h. g.H.Hold.lock_of h.held.0) g.L.GivesShards.seen
    c.args.self.now c.in-Some.slot
    (record { locks = w.locks; next = w.next; held = w.held; from = c.in-Some.slot + 1; failed = w.failed }))
    (sym c.self.view_is)
    (lends_found g.K.PartialEq.eq (λ h. g.W.Lender.part h.inner) (λ h. g.H.Hold.lock_of h.held.0) g.L.GivesShards.seen c.args.self.now
    c.go_on.new.self c.in-Some.slot there.0 (sym (ap (λ w. w.failed) c.self.view_is)) there.1 there.2)

pub returns-in-Some-clause-nearer : goal.returns-in-Some-clause-nearer
returns-in-Some-clause-nearer g c =
    let lends = returns-in-Some-clause-lends g c in
    item_left g.K.PartialEq.eq (λ h. g.W.Lender.part h.inner) (λ h. g.H.Hold.lock_of h.held.0) g.L.GivesShards.seen c.args.self.now
    (lends.0, c.in-Some.slot) _ lends.1

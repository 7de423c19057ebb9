use Rattle.std.proofs.Common.{◌≡◌, ◌∙◌, sym, ap, subst, refl, Some, None, Ok, not, List, Option}
use Rattle.parking_lot_core_model.specs.declared.parking.ParkResult.TheVariants.{TimedOut}
use Rattle.parking_lot_core_model.specs.declared.place.Place.{Place}
use Rattle.parking_lot_core_model.specs.declared.place.Place.TheVariants.{Waiting, Taken}
use Rattle.parking_lot_core_model.specs.Places.{place_at}
use Rattle.parking_lot_core_model.specs.Results.{is_left}
use Rattle.parking_lot_core_model.specs.Machine.{Parts, Machine, machine, given_up, resume_fault}
use Rattle.parking_lot_core_model.specs.Operations.{ResumesFrom}
use Rattle.parking_lot_core_model.proofs.Outcomes.{unless_done}
use Rattle.parking_lot_core_model.proofs.Closing.{Owed, placed_running}
use Rattle.parking_lot_core_model.proofs.lot.Lot.resume.Goals as goal

pub invariant_of-self : goal.invariant_of-self
invariant_of-self g c =
    let l = c.self.inside in
    let p : Parts = record {
      number = l.number;
      max_threads = l.max_threads;
      paired = l.paired;
      sleeps = l.sleeps;
      waiting = l.waiting.entries;
      owned = l.owned.entries.items;
      places = l.places.items;
      by_bucket = l.buckets.by_bucket.items;
      by_thread = l.buckets.by_thread.items;
    }
    in
    let t = c.in-Some-Taken in
    let at : place_at p.places c.args.thread ≡ Some (Taken t.token t.field-0-1 t.field-0-2 t.field-0-3) =
    ap (λ v. place_at v.places c.args.thread) c.self.view_is ∙ (sym t.ensures.place ∙ ap (λ x. Some x) t.field-0-is)
    in
    subst (λ (ps : List (Option Place)). Owed (record p { places = ps }) l.waiting) (sym c.put.ensures)
    (placed_running p l.waiting c.args.thread t.token t.field-0-1 t.field-0-2 t.field-0-3 c.self.invariant at)

pub returns-in-Some-Waiting : goal.returns-in-Some-Waiting
returns-in-Some-Waiting g c =
    let m = machine c.args.self.now in
    let w = c.in-Some-Waiting in
    let free : resume_fault m c.args.thread ≡ None = sym c.resume_fault.ensures ∙ c.in_default.is in
    let at : place_at m.places c.args.thread ≡ Some (Waiting w.key w.field-0-1) = sym w.ensures.place
    ∙ ap (λ x. Some x) w.field-0-is in
    let last : not c.has_waiters.result ≡ not (is_left ((given_up m c.args.thread w.key).queues w.key)) =
    ap not (c.has_waiters.ensures ∙ ap (λ (x : Machine). is_left (x.queues w.key)) c.give_up.ensures) in
    unless_done (resume_fault m c.args.thread) (Ok TimedOut) m (machine c.give_up.new.self) _ free
    (subst (λ (o : Option Place). ResumesFrom o (λ key b. goal.T-post g c.args.timed_out key b tt) m c.args.thread
    (Ok TimedOut) (machine c.give_up.new.self)) (sym at)
    (refl, c.give_up.ensures, subst (λ b. goal.T-post g c.args.timed_out w.key b tt) last c.timed_out.ensures))

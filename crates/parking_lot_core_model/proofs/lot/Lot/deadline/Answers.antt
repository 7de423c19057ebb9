use Rattle.std.proofs.Common.{◌≡◌, ◌∙◌, sym, ap, subst, Some, List, Option, slice_set}
use Rattle.parking_lot_core_model.specs.declared.place.Place.{Place}
use Rattle.parking_lot_core_model.specs.Places.{place_at}
use Rattle.parking_lot_core_model.specs.Machine.{Parts}
use Rattle.parking_lot_core_model.proofs.Closing.{Owed, placed_late}
use Rattle.parking_lot_core_model.proofs.lot.Lot.deadline.Goals as goal

pub invariant_of-self : goal.invariant_of-self
invariant_of-self g c =
    let l = c.self.inside in
    let p : Parts = record {
      number = l.number;
      max_threads = l.max_threads;
      paired = l.paired;
      sleeps = l.sleeps;
      waiting = l.waiting.entries;
      owned = l.owned.entries.items;
      places = l.places.items;
      by_bucket = l.buckets.by_bucket.items;
      by_thread = l.buckets.by_thread.items;
    }
    in
    let at : place_at p.places c.args.thread ≡ Some c.in-Some.place = ap (λ v. place_at v.places c.args.thread)
    c.self.view_is ∙ (sym c.place.ensures.place ∙ c.in-Some.is) in
    subst (λ (ps : List (Option Place)). Owed (record p { places = ps }) l.waiting)
    (sym (c.put.ensures ∙ ap (λ q. slice_set p.places c.args.thread (Some q)) c.late.ensures))
    (placed_late p l.waiting c.args.thread c.in-Some.place c.self.invariant at)

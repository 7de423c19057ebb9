use Rattle.std.proofs.Common.{◌≡◌, ◌∙◌, sym, ap, subst, Some, List, Option}
use Rattle.parking_lot_core_model.specs.declared.place.Place.{Place}
use Rattle.parking_lot_core_model.specs.declared.place.Place.TheVariants.{Taken}
use Rattle.parking_lot_core_model.specs.Places.{place_at}
use Rattle.parking_lot_core_model.specs.Machine.{Parts}
use Rattle.parking_lot_core_model.proofs.Closing.{Owed, placed_running}
use Rattle.parking_lot_core_model.proofs.lot.Lot.go_on.Goals as goal

pub invariant_of-self : goal.invariant_of-self
invariant_of-self g c =
    let l = c.self.inside in
    let p : Parts = record {
      number = l.number;
      max_threads = l.max_threads;
      paired = l.paired;
      sleeps = l.sleeps;
      waiting = l.waiting.entries;
      owned = l.owned.entries.items;
      places = l.places.items;
      by_bucket = l.buckets.by_bucket.items;
      by_thread = l.buckets.by_thread.items;
    }
    in
    let t = c.in-Some-Taken in
    let at : place_at p.places c.args.thread ≡ Some (Taken t.field-0-0 t.field-0-1 t.field-0-2 t.field-0-3) =
    ap (λ v. place_at v.places c.args.thread) c.self.view_is ∙ (sym t.ensures.place ∙ ap (λ x. Some x) t.field-0-is)
    in
    subst (λ (ps : List (Option Place)). Owed (record p { places = ps }) l.waiting) (sym c.put.ensures)
    (placed_running p l.waiting c.args.thread t.field-0-0 t.field-0-1 t.field-0-2 t.field-0-3 c.self.invariant at)

use Rattle.std.proofs.Common.{◌≡◌, ◌∙◌, sym, ap, is_some}
use Rattle.std.proofs.Common.{◌==◌, true}
use Rattle.parking_lot_core_model.specs.Lists.{lists_of, without_first}
use Rattle.parking_lot_core_model.specs.Places.{place_at}
use Rattle.parking_lot_core_model.specs.Machine.{Parts}
use Rattle.parking_lot_core_model.proofs.Closing.{owned_changed}
use Rattle.parking_lot_core_model.proofs.lot.Lot.release_resource.Goals as goal

pub invariant_of-self : goal.invariant_of-self
invariant_of-self g c =
    let l = c.self.inside in
    let p : Parts = record {
      number = l.number;
      max_threads = l.max_threads;
      paired = l.paired;
      sleeps = l.sleeps;
      waiting = l.waiting.entries;
      owned = l.owned.entries.items;
      places = l.places.items;
      by_bucket = l.buckets.by_bucket.items;
      by_thread = l.buckets.by_thread.items;
    }
    in
    let there : is_some (place_at p.places c.args.thread) ≡ true = ap (λ v. is_some (place_at v.places c.args.thread))
    c.self.view_is ∙ (ap is_some (sym c.place.ensures.place) ∙ c.if-is_none.ensures) in
    owned_changed p l.waiting c.args.thread (without_first (λ k. k == c.args.key) (lists_of p.owned c.args.thread))
    c.take_number.new.self.entries.items c.self.invariant there c.take_number.ensures.kept

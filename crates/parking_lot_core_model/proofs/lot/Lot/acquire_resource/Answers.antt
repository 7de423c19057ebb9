use Rattle.std.proofs.Common.{◌≡◌, ◌∙◌, ◌∷◌, ◌++◌, [], sym, ap, is_some}
use Rattle.std.proofs.Common.{true}
use Rattle.parking_lot_core_model.specs.Lists.{lists_of}
use Rattle.parking_lot_core_model.specs.Places.{place_at}
use Rattle.parking_lot_core_model.specs.Machine.{Parts}
use Rattle.parking_lot_core_model.proofs.Closing.{owned_changed}
use Rattle.parking_lot_core_model.proofs.lot.Lot.acquire_resource.Goals as goal

pub invariant_of-self-2 : goal.invariant_of-self-2
invariant_of-self-2 g c =
    let l = c.self.inside in
    let p : Parts = record {
      number = l.number;
      max_threads = l.max_threads;
      paired = l.paired;
      sleeps = l.sleeps;
      waiting = l.waiting.entries;
      owned = l.owned.entries.items;
      places = l.places.items;
      by_bucket = l.buckets.by_bucket.items;
      by_thread = l.buckets.by_thread.items;
    }
    in
    let there : is_some (place_at p.places c.args.thread) ≡ true = ap (λ v. is_some (place_at v.places c.args.thread))
    c.self.view_is ∙ (ap is_some (sym c.place.ensures.place) ∙ c.if-is_none.ensures) in
    owned_changed p l.waiting c.args.thread (lists_of p.owned c.args.thread ++ c.args.key ∷ [])
    c.try_push.new.self.entries.items c.self.invariant there c.in_ok-try_push.ensures.ok

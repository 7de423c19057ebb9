use Rattle.std.proofs.Common.{◌≡◌, ◌∙◌, ◌+◌, sym, ap, subst, Some, List, Option}
use Rattle.std.proofs.Common.{true, cond}
use Rattle.parking_lot_core_model.specs.declared.place.Place.{Place}
use Rattle.parking_lot_core_model.specs.declared.place.Place.TheVariants.{Waiting}
use Rattle.parking_lot_core_model.specs.Chains.{total}
use Rattle.parking_lot_core_model.specs.Places.{place_at}
use Rattle.parking_lot_core_model.specs.Machine.{Parts}
use Rattle.parking_lot_core_model.proofs.Closing.{Owed, gave_up, found_itself}
use Rattle.parking_lot_core_model.proofs.lot.Lot.give_up.Goals as goal

pub invariant_of-self : goal.invariant_of-self
invariant_of-self g c =
    let l = c.self.inside in
    let p : Parts = record {
      number = l.number;
      max_threads = l.max_threads;
      paired = l.paired;
      sleeps = l.sleeps;
      waiting = l.waiting.entries;
      owned = l.owned.entries.items;
      places = l.places.items;
      by_bucket = l.buckets.by_bucket.items;
      by_thread = l.buckets.by_thread.items;
    }
    in
    let at : place_at p.places c.args.thread ≡ Some (Waiting c.args.key c.requires.0) =
    ap (λ v. place_at v.places c.args.thread) c.self.view_is ∙ c.requires.1 in
    let v = c.take_number.new.self in
    let found : c.take_number.result ≡ true = c.take_number.ensures.found ∙ found_itself p l.waiting v c.args.thread
    c.args.key c.requires.0 c.self.invariant at in
    let count : total l.waiting ≡ total v + 1 = c.take_number.ensures.total ∙ ap (λ b. total v + cond b 1 0) found in
    subst (λ (ps : List (Option Place)). Owed (record p { waiting = v.entries; places = ps }) v)
    (sym c.put.ensures)
    (gave_up p l.waiting v c.args.thread c.args.key c.requires.0 c.self.invariant at c.take_number.ensures.kept count
    c.take_number.ensures.room)

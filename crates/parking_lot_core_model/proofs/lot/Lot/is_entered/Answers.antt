use Rattle.std.proofs.Common.{◌∙◌, false, is_some, sym, ap}
use Rattle.std.specs.Option.{option_map_or}
use Rattle.parking_lot_core_model.specs.Places.{place_at, is_held}
use Rattle.parking_lot_core_model.specs.Machine.{Parts, machine, open_at}
use Rattle.parking_lot_core_model.proofs.Entering.{none_of_some}
use Rattle.parking_lot_core_model.proofs.Sounds.{quiet_at}
use Rattle.parking_lot_core_model.proofs.lot.Lot.is_entered.Goals as goal

pub returns-clause-quiet : goal.returns-clause-quiet
returns-clause-quiet g c =
    let l = c.self.inside in
    let p : Parts = record {
      number = l.number;
      max_threads = l.max_threads;
      paired = l.paired;
      sleeps = l.sleeps;
      waiting = l.waiting.entries;
      owned = l.owned.entries.items;
      places = l.places.items;
      by_bucket = l.buckets.by_bucket.items;
      by_thread = l.buckets.by_thread.items;
    }
    in
    λ e t.
    let free = none_of_some (open_at (machine p) c.args.key)
    (ap is_some (sym c.at.ensures) ∙ (sym c.is_some.ensures ∙ e)) in
    ap (λ v. option_map_or (is_held c.args.key) (place_at v.places t) false) (sym c.self.view_is)
    ∙ quiet_at (machine p) c.args.key c.self.invariant.0 free t

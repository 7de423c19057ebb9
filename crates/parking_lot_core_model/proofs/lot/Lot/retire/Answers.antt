use Rattle.std.proofs.Common.{◌≡◌, ◌∙◌, sym, ap, subst, None, List, Option}
use Rattle.parking_lot_core_model.specs.declared.place.Place.{Place}
use Rattle.parking_lot_core_model.specs.Machine.{Parts, machine, retire_fault}
use Rattle.parking_lot_core_model.proofs.Closing.{Owed, gone}
use Rattle.parking_lot_core_model.proofs.lot.Lot.retire.Goals as goal

pub invariant_of-self : goal.invariant_of-self
invariant_of-self g c =
    let l = c.self.inside in
    let p : Parts = record {
      number = l.number;
      max_threads = l.max_threads;
      paired = l.paired;
      sleeps = l.sleeps;
      waiting = l.waiting.entries;
      owned = l.owned.entries.items;
      places = l.places.items;
      by_bucket = l.buckets.by_bucket.items;
      by_thread = l.buckets.by_thread.items;
    }
    in
    let free : retire_fault (machine p) c.args.thread ≡ None = ap (λ v. retire_fault (machine v) c.args.thread)
    c.self.view_is ∙ (sym c.retire_fault.ensures ∙ c.in_default.is) in
    subst (λ (ps : List (Option Place)). Owed (record p { owned = c.clear.new.self.entries.items; places = ps })
    l.waiting) (sym c.put.ensures)
    (gone p l.waiting c.args.thread c.clear.new.self.entries.items c.self.invariant free c.clear.ensures)

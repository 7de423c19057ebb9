use Rattle.std.proofs.Common.{◌∙◌, ◌+◌, sym, ap, subst, is_some, List, Option}
use Rattle.std.proofs.Common.{cond}
use Rattle.parking_lot_core_model.specs.declared.place.Place.{Place}
use Rattle.parking_lot_core_model.specs.Chains.{total}
use Rattle.parking_lot_core_model.specs.Machine.{Parts, machine}
use Rattle.parking_lot_core_model.specs.Sound.{IsOpen}
use Rattle.parking_lot_core_model.proofs.Closing.{Owed, nobody_taken, held_parts}
use Rattle.parking_lot_core_model.proofs.lot.Lot.take_out.Goals as goal

pub invariant_of-self : goal.invariant_of-self
invariant_of-self g c =
    let l = c.self.inside in
    let p : Parts = record {
      number = l.number;
      max_threads = l.max_threads;
      paired = l.paired;
      sleeps = l.sleeps;
      waiting = l.waiting.entries;
      owned = l.owned.entries.items;
      places = l.places.items;
      by_bucket = l.buckets.by_bucket.items;
      by_thread = l.buckets.by_thread.items;
    }
    in
    nobody_taken p l.waiting c.take.new.self c.args.key c.args.nth c.self.invariant
    (sym c.in_err-waiter.was ∙ c.take.ensures.item) c.take.ensures.kept
    (c.take.ensures.total ∙ ap (λ o. total c.take.new.self + cond (is_some o) 1 0) c.in_err-waiter.was)
    c.take.ensures.room

pub invariant_of-self-2 : goal.invariant_of-self-2
invariant_of-self-2 g c =
    let l = c.self.inside in
    let p : Parts = record {
      number = l.number;
      max_threads = l.max_threads;
      paired = l.paired;
      sleeps = l.sleeps;
      waiting = l.waiting.entries;
      owned = l.owned.entries.items;
      places = l.places.items;
      by_bucket = l.buckets.by_bucket.items;
      by_thread = l.buckets.by_thread.items;
    }
    in
    let h = c.in_ok-waiter.ensures in
    subst (λ (ps : List (Option Place)). Owed (record p { waiting = c.take.new.self.entries; places = ps })
    c.take.new.self) (sym c.hold.ensures)
    (held_parts p l.waiting c.take.new.self c.args.key c.args.nth c.in_ok-waiter.waiter c.self.invariant (sym h.item)
    (subst (λ (v : Parts). IsOpen (machine v) c.args.key) (sym c.self.view_is) c.requires) h.kept h.total h.room)

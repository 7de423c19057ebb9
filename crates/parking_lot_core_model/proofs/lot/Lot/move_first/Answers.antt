use Rattle.std.proofs.Common.{◌∙◌, sym, ap, subst, List, Option}
use Rattle.parking_lot_core_model.specs.declared.place.Place.{Place}
use Rattle.parking_lot_core_model.specs.Lists.{lists_of}
use Rattle.parking_lot_core_model.specs.Machine.{Parts, machine, moved_first, open_at}
use Rattle.parking_lot_core_model.proofs.Closing.{Owed, nobody_taken, moved_parts, first_moves, first_stays}
use Rattle.parking_lot_core_model.proofs.Closing.{apart_left, noded_left, room_behind}
use Rattle.parking_lot_core_model.proofs.lot.Lot.move_first.Goals as goal

pub push-requires-clause-apart : goal.push-requires-clause-apart
push-requires-clause-apart g c =
    let l = c.self.inside in
    let p : Parts = record {
      number = l.number;
      max_threads = l.max_threads;
      paired = l.paired;
      sleeps = l.sleeps;
      waiting = l.waiting.entries;
      owned = l.owned.entries.items;
      places = l.places.items;
      by_bucket = l.buckets.by_bucket.items;
      by_thread = l.buckets.by_thread.items;
    }
    in
    let h = c.in-Some.ensures in
    apart_left p l.waiting c.take.new.self c.args.from 0 c.in-Some.waiter c.self.invariant (sym h.item) h.kept

pub push-requires-clause-within : goal.push-requires-clause-within
push-requires-clause-within g c =
    let l = c.self.inside in
    let p : Parts = record {
      number = l.number;
      max_threads = l.max_threads;
      paired = l.paired;
      sleeps = l.sleeps;
      waiting = l.waiting.entries;
      owned = l.owned.entries.items;
      places = l.places.items;
      by_bucket = l.buckets.by_bucket.items;
      by_thread = l.buckets.by_thread.items;
    }
    in
    let h = c.in-Some.ensures in
    noded_left p l.waiting c.take.new.self c.args.from 0 c.in-Some.waiter c.self.invariant (sym h.item) h.room

pub push-requires-clause-room : goal.push-requires-clause-room
push-requires-clause-room g c =
    let l = c.self.inside in
    let p : Parts = record {
      number = l.number;
      max_threads = l.max_threads;
      paired = l.paired;
      sleeps = l.sleeps;
      waiting = l.waiting.entries;
      owned = l.owned.entries.items;
      places = l.places.items;
      by_bucket = l.buckets.by_bucket.items;
      by_thread = l.buckets.by_thread.items;
    }
    in
    let h = c.in-Some.ensures in
    room_behind p l.waiting c.take.new.self c.args.from 0 c.in-Some.waiter c.self.invariant (sym h.item) h.total h.room

pub invariant_of-self : goal.invariant_of-self
invariant_of-self g c =
    let l = c.self.inside in
    let p : Parts = record {
      number = l.number;
      max_threads = l.max_threads;
      paired = l.paired;
      sleeps = l.sleeps;
      waiting = l.waiting.entries;
      owned = l.owned.entries.items;
      places = l.places.items;
      by_bucket = l.buckets.by_bucket.items;
      by_thread = l.buckets.by_thread.items;
    }
    in
    let h = c.in-Some.ensures in
    subst (λ (ps : List (Option Place)). Owed (record p { waiting = c.push.new.self.entries; places = ps })
    c.push.new.self) (sym c.relist.ensures)
    (moved_parts p l.waiting c.take.new.self c.args.from 0 c.in-Some.waiter c.self.invariant (sym h.item)
    c.push.new.self c.args.to
    (λ s at. c.requires s (ap (λ v. open_at (machine v) c.args.from) (sym c.self.view_is) ∙ at)) h.kept
    c.push.ensures.kept h.total c.push.ensures.total
    (c.push.ensures.room ∙ h.room))

pub invariant_of-self-in_default : goal.invariant_of-self-in_default
invariant_of-self-in_default g c =
    let l = c.self.inside in
    let p : Parts = record {
      number = l.number;
      max_threads = l.max_threads;
      paired = l.paired;
      sleeps = l.sleeps;
      waiting = l.waiting.entries;
      owned = l.owned.entries.items;
      places = l.places.items;
      by_bucket = l.buckets.by_bucket.items;
      by_thread = l.buckets.by_thread.items;
    }
    in
    let h = c.in_default.ensures in
    nobody_taken p l.waiting c.take.new.self c.args.from 0 c.self.invariant h.item h.kept h.total h.room

pub returns-in-Some : goal.returns-in-Some
returns-in-Some g c =
    let l = c.self.inside in
    let p : Parts = record {
      number = l.number;
      max_threads = l.max_threads;
      paired = l.paired;
      sleeps = l.sleeps;
      waiting = l.waiting.entries;
      owned = l.owned.entries.items;
      places = l.places.items;
      by_bucket = l.buckets.by_bucket.items;
      by_thread = l.buckets.by_thread.items;
    }
    in
    let h = c.in-Some.ensures in
    first_moves (machine p) c.args.from c.args.to c.in-Some.waiter (lists_of c.take.new.self.entries)
    (lists_of c.push.new.self.entries) c.relist.new.places.items (sym h.item) h.kept c.push.ensures.kept
    c.relist.ensures ∙ ap (λ v. moved_first (machine v) c.args.from c.args.to) c.self.view_is

pub returns-in_default : goal.returns-in_default
returns-in_default g c =
    let l = c.self.inside in
    let p : Parts = record {
      number = l.number;
      max_threads = l.max_threads;
      paired = l.paired;
      sleeps = l.sleeps;
      waiting = l.waiting.entries;
      owned = l.owned.entries.items;
      places = l.places.items;
      by_bucket = l.buckets.by_bucket.items;
      by_thread = l.buckets.by_thread.items;
    }
    in
    let h = c.in_default.ensures in
    first_stays (machine p) c.args.from c.args.to (lists_of c.take.new.self.entries) h.item h.kept
    ∙ ap (λ v. moved_first (machine v) c.args.from c.args.to) c.self.view_is

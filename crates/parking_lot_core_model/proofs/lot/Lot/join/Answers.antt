use Rattle.std.proofs.Common.{◌≡◌, ◌∙◌, ◌+◌, ◌%◌, ◌^◌, sym, ap, subst, Some}
use Rattle.std.proofs.Common.{List, Option}
use Rattle.std.proofs.Common.{length}
use Rattle.parking_lot_core_model.specs.declared.place.Place.{Place}
use Rattle.parking_lot_core_model.specs.declared.place.Place.TheVariants.{Running}
use Rattle.parking_lot_core_model.specs.Places.{place_at}
use Rattle.parking_lot_core_model.specs.Machine.{Parts, machine}
use Rattle.parking_lot_core_model.specs.Sound.{times_at}
use Rattle.parking_lot_core_model.proofs.Closing.{Owed, joined_parts}
use Rattle.parking_lot_core_model.proofs.Rooms.{room_left, noded}
use Rattle.parking_lot_core_model.proofs.lot.Lot.join.Goals as goal

pub push-requires-clause-apart : goal.push-requires-clause-apart
push-requires-clause-apart g c =
    let l = c.self.inside in
    let p : Parts = record {
      number = l.number;
      max_threads = l.max_threads;
      paired = l.paired;
      sleeps = l.sleeps;
      waiting = l.waiting.entries;
      owned = l.owned.entries.items;
      places = l.places.items;
      by_bucket = l.buckets.by_bucket.items;
      by_thread = l.buckets.by_thread.items;
    }
    in
    let at : place_at p.places c.args.thread ≡ Some Running = ap (λ v. place_at v.places c.args.thread) c.self.view_is
    ∙ c.requires.runs in
    λ k. c.self.invariant.0.waits c.args.thread k ∙ ap (times_at k) at

pub push-requires-clause-within : goal.push-requires-clause-within
push-requires-clause-within g c =
    let l = c.self.inside in
    let p : Parts = record {
      number = l.number;
      max_threads = l.max_threads;
      paired = l.paired;
      sleeps = l.sleeps;
      waiting = l.waiting.entries;
      owned = l.owned.entries.items;
      places = l.places.items;
      by_bucket = l.buckets.by_bucket.items;
      by_thread = l.buckets.by_thread.items;
    }
    in
    let at : place_at p.places c.args.thread ≡ Some Running = ap (λ v. place_at v.places c.args.thread) c.self.view_is
    ∙ c.requires.runs in
    noded l.waiting p.places p.max_threads (length p.by_thread) c.args.thread Running c.self.invariant.1 at

pub push-requires-clause-room : goal.push-requires-clause-room
push-requires-clause-room g c =
    let l = c.self.inside in
    let p : Parts = record {
      number = l.number;
      max_threads = l.max_threads;
      paired = l.paired;
      sleeps = l.sleeps;
      waiting = l.waiting.entries;
      owned = l.owned.entries.items;
      places = l.places.items;
      by_bucket = l.buckets.by_bucket.items;
      by_thread = l.buckets.by_thread.items;
    }
    in
    let at : place_at p.places c.args.thread ≡ Some Running = ap (λ v. place_at v.places c.args.thread) c.self.view_is
    ∙ c.requires.runs in
    room_left l.waiting p.places p.max_threads (length p.by_thread) c.args.thread c.self.invariant.1 at

pub invariant_of-self : goal.invariant_of-self
invariant_of-self g c =
    let l = c.self.inside in
    let p : Parts = record {
      number = l.number;
      max_threads = l.max_threads;
      paired = l.paired;
      sleeps = l.sleeps;
      waiting = l.waiting.entries;
      owned = l.owned.entries.items;
      places = l.places.items;
      by_bucket = l.buckets.by_bucket.items;
      by_thread = l.buckets.by_thread.items;
    }
    in
    let at : place_at p.places c.args.thread ≡ Some Running = ap (λ v. place_at v.places c.args.thread) c.self.view_is
    ∙ c.requires.runs in
    subst (λ (ps : List (Option Place)). Owed
    (record p { sleeps = (p.sleeps + 1) % 2 ^ 64; waiting = c.push.new.self.entries; places = ps })
    c.push.new.self) (sym c.put.ensures)
    (joined_parts p l.waiting c.push.new.self c.args.thread c.args.key c.args.token c.args.timed c.self.invariant at
    (λ k is. c.requires.near k (ap (λ v. (machine v).inside c.args.thread) (sym c.self.view_is) ∙ is))
    (λ b s is. c.requires.outside b s (ap (λ v. (machine v).sections b) (sym c.self.view_is) ∙ is)) c.push.ensures.kept
    c.push.ensures.total c.push.ensures.room)

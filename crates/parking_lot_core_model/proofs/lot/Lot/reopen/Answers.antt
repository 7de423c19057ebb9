use Rattle.std.proofs.Common.{◌∙◌, ◌≤◌, ◌<◌, ℕ, Option, Some, length, sym, ap}
use Rattle.std.proofs.Common.{subst, arith}
use Rattle.parking_lot_core_model.specs.Lists.{updated}
use Rattle.parking_lot_core_model.specs.Machine.{Parts, machine, returned, return_fault}
use Rattle.parking_lot_core_model.proofs.Sounds.{returned_as}
use Rattle.parking_lot_core_model.proofs.Closing.{kept_so, same_kept, section_back, may_return_seat}
use Rattle.parking_lot_core_model.proofs.lot.Lot.reopen.Goals as goal

pub seat-requires : goal.seat-requires
seat-requires g c =
    let l = c.self.inside in
    let p : Parts = record {
      number = l.number;
      max_threads = l.max_threads;
      paired = l.paired;
      sleeps = l.sleeps;
      waiting = l.waiting.entries;
      owned = l.owned.entries.items;
      places = l.places.items;
      by_bucket = l.buckets.by_bucket.items;
      by_thread = l.buckets.by_thread.items;
    }
    in
    let free = ap (λ v. return_fault (machine v) c.args.thread c.args.key) c.self.view_is ∙ c.requires in
    subst (λ (n : ℕ). c.args.thread < n) (sym c.put.ensures.seats)
    (may_return_seat p l.waiting c.args.thread c.args.key c.self.invariant free)

pub invariant_of-self : goal.invariant_of-self
invariant_of-self g c =
    let l = c.self.inside in
    let p : Parts = record {
      number = l.number;
      max_threads = l.max_threads;
      paired = l.paired;
      sleeps = l.sleeps;
      waiting = l.waiting.entries;
      owned = l.owned.entries.items;
      places = l.places.items;
      by_bucket = l.buckets.by_bucket.items;
      by_thread = l.buckets.by_thread.items;
    }
    in
    let free = ap (λ v. return_fault (machine v) c.args.thread c.args.key) c.self.view_is ∙ c.requires in
    let count = c.seat.ensures.count ∙ c.put.ensures.count in
    let sections = c.seat.ensures.sections ∙ c.put.ensures.sections in
    let inside = c.seat.ensures.keys
    ∙ ap (λ (f : ℕ → Option ℕ). updated f c.args.thread (Some c.args.key)) c.put.ensures.keys in
    let seats : length p.by_thread ≤ length c.seat.new.self.by_thread.items =
    subst (λ (n : ℕ). length p.by_thread ≤ n) (sym (c.seat.ensures.seats ∙ c.put.ensures.seats)) (omega arith) in
    kept_so p l.waiting _ _ _ _ c.self.invariant.1 count sections inside seats
    (section_back p l.waiting c.args.thread c.args.key c.self.invariant free)

pub returns : goal.returns
returns g c =
    let l = c.self.inside in
    let p : Parts = record {
      number = l.number;
      max_threads = l.max_threads;
      paired = l.paired;
      sleeps = l.sleeps;
      waiting = l.waiting.entries;
      owned = l.owned.entries.items;
      places = l.places.items;
      by_bucket = l.buckets.by_bucket.items;
      by_thread = l.buckets.by_thread.items;
    }
    in
    let count = c.seat.ensures.count ∙ c.put.ensures.count in
    let sections = c.seat.ensures.sections ∙ c.put.ensures.sections in
    let inside = c.seat.ensures.keys
    ∙ ap (λ (f : ℕ → Option ℕ). updated f c.args.thread (Some c.args.key)) c.put.ensures.keys in
    same_kept (machine p) _ _ _ _ _ count sections inside
    ∙ (sym (returned_as (machine p) c.args.thread c.args.key)
    ∙ ap (λ v. returned (machine v) c.args.thread c.args.key) c.self.view_is)

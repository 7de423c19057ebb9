use Rattle.std.proofs.Common.{◌≡◌, ◌∙◌, ◌∷◌, ◌++◌, ◌+◌, [], ◌<◌, ◌≤◌, ℕ, suc, length, max, sym, ap, subst, refl, Some}
use Rattle.std.proofs.Common.{None, List, Option, slice_set, arith}
use Rattle.parking_lot_core_model.specs.declared.place.Place.{Place}
use Rattle.parking_lot_core_model.specs.declared.place.Place.TheVariants.{Running}
use Rattle.parking_lot_core_model.specs.Buckets.{slot, threads_with, buckets_for}
use Rattle.parking_lot_core_model.specs.Lists.{lists_of}
use Rattle.parking_lot_core_model.specs.Machine.{Parts, machine, free_number, register_fault, buckets_wanted}
use Rattle.parking_lot_core_model.specs.Machine.{registered}
use Rattle.parking_lot_core_model.proofs.Closing.{Owed}
use Rattle.parking_lot_core_model.proofs.Registering.{again, past, registered_as, register_allows, registered_within}
use Rattle.parking_lot_core_model.proofs.Registering.{registered_past}
use Rattle.parking_lot_core_model.proofs.lot.Lot.register.Goals as goal

pub invariant_of-self-then-thread-len : goal.invariant_of-self-then-thread-len
invariant_of-self-then-thread-len g c =
    let l = c.self.inside in
    let p : Parts = record {
      number = l.number;
      max_threads = l.max_threads;
      paired = l.paired;
      sleeps = l.sleeps;
      waiting = l.waiting.entries;
      owned = l.owned.entries.items;
      places = l.places.items;
      by_bucket = l.buckets.by_bucket.items;
      by_thread = l.buckets.by_thread.items;
    }
    in
    let m = machine p in
    let free : register_fault m ≡ None = ap (λ v. register_fault (machine v)) c.self.view_is
    ∙ (sym c.register_fault.ensures ∙ c.in_default.is) in
    let low = (register_allows m free).0 in
    let n : c.free_number-thread.result ≡ free_number p.places = c.free_number-thread.ensures
    ∙ ap free_number c.deref.ensures.value in
    let next : c.free_number-thread.result + 1 ≡ suc (free_number p.places) = omega (arith, n) in
    let wanted : c.buckets_for-wanted.result ≡ buckets_wanted m = c.buckets_for-wanted.ensures
    ∙ ap buckets_for (c.threads_with.ensures ∙ ap (threads_with p.paired) next) in
    let have = l.places.ok.0 in
    let bs = c.make_room.new.self.by_bucket.items in
    let ts = c.make_room.new.self.by_thread.items in
    let count = c.in_ok-make_room.ensures.count ∙ ap (λ k. max (length p.by_bucket) k) wanted in
    let fits : free_number p.places < length p.places = subst (λ (k : ℕ). k < length p.places) n (omega arith) in
    let put_so = c.put.ensures ∙ ap (λ k. slice_set p.places k (Some Running)) n in
    subst (λ (ps : List (Option Place)). Owed (record p { places = ps; by_bucket = bs; by_thread = ts }) l.waiting)
    (sym put_so)
    (again p l.waiting l.waiting bs ts c.self.invariant free count c.make_room.ensures.sections c.make_room.ensures.keys
    fits c.make_room.ensures.stays)

pub returns-then-thread-len-clause-ok : goal.returns-then-thread-len-clause-ok
returns-then-thread-len-clause-ok g c =
    let l = c.self.inside in
    let p : Parts = record {
      number = l.number;
      max_threads = l.max_threads;
      paired = l.paired;
      sleeps = l.sleeps;
      waiting = l.waiting.entries;
      owned = l.owned.entries.items;
      places = l.places.items;
      by_bucket = l.buckets.by_bucket.items;
      by_thread = l.buckets.by_thread.items;
    }
    in
    let m = machine p in
    let free : register_fault m ≡ None = ap (λ v. register_fault (machine v)) c.self.view_is
    ∙ (sym c.register_fault.ensures ∙ c.in_default.is) in
    let low = (register_allows m free).0 in
    let n : c.free_number-thread.result ≡ free_number p.places = c.free_number-thread.ensures
    ∙ ap free_number c.deref.ensures.value in
    let next : c.free_number-thread.result + 1 ≡ suc (free_number p.places) = omega (arith, n) in
    let wanted : c.buckets_for-wanted.result ≡ buckets_wanted m = c.buckets_for-wanted.ensures
    ∙ ap buckets_for (c.threads_with.ensures ∙ ap (threads_with p.paired) next) in
    let have = l.places.ok.0 in
    let bs = c.make_room.new.self.by_bucket.items in
    let ts = c.make_room.new.self.by_thread.items in
    let count = c.in_ok-make_room.ensures.count ∙ ap (λ k. max (length p.by_bucket) k) wanted in
    let fits : free_number p.places < length p.places = subst (λ (k : ℕ). k < length p.places) n (omega arith) in
    let put_so = c.put.ensures ∙ ap (λ k. slice_set p.places k (Some Running)) n in (
      n ∙ ap (λ v. free_number v.places) c.self.view_is,
      subst (λ (v : Parts). c.free_number-thread.result < v.max_threads) c.self.view_is (omega (arith, n, low)),
      ap (λ (ps : List (Option Place)). record m
          { places = ps; buckets = length bs; sections = slot bs; inside = slot ts }) put_so
          ∙ (registered_as p l.waiting l.waiting bs ts c.self.invariant free count c.make_room.ensures.sections
          c.make_room.ensures.keys (lists_of p.waiting) (slice_set p.places (free_number p.places) (Some Running)) refl
          (registered_within p.places fits) ∙ ap (λ v. registered (machine v)) c.self.view_is),
    )

pub invariant_of-self-2 : goal.invariant_of-self-2
invariant_of-self-2 g c =
    let l = c.self.inside in
    let p : Parts = record {
      number = l.number;
      max_threads = l.max_threads;
      paired = l.paired;
      sleeps = l.sleeps;
      waiting = l.waiting.entries;
      owned = l.owned.entries.items;
      places = l.places.items;
      by_bucket = l.buckets.by_bucket.items;
      by_thread = l.buckets.by_thread.items;
    }
    in
    let m = machine p in
    let free : register_fault m ≡ None = ap (λ v. register_fault (machine v)) c.self.view_is
    ∙ (sym c.register_fault.ensures ∙ c.in_default.is) in
    let low = (register_allows m free).0 in
    let n : c.free_number-thread.result ≡ free_number p.places = c.free_number-thread.ensures
    ∙ ap free_number c.deref.ensures.value in
    let next : c.free_number-thread.result + 1 ≡ suc (free_number p.places) = omega (arith, n) in
    let wanted : c.buckets_for-wanted.result ≡ buckets_wanted m = c.buckets_for-wanted.ensures
    ∙ ap buckets_for (c.threads_with.ensures ∙ ap (threads_with p.paired) next) in
    let have = l.places.ok.0 in
    let bs = c.make_room-2.new.self.by_bucket.items in
    let ts = c.make_room-2.new.self.by_thread.items in
    let count = c.in_ok-make_room-2.ensures.count ∙ ap (λ k. max (length p.by_bucket) k) wanted in
    let full : length p.places ≤ free_number p.places = subst (λ (k : ℕ). length p.places ≤ k) n (omega arith) in
    let b = c.in_ok-reserve-2.ensures in
    let pushed = c.push_reserved.ensures.items ∙ ap (λ ps. ps ++ Some Running ∷ []) c.reserve.ensures.items in
    subst (λ (ps : List (Option Place)). Owed
    (record p { waiting = c.reserve-2.new.self.entries; places = ps; by_bucket = bs; by_thread = ts })
    c.reserve-2.new.self) (sym pushed)
    (past p l.waiting c.reserve-2.new.self bs ts c.self.invariant free count c.make_room-2.ensures.sections
    c.make_room-2.ensures.keys full b.kept b.total (omega (arith, n, b.room)) (omega (arith, low))
    (omega (arith, n, c.in_ok-make_room-2.ensures.seats)))

pub returns-clause-ok : goal.returns-clause-ok
returns-clause-ok g c =
    let l = c.self.inside in
    let p : Parts = record {
      number = l.number;
      max_threads = l.max_threads;
      paired = l.paired;
      sleeps = l.sleeps;
      waiting = l.waiting.entries;
      owned = l.owned.entries.items;
      places = l.places.items;
      by_bucket = l.buckets.by_bucket.items;
      by_thread = l.buckets.by_thread.items;
    }
    in
    let m = machine p in
    let free : register_fault m ≡ None = ap (λ v. register_fault (machine v)) c.self.view_is
    ∙ (sym c.register_fault.ensures ∙ c.in_default.is) in
    let low = (register_allows m free).0 in
    let n : c.free_number-thread.result ≡ free_number p.places = c.free_number-thread.ensures
    ∙ ap free_number c.deref.ensures.value in
    let next : c.free_number-thread.result + 1 ≡ suc (free_number p.places) = omega (arith, n) in
    let wanted : c.buckets_for-wanted.result ≡ buckets_wanted m = c.buckets_for-wanted.ensures
    ∙ ap buckets_for (c.threads_with.ensures ∙ ap (threads_with p.paired) next) in
    let have = l.places.ok.0 in
    let bs = c.make_room-2.new.self.by_bucket.items in
    let ts = c.make_room-2.new.self.by_thread.items in
    let count = c.in_ok-make_room-2.ensures.count ∙ ap (λ k. max (length p.by_bucket) k) wanted in
    let full : length p.places ≤ free_number p.places = subst (λ (k : ℕ). length p.places ≤ k) n (omega arith) in
    let b = c.in_ok-reserve-2.ensures in
    let pushed = c.push_reserved.ensures.items ∙ ap (λ ps. ps ++ Some Running ∷ []) c.reserve.ensures.items in (
      n ∙ ap (λ v. free_number v.places) c.self.view_is,
      subst (λ (v : Parts). c.free_number-thread.result < v.max_threads) c.self.view_is (omega (arith, n, low)),
      ap (λ (ps : List (Option Place)). record m {
        queues = lists_of c.reserve-2.new.self.entries;
        places = ps;
        buckets = length bs;
        sections = slot bs;
        inside = slot ts;
      }) pushed
          ∙ (registered_as p l.waiting c.reserve-2.new.self bs ts c.self.invariant free count
          c.make_room-2.ensures.sections c.make_room-2.ensures.keys (lists_of c.reserve-2.new.self.entries)
          (p.places ++ Some Running ∷ []) b.kept (registered_past p.places full)
          ∙ ap (λ v. registered (machine v)) c.self.view_is),
    )

use Rattle.std.proofs.Common.{◌≡◌, ◌∙◌, ◌≤◌, ◌<◌, ◌%◌, ℕ, List, Option, Some, length, map, sym, ap}
use Rattle.std.proofs.Common.{subst, arith}
use Rattle.parking_lot_core_model.specs.declared.place.Section.{Section}
use Rattle.std.specs.Option.{option_map, option_and_then}
use Rattle.parking_lot_core_model.specs.declared.place.Place.{Place}
use Rattle.parking_lot_core_model.specs.Buckets.{slot}
use Rattle.parking_lot_core_model.specs.Places.{told}
use Rattle.parking_lot_core_model.specs.Machine.{Parts, machine, let_out, closed, token_of, entered_by}
use Rattle.parking_lot_core_model.specs.Sound.{IsOpen}
use Rattle.parking_lot_core_model.proofs.Closing.{Owed, kept_so, same_kept, section_closed, has_seat}
use Rattle.parking_lot_core_model.proofs.lot.Lot.close.Goals as goal

pub let_out-requires : goal.let_out-requires
let_out-requires g c =
    let l = c.self.inside in
    let p : Parts = record {
      number = l.number;
      max_threads = l.max_threads;
      paired = l.paired;
      sleeps = l.sleeps;
      waiting = l.waiting.entries;
      owned = l.owned.entries.items;
      places = l.places.items;
      by_bucket = l.buckets.by_bucket.items;
      by_thread = l.buckets.by_thread.items;
    }
    in
    λ t e.
    let key = c.args.key in
    let x : IsOpen (machine p) key = subst (λ (v : Parts). IsOpen (machine v) key) (sym c.self.view_is) c.requires in
    let whose : x.0.thread ≡ Some t =
    ap (option_and_then (λ (s : Section). s.thread)) (sym x.1)
    ∙ (ap (option_and_then (λ (s : Section). s.thread)) (sym c.at.ensures) ∙ (sym c.owner_of-owner.ensures ∙ e)) in
    subst (λ (n : ℕ). t < n) (sym c.put.ensures.seats)
    (has_seat p l.waiting t x.0.key c.self.invariant
    (c.self.invariant.0.fit.owner (key % length p.by_bucket) x.0 t x.1 whose))

pub invariant_of-self : goal.invariant_of-self
invariant_of-self g c =
    let l = c.self.inside in
    let p : Parts = record {
      number = l.number;
      max_threads = l.max_threads;
      paired = l.paired;
      sleeps = l.sleeps;
      waiting = l.waiting.entries;
      owned = l.owned.entries.items;
      places = l.places.items;
      by_bucket = l.buckets.by_bucket.items;
      by_thread = l.buckets.by_thread.items;
    }
    in
    let key = c.args.key in
    let m = machine p in
    let owner : c.owner_of-owner.result ≡ entered_by m key = c.owner_of-owner.ensures
    ∙ ap (option_and_then (λ (s : Section). s.thread)) c.at.ensures in
    let token : c.token_of-token.result ≡ token_of m key = c.token_of-token.ensures
    ∙ ap (λ v. token_of (machine v) key) (sym c.self.view_is) in
    let places : c.tell.new.places.items ≡ (closed m key c.args.woken).places = c.tell.ensures
    ∙ ap (λ t. map (option_map (told key t c.args.woken)) p.places) token in
    let count = c.let_out.ensures.count ∙ c.put.ensures.count in
    let sections = c.let_out.ensures.sections ∙ c.put.ensures.sections in
    let inside = c.let_out.ensures.keys
    ∙ (ap (let_out c.owner_of-owner.result) c.put.ensures.keys ∙ ap (λ o. let_out o (slot p.by_thread)) owner) in
    let seats : length p.by_thread ≤ length c.let_out.new.self.by_thread.items =
    subst (λ (n : ℕ). length p.by_thread ≤ n) (sym (c.let_out.ensures.seats ∙ c.put.ensures.seats)) (omega arith) in
    let x : IsOpen m key = subst (λ (v : Parts). IsOpen (machine v) key) (sym c.self.view_is) c.requires in
    let done = section_closed p l.waiting key c.args.woken c.self.invariant x in
    subst (λ (ps : List (Option Place)). Owed (record p {
      places = ps;
      by_bucket = c.let_out.new.self.by_bucket.items;
      by_thread = c.let_out.new.self.by_thread.items;
    }) l.waiting) (sym places)
    (kept_so (record p { places = (closed m key c.args.woken).places }) l.waiting _ _ _ _ done.1 count sections inside
    seats done.0)

pub returns : goal.returns
returns g c =
    let l = c.self.inside in
    let p : Parts = record {
      number = l.number;
      max_threads = l.max_threads;
      paired = l.paired;
      sleeps = l.sleeps;
      waiting = l.waiting.entries;
      owned = l.owned.entries.items;
      places = l.places.items;
      by_bucket = l.buckets.by_bucket.items;
      by_thread = l.buckets.by_thread.items;
    }
    in
    let key = c.args.key in
    let m = machine p in
    let owner : c.owner_of-owner.result ≡ entered_by m key = c.owner_of-owner.ensures
    ∙ ap (option_and_then (λ (s : Section). s.thread)) c.at.ensures in
    let token : c.token_of-token.result ≡ token_of m key = c.token_of-token.ensures
    ∙ ap (λ v. token_of (machine v) key) (sym c.self.view_is) in
    let places : c.tell.new.places.items ≡ (closed m key c.args.woken).places = c.tell.ensures
    ∙ ap (λ t. map (option_map (told key t c.args.woken)) p.places) token in
    let count = c.let_out.ensures.count ∙ c.put.ensures.count in
    let sections = c.let_out.ensures.sections ∙ c.put.ensures.sections in
    let inside = c.let_out.ensures.keys
    ∙ (ap (let_out c.owner_of-owner.result) c.put.ensures.keys ∙ ap (λ o. let_out o (slot p.by_thread)) owner) in
    ap (λ (ps : List (Option Place)). record m {
      places = ps;
      buckets = length c.let_out.new.self.by_bucket.items;
      sections = slot c.let_out.new.self.by_bucket.items;
      inside = slot c.let_out.new.self.by_thread.items;
    }) places
    ∙ (same_kept (record m { places = (closed m key c.args.woken).places }) _ _ _ _ _ count sections inside
    ∙ ap (λ v. closed (machine v) key c.args.woken) c.self.view_is)

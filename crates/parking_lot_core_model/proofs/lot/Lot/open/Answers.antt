use Rattle.std.proofs.Common.{◌≡◌, ◌∙◌, ◌≤◌, ◌<◌, ℕ, Some, length, sym, ap}
use Rattle.std.proofs.Common.{subst, arith}
use Rattle.parking_lot_core_model.specs.Places.{place_at}
use Rattle.parking_lot_core_model.specs.Machine.{Parts, machine, let_in, opened, open_at}
use Rattle.parking_lot_core_model.specs.declared.place.Place.TheVariants.{Running}
use Rattle.parking_lot_core_model.proofs.Closing.{kept_so, same_kept}
use Rattle.parking_lot_core_model.proofs.Sounds.{sound_opened}
use Rattle.parking_lot_core_model.proofs.Rooms.{seated}
use Rattle.parking_lot_core_model.proofs.lot.Lot.open.Goals as goal

pub let_in-requires : goal.let_in-requires
let_in-requires g c =
    let l = c.self.inside in
    let p : Parts = record {
      number = l.number;
      max_threads = l.max_threads;
      paired = l.paired;
      sleeps = l.sleeps;
      waiting = l.waiting.entries;
      owned = l.owned.entries.items;
      places = l.places.items;
      by_bucket = l.buckets.by_bucket.items;
      by_thread = l.buckets.by_thread.items;
    }
    in
    λ t e.
    let at : place_at p.places t ≡ Some Running = ap (λ v. place_at v.places t) c.self.view_is ∙ c.requires.runs t e in
    subst (λ (n : ℕ). t < n) (sym c.put.ensures.seats)
    (seated l.waiting p.places p.max_threads (length p.by_thread) t Running c.self.invariant.1 at)

pub invariant_of-self : goal.invariant_of-self
invariant_of-self g c =
    let l = c.self.inside in
    let p : Parts = record {
      number = l.number;
      max_threads = l.max_threads;
      paired = l.paired;
      sleeps = l.sleeps;
      waiting = l.waiting.entries;
      owned = l.owned.entries.items;
      places = l.places.items;
      by_bucket = l.buckets.by_bucket.items;
      by_thread = l.buckets.by_thread.items;
    }
    in
    let count = c.let_in.ensures.count ∙ c.put.ensures.count in
    let sections = c.let_in.ensures.sections ∙ c.put.ensures.sections in
    let inside = c.let_in.ensures.keys ∙ ap (let_in c.args.owner c.args.key) c.put.ensures.keys in
    let seats : length p.by_thread ≤ length c.let_in.new.self.by_thread.items =
    subst (λ (n : ℕ). length p.by_thread ≤ n) (sym (c.let_in.ensures.seats ∙ c.put.ensures.seats)) (omega arith) in
    kept_so p l.waiting _ _ _ _ c.self.invariant.1 count sections inside seats
    (sound_opened (machine p) c.args.owner c.args.key c.self.invariant.0
    (ap (λ v. open_at (machine v) c.args.key) c.self.view_is ∙ c.requires.free)
    (λ t e. ap (λ v. (machine v).inside t) c.self.view_is ∙ c.requires.outside t e)
    (λ t e. ap (λ v. place_at v.places t) c.self.view_is ∙ c.requires.runs t e))

pub returns : goal.returns
returns g c =
    let l = c.self.inside in
    let p : Parts = record {
      number = l.number;
      max_threads = l.max_threads;
      paired = l.paired;
      sleeps = l.sleeps;
      waiting = l.waiting.entries;
      owned = l.owned.entries.items;
      places = l.places.items;
      by_bucket = l.buckets.by_bucket.items;
      by_thread = l.buckets.by_thread.items;
    }
    in
    let count = c.let_in.ensures.count ∙ c.put.ensures.count in
    let sections = c.let_in.ensures.sections ∙ c.put.ensures.sections in
    let inside = c.let_in.ensures.keys ∙ ap (let_in c.args.owner c.args.key) c.put.ensures.keys in
    same_kept (machine p) _ _ _ _ _ count sections inside
    ∙ ap (λ v. opened (machine v) c.args.owner c.args.key) c.self.view_is

use Rattle.std.proofs.Common.{◌∙◌, ◌≤◌, ◌%◌, ℕ, length, sym, ap, refl}
use Rattle.std.proofs.Common.{subst, arith}
use Rattle.parking_lot_core_model.specs.declared.place.Section.{Section}
use Rattle.std.specs.Option.{option_map}
use Rattle.std.proofs.lemmas.Bool.{false≢true}
use Rattle.parking_lot_core_model.specs.declared.place.Phase.TheVariants as phase
use Rattle.parking_lot_core_model.specs.Buckets.{slot}
use Rattle.parking_lot_core_model.specs.Lists.{updated}
use Rattle.parking_lot_core_model.specs.Machine.{Parts, machine, stored}
use Rattle.parking_lot_core_model.proofs.Closing.{kept_so, same_kept}
use Rattle.parking_lot_core_model.proofs.Sounds.{sound_section}
use Rattle.parking_lot_core_model.proofs.lot.Lot.say_store.Goals as goal

pub invariant_of-self : goal.invariant_of-self
invariant_of-self g c =
    let l = c.self.inside in
    let p : Parts = record {
      number = l.number;
      max_threads = l.max_threads;
      paired = l.paired;
      sleeps = l.sleeps;
      waiting = l.waiting.entries;
      owned = l.owned.entries.items;
      places = l.places.items;
      by_bucket = l.buckets.by_bucket.items;
      by_thread = l.buckets.by_thread.items;
    }
    in
    let f = λ (s : Section). record s { phase = phase.Stored; token = c.args.token } in
    let b = c.args.key % length p.by_bucket in
    let sections = c.put.ensures.sections
    ∙ ap (updated (slot p.by_bucket) b) (c.with_store-section.ensures ∙ ap (option_map f) c.at.ensures) in
    let seats : length p.by_thread ≤ length c.put.new.self.by_thread.items =
    subst (λ (n : ℕ). length p.by_thread ≤ n) (sym c.put.ensures.seats) (omega arith) in
    kept_so p l.waiting _ _ _ _ c.self.invariant.1 c.put.ensures.count sections c.put.ensures.keys seats
    (sound_section (machine p) c.args.key f c.self.invariant.0 (λ s. refl) (λ s. refl)
    (λ s is may. absurd (false≢true may)))

pub returns : goal.returns
returns g c =
    let l = c.self.inside in
    let p : Parts = record {
      number = l.number;
      max_threads = l.max_threads;
      paired = l.paired;
      sleeps = l.sleeps;
      waiting = l.waiting.entries;
      owned = l.owned.entries.items;
      places = l.places.items;
      by_bucket = l.buckets.by_bucket.items;
      by_thread = l.buckets.by_thread.items;
    }
    in
    let f = λ (s : Section). record s { phase = phase.Stored; token = c.args.token } in
    let b = c.args.key % length p.by_bucket in
    let sections = c.put.ensures.sections
    ∙ ap (updated (slot p.by_bucket) b) (c.with_store-section.ensures ∙ ap (option_map f) c.at.ensures) in
    same_kept (machine p) _ _ _ _ _ c.put.ensures.count sections c.put.ensures.keys
    ∙ ap (λ v. stored (machine v) c.args.key c.args.token) c.self.view_is

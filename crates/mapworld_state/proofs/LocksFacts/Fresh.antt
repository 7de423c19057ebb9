-- Locks at which nobody has done anything fit together.
use Rattle.std.proofs.Common.{◌≡◌, ℕ, zero, suc, ◌≤◌, ◌^◌, false, length, replicate, Option, Some, None, slice_get}
use Rattle.std.proofs.Common.{◌<◌, ◌*◌, refl, sym, ◌∙◌, subst, arith}
use Rattle.std.specs.Option.{option_and_then, option_map_or}
use Rattle.std.proofs.lemmas.Bool.{false≢true}
use Rattle.std.proofs.lemmas.List.{length-replicate}
use Rattle.std.proofs.lemmas.Option.{none-some}
use Rattle.parking_lot_core_model.specs.declared.place.Place.TheVariants.{Running}
use Rattle.parking_lot_core_model.specs.Buckets.{buckets_for}
use Rattle.parking_lot_core_model.specs.Places.{is_held}
use Rattle.parking_lot_core_model.specs.Runs.{fresh}
use Rattle.parking_lot_core_model.specs.Sound as lot
use Rattle.parking_lot_core_model.proofs.Slots.{some_buckets}
use Rattle.parking_lot_machine_calls.specs.declared.calls.LockKind.TheVariants as kind
use Rattle.parking_lot_machine.specs.RowFits.{FitsTogether}
use Rattle.parking_lot_machine.proofs.Resting.{rest_fits}
use Rattle.mapworld_state.specs.Locks.Fits.{LocksFit}
use Rattle.mapworld_state.specs.Locks.Fresh.{AreFresh}
use Rattle.mapworld_state.specs.Locks.Views.{Shown}
use Rattle.mapworld_state.proofs.LocksFacts.Making.{fresh_fit}

-- what a list of the same shows at an index
all_alike : {X Y : Type 0} (x : X) (n i : ℕ) (f : Option X → Y) (y : Y) → f (Some x) ≡ y → f None ≡ y
    → f (slice_get (replicate n x) i) ≡ y
all_alike x zero i f y some none = none
all_alike x (suc n) zero f y some none = some
all_alike x (suc n) (suc i) f y some none = all_alike x n i f y some none

-- a lot where all threads run
all_run : (n b : ℕ) → 0 < b
    → lot.Sound (record (fresh n 0) { places = replicate n (Some Running); buckets = b })
all_run n b some = record {
  waits = λ t key. sym (all_alike (Some Running) n t (λ o. lot.times_at key (option_and_then (λ p. p) o)) 0 refl refl);
  held = λ t key is. absurd (false≢true (sym (all_alike (Some Running) n t
      (λ o. option_map_or (is_held key) (option_and_then (λ p. p) o) false) false refl refl) ∙ is));
  inside = λ i section t there. absurd (none-some section there);
  near = λ t key in_it. absurd (none-some key in_it);
  fit = record {
    some = some;
    bucket = λ i section there. absurd (none-some section there);
    owner = λ i section t there. absurd (none-some section there);
    entered = λ t key in_it. absurd (none-some key in_it);
  };
  owned = λ t none. refl;
}

pub fit-fresh : (threads shards : ℕ) (sh : Shown) → threads ≤ 131072 → shards ≤ 2 ^ 20 → AreFresh threads shards sh
    → LocksFit sh
fit-fresh threads shards sh few low made =
    let kinds : length (replicate shards kind.Rw) ≤ 2 ^ 20 = omega (arith, low, length-replicate shards kind.Rw) in
    fresh_fit threads shards sh.rows sh.desks made.rows
    (subst FitsTogether (sym made.rows) (rest_fits false threads (replicate shards kind.Rw)
    (all_run threads (buckets_for threads) (omega (arith, some_buckets (3 * threads) threads))) few kinds))
    made.desks made.count

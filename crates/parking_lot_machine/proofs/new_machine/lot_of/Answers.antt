use Rattle.std.proofs.Common.{◌≡◌, ℕ, suc, ◌+◌, Bool, List, cond, nat_lt, replicate, Option, Some, ap, sym, ◌∙◌, refl}
use Rattle.std.proofs.Common.{arith}
use Rattle.parking_lot_core_model.specs.Buckets.{buckets_for, threads_with}
use Rattle.parking_lot_core_model.specs.declared.place.Place.{Place}
use Rattle.parking_lot_core_model.specs.declared.place.Place.TheVariants.{Running}
use Rattle.parking_lot_core_model.specs.Machine.{Machine, registered}
use Rattle.parking_lot_core_model.specs.Runs.{fresh}
use Rattle.parking_lot_machine.proofs.BucketNumbers.{buckets_grow, grown, none_registered, numbers_grow}
use Rattle.parking_lot_machine.proofs.LotStarts.{next_number, registered_threads_run}
use Rattle.parking_lot_machine.proofs.new_machine.lot_of.Goals as goal

abbrev lot_so : ℕ → Bool → List (Option Place) → ℕ → Machine
lot_so threads paired places buckets = record (fresh threads 0) {
  paired = paired;
  places = places;
  buckets = buckets;
}

-- one more is registered
registers : (threads : ℕ) (paired : Bool) (i : ℕ)
    → registered (lot_so threads paired (replicate i (Some Running)) (buckets_for (threads_with paired i)))
    ≡ lot_so threads paired (replicate (i + 1) (Some Running)) (buckets_for (threads_with paired (i + 1)))
registers threads paired i =
    let one : Machine =
    lot_so threads paired (replicate i (Some Running)) (buckets_for (threads_with paired i)) in
    let more : suc i ≡ i + 1 = omega arith in
    let now : (registered one).buckets ≡ buckets_for (threads_with paired (i + 1)) =
    ap (λ (n : ℕ). cond (nat_lt one.buckets (buckets_for (threads_with paired (suc n))))
    (buckets_for (threads_with paired (suc n))) one.buckets) (next_number i)
    ∙ (grown (buckets_for (threads_with paired i)) (buckets_for (threads_with paired (suc i)))
    (buckets_grow (threads_with paired i) (threads_with paired (suc i)) (numbers_grow paired i))
    ∙ ap (λ (n : ℕ). buckets_for (threads_with paired n)) more) in
    ap (λ (ps : List (Option Place)). lot_so threads paired ps (registered one).buckets)
    (registered_threads_run one i refl)
    ∙ ap (lot_so threads paired (replicate (i + 1) (Some Running))) now

-- nobody is yet
pub loop-init : goal.loop-init
loop-init g c =
    c.in_ok-lot.ensures.made
    ∙ ap (lot_so c.args.threads c.args.paired (replicate 0 (Some Running))) (sym (none_registered c.args.paired))

pub loop-preserved : goal.loop-preserved
loop-preserved g c =
    c.in_default.ensures.ok.2 ∙ (ap registered c.loop.invariant
    ∙ registers c.args.threads c.args.paired c.loop.counter)

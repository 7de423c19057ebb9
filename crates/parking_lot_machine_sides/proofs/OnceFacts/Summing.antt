-- The steps of all threads but one, where calls have changed.
use Rattle.std.proofs.Common.{◌≡◌, ℕ, zero, suc, ◌+◌, ◌≤◌, List, [], ◌∷◌, Option, None, slice_set, sum_by, refl, ap}
use Rattle.std.proofs.Common.{arith}
use Rattle.std.proofs.lemmas.List.Sums.{sum_by-cons}
use Rattle.parking_lot_machine_sides.specs.declared.once.open_call.OpenCall.{OpenCall}
use Rattle.parking_lot_machine_sides.specs.Once.OnceRanks.{far_steps}
use Rattle.parking_lot_machine_sides.specs.Once.Onces.{call_in}

-- an element written twice
set_twice : (calls : List (Option OpenCall)) (t : ℕ) (x y : Option OpenCall)
    → slice_set (slice_set calls t x) t y ≡ slice_set calls t y
set_twice [] t x y = refl
set_twice (c ∷ calls) zero x y = refl
set_twice (c ∷ calls) (suc t) x y = ap (λ cs. c ∷ cs) (set_twice calls t x y)

module _ (n : ℕ) where
  -- one call has changed, and has so many steps more at most
  changed : (calls : List (Option OpenCall)) (v k : ℕ) (x : Option OpenCall)
      → far_steps n x ≤ far_steps n (call_in calls v) + k → sum_by (far_steps n) (slice_set calls v x) ≤ sum_by
      (far_steps n) calls + k
  changed [] v k x h = omega arith
  changed (c ∷ calls) zero k x h =
      omega (arith, sum_by-cons (far_steps n) c calls, sum_by-cons (far_steps n) x calls, h)
  changed (c ∷ calls) (suc v) k x h =
      omega (
        arith,
        sum_by-cons (far_steps n) c calls,
        sum_by-cons (far_steps n) c (slice_set calls v x),
        changed calls v k x h,
      )

  pub others_change : (calls : List (Option OpenCall)) (t v k : ℕ) (x : Option OpenCall)
      → far_steps n x ≤ far_steps n (call_in calls v) + k
      → sum_by (far_steps n) (slice_set (slice_set calls v x) t None) ≤ sum_by (far_steps n) (slice_set calls t None) +
      k
  others_change [] t v k x h = omega arith
  others_change (c ∷ calls) zero zero k x h = omega arith
  others_change (c ∷ calls) zero (suc v) k x h =
      omega (
        arith,
        sum_by-cons (far_steps n) None calls,
        sum_by-cons (far_steps n) None (slice_set calls v x),
        changed calls v k x h,
      )
  others_change (c ∷ calls) (suc t) zero k x h =
      omega (
        arith,
        sum_by-cons (far_steps n) c (slice_set calls t None),
        sum_by-cons (far_steps n) x (slice_set calls t None),
        h,
      )
  others_change (c ∷ calls) (suc t) (suc v) k x h =
      omega (
        arith,
        sum_by-cons (far_steps n) c (slice_set calls t None),
        sum_by-cons (far_steps n) c (slice_set (slice_set calls v x) t None),
        others_change calls t v k x h,
      )

  -- the call of the thread itself doesn't count
  pub others_same : (calls : List (Option OpenCall)) (t : ℕ) (x : Option OpenCall)
      → sum_by (far_steps n) (slice_set (slice_set calls t x) t None) ≡ sum_by (far_steps n) (slice_set calls t None)
  others_same calls t x = ap (sum_by (far_steps n)) (set_twice calls t x None)

  -- all threads, and sum_by (far_steps n) but one
  pub others_and_one : (calls : List (Option OpenCall)) (t : ℕ) → sum_by (far_steps n) (slice_set calls t None) +
      far_steps n (call_in calls t) ≡ sum_by (far_steps n) calls
  others_and_one [] t = refl
  others_and_one (c ∷ calls) zero =
      omega (arith, sum_by-cons (far_steps n) c calls, sum_by-cons (far_steps n) None calls)
  others_and_one (c ∷ calls) (suc t) =
      omega (
        arith,
        sum_by-cons (far_steps n) c calls,
        sum_by-cons (far_steps n) c (slice_set calls t None),
        others_and_one calls t,
      )

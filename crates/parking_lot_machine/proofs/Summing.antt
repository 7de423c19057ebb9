-- The steps of sum_by (far_steps n) threads but one, where calls have changed.
use Rattle.std.proofs.Common.{◌≡◌, ℕ, zero, suc, ◌+◌, ◌≤◌, List, [], ◌∷◌, map, Option, Some, None, option_map}
use Rattle.std.proofs.Common.{slice_set, sum_by, refl, ap, arith}
use Rattle.std.proofs.lemmas.List.Sums.{sum_by-cons}
use Rattle.parking_lot_machine_calls.specs.declared.seat.WakeResult.{WakeResult}
use Rattle.parking_lot_machine_calls.specs.declared.open_call.Call.{Call}
use Rattle.parking_lot_machine_calls.specs.CallActs.{settled}
use Rattle.parking_lot_machine.specs.Ranks.{far_steps}
use Rattle.parking_lot_machine.proofs.Calling.{call_of}
use Rattle.parking_lot_machine.proofs.Indexing.{set_twice}

module _ (n : ℕ) where
  -- one call has changed, and has so many steps more at most
  changed : (calls : List (Option Call)) (v k : ℕ) (x : Option Call) → far_steps n x ≤ far_steps n (call_of calls v) + k
      → sum_by (far_steps n) (slice_set calls v x) ≤ sum_by (far_steps n) calls + k
  changed [] v k x h = omega arith
  changed (c ∷ calls) zero k x h =
      omega (arith, sum_by-cons (far_steps n) c calls, sum_by-cons (far_steps n) x calls, h)
  changed (c ∷ calls) (suc v) k x h =
      omega (
        arith,
        sum_by-cons (far_steps n) c calls,
        sum_by-cons (far_steps n) c (slice_set calls v x),
        changed calls v k x h,
      )

  pub others_change : (calls : List (Option Call)) (t v k : ℕ) (x : Option Call)
      → far_steps n x ≤ far_steps n (call_of calls v) + k
      → sum_by (far_steps n) (slice_set (slice_set calls v x) t None) ≤ sum_by (far_steps n) (slice_set calls t None) +
      k
  others_change [] t v k x h = omega arith
  others_change (c ∷ calls) zero zero k x h = omega arith
  others_change (c ∷ calls) zero (suc v) k x h =
      omega (
        arith,
        sum_by-cons (far_steps n) None calls,
        sum_by-cons (far_steps n) None (slice_set calls v x),
        changed calls v k x h,
      )
  others_change (c ∷ calls) (suc t) zero k x h =
      omega (
        arith,
        sum_by-cons (far_steps n) c (slice_set calls t None),
        sum_by-cons (far_steps n) x (slice_set calls t None),
        h,
      )
  others_change (c ∷ calls) (suc t) (suc v) k x h =
      omega (
        arith,
        sum_by-cons (far_steps n) c (slice_set calls t None),
        sum_by-cons (far_steps n) c (slice_set (slice_set calls v x) t None),
        others_change calls t v k x h,
      )

  -- the call of the thread itself doesn't count
  pub others_same : (calls : List (Option Call)) (t : ℕ) (x : Option Call)
      → sum_by (far_steps n) (slice_set (slice_set calls t x) t None) ≡ sum_by (far_steps n) (slice_set calls t None)
  others_same calls t x = ap (sum_by (far_steps n)) (set_twice calls t x None)

  -- nor does what a thread was told that is off its list
  told_far : (t : ℕ) (said : WakeResult) (x : Option Call) → far_steps n (option_map (settled t said) x) ≡ far_steps n x
  told_far t said None = refl
  told_far t said (Some c) = refl

  all_told : (t : ℕ) (said : WakeResult) (calls : List (Option Call))
      → sum_by (far_steps n) (map (option_map (settled t said)) calls) ≡ sum_by (far_steps n) calls
  all_told t said [] = refl
  all_told t said (c ∷ calls) =
      omega (
        arith,
        sum_by-cons (far_steps n) c calls,
        sum_by-cons (far_steps n) (option_map (settled t said) c) (map (option_map (settled t said)) calls),
        told_far t said c,
        all_told t said calls,
      )

  pub others_told : (t : ℕ) (said : WakeResult) (calls : List (Option Call)) (v : ℕ)
      → sum_by (far_steps n) (slice_set (map (option_map (settled t said)) calls) v None) ≡ sum_by (far_steps n)
      (slice_set calls v None)
  others_told t said [] v = refl
  others_told t said (c ∷ calls) zero =
      omega (
        arith,
        sum_by-cons (far_steps n) None calls,
        sum_by-cons (far_steps n) None (map (option_map (settled t said)) calls),
        all_told t said calls,
      )
  others_told t said (c ∷ calls) (suc v) =
      omega (
        arith,
        sum_by-cons (far_steps n) c (slice_set calls v None),
        sum_by-cons (far_steps n) (option_map (settled t said) c)
            (slice_set (map (option_map (settled t said)) calls) v None),
        told_far t said c,
        others_told t said calls v,
      )

  -- all threads, and sum_by (far_steps n) but one
  pub others_and_one : (calls : List (Option Call)) (t : ℕ) → sum_by (far_steps n) (slice_set calls t None) + far_steps
      n (call_of calls t) ≡ sum_by (far_steps n) calls
  others_and_one [] t = refl
  others_and_one (c ∷ calls) zero =
      omega (arith, sum_by-cons (far_steps n) c calls, sum_by-cons (far_steps n) None calls)
  others_and_one (c ∷ calls) (suc t) =
      omega (
        arith,
        sum_by-cons (far_steps n) c calls,
        sum_by-cons (far_steps n) c (slice_set calls t None),
        others_and_one calls t,
      )

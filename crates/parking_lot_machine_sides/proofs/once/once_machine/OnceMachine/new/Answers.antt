use Rattle.std.proofs.Common.{◌≡◌, ◌≤◌, None, length, sym, ap, subst, arith, rules}
use Rattle.std.specs.Prelude.{vec_capacity}
use Rattle.parking_lot_machine_sides.specs.Once.OnceActs.{at_rest}
use Rattle.parking_lot_machine_sides.specs.Once.OnceFits.{Fits}
use Rattle.parking_lot_machine_sides.specs.Once.Onces.{Onces}
use Rattle.parking_lot_machine_sides.proofs.OnceFacts.Resting.{rest_fits, threads_at_rest}
use Rattle.parking_lot_machine_sides.proofs.once.once_machine.OnceMachine.new.Goals as goal

pub invariant_of-result : goal.invariant_of-result
invariant_of-result g c =
    let now : Onces = record {
      words = c.in_ok-vec.field-0.items;
      calls = c.in_ok-vec-2.field-0.items;
      waiting = c.in_ok-with_capacity.field-0.items;
      wakes = c.in_ok-with_capacity-2.field-0.items;
      inside = c.in_ok-vec-3.field-0.items;
    } in
    let is : now ≡ at_rest c.args.threads c.args.onces = search rules in
    let one : length c.in_ok-vec-2.field-0.items ≤ vec_capacity c.in_ok-with_capacity.field-0 =
    omega (
      arith,
      ap (λ (x : Onces). length x.calls) is,
      threads_at_rest c.args.threads,
      c.in_ok-with_capacity.ensures.capacity,
    ) in
    let two : length c.in_ok-vec-2.field-0.items ≤ vec_capacity c.in_ok-with_capacity-2.field-0 =
    omega (
      arith,
      ap (λ (x : Onces). length x.calls) is,
      threads_at_rest c.args.threads,
      c.in_ok-with_capacity-2.ensures.capacity,
    ) in (
      subst Fits (sym is) (rest_fits c.args.threads c.args.onces (omega (arith, c.if-threads-gt-MAX_THREADS.false))),
      one,
      two,
    )

use Rattle.std.proofs.Common.{◌≡◌, ◌≤◌, None, length, sym, ap, subst, arith, rules}
use Rattle.std.specs.Prelude.{vec_capacity}
use Rattle.parking_lot_machine_sides.specs.Condvar.Fitting.{Fits}
use Rattle.parking_lot_machine_sides.specs.Condvar.Machines.{State, at_rest}
use Rattle.parking_lot_machine_sides.proofs.CondvarFacts.Beginning.{length_rest, rest_fits}
use Rattle.parking_lot_machine_sides.proofs.condvar.condvar_machine.CondvarMachine.new.Goals as goal

pub invariant_of-result : goal.invariant_of-result
invariant_of-result g c =
    let now : State = record {
      word = 0;
      calls = c.in_ok-vec.field-0.items;
      queue = c.in_ok-with_capacity.field-0.items;
      inside = None;
      beside = None;
    } in
    let is : now ≡ at_rest c.args.threads = search rules in
    let room : length c.in_ok-vec.field-0.items ≤ vec_capacity c.in_ok-with_capacity.field-0 =
    omega (
      arith,
      ap (λ (x : State). length x.calls) is,
      length_rest c.args.threads,
      c.in_ok-with_capacity.ensures.capacity,
    ) in
    (subst Fits (sym is) (rest_fits c.args.threads (omega (arith, c.if-threads-gt-MAX_THREADS.false))), room)

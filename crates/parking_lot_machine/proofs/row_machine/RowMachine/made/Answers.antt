use Rattle.std.proofs.Common.{◌≡◌, ◌≤◌, ◌^◌, length, sym, ap, subst, arith, rules}
use Rattle.std.specs.Prelude.{vec_capacity}
use Rattle.parking_lot_machine.specs.Rows.{State, state}
use Rattle.parking_lot_machine.specs.RowFits.{FitsTogether}
use Rattle.parking_lot_machine.specs.Machines.{at_rest}
use Rattle.parking_lot_core_model.specs.Sound as lot
use Rattle.parking_lot_machine.proofs.Resting.{rest_fits, threads_at_rest}
use Rattle.parking_lot_machine.proofs.row_machine.RowMachine.made.Goals as goal

pub invariant_of-result : goal.invariant_of-result
invariant_of-result g c =
    let now : State = state
    (record {
      kinds = c.args.kinds.items;
      words = c.in_ok-vec.field-0.items;
      holds = c.in_ok-vec-2.field-0.items;
      calls = c.in_ok-vec-3.field-0.items;
      wakes = c.in_ok-with_capacity.field-0.items;
      lot = c.in_ok-lot_of.field-0;
    }) in
    let is : now ≡ at_rest c.args.paired c.args.threads c.args.kinds.items = search rules in
    let locks : length c.args.kinds.items ≤ 2 ^ 20 = c.requires.locks in
    let threads : length c.in_ok-vec-3.field-0.items ≤ vec_capacity c.in_ok-with_capacity.field-0 =
    omega (
      arith,
      ap (λ (x : State). length x.calls) is,
      threads_at_rest c.args.paired c.args.threads c.args.kinds.items,
      c.in_ok-with_capacity.ensures.capacity,
    ) in (
      subst FitsTogether (sym is)
          (rest_fits c.args.paired c.args.threads c.args.kinds.items
          (subst lot.Sound c.in_ok-lot_of.ensures.made c.in_ok-lot_of.ensures.sound) c.requires.few locks),
      threads,
    )

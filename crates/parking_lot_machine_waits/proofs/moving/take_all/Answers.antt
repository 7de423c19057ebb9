use Rattle.std.proofs.Common.{◌≡◌, ◌-◌, ◌+◌, suc, arith, subst}
use Rattle.parking_lot_machine_sides.specs.Condvar.Steps.{IsTaken}
use Rattle.parking_lot_machine_waits.specs.Moving.{AreTaken, MayTake}
use Rattle.parking_lot_machine_waits.proofs.Sequences.{some_of}
use Rattle.parking_lot_machine_waits.proofs.moving.take_all.Goals as goal

pub take_first-requires : goal.take_first-requires
take_first-requires g c =
    let left : c.args.count - c.loop.counter ≡ suc (c.args.count - (c.loop.counter + 1)) =
    omega (arith, c.loop-test.true) in
    record { can = (subst (λ n. MayTake c.args.thread n c.loop.machine) left c.loop.invariant.may).0 }

pub loop-preserved : goal.loop-preserved
loop-preserved g c =
    let left : c.args.count - c.loop.counter ≡ suc (c.args.count - (c.loop.counter + 1)) =
    omega (arith, c.loop-test.true) in
    let more : suc c.loop.counter ≡ c.loop.counter + 1 = omega arith in
    let one = some_of {P = λ w. IsTaken c.args.thread w c.loop.machine c.take_first.new.self} c.take_first.result
    c.take_first.ensures.some c.take_first.ensures.took in
    record {
      taken = subst (λ n. AreTaken c.args.thread n c.args.machine.now c.take_first.new.self) more
          (c.loop.machine, c.loop.invariant.taken, one.0, one.1);
      may = (subst (λ n. MayTake c.args.thread n c.loop.machine) left c.loop.invariant.may).1 one.0
          c.take_first.new.self one.1;
    }

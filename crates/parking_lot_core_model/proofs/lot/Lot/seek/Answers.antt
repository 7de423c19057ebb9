use Rattle.std.proofs.Common.{◌≡◌, ◌∙◌, ◌≤◌, sym, Some, slice_get, length, arith, of_calls}
use Rattle.parking_lot_core_model.specs.Machine.{machine}
use Rattle.parking_lot_core_model.proofs.Filters.{sought_takes, sought_stops, sought_passes, sought_ends}
use Rattle.parking_lot_core_model.proofs.lot.Lot.seek.Goals as goal

pub returns-in-Unpark : goal.returns-in-Unpark
returns-in-Unpark g c =
    sought_takes (goal.F-step g) c.args.filter ((machine c.args.self.now).queues c.args.key) c.args.passed
    c.loop-at.filter c.loop-at.at c.in_ok-waiter.waiter c.filter.new.self (sym c.in_ok-waiter.ensures)
    c.loop-at.invariant.1 c.in-Unpark.ensures

pub returns-in-Stop : goal.returns-in-Stop
returns-in-Stop g c =
    sought_stops (goal.F-step g) c.args.filter ((machine c.args.self.now).queues c.args.key) c.args.passed
    c.loop-at.filter c.loop-at.at c.in_ok-waiter.waiter c.filter.new.self (sym c.in_ok-waiter.ensures)
    c.loop-at.invariant.1 c.in-Stop.ensures

pub loop-at-preserved : goal.loop-at-preserved
loop-at-preserved g c = (
  search of_calls,
  sought_passes (goal.F-step g) c.args.filter ((machine c.args.self.now).queues c.args.key)
      c.args.passed c.loop-at.filter c.loop-at.at c.in_ok-waiter.waiter c.filter.new.self (sym c.in_ok-waiter.ensures)
      c.loop-at.invariant.1 c.in-Skip.ensures,
)

pub returns : goal.returns
returns g c =
    sought_ends (goal.F-step g) c.args.filter ((machine c.args.self.now).queues c.args.key) c.args.passed
    c.loop-at.filter c.loop-at.at (omega arith) c.loop-at.invariant.1

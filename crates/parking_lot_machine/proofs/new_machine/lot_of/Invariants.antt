use Rattle.std.proofs.Common.{◌≡◌, replicate, Some}
use Rattle.parking_lot_core_model.specs.Buckets.{buckets_for, threads_with}
use Rattle.parking_lot_core_model.specs.Machine.{machine}
use Rattle.parking_lot_core_model.specs.Runs.{fresh}
use Rattle.parking_lot_core_model.specs.declared.place.Place.TheVariants.{Running}
use Rattle.parking_lot_machine.proofs.new_machine.lot_of.Given as goal

-- those that are registered so far run, and there are as many buckets as so many want
abbrev pub invariant-loop : goal.invariant-loop
invariant-loop g l = machine l.lot ≡ record (fresh l.threads 0) {
  paired = l.paired;
  places = replicate l.counter (Some Running);
  buckets = buckets_for (threads_with l.paired l.counter);
}

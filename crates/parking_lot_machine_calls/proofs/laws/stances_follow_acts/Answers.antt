use Rattle.parking_lot_machine_calls.proofs.Stancing.{acts_lead, takings_count, sleepers_wake, calls_begin, calls_end}
use Rattle.parking_lot_machine_calls.proofs.Stancing.{wakes_some, keys_are_two}
use Rattle.parking_lot_machine_calls.proofs.laws.stances_follow_acts.Goals as goal

pub returns : goal.returns
returns c = record {
  acts = acts_lead;
  takings = takings_count;
  sleepers = sleepers_wake;
  begins = calls_begin;
  ends = calls_end;
  wakes = wakes_some;
  keys = keys_are_two;
}

-- The acts that put threads into lists and take them off: each keeps the machine fit, and is a step of the rules.
use Rattle.parking_lot_machine.specs.TakeLaws.{TakesAreSteps}
use Rattle.parking_lot_machine.proofs.TakeJoins.{appends, takes_nobody}
use Rattle.parking_lot_machine.proofs.TakeActs.{goes_on, takes}

pub laws : TakesAreSteps
laws = record {
  take_nobody = λ s t c k from passes sound h here. takes_nobody s t c k from passes sound h here;
  take = λ s t c k nth w from next sound h here. takes s t c k nth w from next h here sound;
  goes_on = goes_on;
  append = λ s t c k token asked from sound h here. appends s t c k token asked from sound h here;
}

use Rattle.parking_lot_rules.proofs.Variables.{step_sound, quiet_sound}
use Rattle.parking_lot_rules.proofs.many.condition_variables_stay_sound.Goals as goal

pub returns : goal.returns
returns c = record { begins = quiet_sound; steps = step_sound }

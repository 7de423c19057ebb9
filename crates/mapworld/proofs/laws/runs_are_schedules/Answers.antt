use Rattle.mapworld.proofs.Runs.{ran-leads}
use Rattle.mapworld.proofs.laws.runs_are_schedules.Goals as goal

pub returns : goal.returns
returns g c w n steps w' ran = ran-leads _ n w steps w' ran

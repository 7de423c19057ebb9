use Rattle.std.proofs.Common.{◌≡◌, take}
use Rattle.parking_lot_world.specs.WorldLaws.{DoneStays}
use Rattle.parking_lot_world.specs.Worlds.{Ran}
use Rattle.parking_lot_world.proofs.world.World.make_steps.Given as goal

abbrev pub invariant-loop-step : goal.invariant-loop-step
invariant-loop-step g l = record {
  ran : Ran l.initial.self (take l.step-index l.steps) l.self;
  done : l.done ≡ l.step-index;
  lasts : DoneStays l.initial.self l.self;
}

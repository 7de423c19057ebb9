use Rattle.std.proofs.Common.{◌≡◌, take}
use Rattle.mapworld_state.specs.Running.{Ran}
use Rattle.mapworld_state.specs.World.{setup_of}
use Rattle.mapworld_state.specs.Running.{StaysFixed}
use Rattle.mapworld.specs.History.{history_of, HistoryAddsTo}
use Rattle.mapworld.proofs.world.MapWorld.make_steps.Given as goal

abbrev pub invariant-loop-step : goal.invariant-loop-step
invariant-loop-step g l = record {
  ran : Ran (setup_of g.D.Deed g.S.BuildHasher g.S.Hasher.Hasher g.K.PartialEq.eq g.K.Hash.hash_input l.initial.self)
      0 l.initial.self (take l.step-index l.steps) l.self;
  done : l.done ≡ l.step-index;
  adds : HistoryAddsTo (history_of l.initial.self) (history_of l.self);
  fixed : StaysFixed l.initial.self l.self;
}

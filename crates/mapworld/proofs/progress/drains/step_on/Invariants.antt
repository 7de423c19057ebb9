use Rattle.std.proofs.Common.{◌≡◌, ◌+◌, ◌≤◌, length}
use Rattle.mapworld_state.specs.Core.{IsSlotted, IsSoundCore, Room, state_of}
use Rattle.mapworld_state.specs.World.{setup_of}
use Rattle.mapworld.specs.Progress.Drains.{DrainsBy, core_left}
use Rattle.mapworld.proofs.progress.drains.step_on.Given as goal

abbrev pub invariant-on : goal.invariant-on
invariant-on g l = record {
  by : DrainsBy (setup_of g.D.Deed g.S.BuildHasher g.S.Hasher.Hasher g.K.PartialEq.eq g.K.Hash.hash_input
      (state_of l.initial.core)) (state_of l.initial.core) l.made (state_of l.core);
  falls : l.made + core_left g.D.Deed g.S.BuildHasher g.S.Hasher.Hasher g.K.PartialEq.eq g.K.Hash.hash_input l.core
      l.thread ≤ core_left g.D.Deed g.S.BuildHasher g.S.Hasher.Hasher g.K.PartialEq.eq g.K.Hash.hash_input
      l.initial.core l.thread;
  sound : IsSoundCore g.D.Deed g.S.BuildHasher g.S.Hasher.Hasher g.K.PartialEq.eq g.K.Hash.hash_input l.core;
  room : Room l.core;
  slots : IsSlotted g.D.Deed g.S.BuildHasher g.S.Hasher.Hasher g.K.PartialEq.eq g.K.Hash.hash_input l.core;
  places : length l.core.places.items ≡ length l.initial.core.places.items;
}

abbrev pub decreases-on : goal.decreases-on
decreases-on g l = core_left g.D.Deed g.S.BuildHasher g.S.Hasher.Hasher g.K.PartialEq.eq g.K.Hash.hash_input l.core
    l.thread

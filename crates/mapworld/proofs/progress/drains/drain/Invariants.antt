use Rattle.std.proofs.Common.{ℕ, ◌+◌, ◌-◌, ◌<◌}
use Rattle.mapworld_state.specs.Core.{IsSlotted, IsSoundCore, Room, state_of}
use Rattle.mapworld_state.specs.Running.{bound_of}
use Rattle.mapworld_state.specs.World.{setup_of}
use Rattle.mapworld.specs.Progress.Drains.{DrainsBy, core_left}
use Rattle.mapworld.proofs.progress.drains.drain.Given as goal

abbrev pub invariant-passes : goal.invariant-passes
invariant-passes g l = record {
  by : DrainsBy (setup_of g.D.Deed g.S.BuildHasher g.S.Hasher.Hasher g.K.PartialEq.eq g.K.Hash.hash_input
      (state_of l.initial.core)) (state_of l.initial.core) l.made (state_of l.core);
  falls : (most : ℕ)
      → ((u : ℕ) → core_left g.D.Deed g.S.BuildHasher g.S.Hasher.Hasher g.K.PartialEq.eq g.K.Hash.hash_input
      l.initial.core u < most) → (u : ℕ) → l.made + core_left g.D.Deed g.S.BuildHasher g.S.Hasher.Hasher
      g.K.PartialEq.eq g.K.Hash.hash_input l.core u < most;
  sound : IsSoundCore g.D.Deed g.S.BuildHasher g.S.Hasher.Hasher g.K.PartialEq.eq g.K.Hash.hash_input l.core;
  room : Room l.core;
  slots : IsSlotted g.D.Deed g.S.BuildHasher g.S.Hasher.Hasher g.K.PartialEq.eq g.K.Hash.hash_input l.core;
}

abbrev pub decreases-passes : goal.decreases-passes
decreases-passes g l = bound_of (state_of l.initial.core) - l.made

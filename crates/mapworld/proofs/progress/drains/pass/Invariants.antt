use Rattle.std.proofs.Common.{◌≡◌, ℕ, ◌+◌, ◌<◌, false, length}
use Rattle.mapworld_state.specs.Core.{IsSlotted, IsSoundCore, Room, state_of}
use Rattle.mapworld_state.specs.Running.{can_move_in}
use Rattle.mapworld_state.specs.World.{setup_of}
use Rattle.mapworld.specs.Progress.Drains.{DrainsBy, core_left}
use Rattle.mapworld.proofs.progress.drains.pass.Given as goal

abbrev pub invariant-loop-thread : goal.invariant-loop-thread
invariant-loop-thread g l = record {
  by : DrainsBy (setup_of g.D.Deed g.S.BuildHasher g.S.Hasher.Hasher g.K.PartialEq.eq g.K.Hash.hash_input
      (state_of l.initial.core)) (state_of l.initial.core) l.made (state_of l.core);
  falls : (most : ℕ)
      → ((u : ℕ) → core_left g.D.Deed g.S.BuildHasher g.S.Hasher.Hasher g.K.PartialEq.eq g.K.Hash.hash_input
      l.initial.core u < most) → (u : ℕ) → l.made + core_left g.D.Deed g.S.BuildHasher g.S.Hasher.Hasher
      g.K.PartialEq.eq g.K.Hash.hash_input l.core u < most;
  quiet : l.made ≡ 0 → (state_of l.core ≡ state_of l.initial.core)
      × ((t : ℕ) → t < l.thread → can_move_in (state_of l.initial.core) t ≡ false);
  sound : IsSoundCore g.D.Deed g.S.BuildHasher g.S.Hasher.Hasher g.K.PartialEq.eq g.K.Hash.hash_input l.core;
  room : Room l.core;
  slots : IsSlotted g.D.Deed g.S.BuildHasher g.S.Hasher.Hasher g.K.PartialEq.eq g.K.Hash.hash_input l.core;
  places : length l.core.places.items ≡ length l.initial.core.places.items;
}

use Rattle.std.proofs.Common.{map}
use Rattle.mapworld_state.specs.Places.{place_of}
use Rattle.mapworld.specs.Beginning.{AreAtStart, HaveLists}
use Rattle.mapworld.proofs.beginning.places_of.Given as goal

abbrev pub invariant-loop-program : goal.invariant-loop-program
invariant-loop-program g l = record {
  start : AreAtStart (map (λ program. program.items) l.yielded) (map place_of l.places.items);
  lists : HaveLists l.shards l.places.items;
}

-- Words and guards say of each other what they should, where locks and desks fit.
use Rattle.mapworld_state.specs.Locks.Counts.{DesksCountAsWords}
use Rattle.mapworld_state.specs.Locks.Fits.{LocksFit}
use Rattle.mapworld_state.specs.Locks.Views.{Shown}
use Rattle.mapworld.specs.Guarded.{GuardsAreOwners}

pub guards_are_owners : DesksCountAsWords → (locks : Shown) → LocksFit locks → GuardsAreOwners locks
guards_are_owners count locks fit = record {
  owners = λ shard desk at party. (fit.desks_fit shard desk at).seated party;
  counted = λ shard desk at. count locks fit shard desk at;
  together = fit.together;
  desks = fit.count;
}

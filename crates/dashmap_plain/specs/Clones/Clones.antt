-- Clones of shards behind locks.
use Rattle.std.specs.Prelude.{Bool, List}
use Rattle.std.specs.List.{AllZip}
use Rattle.crossbeam_utils.specs.Padded.{padded_value}
use Rattle.dashmap_table.specs.Table.{Table}
use Rattle.dashmap_view.specs.Clones.{IsCloneOf}
use Rattle.dashmap_map.specs.Locked.{Locked}
use Rattle.dashmap_map.specs.Owner.{EachOf}

module _ {K V Q Party : Type 0} (showed : Q → Party → Party → Table K V → Type 0) where
  -- of a shared hold of a lock there is evidence, which some wait gave, and the clone is of the shard that it showed
  abbrev pub IsCloneBehind : (K → K → Bool) → Q → Table K V → Type 0
  IsCloneBehind eq lock clone = (from : Party) × (to : Party) × (shard : Table K V) × showed lock from to shard
      × IsCloneOf eq shard clone

  -- each shard of a map was held in its turn, and its clone stands at its number
  abbrev pub AreClonesBehind : {S : Type 0} → (K → K → Bool) → Locked Q S → List (Table K V) → Type 0
  AreClonesBehind eq m clones = AllZip (λ lock clone. IsCloneBehind eq (padded_value lock) clone) m.locks clones

  -- a map's clone has clones of what each lock showed put behind its own locks, each at its number
  abbrev pub IsCloneOfMap : {S : Type 0} → (Q → Table K V → Type 0) → (K → K → Bool) → Locked Q S → Locked Q S → Type 0
  IsCloneOfMap put eq m clone = (tables : List (Table K V)) × AreClonesBehind eq m tables
      × EachOf put clone.locks tables

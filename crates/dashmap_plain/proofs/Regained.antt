-- A map that is taken apart, and comes back.
use Rattle.std.proofs.Common.{◌≡◌, List, ap, ◌∙◌}
use Rattle.crossbeam_utils.specs.declared.cache_padded.CachePadded.{CachePadded}
use Rattle.dashmap_table.specs.Table.{Table}
use Rattle.dashmap_map.specs.Locked.{Locked}
use Rattle.dashmap_plain.specs.Opened.{Opened}

module _ {K V S Q : Type 0} where
  abbrev opened : List (Table K V) → S → List (CachePadded Q) → Opened K V S Q
  opened tables hasher locks = record { plain = record { tables = tables; hasher = hasher }; locks = locks }

  -- it is told by its shards, its hasher and its locks
  pub same_parts : (o p : Opened K V S Q) → o.plain.tables ≡ p.plain.tables → o.plain.hasher ≡ p.plain.hasher
      → o.locks ≡ p.locks → o ≡ p
  same_parts o p tables hasher locks =
      ap (λ t. opened t o.plain.hasher o.locks) tables
      ∙ (ap (λ s. opened p.plain.tables s o.locks) hasher ∙ ap (λ l. opened p.plain.tables p.plain.hasher l) locks)

module _ {S Q : Type 0} where
  abbrev locked : List (CachePadded Q) → S → Locked Q S
  locked locks hasher = record { locks = locks; hasher = hasher }

  -- a map is told by its locks and its hasher
  pub same_map : (m n : Locked Q S) → m.locks ≡ n.locks → m.hasher ≡ n.hasher → m ≡ n
  same_map m n locks hasher = ap (λ l. locked l m.hasher) locks ∙ ap (λ s. locked n.locks s) hasher

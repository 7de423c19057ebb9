-- What became of plain shards that changed places with those behind locks.
use Rattle.std.specs.Prelude.{◌≡◌, ℕ, zero, suc, List, [], ◌∷◌}
use Rattle.crossbeam_utils.specs.declared.cache_padded.CachePadded.{CachePadded}
use Rattle.crossbeam_utils.specs.Padded.{padded_value}
use Rattle.dashmap_table.specs.Table.{Table}

module _ {K V Q : Type 0} (taken put : Q → Table K V → Type 0) where
  -- the first n plain shards went behind the locks of their numbers, and those from there are in their places; the rest
  -- stayed
  abbrev pub Exchanged : ℕ → List (CachePadded Q) → List (Table K V) → List (Table K V) → Type 0
  Exchanged zero locks old new = old ≡ new
  Exchanged (suc n) (l ∷ ls) (o ∷ os) (w ∷ ws) =
      taken (padded_value l) w × put (padded_value l) o × Exchanged n ls os ws
  Exchanged (suc n) [] old new = ⊥
  Exchanged (suc n) (l ∷ ls) [] new = ⊥
  Exchanged (suc n) (l ∷ ls) (o ∷ os) [] = ⊥

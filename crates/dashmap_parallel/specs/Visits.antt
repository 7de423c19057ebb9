-- What is visited, by whom, and what a visitor of a lock finds behind it.
use Rattle.std.specs.Prelude.{◌≡◌, ℕ, ◌+◌, ◌-◌, List, length, take, drop}
use Rattle.std.specs.List.{AllZip, flat_map}
use Rattle.std.specs.Borrow.{Bor, MutBor}
use Rattle.std.specs.Fn.{FnReturns}
use denote.Param.Members.{Shared}
use Rattle.crossbeam_utils.specs.declared.cache_padded.CachePadded.{CachePadded}
use Rattle.crossbeam_utils.specs.Padded.{padded_value}
use Rattle.dashmap_table.specs.Table.{Table}
use Rattle.dashmap_view.specs.Parallel.Pieces.{first_shard}

-- f was called at a `&` to x and somebody's own
pub record VisitsBy {F X D : Type 0} (g : Shared F (Bor X × (MutBor D × Unit {0})) (Unit {0} × (MutBor D × Unit {0})))
    (f : F) (x : X) : Type 0 where
  pub item : Bor X
  pub shows : item.now ≡ x
  pub party : MutBor D
  pub left : MutBor D
  pub says : FnReturns g f (item, (party, tt)) (tt, (left, tt))

-- the items of a piece
abbrev pub piece : {X : Type 0} → List X → ℕ → ℕ → List X
piece xs pieces number =
    take (first_shard (length xs) pieces (number + 1) - first_shard (length xs) pieces number)
    (drop (first_shard (length xs) pieces number) xs)

module _ {F X D U : Type 0} (g : Shared F (Bor (List X) × (MutBor D × Unit {0})) (U × (MutBor D × Unit {0}))) (f : F)
  where
    -- f, called at a `&` to a piece and somebody's own, made this of it
    pub record MadeOf (cut : List X) (made : U) : Type 0 where
      pub items : Bor (List X)
      pub shows : items.now ≡ cut
      pub party : MutBor D
      pub left : MutBor D
      pub says : FnReturns g f (items, (party, tt)) (made, (left, tt))

    -- some items are cut into pieces, and f made these of them, in order
    abbrev pub MadeInPieces : List X → List U → Type 0
    MadeInPieces xs all = (cuts : List (List X)) × AllZip MadeOf cuts all × (xs ≡ flat_map (λ l. l) cuts)

module _ {K V Q Party : Type 0} (showed : Q → Party → Party → Table K V → Type 0) where
  -- of a shared hold of a lock there is evidence, which some wait gave, and P holds of the shard that it showed
  abbrev pub WhileShared : Q → (Table K V → Type 0) → Type 0
  WhileShared lock P = (from : Party) × (to : Party) × (table : Table K V) × showed lock from to table × P table

  -- so it is of each of some locks, and P holds of what was shown and of a part of a list: the parts in the order of
  -- the locks are the list
  abbrev pub GatheredFrom : {T : Type 0} → (Table K V → List T → Type 0) → List (CachePadded Q) → List T → Type 0
  GatheredFrom {T} P locks all = (parts : List (List T))
      × AllZip (λ lock part. WhileShared (padded_value lock) (λ table. P table part)) locks parts
      × (all ≡ flat_map (λ part. part) parts)

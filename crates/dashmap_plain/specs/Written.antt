-- What becomes of a map's plain shards while its values are lent for writing.
use Rattle.std.specs.Prelude.{List}
use Rattle.std.specs.List.{AllZip}
use Rattle.std.specs.Borrow.{Bor, MutBor}
use denote.Param.Members.{Shared}
use Rattle.crossbeam_utils.specs.declared.cache_padded.CachePadded.{CachePadded}
use Rattle.dashmap_map.specs.Owner.{EachOf}
use Rattle.dashmap_table.specs.Table.{Table}
use Rattle.dashmap_view.specs.Parallel.Calls.{WritesEach}

module _ {F K V Q : Type 0} (taken put : Q → Table K V → Type 0)
    (g : Shared F (Bor K × (MutBor V × Unit {0})) (Unit {0} × (MutBor V × Unit {0}))) (f : F) where
  -- the tables behind these locks were taken out, each value of theirs became what a call of f left of it, and they were
  -- put back, each behind its own lock
  abbrev pub WroteAll : List (CachePadded Q) → Type 0
  WroteAll locks = (before : List (Table K V)) × (after : List (Table K V)) × EachOf taken locks before
      × EachOf put locks after × AllZip (WritesEach g f) before after

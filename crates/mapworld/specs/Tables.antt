-- Tables of pairs, one for each shard, seen as one list.
use Rattle.std.specs.Prelude.{◌≡◌, ℕ, Bool, List, Some, slice_get}
use Rattle.std.specs.List.{flat_map}
use Rattle.mapworld_calls.specs.Pairs.{AreDistinct}

-- the lists one after another
abbrev pub joined : {X : Type 0} → List (List X) → List X
joined tables = flat_map (λ table. table) tables

-- every pair stands in the table of its key's route
abbrev pub AreRouted : {K V : Type 0} → (K → ℕ) → List (List (K × V)) → Type 0
AreRouted {K} {V} route tables =
    (i j : ℕ) (table : List (K × V)) (p : K × V) → slice_get tables i ≡ Some table → slice_get table j ≡ Some p
    → route p.0 ≡ i

-- each table's keys are distinct
abbrev pub AreEachDistinct : {K V : Type 0} → (K → K → Bool) → List (List (K × V)) → Type 0
AreEachDistinct {K} {V} eq tables = (i : ℕ) (table : List (K × V)) → slice_get tables i ≡ Some table
    → AreDistinct eq table

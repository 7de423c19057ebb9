-- What the code reads of a pair.
use Rattle.std.specs.Prelude.{List, [], ◌∷◌, Option, Some, None}

-- one item or none, as a list
abbrev pub as_list : {T : Type 0} → Option T → List T
as_list None = []
as_list (Some t) = t ∷ []

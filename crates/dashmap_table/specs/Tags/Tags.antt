-- The tags of a table as a list.
use Rattle.std.specs.Prelude.{ℕ, List, [], Option, Some, None}
use Rattle.std.specs.declared.vec.Vec.{Vec}

-- none where nothing was taken for them
abbrev pub tags_in : {A : Type 0} → Option (Vec ℕ A) → List ℕ
tags_in None = []
tags_in (Some bytes) = bytes.items

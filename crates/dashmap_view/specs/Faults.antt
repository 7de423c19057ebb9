-- What the refusal of a view is called and numbered.
use Rattle.std.specs.Prelude.{ℕ, List, codes}

abbrev pub displaced_code : ℕ
displaced_code = 33

abbrev pub displaced_name : List ℕ
displaced_name = codes "Displaced"

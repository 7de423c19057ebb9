-- What narrowing a guard to a part gives.
use Rattle.std.specs.Prelude.{◌≡◌, Option, None, IsSome, Result, Ok, Err}

-- the mapped guard where the part is there, and what is given back where it is missing
abbrev pub Narrows : {B M E : Type 0} → Option B → M → E → Result M E → Type 0
Narrows found mapped back (Ok guard) = (guard ≡ mapped) × IsSome found
Narrows found mapped back (Err given) = (given ≡ back) × (found ≡ None)

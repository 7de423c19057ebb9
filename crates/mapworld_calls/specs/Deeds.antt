-- What the deeds of a program answer, keep and store, as one value.
use Rattle.std.specs.Prelude.{Bool}

-- the three definitions of a deed, of the pair alone
pub record Deeds (D K V T : Type 0) : Type 0 where
  pub answer : D → K → V → T
  pub keep : D → K → V → Bool
  pub effect : D → K → V → V

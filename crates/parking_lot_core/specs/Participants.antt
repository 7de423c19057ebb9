-- A participant as contracts see it.
use Rattle.std.specs.Prelude.{ℕ, List}

pub record Participant : Type 0 where
  -- the number of its lot, and its own in that lot
  pub lot : ℕ
  pub thread : ℕ
  -- its recorded resources
  pub resources : List ℕ

-- A raw mutex that its owner may take again, as contracts see it.
use Rattle.std.specs.Prelude.{ℕ}

-- the raw mutex below, what tells the parties apart, how many holds may be nested, and the number that the tokens of
-- holds bear
pub record Nesting (R G : Type 0) : Type 0 where
  pub raw : R
  pub get_thread_id : G
  pub limit : ℕ
  pub number : ℕ

-- one nested hold: the mutex that it is of, and its token
pub record Nested (L : Type 0) : Type 0 where
  pub lock : L
  pub token : ℕ

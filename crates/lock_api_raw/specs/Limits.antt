-- The limit of readers that a lock keeps.
use Rattle.std.specs.Prelude.{ℕ, min, max}

-- the limit that was asked for, where 0 counts as 1, or the greatest possible one if that is less
abbrev pub kept_limit : ℕ → ℕ → ℕ
kept_limit own asked = min (max asked 1) own

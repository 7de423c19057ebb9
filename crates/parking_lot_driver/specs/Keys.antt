-- The number of a lock on a row.
use Rattle.std.specs.Prelude.{◌+◌, ◌*◌, ◌%◌, ◌^◌, ℕ}

-- The name of its word and the key of those that want it, in one.
abbrev pub number_of : ℕ → ℕ → ℕ
number_of name key = name * 2 ^ 64 + key % 2 ^ 64

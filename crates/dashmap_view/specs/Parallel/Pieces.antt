-- How shards are cut into pieces.
use Rattle.std.specs.Prelude.{ℕ, ◌+◌, ◌*◌, ◌/◌, ◌%◌, min}

-- the first shard of a piece: each piece has its part, and the first pieces one more as long as there is a rest
abbrev pub first_shard : ℕ → ℕ → ℕ → ℕ
first_shard shards pieces number = number * (shards / pieces) + min number (shards % pieces)

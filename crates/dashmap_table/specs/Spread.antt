-- What a `SpreadHasher` computes.
use Rattle.std.specs.Prelude.{ℕ, ◌*◌, ◌^◌, List, [], ◌∷◌}
use Rattle.dashmap_table.specs.declared.spread.SpreadHasher.{SpreadHasher}

abbrev pub initial : SpreadHasher
initial = record { first = 0 }

-- the first byte of the last write that has one
abbrev pub write : SpreadHasher → List ℕ → SpreadHasher
write s [] = s
write s (b ∷ bs) = record { first = b }

-- that byte as the highest of a hash
abbrev pub finish : SpreadHasher → ℕ
finish s = s.first * 2 ^ 56

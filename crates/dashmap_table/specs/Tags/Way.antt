-- The tag of a hash, and the order of windows for it.
use Rattle.std.specs.Prelude.{ℕ, ◌+◌, ◌-◌, ◌/◌, ◌^◌, nat_lt, if◌then◌else◌}
use Rattle.std.specs.Int.Bits.{bit_and}

-- the seven highest bits
abbrev pub tag_of : ℕ → ℕ
tag_of hash = hash / 2 ^ 57

-- so many slots, sixteen in each window but the last
abbrev pub windows_of : ℕ → ℕ
windows_of slots = (slots + 15) / 16

-- where a hash is looked for first: as many of its bits as tell a window, from the fifth on
unfoldable pub home : ℕ → ℕ → ℕ
home windows hash = bit_and (hash / 16) (windows - 1)

-- where it is looked for after so many windows: round from the first
abbrev pub round : ℕ → ℕ → ℕ → ℕ
round windows first passed = if nat_lt (first + passed) windows then first + passed else first + passed - windows

abbrev pub on_way : ℕ → ℕ → ℕ → ℕ
on_way windows hash passed = round windows (home windows hash) passed

-- Lanes of a window, and which of them are wanted.
use Rattle.std.specs.Prelude.{◌≡◌, ℕ, ◌+◌, ◌<◌, Bool, List, length, map, IsTrue, nat_eq, nat_lt, nat_le, slice_index}
use Rattle.std.specs.Int.{bit_at}
use Rattle.std.specs.Simd.Lanes.{mask_l, chunk}
use Rattle.dashmap_table.specs.declared.tags.lanes.Lanes.{Lanes}
use Rattle.dashmap_table.specs.declared.tags.window.Wanted.{Wanted}
use Rattle.dashmap_table.specs.declared.tags.window.Wanted.TheVariants.{Tag, Free, Full}

-- a lane is among some
abbrev pub HasLane : Lanes → ℕ → Type 0
HasLane lanes k = bit_at lanes.bits k ≡ 1

-- whether a slot with this tag is wanted
abbrev pub accepts : Wanted → ℕ → Bool
accepts (Tag wanted) tag = nat_eq tag wanted
accepts Free tag = nat_le 128 tag
accepts Full tag = nat_lt tag 128

-- a lane of the window from a slot on is wanted
abbrev pub IsWanted : Wanted → List ℕ → ℕ → ℕ → Type 0
IsWanted wanted tags from k = (k < 16) × (from + k < length tags)
    × IsTrue (accepts wanted (slice_index tags (from + k)))

-- the wanted lanes as a number
abbrev pub lanes_by : Wanted → List ℕ → ℕ → ℕ
lanes_by wanted tags from = mask_l (map (accepts wanted) (chunk from 16 tags))

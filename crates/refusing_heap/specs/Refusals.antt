-- Which growths a refusal is of.
use Rattle.std.specs.Prelude.{ℕ, ◌+◌, ◌-◌, ◌^◌, min, Bool, false, ◌==◌, nat_le}
use Rattle.refusing_heap.specs.declared.growths.Refusal.{Refusal}
use Rattle.refusing_heap.specs.declared.growths.Refusal.TheVariants.{Never, Once, Onwards}

-- whether the growth of this number is refused
abbrev pub is_refused : Refusal → ℕ → Bool
is_refused Never growth = false
is_refused (Once only) growth = growth == only
is_refused (Onwards first) growth = nat_le first growth

-- the refusal so many growths later
abbrev pub later : ℕ → Refusal → Refusal
later by Never = Never
later by (Once only) = Once (min (only + by) (2 ^ 64 - 1))
later by (Onwards first) = Onwards (min (first + by) (2 ^ 64 - 1))

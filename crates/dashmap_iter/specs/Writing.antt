-- Walks that lend pairs to be written.
use Rattle.std.specs.Prelude.{ℕ, Bool, Option, Some, None, IsSome, refl}
use Rattle.std.specs.Option.{option_map}
use Rattle.dashmap_table.specs.Slots.{at, pair_of}
use Rattle.dashmap_table.specs.Table.{Table, with_value}
use Rattle.dashmap_iter.specs.Lending.{Walk, slots_held, LendsPair}

-- what the fact that a slot is full makes, as that of a slot that was written always is
abbrev pub if_full : {E X : Type 0} → (slot : Option E) → (IsSome slot → X) → X → X
if_full None made other = other
if_full (Some entry) made other = made refl

module _ {K V G : Type 0} (table : G → Table K V) where
  -- the pair in a slot of a shard that is held
  abbrev pub pair_held : Option G → ℕ → Option (K × V)
  pair_held held slot = option_map pair_of (at (slots_held table held) slot)

  -- the walk went on from v to w, and the pair that it then lends is in this slot
  abbrev pub LendsToWrite : {Q : Type 0} → (K → K → Bool) → (G → Q) → (Q → Table K V → Type 0) → Walk Q G → ℕ → Walk Q G
      → Type 0
  LendsToWrite eq lock seen v slot w = (guard : G) × LendsPair eq table lock seen v (guard, slot) w

  -- a guard, once a value was written into a full slot of its shard
  abbrev pub guard_written : (G → Table K V → G) → ℕ → V → G → G
  guard_written with_table slot value g = with_table g (with_value (table g) slot value)

  -- a walk, once a value was written into a full slot of the shard that it holds
  abbrev pub walk_written : {Q : Type 0} → (G → Table K V → G) → Walk Q G → ℕ → V → Walk Q G
  walk_written with_table w slot value = record w { held = option_map (guard_written with_table slot value) w.held }

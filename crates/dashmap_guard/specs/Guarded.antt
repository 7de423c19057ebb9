-- The pair that a guard of one slot lends.
use Rattle.std.specs.Prelude.{ℕ, Option}
use Rattle.std.specs.Option.{option_map, option_and_then}
use Rattle.dashmap_table.specs.Slots.{at, pair_of, giving_value, changed}
use Rattle.dashmap_table.specs.Table.{Table}

module _ {K V : Type 0} where
  -- the pair in a slot
  abbrev pub pair_in : Table K V → ℕ → Option (K × V)
  pair_in table slot = option_map pair_of (at table.slots slot)

  -- its key
  abbrev pub key_in : Table K V → ℕ → Option K
  key_in table slot = option_map (λ e. e.key) (at table.slots slot)

  -- its value
  abbrev pub value_in : Table K V → ℕ → Option V
  value_in table slot = option_map (λ e. e.value) (at table.slots slot)

  -- the part of its value that a projection gives
  abbrev pub part_in : {B : Type 0} → (V → Option B) → Table K V → ℕ → Option B
  part_in focus table slot = option_and_then (λ e. focus e.value) (at table.slots slot)

  -- the table with a part of the value in a slot stored
  abbrev pub with_part_in : {B : Type 0} → (V → B → V) → Table K V → ℕ → B → Table K V
  with_part_in with_focus table slot part =
      record table { slots = changed (λ e. giving_value (with_focus e.value part) e) table.slots slot }

-- Where a thread of a world stands.
use Rattle.std.specs.Prelude.{◌≡◌, ℕ, ◌<◌, Bool, true, false, length, Option, Some, None}
use Rattle.std.specs.Option.{option_map}
use Rattle.parking_lot_machine_calls.specs.Stances.{core_act}
use Rattle.parking_lot_protocol.specs.declared.act.Act.{Act}
use Rattle.parking_lot_protocol.specs.declared.act.Act.TheVariants as act
use Rattle.parking_lot_protocol.specs.declared.act.SectionAct.TheVariants as section
use Rattle.parking_lot_machine.specs.Rows.{state, call_at}
use Rattle.mapworld_state.specs.Running.{can_move_in}
use Rattle.mapworld_state.specs.State.{State}

-- the act at a shard's lock that a thread's next step makes, while it is in a call there
abbrev pub act_in : {K V S D T A : Type 0} → State K V S D T A → ℕ → Option Act
act_in w t = option_map (λ c. core_act c.core) (call_at (state w.locks.rows) t)

-- whether it is a store in the section of a release
abbrev pub stores : Option Act → Bool
stores (Some (act.Section (section.Store plain fair))) = true
stores a = false

-- no thread of a world can move
abbrev pub HasEnded : {K V S D T A : Type 0} → State K V S D T A → Type 0
HasEnded w = (t : ℕ) → t < length w.programs → can_move_in w t ≡ false

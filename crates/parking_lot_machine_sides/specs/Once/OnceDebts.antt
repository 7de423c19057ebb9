-- Who is in debt.
use Rattle.std.specs.Prelude.{ℕ, ◌&&◌, ◌||◌, Bool, true, false, not}
use Rattle.std.specs.Option.{option_map_or}
use Rattle.parking_lot_protocol_waits.specs.declared.once.once_phase.OncePhase.{OncePhase}
use Rattle.parking_lot_protocol_waits.specs.declared.once.once_phase.OncePhase.TheVariants.{Wakes}
use Rattle.parking_lot_machine_sides.specs.Once.OnceFits.{is_in_section, is_sleeping}
use Rattle.parking_lot_machine_sides.specs.Once.Onces.{OpenCall, Onces, call_at}

-- it is still to wake somebody
abbrev pub is_waking : OncePhase → Bool
is_waking (Wakes count) = true
is_waking p = false

-- It is in a section, or is still to wake somebody; or it was woken, and doesn't wait again.
abbrev pub owes : OpenCall → Bool
owes c = is_in_section c.core.phase || (is_waking c.core.phase || (c.woken && not (is_sleeping c.core.phase)))

abbrev pub is_in_debt : Onces → ℕ → Bool
is_in_debt s t = option_map_or owes (call_at s t) false

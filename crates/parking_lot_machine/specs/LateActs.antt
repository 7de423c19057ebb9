-- What the acts leave of the machine of a call whose moment has passed as it slept.
use Rattle.std.specs.Prelude.{ℕ, ◌||◌, Bool, false, if◌then◌else◌, Some, None, remove, slice_set}
use Rattle.std.specs.List.{position_or_len}
use Rattle.parking_lot_core_model.specs.Machine as lot
use Rattle.parking_lot_core_model.specs.Machine.{Machine, given_up, in_phase, stored}
use Rattle.parking_lot_core_model.specs.Results.{is_left}
use Rattle.parking_lot_core_model.specs.declared.place.Phase.TheVariants as phase
use Rattle.parking_lot_core_model.specs.declared.place.Place.TheVariants.{Running}
use Rattle.parking_lot_protocol.specs.declared.act.ActResult.TheVariants as seen
use Rattle.parking_lot_machine_calls.specs.declared.open_call.Call.{Call}
use Rattle.parking_lot_machine_calls.specs.declared.seat.QueuePosition.{QueuePosition}
use Rattle.parking_lot_machine_calls.specs.declared.seat.QueuePosition.TheVariants as spot
use Rattle.parking_lot_machine_calls.specs.declared.seat.WakeResult.{WakeResult}
use Rattle.parking_lot_machine.specs.Rows.{State, is_for}
use Rattle.parking_lot_machine_calls.specs.Stances.{sign}
use Rattle.parking_lot_machine.specs.RowActs.{with_call, with_lot}
use Rattle.parking_lot_machine_calls.specs.CallActs.{hears}
use Rattle.parking_lot_machine_calls.specs.LateCalls.{found_as, is_handed, is_pending, late_key, late_of}

-- the moment passes of a thread t in a call c that sleeps
abbrev pub expired : State → ℕ → Call → State
expired s t c = with_call s t (record c { core = late_of c.core })

-- it comes back into the section of its list, where it stands
abbrev pub returned : State → ℕ → Call → State
returned s t c = with_lot (with_call s t (hears c seen.Entered)) (lot.returned s.lot t (late_key c))

-- Or another has taken it, and it finds that out there: it runs, takes nobody, and has nothing to store.
abbrev pub found_lot : State → ℕ → Call → Machine
found_lot s t c = stored
    (in_phase (record (lot.returned s.lot t (late_key c)) { places = slice_set s.lot.places t (Some Running) })
    (late_key c) phase.Ended) (late_key c) (sign false)

-- from there on nobody is to wake it
abbrev pub unowed : State → ℕ → State
unowed s t = record s { wakes = remove s.wakes (position_or_len (is_for t) s.wakes) }

abbrev pub found : State → ℕ → Call → ℕ → WakeResult → State
found s t c by said =
    with_lot (with_call (unowed s t) t (record c { core = found_as by (is_handed said) c.core; spot = spot.Listed }))
    (found_lot s t c)

-- it comes back, by where it stood
abbrev pub came_back : QueuePosition → State → ℕ → Call → State
came_back spot.Listed s t c = returned s t c
came_back (spot.Off by said) s t c = found s t c by said

-- The lot once it has taken itself out, and whether others are left in its list. Then there is nothing to be stored,
-- and nor is there for a pending writer, which takes its bit back outside.
abbrev pub out_of_list : State → ℕ → Call → Machine
out_of_list s t c = in_phase (given_up s.lot t (late_key c)) (late_key c) phase.Ended

abbrev pub others_left : State → ℕ → Call → Bool
others_left s t c = is_left ((out_of_list s t c).queues (late_key c))

abbrev pub quitted_as : State → ℕ → Call → Bool → State
quitted_as s t c left = with_lot (with_call s t (hears c (seen.Took None left)))
    (if left || is_pending c.core then stored (out_of_list s t c) (late_key c) (sign false) else out_of_list s t c)

abbrev pub quitted : State → ℕ → Call → State
quitted s t c = quitted_as s t c (others_left s t c)

-- What each act of a call leaves of the machine.
use Rattle.std.specs.Prelude.{ℕ, ◌+◌, ◌%◌, ◌^◌, ◌==◌, Bool, true, false, if◌then◌else◌, bit_and, [], ◌∷◌, ◌++◌, map}
use Rattle.std.specs.Prelude.{remove, Some, None, slice_set}
use Rattle.std.specs.List.{position_or_len}
use Rattle.std.specs.Option.{option_map, option_map_or}
use Rattle.parking_lot_core_model.specs.declared.parking.ParkToken.{ParkToken}
use Rattle.parking_lot_core_model.specs.declared.parking.UnparkToken.{UnparkToken}
use Rattle.parking_lot_core_model.specs.declared.place.Place.TheVariants.{Running}
use Rattle.parking_lot_core_model.specs.declared.place.Phase.TheVariants as phase
use Rattle.parking_lot_core_model.specs.declared.place.Waiter.{Waiter}
use Rattle.parking_lot_core_model.specs.Results.{is_left}
use Rattle.parking_lot_core_model.specs.Places.{place_at, mark_of}
use Rattle.parking_lot_core_model.specs.Machine.{Machine, opened, in_phase, joined, taken, stored, closed}
use Rattle.parking_lot_protocol.specs.declared.act.ActResult.TheVariants as seen
use Rattle.parking_lot_protocol.specs.declared.act.WordChange.{WordChange}
use Rattle.parking_lot_protocol.specs.Acts.{change_of}
use Rattle.parking_lot_machine_calls.specs.declared.seat.WakeResult.{WakeResult}
use Rattle.parking_lot_machine_calls.specs.declared.seat.WakeResult.TheVariants as told
use Rattle.parking_lot_machine_calls.specs.declared.seat.QueuePosition.TheVariants as spot
use Rattle.parking_lot_machine_calls.specs.declared.open_call.Call.{Call}
use Rattle.parking_lot_machine.specs.Rows.{State, word_at, call_at, cell, is_by}
use Rattle.parking_lot_machine_calls.specs.Stances.{Stance, Out, In, Asleep, stance, sign, core_tells}
use Rattle.parking_lot_machine_calls.specs.CallActs.{hears, hold_after, joins, key_of, off_list, settled, told_of}

-- PARTS OF THE MACHINE THAT ACTS CHANGE

abbrev pub with_call : State → ℕ → Call → State
with_call s t c = record s { calls = slice_set s.calls t (Some c) }

abbrev pub with_word : State → ℕ → ℕ → State
with_word s j word = record s { words = slice_set s.words j word }

abbrev pub with_lot : State → Machine → State
with_lot s lot = record s { lot = lot }

abbrev pub settles : State → ℕ → WakeResult → State
settles s t said = record s { calls = map (option_map (settled t said)) s.calls }

abbrev pub takes_off : State → ℕ → ℕ → State
takes_off s v t = record s { calls = slice_set s.calls v (option_map (off_list t) (call_at s v)) }

-- THE ACTS, OF A THREAD t IN A CALL c

-- the list where it is in a section, or asleep
abbrev pub list_in : Stance → ℕ
list_in Out = 0
list_in (In k how) = k
list_in (Asleep k token) = k

abbrev pub key_in : Call → ℕ
key_in c = key_of c (list_in (stance c.core))

abbrev pub loaded : State → ℕ → Call → State
loaded s t c = with_call s t (hears c (seen.Word (word_at s c.lock)))

abbrev pub exchanged : State → ℕ → Call → ℕ → ℕ → State
exchanged s t c from to =
    if word_at s c.lock == from then with_word (with_call s t (hears c seen.Exchanged)) c.lock to else loaded s t c

abbrev pub added : State → ℕ → Call → ℕ → State
added s t c by = with_word (with_call s t (hears c (seen.Before (word_at s c.lock)))) c.lock
    ((word_at s c.lock + by) % 2 ^ 64)

-- a mask is the store of a section of the second key
abbrev pub masked : State → ℕ → Call → ℕ → State
masked s t c keep =
    with_word (with_lot (settles (with_call s t (hears c (seen.Before (word_at s c.lock)))) t told.TryAgain)
    (stored s.lot (key_in c) (sign false))) c.lock (bit_and (word_at s c.lock) keep)

abbrev pub spun : State → ℕ → Call → State
spun s t c = with_call s t (hears c (seen.Spun true))

abbrev pub entered : State → ℕ → Call → ℕ → State
entered s t c k = with_lot (with_call s t (hears c seen.Entered)) (opened s.lot (Some t) (key_of c k))

abbrev pub checked : State → ℕ → Call → State
checked s t c = with_lot (loaded s t c)
    (in_phase s.lot (key_in c) (if joins (stance (hears c (seen.Word (word_at s c.lock))).core) then phase.Valid else
    phase.Invalid))

abbrev pub appended : State → ℕ → Call → ℕ → ParkToken → State
appended s t c key token = with_lot (with_call s t (record (hears c seen.Made) { spot = spot.Listed }))
    (joined (in_phase s.lot key phase.Joined) t key token false)

-- it takes the waiter w at an index of the key's list, or nobody
abbrev pub took : State → ℕ → Call → ℕ → ℕ → Waiter → State
took s t c key nth w =
    record (with_call (takes_off s w.thread t) t
    (hears c (seen.Took (Some w.token) (is_left (remove (s.lot.queues key) nth))))) {
      wakes = s.wakes ++
          record { by = t; thread = w.thread; mark = option_map_or mark_of (place_at s.lot.places w.thread) 0 } ∷ [];
      lot = taken (in_phase s.lot key (phase.Taking nth)) key nth;
    }

abbrev pub took_nobody : State → ℕ → Call → ℕ → State
took_nobody s t c key = with_lot (with_call s t (hears c (seen.Took None (is_left (s.lot.queues key)))))
    (in_phase s.lot key phase.Ended)

abbrev pub told_all : State → ℕ → Call → WordChange → Bool → State
told_all s t c change fair =
    let d = hears c (seen.Stored fair) in
    with_word (with_lot (settles (with_call s t d) t (told_of (core_tells d.core)))
    (stored s.lot (key_in c) (core_tells d.core)))
    c.lock (change_of change (word_at s c.lock))

abbrev pub left : State → ℕ → Call → State
left s t c = with_lot (with_call s t (hears c seen.Made)) (closed s.lot (key_in c) false)

-- it wakes the first whom it is to wake, which is in the call d, with that token
abbrev pub woke : State → ℕ → Call → ℕ → Call → UnparkToken → State
woke s t c v d token =
    record (with_call (with_call s v (record (hears d (seen.Woken token)) { spot = spot.Listed })) t
    (hears c seen.Made)) {
      wakes = remove s.wakes (position_or_len (is_by t) s.wakes);
      lot = record s.lot { places = slice_set s.lot.places v (Some Running) };
    }

-- those whom it was to wake have gone on by themselves
abbrev pub woke_nobody : State → ℕ → Call → State
woke_nobody s t c = with_call s t (hears c seen.Made)

abbrev pub answered : State → ℕ → Call → State
answered s t c = record s
    { calls = slice_set s.calls t None; holds = slice_set s.holds (cell s t c.lock) (hold_after c.others c.core) }

-- a call begins
abbrev pub begun : State → ℕ → Call → State
begun s t c = with_call s t (hears c seen.Start)

-- Where the threads of a lot stand, and how unparks change it.
use Rattle.std.specs.Prelude.{◌≡◌, ℕ, ◌==◌, ◌&&◌, Bool, true, false, not, if◌then◌else◌, List, [], ◌∷◌, Option, Some}
use Rattle.std.specs.Prelude.{None, slice_get, slice_set}
use Rattle.std.specs.Option.{option_map, option_and_then}
use Rattle.parking_lot_core_model.specs.declared.parking.UnparkToken.{UnparkToken}
use Rattle.parking_lot_core_model.specs.declared.place.ThreadStatus.{ThreadStatus}
use Rattle.parking_lot_core_model.specs.declared.place.ThreadStatus.TheVariants as status
use Rattle.parking_lot_core_model.specs.declared.place.Sleep.{Sleep}
use Rattle.parking_lot_core_model.specs.declared.place.Place.{Place}
use Rattle.parking_lot_core_model.specs.declared.place.Place.TheVariants.{Running, Waiting, Held, Taken}
use Rattle.parking_lot_core_model.specs.declared.place.Phase.{Phase}
use Rattle.parking_lot_core_model.specs.declared.place.Phase.TheVariants as phase

-- the place of a thread, where it is registered
abbrev pub place_at : List (Option Place) → ℕ → Option Place
place_at places thread = option_and_then (λ p. p) (slice_get places thread)

-- the places with that thread's changed
abbrev pub changed : (Place → Place) → List (Option Place) → ℕ → List (Option Place)
changed f places thread = slice_set places thread (option_map f (place_at places thread))

-- with those of several changed
abbrev pub all_changed : (Place → Place) → List (Option Place) → List ℕ → List (Option Place)
all_changed f places [] = places
all_changed f places (thread ∷ threads) = all_changed f (changed f places thread) threads

-- a waiting thread is taken by the section of a key
abbrev pub held : ℕ → Place → Place
held key Running = Running
held key (Waiting key' sleep) = Held key sleep
held key (Held key' sleep) = Held key' sleep
held key (Taken token key' sleep woken) = Taken token key' sleep woken

-- the section of a key closes, and whom it took is told the token
abbrev pub told : ℕ → UnparkToken → Bool → Place → Place
told key token woken Running = Running
told key token woken (Waiting key' sleep) = Waiting key' sleep
told key token woken (Held key' sleep) = if key' == key then Taken token key' sleep woken else Held key' sleep
told key token woken (Taken token' key' sleep woken') = Taken token' key' sleep woken'

-- a waiting thread is taken out of a key's list with a token, and woken
abbrev pub woken : ℕ → UnparkToken → Place → Place
woken key token Running = Running
woken key token (Waiting key' sleep) = Taken token key sleep true
woken key token (Held key' sleep) = Held key' sleep
woken key token (Taken token' key' sleep woken') = Taken token' key' sleep woken'

-- a waiting thread stands in another list
abbrev pub moved_to : ℕ → Place → Place
moved_to key Running = Running
moved_to key (Waiting key' sleep) = Waiting key sleep
moved_to key (Held key' sleep) = Held key' sleep
moved_to key (Taken token key' sleep woken) = Taken token key' sleep woken

-- its deadline comes
abbrev pub late : Place → Place
late Running = Running
late (Waiting key sleep) = Waiting key (record sleep { late = true })
late (Held key sleep) = Held key (record sleep { late = true })
late (Taken token key sleep woken) = Taken token key (record sleep { late = true }) woken

-- it is woken
abbrev pub roused : Place → Place
roused Running = Running
roused (Waiting key sleep) = Waiting key sleep
roused (Held key sleep) = Held key sleep
roused (Taken token key sleep woken) = Taken token key sleep true

-- it sleeps in a timed wait whose deadline hasn't come
abbrev pub sleeps_timed : Place → Bool
sleeps_timed Running = false
sleeps_timed (Waiting key sleep) = sleep.timed && not sleep.late
sleeps_timed (Held key sleep) = sleep.timed && not sleep.late
sleeps_timed (Taken token key sleep false) = sleep.timed && not sleep.late
sleeps_timed (Taken token key sleep true) = false

-- It sleeps, and may come back into a section of that key by itself: in its list, or taken out of it and not woken yet.
abbrev pub may_return : ℕ → Place → Bool
may_return key Running = false
may_return key (Waiting key' sleep) = key' == key
may_return key (Held key' sleep) = false
may_return key (Taken token key' sleep woken) = key' == key && not woken

-- it fell asleep, and doesn't run again yet
abbrev pub has_slept : Place → Bool
has_slept Running = false
has_slept (Waiting key sleep) = true
has_slept (Held key sleep) = false
has_slept (Taken token key sleep woken) = true

-- the token that it was taken with
abbrev pub taken_with : Place → Option UnparkToken
taken_with Running = None
taken_with (Waiting key sleep) = None
taken_with (Held key sleep) = None
taken_with (Taken token key sleep woken) = Some token

-- it was taken out of the sleep with that mark, and isn't woken
abbrev pub is_due : ℕ → Place → Bool
is_due mark Running = false
is_due mark (Waiting key sleep) = false
is_due mark (Held key sleep) = false
is_due mark (Taken token key sleep woken) = sleep.mark == mark && not woken

-- the mark of its sleep
abbrev pub mark_of : Place → ℕ
mark_of Running = 0
mark_of (Waiting key sleep) = sleep.mark
mark_of (Held key sleep) = sleep.mark
mark_of (Taken token key sleep woken) = sleep.mark

-- it waits in that key's list; it waits
abbrev pub waits_at : ℕ → Place → Bool
waits_at key Running = false
waits_at key (Waiting key' sleep) = key' == key
waits_at key (Held key' sleep) = false
waits_at key (Taken token key' sleep woken) = false

abbrev pub is_waiting : Place → Bool
is_waiting Running = false
is_waiting (Waiting key sleep) = true
is_waiting (Held key sleep) = false
is_waiting (Taken token key sleep woken) = false

-- it is held by a section of that key
abbrev pub is_held : ℕ → Place → Bool
is_held key Running = false
is_held key (Waiting key' sleep) = false
is_held key (Held key' sleep) = key' == key
is_held key (Taken token key' sleep woken) = false

-- the key of the list that it was taken out of, while a section holds it
abbrev pub held_at : Place → Option ℕ
held_at Running = None
held_at (Waiting key sleep) = None
held_at (Held key sleep) = Some key
held_at (Taken token key sleep woken) = None

-- it may be in a section of that key: it runs, or it fell asleep there
abbrev pub is_near : ℕ → Place → Bool
is_near key Running = true
is_near key (Waiting key' sleep) = key' == key
is_near key (Held key' sleep) = key' == key
is_near key (Taken token key' sleep woken) = key' == key

-- what is told of a place, where those that the section of a key holds are to be told that token
abbrev pub status_of : (ℕ → UnparkToken) → Place → ThreadStatus
status_of token Running = status.Running
status_of token (Waiting key sleep) = if sleep.late then status.PastDeadline else status.Waiting key sleep.timed
status_of token (Held key sleep) = if sleep.late then status.PastDeadline else status.Taken (token key)
status_of token (Taken token' key sleep woken) = if sleep.late then status.PastDeadline else status.Taken token'

-- which steps fit a section that has come so far
abbrev pub may_check : Phase → Bool
may_check phase.Fresh = true
may_check phase.Valid = false
may_check phase.Invalid = false
may_check phase.Joined = false
may_check (phase.Taking passed) = false
may_check phase.Ended = false
may_check phase.Stored = false

abbrev pub may_join : Phase → Bool
may_join phase.Fresh = true
may_join phase.Valid = true
may_join phase.Invalid = false
may_join phase.Joined = false
may_join (phase.Taking passed) = false
may_join phase.Ended = false
may_join phase.Stored = false

abbrev pub may_take : Phase → Bool
may_take phase.Fresh = true
may_take phase.Valid = true
may_take phase.Invalid = false
may_take phase.Joined = false
may_take (phase.Taking passed) = true
may_take phase.Ended = false
may_take phase.Stored = false

abbrev pub may_store : Phase → Bool
may_store phase.Fresh = true
may_store phase.Valid = true
may_store phase.Invalid = false
may_store phase.Joined = false
may_store (phase.Taking passed) = true
may_store phase.Ended = true
may_store phase.Stored = false

-- its thread stands in the list
abbrev pub has_joined : Phase → Bool
has_joined phase.Fresh = false
has_joined phase.Valid = false
has_joined phase.Invalid = false
has_joined phase.Joined = true
has_joined (phase.Taking passed) = false
has_joined phase.Ended = false
has_joined phase.Stored = false

-- how many waiters it has passed
abbrev pub passed_of : Phase → ℕ
passed_of phase.Fresh = 0
passed_of phase.Valid = 0
passed_of phase.Invalid = 0
passed_of phase.Joined = 0
passed_of (phase.Taking passed) = passed
passed_of phase.Ended = 0
passed_of phase.Stored = 0

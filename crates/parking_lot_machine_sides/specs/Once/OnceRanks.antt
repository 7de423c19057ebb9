-- How many steps a thread still makes in its call, and all threads in theirs, where one of them is stepped until it
-- can't move.
use Rattle.std.specs.Prelude.{ℕ, ◌+◌, ◌-◌, ◌*◌, ◌≤◌, ◌==◌, ◌&&◌, not, Bool, false, if◌then◌else◌, length, Option, Some}
use Rattle.std.specs.Prelude.{None, slice_set}
use Rattle.std.specs.List.{sum_by}
use Rattle.parking_lot_rules.specs.declared.once.wish.Wish.{Wish}
use Rattle.parking_lot_rules.specs.Once.Once.{waits}
use Rattle.parking_lot_protocol_waits.specs.declared.once.once_phase.OnceAnswer.{OnceAnswer}
use Rattle.parking_lot_protocol_waits.specs.declared.once.once_phase.OnceAnswer.TheVariants as end
use Rattle.parking_lot_protocol_waits.specs.declared.once.once_phase.OncePhase.{OncePhase}
use Rattle.parking_lot_protocol_waits.specs.declared.once.once_phase.OncePhase.TheVariants.{Asking, Returning, Loads}
use Rattle.parking_lot_protocol_waits.specs.declared.once.once_phase.OncePhase.TheVariants.{Starts, Spins, Parks}
use Rattle.parking_lot_protocol_waits.specs.declared.once.once_phase.OncePhase.TheVariants.{Enters, Checks, Retreats}
use Rattle.parking_lot_protocol_waits.specs.declared.once.once_phase.OncePhase.TheVariants.{Appends, Rests, Sleeps}
use Rattle.parking_lot_protocol_waits.specs.declared.once.once_phase.OncePhase.TheVariants.{Stores, Looks, Scans}
use Rattle.parking_lot_protocol_waits.specs.declared.once.once_phase.OncePhase.TheVariants.{Clears, Leaves, Wakes}
use Rattle.parking_lot_protocol_waits.specs.declared.once.once_phase.OncePhase.TheVariants.{Finishes, Ends, Invalid}
use Rattle.parking_lot_protocol_waits.specs.Once.OnceTable.{state_of, is_parked, word_of}
use Rattle.parking_lot_machine_sides.specs.declared.once.calls.OnceCall.{OnceCall}
use Rattle.parking_lot_machine_sides.specs.Once.OnceCalls.{wish_of}
use Rattle.parking_lot_machine_sides.specs.Once.Entries.{list_of}
use Rattle.parking_lot_machine_sides.specs.Once.Onces.{OpenCall, Onces, call_at, inside_at, word_at}

-- What counts of the machine for a thread's steps: nothing, where another thread is stepped, and all that it has seen
-- may be out of date; else the word of its once, how many wait there, and whether another thread is inside a section
-- and shuts it out.
pub data View : Type 0 where
  Unseen : View
  Sees : (word first : ℕ) → (shut : Bool) → View

-- the word is surely that one
abbrev pub is_at : View → ℕ → Bool
is_at Unseen n = false
is_at (Sees word first shut) n = word == n

-- it surely can enter a section
abbrev pub is_free : View → Bool
is_free Unseen = false
is_free (Sees word first shut) = not shut

-- the word surely makes it wait, and says that somebody may
abbrev pub keeps_waiting : View → Wish → Bool
keeps_waiting Unseen wish = false
keeps_waiting (Sees word first shut) wish = waits wish (state_of word) && is_parked word

-- how many it may find in the list, among n threads
abbrev pub may_find : ℕ → View → ℕ
may_find n Unseen = n
may_find n (Sees word first shut) = if shut then n else first

-- a wake, and all steps of the one that is woken, but for those of its own closure
abbrev pub wake : ℕ
wake = 52

-- one that goes through the list takes each by one step, and wakes each
abbrev pub scan : ℕ → View → ℕ
scan n v = (wake + 1) * may_find n v

-- One that may run its closure has in hand what that takes, also while it sleeps: to run it, and to wake all others.
abbrev pub closing : ℕ → ℕ
closing n = (wake + 1) * n + 7

abbrev pub in_hand : ℕ → Wish → ℕ
in_hand n wish = if wish.runs then closing n else 0

-- It parks: it sets the parked bit, enters, checks, joins the list and leaves. It leaves in vain, and asks again from
-- the beginning, only where the word has changed meanwhile.
abbrev pub parks : View → ℕ
parks v = if is_free v then 4 else 29

abbrev pub asks : View → ℕ → ℕ
asks v rounds = 2 * rounds + 1 + parks v

abbrev pub ends : ℕ → OnceAnswer → ℕ
ends n (end.Runs before) = closing n
ends n end.Completed = 1
ends n end.Poisoned = 1
ends n end.Finished = 1

abbrev pub phase_steps : ℕ → View → OncePhase → ℕ
phase_steps n v (Asking wish) = 52 + in_hand n wish
phase_steps n v (Returning well) = closing n
phase_steps n v (Loads a) = 1 + asks v a.rounds + in_hand n a.wish
phase_steps n v (Starts a before parked) = (if is_at v (word_of before parked) then 1 else 1 + asks v a.rounds) +
    in_hand n a.wish
phase_steps n v (Spins a state) = 2 + asks v (a.rounds - 1) + in_hand n a.wish
phase_steps n v (Parks a state) = (if is_at v (word_of state false) then 1 + parks v else 1 + asks v a.rounds) + in_hand
    n a.wish
phase_steps n v (Enters wish) = (if keeps_waiting v wish then parks v else 29) + in_hand n wish
phase_steps n v (Checks wish) = (if keeps_waiting v wish then 3 else 28) + in_hand n wish
phase_steps n v (Retreats wish) = 27 + in_hand n wish
phase_steps n v (Appends wish) = 2 + in_hand n wish
phase_steps n v (Rests wish) = 1 + in_hand n wish
phase_steps n v (Sleeps wish) = in_hand n wish
phase_steps n v (Stores well) = scan n v + 6
phase_steps n v (Looks well) = scan n v + 5
phase_steps n v (Scans well taken) = scan n v + wake * taken + 4
phase_steps n v (Clears well taken) = wake * taken + 3
phase_steps n v (Leaves taken) = wake * taken + 2
phase_steps n v (Wakes count) = wake * count + 1
phase_steps n v Finishes = 1
phase_steps n v (Ends answer) = ends n answer
phase_steps n v Invalid = 0

-- ALL THREADS

-- the steps of a call whose thread isn't the one that is stepped
abbrev pub far_steps : ℕ → Option OpenCall → ℕ
far_steps n None = 0
far_steps n (Some c) = phase_steps n Unseen c.core.phase

-- whether a thread finds another inside a section
abbrev pub is_shut_to : ℕ → Option ℕ → Bool
is_shut_to t None = false
is_shut_to t (Some u) = not (u == t)

abbrev pub view_of : Onces → ℕ → OpenCall → View
view_of s t c = Sees (word_at s c.once) (length (list_of s.waiting c.once)) (is_shut_to t (inside_at s c.once))

abbrev pub own_steps : Onces → ℕ → Option OpenCall → ℕ
own_steps s t None = 0
own_steps s t (Some c) = phase_steps (length s.calls) (view_of s t c) c.core.phase

-- The steps of all threads, where thread t is stepped: its own, and those of the others.
abbrev pub left : Onces → ℕ → ℕ
left s t = own_steps s t (call_at s t) + sum_by (far_steps (length s.calls)) (slice_set s.calls t None)

-- Its step is paid for, and with it all that it makes others do.
abbrev pub Pays : ℕ → Onces → Onces → Type 0
Pays t s u = left u t + 1 ≤ left s t

-- what a call costs that begins, among n threads
abbrev pub cost : ℕ → OnceCall → ℕ
cost n call = 51 + in_hand n (wish_of call)

abbrev pub Costs : ℕ → OnceCall → Onces → Onces → Type 0
Costs t call s u = left u t ≤ left s t + cost (length s.calls) call

-- Where it can't move, any other may be stepped from there on.
abbrev pub AnyMayBeStepped : Onces → ℕ → Type 0
AnyMayBeStepped s t = (u : ℕ) → left s u ≤ left s t

-- the most that a thread has left at every moment, among n of them, and all together
abbrev pub most : ℕ → ℕ
most n = 105 * n + 59

abbrev pub FewAreLeft : Onces → Type 0
FewAreLeft s = (t : ℕ) → left s t ≤ length s.calls * most (length s.calls)

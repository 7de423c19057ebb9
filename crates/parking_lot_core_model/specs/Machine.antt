-- The lot as a machine of lists: one list of waiters for each key, and each thread's place and resources.
use Rattle.std.specs.Prelude.{◌≡◌, ℕ, suc, ◌+◌, ◌%◌, ◌^◌, ◌==◌, ◌&&◌, ◌||◌, Bool, true, false, not, nat_lt}
use Rattle.std.specs.Prelude.{if◌then◌else◌}
use Rattle.std.specs.Prelude.{List, [], ◌∷◌, ◌++◌, length, map, take, drop, remove, Option, Some, None, is_some}
use Rattle.std.specs.Prelude.{is_none, slice_get, slice_set, Result, Ok, Err, IsOk, IsSomeAnd, count_by, MatchBool}
use Rattle.std.specs.Prelude.{MatchResult}
use Rattle.std.specs.Option.{option_map, option_map_or, option_and_then}
use Rattle.std.specs.List.{position_or_len, list_any}
use Rattle.parking_lot_core_model.specs.declared.fault.LotFault.{LotFault}
use Rattle.parking_lot_core_model.specs.declared.fault.LotFault.TheVariants.{TooManyThreads, Busy, WrongStatus}
use Rattle.parking_lot_core_model.specs.declared.lists.Entry.{Entry}
use Rattle.parking_lot_core_model.specs.declared.parking.ParkToken.{ParkToken}
use Rattle.parking_lot_core_model.specs.declared.parking.UnparkToken.{UnparkToken}
use Rattle.parking_lot_core_model.specs.declared.parking.RequeueOp.{RequeueOp}
use Rattle.parking_lot_core_model.specs.declared.place.ThreadStatus.{ThreadStatus}
use Rattle.parking_lot_core_model.specs.declared.place.ThreadStatus.TheVariants as status
use Rattle.parking_lot_core_model.specs.declared.place.Place.{Place}
use Rattle.parking_lot_core_model.specs.declared.place.Place.TheVariants.{Running, Waiting, Held, Taken}
use Rattle.parking_lot_core_model.specs.declared.place.Waiter.{Waiter}
use Rattle.parking_lot_core_model.specs.declared.place.Section.{Section}
use Rattle.parking_lot_core_model.specs.declared.place.Phase.{Phase}
use Rattle.parking_lot_core_model.specs.declared.place.Phase.TheVariants as phase
use Rattle.parking_lot_core_model.specs.Lists.{updated, without_first, lists_of}
use Rattle.parking_lot_core_model.specs.Buckets.{threads_with, buckets_for, slot, any_open}
use Rattle.parking_lot_core_model.specs.Places.{place_at, changed, all_changed, held, told, woken, moved_to}
use Rattle.parking_lot_core_model.specs.Places.{sleeps_timed, status_of, mark_of, passed_of, may_return, has_slept}
use Rattle.parking_lot_core_model.specs.Places.{has_joined, taken_with}
use Rattle.parking_lot_core_model.specs.declared.place.Taking.{Taking}
use Rattle.parking_lot_core_model.specs.declared.parking.FilterOp.{FilterOp}
use Rattle.parking_lot_core_model.specs.Results.{woken_by, moved_by, left_by, Answers, is_no_skip, is_take, is_skip}

-- what is kept of a lot
pub record Parts : Type 0 where
  pub number : ℕ
  pub max_threads : ℕ
  pub paired : Bool
  pub sleeps : ℕ
  pub waiting : List (Entry Waiter)
  pub owned : List (Entry ℕ)
  pub places : List (Option Place)
  pub by_bucket : List (Option Section)
  pub by_thread : List (Option ℕ)

pub record Machine : Type 0 where
  pub number : ℕ
  pub max_threads : ℕ
  -- whether each thread has two numbers
  pub paired : Bool
  -- how many sleeps there were, modulo 2 ^ 64
  pub sleeps : ℕ
  -- the waiters of each key, in order
  pub queues : ℕ → List Waiter
  -- the recorded resources of each thread
  pub resources : ℕ → List ℕ
  -- where each registered thread stands
  pub places : List (Option Place)
  -- how many buckets there are
  pub buckets : ℕ
  -- the section that is open in each bucket
  pub sections : ℕ → Option Section
  -- the key of the section that each thread is in
  pub inside : ℕ → Option ℕ

-- the machine that a lot is
abbrev pub machine : Parts → Machine
machine p = record {
  number = p.number;
  max_threads = p.max_threads;
  paired = p.paired;
  sleeps = p.sleeps;
  queues = lists_of p.waiting;
  resources = lists_of p.owned;
  places = p.places;
  buckets = length p.by_bucket;
  sections = slot p.by_bucket;
  inside = slot p.by_thread;
}

-- its threads
abbrev pub threads_of : List Waiter → List ℕ
threads_of waiters = map (λ w. w.thread) waiters

-- their tokens
abbrev pub tokens_of : List Waiter → List ParkToken
tokens_of waiters = map (λ w. w.token) waiters

-- the waiter is that thread
abbrev pub is_thread : ℕ → Waiter → Bool
is_thread thread waiter = waiter.thread == thread

-- the bucket of a key, and the section that is open there
abbrev pub bucket_of : Machine → ℕ → ℕ
bucket_of m key = key % m.buckets

abbrev pub open_at : Machine → ℕ → Option Section
open_at m key = m.sections (bucket_of m key)

-- who has entered the bucket of a key
abbrev pub entered_by : Machine → ℕ → Option ℕ
entered_by m key = option_and_then (λ s. s.thread) (open_at m key)

-- the thread is in a section, and in which one
abbrev pub is_in : Machine → ℕ → Bool
is_in m thread = is_some (m.inside thread)

abbrev pub section_of : Machine → ℕ → Option Section
section_of m thread = option_and_then (open_at m) (m.inside thread)

-- what those that the section of a key holds are to be told
abbrev pub token_of : Machine → ℕ → UnparkToken
token_of m key = option_map_or (λ s. s.token) (open_at m key) (record { 0 = 0 })

-- where a thread stands
abbrev pub status_at : Machine → ℕ → Option ThreadStatus
status_at m thread = option_map (λ place. if is_in m thread then status.InSection else status_of (token_of m) place)
    (place_at m.places thread)

abbrev pub runs : Option ThreadStatus → Bool
runs None = false
runs (Some status.Running) = true
runs (Some status.InSection) = false
runs (Some (status.Waiting key timed)) = false
runs (Some status.PastDeadline) = false
runs (Some (status.Taken token)) = false

-- the least thread number that is free
abbrev pub free_number : List (Option Place) → ℕ
free_number places = position_or_len is_none places

-- WHY A CALL IS REFUSED

-- a section is open in the bucket of the key; in one of the buckets of two keys
abbrev pub busy : ℕ → Machine → Option LotFault
busy key m = if is_some (open_at m key) then Some Busy else None

abbrev pub either_busy : ℕ → ℕ → Machine → Option LotFault
either_busy key other m = if is_some (open_at m key) || is_some (open_at m other) then Some Busy else None

-- how many buckets the threads have once one more is registered
abbrev pub buckets_wanted : Machine → ℕ
buckets_wanted m = buckets_for (threads_with m.paired (suc (free_number m.places)))

-- there are to be more of them than now
abbrev pub must_grow : Machine → Bool
must_grow m = nat_lt m.buckets (buckets_wanted m)

-- all numbers are given out; or there are to be more buckets, and a section is open
abbrev pub register_fault : Machine → Option LotFault
register_fault m = if nat_lt (free_number m.places) m.max_threads then if must_grow m && any_open m.sections m.buckets
    then Some Busy else None else Some TooManyThreads

-- the thread doesn't run
abbrev pub retire_fault : Machine → ℕ → Option LotFault
retire_fault m thread = if runs (status_at m thread) then None else Some WrongStatus

-- it doesn't run, or a section is open in the key's bucket
abbrev pub enter_fault : Machine → ℕ → ℕ → Option LotFault
enter_fault m thread key = if runs (status_at m thread) then busy key m else Some WrongStatus

-- it isn't in a section, or in one that can't do this now
abbrev pub step_fault : (Phase → Bool) → Machine → ℕ → Option LotFault
step_fault may m thread = if option_map_or (λ s. may s.phase) (section_of m thread) false then None else Some
    WrongStatus

-- it doesn't sleep in a timed wait
abbrev pub deadline_fault : Machine → ℕ → Option LotFault
deadline_fault m thread = if not (is_in m thread) && option_map_or sleeps_timed (place_at m.places thread) false then
    None else Some WrongStatus

-- it was neither taken nor has its deadline come; or the section that took it is open, or one in the bucket of its list
abbrev pub resume_fault_at : (ℕ → Option LotFault) → Option Place → Option LotFault
resume_fault_at entry None = Some WrongStatus
resume_fault_at entry (Some Running) = Some WrongStatus
resume_fault_at entry (Some (Waiting key sleep)) = if sleep.late then entry key else Some WrongStatus
resume_fault_at entry (Some (Held key sleep)) = Some Busy
resume_fault_at entry (Some (Taken token key sleep woken)) = if sleep.late then entry key else None

abbrev pub resume_fault : Machine → ℕ → Option LotFault
resume_fault m thread = resume_fault_at (λ key. busy key m) (place_at m.places thread)

-- it isn't registered
abbrev pub owner_fault : Machine → ℕ → Option LotFault
owner_fault m thread = if is_some (place_at m.places thread) then None else Some WrongStatus

-- it doesn't sleep where it could come back into a section of the key; or a section is open in the key's bucket
abbrev pub return_fault : Machine → ℕ → ℕ → Option LotFault
return_fault m thread key = if option_map_or (may_return key) (place_at m.places thread) false then busy key m else Some
    WrongStatus

-- it isn't in a section in which it stands in the list, or stood there when it fell asleep
abbrev pub quit_fault : Machine → ℕ → Option LotFault
quit_fault m thread = if option_map_or (λ s. has_joined s.phase) (section_of m thread) false
    && option_map_or has_slept (place_at m.places thread) false then None else Some WrongStatus

-- each section can be left
abbrev pub any_phase : Phase → Bool
any_phase ph = true

-- where there is a fault the call answers it and changes nothing; else it is done
abbrev pub Unless : {T : Type 0} → Option LotFault → Result T LotFault → Machine → Machine → Type 0 → Type 0
Unless None result old new Done = Done
Unless (Some fault) result old new Done = (result ≡ Err fault) × (new ≡ old)

-- a call is refused as the machine refuses it, or it is this step
abbrev pub Does : {T : Type 0} → (Machine → Option LotFault) → (Machine → Result T LotFault → Machine → Type 0)
    → Machine → Result T LotFault → Machine → Type 0
Does fault step old result new = Unless (fault old) result old new (step old result new)

-- it answers that it is done, and leaves this
abbrev pub Makes : {T : Type 0} → (Machine → Machine) → Machine → Result T LotFault → Machine → Type 0
Makes f old result new = IsOk result × (new ≡ f old)

-- the same, or it wants for something and leaves all as it was
abbrev pub MakesOr : {T : Type 0} → LotFault → (Machine → Machine) → Machine → Result T LotFault → Machine → Type 0
MakesOr want f old result new = MatchResult result (λ _. new ≡ f old) (λ fault. (fault ≡ want) × (new ≡ old))

-- WHAT A CALL CHANGES

-- the thread's place is changed so
abbrev pub changed_at : (Place → Place) → Machine → ℕ → Machine
changed_at f m thread = record m { places = changed f m.places thread }

-- the least free number is given out
abbrev pub registered : Machine → Machine
registered m = let n = free_number m.places in
    record m {
      places = take n m.places ++ Some Running ∷ drop (suc n) m.places;
      buckets = if must_grow m then buckets_wanted m else m.buckets;
    }

-- a number is given back, with its resources
abbrev pub retired : Machine → ℕ → Machine
retired m thread = record m { resources = updated m.resources thread []; places = slice_set m.places thread None }

-- one more occurrence of a resource is recorded for the thread; one is forgotten, if there is one
abbrev pub recorded : Machine → ℕ → ℕ → Machine
recorded m thread key = record m { resources = updated m.resources thread (m.resources thread ++ key ∷ []) }

abbrev pub forgotten : Machine → ℕ → ℕ → Machine
forgotten m thread key =
    record m { resources = updated m.resources thread (without_first (λ k. k == key) (m.resources thread)) }

-- a thread joins the end of a key's list
abbrev pub joined : Machine → ℕ → ℕ → ParkToken → Bool → Machine
joined m thread key token timed =
    let mark = (m.sleeps + 1) % 2 ^ 64 in
    record m {
      sleeps = mark;
      queues = updated m.queues key (m.queues key ++ record { thread = thread; token = token } ∷ []);
      places = slice_set m.places thread (Some (Waiting key (record { mark = mark; timed = timed; late = false })));
    }

-- a key's list is left with these waiters, and those others are woken with a token
abbrev pub unparked : Machine → ℕ → List Waiter → List Waiter → UnparkToken → Machine
unparked m key waiters rest token =
    record m {
      queues = updated m.queues key rest;
      places = all_changed (woken key token) m.places
          (threads_of waiters);
    }

-- it is left with these waiters, and those others stand at the end of another key's list
abbrev pub moved : Machine → ℕ → ℕ → List Waiter → List Waiter → Machine
moved m from to waiters rest =
    let queues = updated m.queues from rest in
    record m {
      queues = updated queues to (queues to ++ waiters);
      places = all_changed (moved_to to) m.places (threads_of waiters);
    }

-- the first waiter of a key's list stands at the end of another's
abbrev pub moved_first : Machine → ℕ → ℕ → Machine
moved_first m from to = option_map_or (λ w. moved m from to (w ∷ []) (remove (m.queues from) 0))
    (slice_get (m.queues from) 0) m

-- a requeue: the woken are taken first, then the rest is moved or left
abbrev pub requeued : Machine → RequeueOp → ℕ → ℕ → UnparkToken → Machine
requeued m op from to token =
    let queue = m.queues from in
    let woken = woken_by op queue in
    moved (unparked m from woken (drop (length woken) queue) token) from to (moved_by op queue) (left_by op queue)

-- a thread whose deadline has come takes itself out of its list, and runs
abbrev pub given_up : Machine → ℕ → ℕ → Machine
given_up m thread key =
    record m {
      queues = updated m.queues key (without_first (is_thread thread) (m.queues key));
      places = slice_set m.places thread (Some Running);
    }

-- a thread goes on from its place
abbrev pub resumed : Machine → ℕ → Option Place → Machine
resumed m thread None = m
resumed m thread (Some Running) = m
resumed m thread (Some (Waiting key sleep)) = given_up m thread key
resumed m thread (Some (Held key sleep)) = m
resumed m thread (Some (Taken token key sleep woken)) = record m { places = slice_set m.places thread (Some Running) }

-- SECTIONS

-- the section that is open in the bucket of a key is another, or none
abbrev pub with_section : Machine → ℕ → Option Section → Machine
with_section m key section = record m { sections = updated m.sections (bucket_of m key) section }

-- a section of a key at its beginning
abbrev pub fresh_section : Option ℕ → ℕ → Section
fresh_section owner key = record { thread = owner; key = key; phase = phase.Fresh; token = record { 0 = 0 } }

-- its thread is in the section of the key; it is in none
abbrev pub let_in : Option ℕ → ℕ → (ℕ → Option ℕ) → ℕ → Option ℕ
let_in None key inside = inside
let_in (Some thread) key inside = updated inside thread (Some key)

abbrev pub let_out : Option ℕ → (ℕ → Option ℕ) → ℕ → Option ℕ
let_out None inside = inside
let_out (Some thread) inside = updated inside thread None

-- a section of the key is opened
abbrev pub opened : Machine → Option ℕ → ℕ → Machine
opened m owner key = record (with_section m key (Some (fresh_section owner key)))
    { inside = let_in owner key m.inside }

-- it has come so far
abbrev pub in_phase : Machine → ℕ → Phase → Machine
in_phase m key ph = with_section m key (option_map {T = Section} (λ s. record s { phase = ph }) (open_at m key))

-- the waiter at that place of the key's list is taken out, and held
abbrev pub taken : Machine → ℕ → ℕ → Machine
taken m key nth =
    record m {
      queues = updated m.queues key (remove (m.queues key) nth);
      places = option_map_or (λ w. changed (held key) m.places w.thread) (slice_get (m.queues key) nth) m.places;
    }

-- one that sleeps is back in a section of its key, awake by itself
abbrev pub returned : Machine → ℕ → ℕ → Machine
returned m thread key = in_phase (opened m (Some thread) key) key phase.Joined

-- It takes itself out of its list, or finds that it was taken: it runs, and takes nobody.
abbrev pub quitted : Machine → ℕ → ℕ → Machine
quitted m thread key = in_phase (resumed m thread (place_at m.places thread)) key phase.Ended

-- its store is said
abbrev pub stored : Machine → ℕ → UnparkToken → Machine
stored m key token = with_section m key
    (option_map {T = Section} (λ s. record s { phase = phase.Stored; token = token }) (open_at m key))

-- it is closed, and whom it took is told
abbrev pub closed : Machine → ℕ → Bool → Machine
closed m key woken = record (with_section m key None) {
  places = map (option_map (told key (token_of m key) woken)) m.places;
  inside = let_out (entered_by m key) m.inside;
}

-- a step of the section that the thread is in, where it is in one
abbrev pub in_section : (Machine → ℕ → Machine) → ℕ → Machine → Machine
in_section step thread m = option_map_or (λ s. step m s.key) (section_of m thread) m

-- a waiter that is taken, with the mark of its sleep
abbrev pub taking_of : Machine → Waiter → Taking
taking_of m w = record {
  thread = w.thread;
  token = w.token;
  mark = option_map_or mark_of (place_at m.places w.thread)
      0;
}

-- a filter is shown the waiters that the section hasn't passed: the first that it wants is taken, else the taking is
-- over
abbrev pub TakesNext : {F : Type 0} → (F → ParkToken → FilterOp → F → Type 0) → F → Section → Machine
    → Result (Option Taking) LotFault → Machine → Type 0
TakesNext {F} gives filter s old result new =
    let queue = old.queues s.key in
    (answers : List FilterOp) × (last : F)
    × Answers gives is_no_skip filter (tokens_of (drop (passed_of s.phase) queue)) answers last
    × (let at = passed_of s.phase + count_by is_skip answers in
    MatchBool (list_any is_take answers)
    ((result ≡ Ok (option_map (taking_of old) (slice_get queue at)))
    × (new ≡ taken (in_phase old s.key (phase.Taking at)) s.key at))
    ((result ≡ Ok None) × (new ≡ in_phase old s.key phase.Ended)))

-- the same in the thread's section
abbrev pub TakesInSection : {F : Type 0} → (F → ParkToken → FilterOp → F → Type 0) → F → ℕ → Machine
    → Result (Option Taking) LotFault → Machine → Type 0
TakesInSection shows filter thread old result new = IsSomeAnd (section_of old thread)
    (λ s. TakesNext shows filter s old result new)

-- what the validation answered is said in the section, and answered
abbrev pub Checks : ℕ → Bool → Machine → Result Bool LotFault → Machine → Type 0
Checks thread holds old result new = (result ≡ Ok holds)
    × (new ≡ in_section (λ m key. in_phase m key (if holds then phase.Valid else phase.Invalid)) thread old)

-- it quits, and is answered the token that it was taken with, where it was
abbrev pub Quits : ℕ → Machine → Result (Option UnparkToken) LotFault → Machine → Type 0
Quits thread old result new = (result ≡ Ok (option_and_then taken_with (place_at old.places thread)))
    × (new ≡ in_section (λ m key. quitted m thread key) thread old)

-- the section's thread joins the end of its key's list
abbrev pub Appends : {T : Type 0} → ℕ → ParkToken → Bool → Machine → Result T LotFault → Machine → Type 0
Appends thread token timed old result new = IsOk result
    × (new ≡ in_section (λ m key. joined (in_phase m key phase.Joined) thread key token timed) thread old)

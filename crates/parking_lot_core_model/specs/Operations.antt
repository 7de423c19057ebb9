-- What whole operations do.
use Rattle.std.specs.Prelude.{◌≡◌, ℕ, Bool, true, false, not, if◌then◌else◌, MatchBool, List, [], ◌∷◌, length, take}
use Rattle.std.specs.Prelude.{drop, ◌-◌, min, Option, Some, None, Result, Ok, slice_set}
use Rattle.parking_lot_core_model.specs.declared.fault.LotFault.{LotFault}
use Rattle.parking_lot_core_model.specs.declared.parking.ParkToken.{ParkToken}
use Rattle.parking_lot_core_model.specs.declared.parking.UnparkToken.{UnparkToken}
use Rattle.parking_lot_core_model.specs.declared.parking.FilterOp.{FilterOp}
use Rattle.parking_lot_core_model.specs.declared.parking.ParkResult.{ParkResult}
use Rattle.parking_lot_core_model.specs.declared.parking.ParkResult.TheVariants.{Unparked, Invalid, TimedOut}
use Rattle.parking_lot_core_model.specs.declared.parking.UnparkResult.{UnparkResult}
use Rattle.parking_lot_core_model.specs.declared.parking.RequeueOp.{RequeueOp}
use Rattle.parking_lot_core_model.specs.declared.parking.RequeueOp.TheVariants.{Abort, UnparkOneRequeueRest, RequeueAll}
use Rattle.parking_lot_core_model.specs.declared.parking.RequeueOp.TheVariants.{UnparkOne, RequeueOne}
use Rattle.parking_lot_core_model.specs.declared.place.Place.{Place}
use Rattle.parking_lot_core_model.specs.declared.place.Place.TheVariants.{Running, Waiting, Held, Taken}
use Rattle.parking_lot_core_model.specs.declared.place.Waiter.{Waiter}
use Rattle.parking_lot_core_model.specs.Lists.{updated}
use Rattle.parking_lot_core_model.specs.Places.{place_at, all_changed, held}
use Rattle.parking_lot_core_model.specs.Results.{Answers, is_stop, is_left, unpark_result, fairly, chosen_by, passed_by}
use Rattle.parking_lot_core_model.specs.Results.{woken_by, moved_by, left_by}
use Rattle.parking_lot_core_model.specs.Machine.{Machine, threads_of, tokens_of, joined, unparked, given_up, requeued}

-- a key's list is left with these waiters, and those others are held by a section of the key
abbrev pub all_taken : Machine → ℕ → List Waiter → List Waiter → Machine
all_taken m key waiters rest =
    record m { queues = updated m.queues key rest; places = all_changed (held key) m.places (threads_of waiters) }

-- where the validation holds the thread joins the end of the key's list, else its park is over
abbrev pub Parks : (Bool → Type 0) → ℕ → ℕ → ParkToken → Bool → Machine → Result (Option ParkResult) LotFault → Machine
    → Type 0
Parks validates thread key token timed old result new =
    (valid : Bool) × validates valid × (result ≡ Ok (if valid then None else Some Invalid))
    × (new ≡ (if valid then joined old thread key token timed else old))

-- the first waiter of the key is woken, with the token that is given for what is answered
abbrev pub UnparksOne : Bool → (UnparkResult → UnparkToken → Type 0) → ℕ → Machine → Result UnparkResult LotFault
    → Machine → Type 0
UnparksOne fair gives key old result new =
    let queue = old.queues key in
    let answer = fairly fair (unpark_result (length (take 1 queue)) 0 (drop 1 queue)) in
    (token : UnparkToken) × gives answer token × (result ≡ Ok answer)
    × (new ≡ unparked old key (take 1 queue) (drop 1 queue) token)

-- all waiters of the key are woken with a token, and counted
abbrev pub UnparksAll : UnparkToken → ℕ → Machine → Result ℕ LotFault → Machine → Type 0
UnparksAll token key old result new = (result ≡ Ok (length (old.queues key)))
    × (new ≡ unparked old key (old.queues key) [] token)

-- the key's waiters are shown to a filter, in order; those that it wants are woken, with the token that is given for
-- what is answered
abbrev pub UnparksByFilter : {F : Type 0} → Bool → (F → ParkToken → FilterOp → F → Type 0) → F
    → (UnparkResult → UnparkToken → Type 0) → ℕ → Machine → Result UnparkResult LotFault → Machine → Type 0
UnparksByFilter {F} fair shows filter gives key old result new =
    let queue = old.queues key in
    (answers : List FilterOp) × (last : F) × (token : UnparkToken) × Answers shows is_stop filter (tokens_of queue)
    answers last
    × (let answer = fairly fair (unpark_result (length (chosen_by answers queue)) 0 (passed_by answers queue)) in
    gives answer token × (result ≡ Ok answer)
    × (new ≡ unparked old key (chosen_by answers queue) (passed_by answers queue) token))

-- how a park ends, by the thread's place: a taken thread runs with its token; one that still waits takes itself out,
-- and is told whether it was the last
abbrev pub ResumesFrom : Option Place → (ℕ → Bool → Type 0) → Machine → ℕ → Result ParkResult LotFault → Machine
    → Type 0
ResumesFrom (Some (Taken token key sleep woken)) tells old thread result new = (result ≡ Ok (Unparked token))
    × (new ≡ record old { places = slice_set old.places thread (Some Running) })
ResumesFrom (Some (Waiting key sleep)) tells old thread result new =
    (result ≡ Ok TimedOut) × (new ≡ given_up old thread key)
    × tells key (not (is_left ((given_up old thread key).queues key)))
ResumesFrom (Some Running) tells old thread result new = ⊥
ResumesFrom (Some (Held key sleep)) tells old thread result new = ⊥
ResumesFrom None tells old thread result new = ⊥

abbrev pub Resumes : (ℕ → Bool → Type 0) → ℕ → Machine → Result ParkResult LotFault → Machine → Type 0
Resumes tells thread old result new = ResumesFrom (place_at old.places thread) tells old thread result new

-- a requeue that isn't aborted answers what it did, and wakes with the token that is given for it
abbrev pub RequeuesBy : (UnparkResult → UnparkToken → Type 0) → RequeueOp → Machine → ℕ → ℕ
    → Result UnparkResult LotFault → Machine → Type 0
RequeuesBy gives op old from to result new =
    let queue = old.queues from in
    let answer = unpark_result (length (woken_by op queue)) (length (moved_by op queue)) (left_by op queue) in
    (token : UnparkToken) × gives answer token × (result ≡ Ok answer) × (new ≡ requeued old op from to token)

-- the operation is to do nothing
abbrev pub is_abort : RequeueOp → Bool
is_abort Abort = true
is_abort UnparkOneRequeueRest = false
is_abort RequeueAll = false
is_abort UnparkOne = false
is_abort RequeueOne = false

abbrev pub Requeues : (UnparkResult → UnparkToken → Type 0) → RequeueOp → Machine → ℕ → ℕ → Result UnparkResult LotFault
    → Machine → Type 0
Requeues gives op old from to result new =
    MatchBool (is_abort op)
    ((result ≡ Ok (unpark_result {X = Waiter} 0 0 [])) × (new ≡ old))
    (RequeuesBy gives op old from to result new)

-- the validation says what is done with the first list
abbrev pub UnparksAndRequeues : (RequeueOp → Type 0) → (RequeueOp → UnparkResult → UnparkToken → Type 0) → ℕ → ℕ
    → Machine → Result UnparkResult LotFault → Machine → Type 0
UnparksAndRequeues asks gives from to old result new = (op : RequeueOp) × asks op
    × Requeues (gives op) op old from to result new

-- how many of so many waiters a requeue wakes, and how many it moves
abbrev pub woken_count : RequeueOp → ℕ → ℕ
woken_count Abort n = 0
woken_count UnparkOneRequeueRest n = min n 1
woken_count RequeueAll n = 0
woken_count UnparkOne n = min n 1
woken_count RequeueOne n = 0

abbrev pub moved_count : RequeueOp → ℕ → ℕ
moved_count Abort n = 0
moved_count UnparkOneRequeueRest n = n - 1
moved_count RequeueAll n = n
moved_count UnparkOne n = 0
moved_count RequeueOne n = min n 1

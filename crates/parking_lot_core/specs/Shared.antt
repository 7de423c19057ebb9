-- What calls on the lot for threads say, where the lock alone knows the lot.
use Rattle.std.specs.Prelude.{◌≡◌, ◌⊎◌, ◌==◌, ◌+◌, ◌++◌, ◌∷◌, ℕ, nat_lt, Bool, true, false, if◌then◌else◌, MatchBool}
use Rattle.std.specs.Prelude.{List, [], length, Option, Some, None, Result, Ok, slice_get, slice_set}
use Rattle.parking_lot_core_model.specs.declared.fault.LotFault.{LotFault}
use Rattle.parking_lot_core_model.specs.declared.fault.LotFault.TheVariants.{TooManyThreads, NoMemory}
use Rattle.parking_lot_core_model.specs.declared.parking.ParkToken.{ParkToken}
use Rattle.parking_lot_core_model.specs.declared.parking.UnparkToken.{UnparkToken}
use Rattle.parking_lot_core_model.specs.declared.parking.UnparkResult.{UnparkResult}
use Rattle.parking_lot_core_model.specs.declared.parking.RequeueOp.{RequeueOp}
use Rattle.parking_lot_core_model.specs.declared.parking.FilterOp.{FilterOp}
use Rattle.parking_lot_core_model.specs.declared.place.Place.TheVariants.{Running, Taken}
use Rattle.parking_lot_core_model.specs.declared.place.Sleep.{Sleep}
use Rattle.parking_lot_core_model.specs.declared.place.Waiter.{Waiter}
use Rattle.parking_lot_core_model.specs.Results.{Answers, is_stop, is_left, unpark_result, chosen_by, passed_by}
use Rattle.parking_lot_core_model.specs.Machine.{Machine, free_number, register_fault, retired, tokens_of}
use Rattle.parking_lot_core_model.specs.Operations.{is_abort}
use Rattle.parking_lot_core_model.specs.Places.{place_at}
use Rattle.parking_lot_core_model.specs.Sound.{Sound}
use Rattle.parking_lot_core.specs.declared.chain.Waiting.{Waiting}
use Rattle.parking_lot_core.specs.Waits.{queue}

-- That a lock was held, from when the first was found under it until the second was left. Nothing opens it but the
-- proofs of the functions that give a lock back.
unfoldable pub WasHeld : Machine → Machine → Type 0
WasHeld old new = Unit {0}

-- no section is open
abbrev pub AreClosed : Machine → Type 0
AreClosed m = (bucket : ℕ) → m.sections bucket ≡ None

-- what a lot is whenever its lock is had: sound, and nobody is in a section
abbrev pub IsQuiet : Machine → Type 0
IsQuiet m = Sound m × AreClosed m

-- a lot's waiters are these, in their order
abbrev pub HasLists : Machine → List Waiting → Type 0
HasLists m xs = (key : ℕ) → m.queues key ≡ queue xs key

-- waiters, by other numbers
abbrev pub renamed : ℕ → List Waiter → List Waiter
renamed shift [] = []
renamed shift (w ∷ ws) = record w { thread = shift + w.thread } ∷ renamed shift ws

-- Of two buckets, found and left so: the waiters of the first key are those of the first. To those of the second key,
-- who bear other numbers in the lot, some have come behind. In neither bucket has another list changed.
pub record HasBoth (from to shift : ℕ) (found left aimed joined : List Waiting) (old new : Machine) : Type 0 where
  pub source : old.queues from ≡ queue found from
  pub sent : new.queues from ≡ queue left from
  pub target : old.queues to ≡ renamed shift (queue aimed to)
  pub more : List Waiter
  pub come : queue joined to ≡ queue aimed to ++ more
  pub got : new.queues to ≡ renamed shift (queue aimed to) ++ more
  pub source_else : (key : ℕ) → (key == from) ≡ false → queue left key ≡ queue found key
  pub target_else : (key : ℕ) → (key == to) ≡ false → queue joined key ≡ queue aimed key

-- a thread was told that token, and runs from then on
abbrev pub WasTold : UnparkToken → Machine → Machine → Type 0
WasTold token old new = (thread key : ℕ) × (sleep : Sleep)
    × (place_at old.places thread ≡ Some (Taken token key sleep true))
    × (new ≡ record old { places = slice_set old.places thread (Some Running) })

-- Of the numbers that are left so this one isn't given out, and it was before.
abbrev pub WasFreed : ℕ → List Bool → Machine → Machine → Type 0
WasFreed thread given old new = (slice_get given thread ≡ Some false) × (place_at old.places thread ≡ Some Running)
    × (new ≡ retired old thread)

-- the lists of all other keys than those are as they were
abbrev pub Spares : (ℕ → Bool) → Machine → Machine → Type 0
Spares concerns old new = (key : ℕ) → concerns key ≡ false → new.queues key ≡ old.queues key

-- On some sound lot of which no section was open this is what a call did that answered so, and all that was done while
-- a lock of the lot was held: its bucket's, both of a requeue, a seat's, or that of the numbers. The lists of all keys but those that concern it are as they were.
abbrev pub OnSomeLot : {T : Type 0} → (ℕ → Bool) → (Machine → Result T LotFault → Machine → Type 0) → T → Type 0
OnSomeLot concerns does answer = (old : Machine) × (new : Machine) × IsQuiet old × does old (Ok answer) new
    × Spares concerns old new × WasHeld old new

-- why nobody can register where there are to be so many threads at most
abbrev pub admit_fault : ℕ → Machine → Option LotFault
admit_fault limit m = if nat_lt (free_number m.places) limit then register_fault m else Some TooManyThreads

-- on some sound lot of which no section was open nobody could register for this, or memory was refused
abbrev pub IsRefused : ℕ → LotFault → Type 0
IsRefused limit fault = (m : Machine) × IsQuiet m × ((admit_fault limit m ≡ Some fault) ⊎ (fault ≡ NoMemory))

-- what a filter answered, shown the tokens of some waiters, is what the result counts
abbrev pub Counts : {F : Type 0} → (F → ParkToken → FilterOp → F → Type 0) → F → UnparkResult → Type 0
Counts {F} shows filter result =
    (waiters : List Waiter) × (answers : List FilterOp) × (last : F) × Answers shows is_stop filter (tokens_of waiters)
    answers last
    × (result.unparked_threads ≡ length (chosen_by answers waiters))
    × (result.have_more_threads ≡ is_left (passed_by answers waiters))

-- a requeue does nothing where that is asked for, and else tells what it did
abbrev pub Tells : (RequeueOp → Type 0) → (RequeueOp → UnparkResult → UnparkToken → Type 0) → UnparkResult → Type 0
Tells asks gives result =
    (op : RequeueOp) × asks op × MatchBool (is_abort op) (result ≡ unpark_result {X = ℕ} 0 0 [])
    ((token : UnparkToken) × gives op result token)

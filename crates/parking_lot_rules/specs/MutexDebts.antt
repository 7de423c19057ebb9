-- Who is in debt at a mutex, by the same words.
use Rattle.std.specs.Prelude.{◌≡◌, ◌≢◌, ℕ, ◌<◌, Bool, true, false, ◌||◌, ◌⊎◌, List, [], ◌∷◌, ◌++◌, length, slice_get}
use Rattle.std.specs.Prelude.{Some, IsTrue}
use Rattle.parking_lot_rules.specs.Roles.{Mark, Open, Normal, Handed}
use Rattle.parking_lot_rules.specs.Classes.{bit}
use Rattle.parking_lot_rules.specs.Lists.{occurs}
use Rattle.parking_lot_rules.specs.Debts.{is_inside, is_up, and_up, passing, DebtChange, Begins, Ends, Remains, turned}
use Rattle.parking_lot_rules.specs.Debts.{begins_if, ends_without, by_crossing, where_same}
use Rattle.parking_lot_rules.specs.Mutex.{Phase, Seeks, Enters, Checked, Queued, Taken, Masks, Leaves, Unlocks, Stored}
use Rattle.parking_lot_rules.specs.Mutex.{Wakes, Comes, Moves, Role, Owning, weight, total, Mutex, Lock, Check}
use Rattle.parking_lot_rules.specs.Mutex.{ExpireTaken, Resume, Depart, Step, Alone, Take, Hand, Wake, WakeOwner, Pass}
use Rattle.parking_lot_rules.specs.Mutex.{Allowed, after, Runs, unlocked}
use Rattle.parking_lot_rules.specs.MutexLaws.{is_asleep}
use Rattle.parking_lot_rules.specs.Any.{mutex_crossing}

abbrev pub owes_section : Phase → Bool
owes_section (Enters woken) = true
owes_section Checked = true
owes_section (Queued stay) = is_inside stay
owes_section (Taken by mark stay) = is_inside stay
owes_section Masks = true
owes_section Leaves = true
owes_section (Unlocks taken) = true
owes_section (Stored taken) = true
owes_section (Wakes (v ∷ taken)) = true
owes_section Comes = true
owes_section Moves = true
owes_section phase = false

-- a thread that was taken isn't about to try where it was handed the mutex
abbrev pub still_tries : Mark → Bool
still_tries Open = true
still_tries Normal = true
still_tries Handed = false

abbrev pub retries : Phase → Bool
retries (Seeks woken) = woken
retries (Enters woken) = woken
retries (Taken by mark stay) = and_up (still_tries mark) stay
retries phase = false

abbrev pub is_in_debt : Phase → Bool
is_in_debt phase = owes_section phase || retries phase

-- `saw`: which owners have begun to give the mutex up and found that they have to look through the list
abbrev pub debts : (ℕ → Bool) → Mutex → List ℕ
debts saw m = passing (λ u r. saw u || is_in_debt r.does) 0 m.roles

abbrev pub left_to_wake : Step → List ℕ
left_to_wake (Alone (Depart owns taken)) = taken
left_to_wake step = []

abbrev pub owing : Step → DebtChange
owing (Wake owns v taken stay) = ends_without taken
owing (WakeOwner owns v taken stay) = ends_without taken
owing (Pass owns before v taken) = ends_without (before ++ taken)
owing step = by_crossing (mutex_crossing step) (left_to_wake step)

abbrev pub retrying : Step → DebtChange
retrying (Alone (Lock woken)) = Ends
retrying (Alone (Check woken)) = Ends
retrying (Alone (ExpireTaken by mark)) = begins_if (still_tries mark)
retrying (Alone (Resume by)) = Begins
retrying step = Remains

abbrev pub handing : Phase → DebtChange
handing (Taken by Open stay) = Ends
handing phase = Remains

abbrev pub retrying_other : Step → ℕ → Phase → DebtChange
retrying_other (Take v stay) u phase = where_same u v (begins_if (is_up stay))
retrying_other (Hand v) u phase = handing phase
retrying_other (Wake owns v taken stay) u phase = where_same u v Begins
retrying_other (WakeOwner owns v taken stay) u phase = where_same u v Ends
retrying_other step u phase = Remains

-- what a step does to whether its thread, and any other, owes or is about to try again
pub record StepIsBooked (t : ℕ) (step : Step) (old new : Mutex) : Type 0 where
  pub mover : (a b : Role) → slice_get old.roles t ≡ Some a → slice_get new.roles t ≡ Some b
      → (owes_section b.does ≡ turned (owing step) (owes_section a.does))
      × (retries b.does ≡ turned (retrying step) (retries a.does))
  pub others : (u : ℕ) (a b : Role) → u ≢ t → slice_get old.roles u ≡ Some a → slice_get new.roles u ≡ Some b
      → (owes_section b.does ≡ owes_section a.does)
      × (retries b.does ≡ turned (retrying_other step u a.does) (retries a.does))

abbrev pub SomebodyIsInDebt : Mutex → Type 0
SomebodyIsInDebt m = (u : ℕ) × (r : Role) × (slice_get m.roles u ≡ Some r) × IsTrue (is_in_debt r.does)

-- some thread owns the mutex, and isn't asleep there
abbrev pub SomebodyOwns : Mutex → Type 0
SomebodyOwns m = (u : ℕ) × (r : Role) × (slice_get m.roles u ≡ Some r) × (0 < weight Owning r)
    × (is_asleep r.does ≡ false)

-- Who is in debt begins and ends where it is said; the list has each of them once; where somebody waits and nobody owns
-- the mutex it isn't empty; where somebody sleeps it isn't, or the owner is awake; and an owner that goes while
-- somebody waits is in debt then.
pub record MutexDebtsArePaid (m : Mutex) : Type 0 where
  pub listed : (saw : ℕ → Bool) (u : ℕ) (r : Role) → slice_get m.roles u ≡ Some r
      → occurs u (debts saw m) ≡ bit (saw u || is_in_debt r.does)
  pub strangers : (saw : ℕ → Bool) (u : ℕ) → 0 < occurs u (debts saw m) → (r : Role) × (slice_get m.roles u ≡ Some r)
  pub waiters : 0 < length m.queue → total Owning m.roles ≡ 0 → SomebodyIsInDebt m
  pub sleepers : (u : ℕ) (r : Role) → slice_get m.roles u ≡ Some r → IsTrue (is_asleep r.does) → SomebodyIsInDebt m
      ⊎ SomebodyOwns m

-- what a step of a sound mutex books, and passes on
pub record MutexDebtsAreBooked (t : ℕ) (step : Step) (old new : Mutex) : Type 0 where
  pub booked : StepIsBooked t step old new
  pub passed : (b : Role) → slice_get new.roles t ≡ Some b → 0 < length old.queue → 0 < total Owning old.roles
      → total Owning new.roles ≡ 0 → IsTrue (is_in_debt b.does)

-- at every step of every run
abbrev pub ThroughoutMutex : (ℕ → Step → Mutex → Mutex → Type 0) → Type 0
ThroughoutMutex P = (threads : ℕ) (steps : List (ℕ × Step)) (m : Mutex) (t : ℕ) (step : Step)
    → Runs (unlocked threads) steps m → Allowed t step m → P t step m (after t step m)

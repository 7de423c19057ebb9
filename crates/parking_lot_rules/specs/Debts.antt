-- Who is in debt: the threads that owe a section or a wake, and those that are about to try again.
use Rattle.std.specs.Prelude.{◌≡◌, ◌≢◌, ℕ, suc, ◌+◌, ◌<◌, Bool, true, false, ◌||◌, ◌⊎◌, if◌then◌else◌, ◌==◌, List, []}
use Rattle.std.specs.Prelude.{◌∷◌, ◌++◌, length, slice_get, Some, IsTrue}
use Rattle.parking_lot_rules.specs.Roles.{Mode, Shared, Exclusive, Upgradable, Stay, Fresh, Asleep, Late, Back, Mark}
use Rattle.parking_lot_rules.specs.Roles.{Open, Normal, Handed, Phase, Seeks, Enters1, Checked1, Queued1, Taken1}
use Rattle.parking_lot_rules.specs.Roles.{Masks1, Leaves1, Drains, Enters2, Checked2, Queued2, Taken2, Leaves2, Owes1}
use Rattle.parking_lot_rules.specs.Roles.{Scans1, Stored1, Owes2, Scans2, Masked2, Wakes, Role}
use Rattle.parking_lot_rules.specs.Classes.{Readers, Upgraders, Pending, Writers, weight, bit}
use Rattle.parking_lot_rules.specs.Lists.{occurs}
use Rattle.parking_lot_rules.specs.Lock.{Lock}
use Rattle.parking_lot_rules.specs.Plain.{Share, Pend, Drain, Upgradably, Exclude, ExpireTaken1, ExpireTaken2, Resume1}
use Rattle.parking_lot_rules.specs.Plain.{Resume2, ReceivePending, Check1, Check2, UnshareLast, Yield, YieldBack}
use Rattle.parking_lot_rules.specs.Plain.{Downgrade, DowngradeToUpgradable, DowngradeUpgradable, Depart1, Depart2}
use Rattle.parking_lot_rules.specs.Steps.{Step, Alone, Take1, Take2, Store, Wake, Pass, Hand, HandUpgradable, Waking}
use Rattle.parking_lot_rules.specs.Steps.{Retry, Own, OwnPending, OwnUpgradable, Recheck}
use Rattle.parking_lot_rules.specs.Family.{Crossing, Stays, Comes, Goes, crossing}
use Rattle.parking_lot_rules.specs.Laws.{held, is_asleep}

-- inside the section in which it joined a list, or in which it takes itself off it
abbrev pub is_inside : Stay → Bool
is_inside Fresh = true
is_inside Asleep = false
is_inside Late = false
is_inside Back = true

-- awake, and not asleep in a list
abbrev pub is_up : Stay → Bool
is_up Fresh = true
is_up Asleep = false
is_up Late = true
is_up Back = true

-- It owes a section, or is inside one, or is still to wake somebody that it took there.
abbrev pub owes_section : Phase → Bool
owes_section (Enters1 mode woken) = true
owes_section (Checked1 mode) = true
owes_section (Queued1 mode stay) = is_inside stay
owes_section (Taken1 mode by mark stay) = is_inside stay
owes_section Masks1 = true
owes_section Leaves1 = true
owes_section (Enters2 from woken) = true
owes_section (Checked2 from) = true
owes_section (Queued2 from stay) = is_inside stay
owes_section (Taken2 from by stay) = is_inside stay
owes_section (Leaves2 from) = true
owes_section Owes1 = true
owes_section (Scans1 cause shared upgradable writer taken) = true
owes_section (Stored1 taken) = true
owes_section Owes2 = true
owes_section (Scans2 taken) = true
owes_section (Masked2 taken) = true
owes_section (Wakes (v ∷ taken)) = true
owes_section phase = false

-- A thread that was taken isn't about to try where it was handed what it wants; a writer that was handed the lock is to
-- look whether readers are left.
abbrev pub still_tries : Mode → Mark → Bool
still_tries mode Open = true
still_tries mode Normal = true
still_tries Shared Handed = false
still_tries Exclusive Handed = true
still_tries Upgradable Handed = false

abbrev pub and_up : Bool → Stay → Bool
and_up false stay = false
and_up true stay = is_up stay

-- It was woken, or it was taken and is awake, and it is about to try: it neither owns what it asks for nor waits for it
-- again.
abbrev pub retries : Phase → Bool
retries (Seeks mode woken) = woken
retries (Enters1 mode woken) = woken
retries (Taken1 mode by mark stay) = and_up (still_tries mode mark) stay
retries (Drains from woken) = woken
retries (Enters2 from woken) = woken
retries (Taken2 from by stay) = is_up stay
retries phase = false

abbrev pub is_in_debt : Phase → Bool
is_in_debt phase = owes_section phase || retries phase

-- The threads of a list that pass a test, in rising order; `n` is the number of the first.
abbrev pub passing : {R : Type 0} → (ℕ → R → Bool) → ℕ → List R → List ℕ
passing test n [] = []
passing test n (r ∷ rs) = if test n r then n ∷ passing test (suc n) rs else passing test (suc n) rs

-- Those in debt at a lock. `saw` says which owners have begun to give the lock up and found that they have to look
-- through the list: they still own it, and enter a section next.
abbrev pub debts : (ℕ → Bool) → Lock → List ℕ
debts saw l = passing (λ u r. saw u || is_in_debt r.does) 0 l.roles

-- What a step does to whether a thread is so.
pub data DebtChange : Type 0 where
  Begins : DebtChange
  Ends : DebtChange
  Remains : DebtChange

abbrev pub turned : DebtChange → Bool → Bool
turned Begins was = true
turned Ends was = false
turned Remains was = was

abbrev pub begins_if : Bool → DebtChange
begins_if true = Begins
begins_if false = Remains

-- it ends where nobody is left
abbrev pub ends_without : List ℕ → DebtChange
ends_without [] = Ends
ends_without (v ∷ taken) = Remains

-- whom the thread is still to wake, where it leaves a section
abbrev pub left_to_wake : Step → List ℕ
left_to_wake (Alone (Depart1 owns taken)) = taken
left_to_wake (Alone (Depart2 n taken)) = taken
left_to_wake step = []

abbrev pub by_crossing : Crossing → List ℕ → DebtChange
by_crossing (Comes k) taken = Begins
by_crossing (Goes k) taken = ends_without taken
by_crossing Stays taken = Remains

-- A thread owes from the step at which it saw waiters, or entered a section, until that section has ended and all whom
-- it took are woken.
abbrev pub owing : Step → DebtChange
owing (Alone (UnshareLast n)) = Begins
owing (Alone (Yield saw)) = begins_if saw
owing (Alone (YieldBack saw)) = begins_if saw
owing (Alone (Downgrade saw)) = begins_if saw
owing (Alone (DowngradeToUpgradable saw)) = begins_if saw
owing (Alone (DowngradeUpgradable saw)) = begins_if saw
owing (Wake owns v taken k stay) = ends_without taken
owing (Pass owns before v taken) = ends_without (before ++ taken)
owing step = by_crossing (crossing step) (left_to_wake step)

-- it ends where the thread was handed what it wants, and begins where it is awake, and was told to try
abbrev pub expiring : Mode → Mark → DebtChange
expiring mode mark = begins_if (still_tries mode mark)

-- One that was woken, or taken and is awake, is about to try, until it owns or waits again.
abbrev pub retrying : Step → DebtChange
retrying (Alone (Share n woken)) = Ends
retrying (Alone (Pend woken)) = Ends
retrying (Alone (Drain from woken)) = Ends
retrying (Alone (Upgradably woken)) = Ends
retrying (Alone Exclude) = Ends
retrying (Alone (Check1 mode woken)) = Ends
retrying (Alone (Check2 from woken)) = Ends
retrying (Alone (ExpireTaken1 mode by mark)) = expiring mode mark
retrying (Alone (ExpireTaken2 from by)) = Begins
retrying (Alone (Resume1 mode by)) = Begins
retrying (Alone (Resume2 from by)) = Begins
retrying (Alone (ReceivePending by)) = Begins
retrying step = Remains

-- what it does to another thread that it wakes
abbrev pub waking : Waking → DebtChange
waking (Retry mode) = Begins
waking Own = Ends
waking OwnPending = Begins
waking OwnUpgradable = Ends
waking (Recheck from) = Begins

-- a shared or upgradable waiter that was taken owns the lock once it is handed over
abbrev pub handing : Phase → DebtChange
handing (Taken1 Shared by Open stay) = Ends
handing (Taken1 Upgradable by Open stay) = Ends
handing phase = Remains

abbrev pub where_same : ℕ → ℕ → DebtChange → DebtChange
where_same u v turn = if u == v then turn else Remains

-- and to any other thread u, in its phase
abbrev pub retrying_other : Step → ℕ → Phase → DebtChange
retrying_other (Take1 scan i v mode stay) u phase = where_same u v (begins_if (is_up stay))
retrying_other (Take2 owns v from stay) u phase = where_same u v (begins_if (is_up stay))
retrying_other (Store Hand scan) u phase = handing phase
retrying_other (Store HandUpgradable scan) u phase = handing phase
retrying_other (Wake owns v taken k stay) u phase = where_same u v (waking k)
retrying_other step u phase = Remains

-- A thread begins to owe, or to try again, and ends it, at these steps and at no other.
pub record DebtsAreBooked (recursive : Bool) (t : ℕ) (step : Step) (old new : Lock) : Type 0 where
  pub mover : (a b : Role) → slice_get old.roles t ≡ Some a → slice_get new.roles t ≡ Some b
      → (owes_section b.does ≡ turned (owing step) (owes_section a.does))
      × (retries b.does ≡ turned (retrying step) (retries a.does))
  pub others : (u : ℕ) (a b : Role) → u ≢ t → slice_get old.roles u ≡ Some a → slice_get new.roles u ≡ Some b
      → (owes_section b.does ≡ owes_section a.does)
      × (retries b.does ≡ turned (retrying_other step u a.does) (retries a.does))

-- some thread is in debt
abbrev pub SomebodyIsInDebt : Lock → Type 0
SomebodyIsInDebt l = (u : ℕ) × (r : Role) × (slice_get l.roles u ≡ Some r) × IsTrue (is_in_debt r.does)

-- some thread owns the lock, pending or not, and isn't asleep there
abbrev pub SomebodyOwns : Lock → Type 0
SomebodyOwns l = (u : ℕ) × (r : Role) × (slice_get l.roles u ≡ Some r)
    × (0 < weight Readers r + weight Upgraders r + weight Pending r + weight Writers r) × (is_asleep r.does ≡ false)

-- The list of those in debt holds each of them once, and no other thread. Where somebody waits on the first key and
-- there is no exclusive, pending or upgradable owner, or a pending writer waits and there is no reader, it isn't empty.
-- Where somebody sleeps, it isn't empty, or some owner is awake.
pub record DebtsArePaid (l : Lock) : Type 0 where
  pub listed : (saw : ℕ → Bool) (u : ℕ) (r : Role) → slice_get l.roles u ≡ Some r
      → occurs u (debts saw l) ≡ bit (saw u || is_in_debt r.does)
  pub strangers : (saw : ℕ → Bool) (u : ℕ) → 0 < occurs u (debts saw l) → (r : Role) × (slice_get l.roles u ≡ Some r)
  pub first : 0 < length l.first → held Writers l + held Pending l + held Upgraders l ≡ 0 → SomebodyIsInDebt l
  pub second : 0 < length l.second → held Readers l + held Upgraders l ≡ 0 → SomebodyIsInDebt l
  pub sleepers : (u : ℕ) (r : Role) → slice_get l.roles u ≡ Some r → IsTrue (is_asleep r.does) → SomebodyIsInDebt l
      ⊎ SomebodyOwns l

-- The last owner that keeps those waiting out goes in debt as it goes: it passes the lock on.
pub record DebtsArePassedOn (recursive : Bool) (t : ℕ) (step : Step) (old new : Lock) : Type 0 where
  pub first : (b : Role) → slice_get new.roles t ≡ Some b → 0 < length old.first
      → 0 < held Writers old + held Pending old + held Upgraders old
      → held Writers new + held Pending new + held Upgraders new ≡ 0 → IsTrue (is_in_debt b.does)
  pub second : (b : Role) → slice_get new.roles t ≡ Some b → 0 < length old.second
      → 0 < held Readers old + held Upgraders old
      → held Readers new + held Upgraders new ≡ 0 → IsTrue (is_in_debt b.does)

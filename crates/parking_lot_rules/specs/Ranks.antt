-- How many steps a thread still makes in its call at a lock, stepped alone.
use Rattle.std.specs.Prelude.{◌≡◌, ◌≢◌, ℕ, zero, suc, ◌+◌, ◌-◌, ◌*◌, ◌<◌, ◌≤◌, ◌⊎◌, Bool, true, false, IsTrue, List}
use Rattle.std.specs.Prelude.{length, slice_get, slice_set, Some}
use Rattle.std.specs.List.{sum_by}
use Rattle.parking_lot_rules.specs.Roles.{Mode, Shared, Exclusive, Upgradable, Stay, Fresh, Asleep, Late, Back, Phase}
use Rattle.parking_lot_rules.specs.Roles.{Idle, Seeks, Enters1, Checked1, Queued1, Taken1, Masks1, Leaves1, Drains}
use Rattle.parking_lot_rules.specs.Roles.{Enters2, Checked2, Queued2, Taken2, Leaves2, Yields, Owes1, Scans1, Stored1}
use Rattle.parking_lot_rules.specs.Roles.{Owes2, Scans2, Masked2, Wakes, Role, away}
use Rattle.parking_lot_rules.specs.Clauses.{Word}
use Rattle.parking_lot_rules.specs.Lock.{Lock}
use Rattle.parking_lot_rules.specs.Plain.{bars, Enter1, Retreat1, Enter2, Retreat2, Expire1, ExpireTaken1, Expire2}
use Rattle.parking_lot_rules.specs.Plain.{ExpireTaken2}
use Rattle.parking_lot_rules.specs.Steps.{Step, Alone}
use Rattle.parking_lot_rules.specs.Laws.{is_asleep}

-- one number where another isn't 0, else a third
abbrev pub where_some : ℕ → ℕ → ℕ → ℕ
where_some zero some none = none
where_some (suc n) some none = some

-- what is to come after the first admission: a writer waits for the readers
abbrev pub to_come : Mode → ℕ
to_come Shared = 0
to_come Exclusive = 8
to_come Upgradable = 0

-- A thread that asks, and knows the word: kept out, it sets the parked bit, enters, checks, joins and leaves; else it
-- is admitted.
abbrev pub asks : Mode → Word → ℕ
asks mode w = where_some (bars mode w) (4 + (1 - w.parked1)) (1 + to_come mode)

abbrev pub drains : Word → ℕ
drains w = where_some w.readers (4 + (1 - w.parked2)) 1

-- inside, before the check: it passes, or leaves and asks again
abbrev pub checks1 : Mode → Word → ℕ
checks1 mode w = where_some (bars mode w) (where_some w.parked1 3 (1 + asks mode w)) (1 + asks mode w)

abbrev pub checks2 : Word → ℕ
checks2 w = where_some w.readers (where_some w.parked2 3 (1 + drains w)) (1 + drains w)

-- what a thread in a list, or taken off one, still does by itself: nothing while it sleeps
abbrev pub by_stay : Stay → ℕ → ℕ → ℕ → ℕ
by_stay Fresh fresh late back = fresh
by_stay Asleep fresh late back = 0
by_stay Late fresh late back = late
by_stay Back fresh late back = back

-- The rank of a thread that isn't being stepped, among n threads: as if all that it has seen of the word were out of
-- date. One that goes through a list pays 18 for each waiter that it may take, and 17 for each that it has taken and is
-- to wake, of which a wake takes 1.
abbrev pub worst : ℕ → Phase → ℕ
worst n Idle = 0
worst n (Seeks mode woken) = 8 + to_come mode
worst n (Enters1 mode woken) = 7 + to_come mode
worst n (Checked1 mode) = 2
worst n (Queued1 mode stay) = by_stay stay 1 (10 + to_come mode) (9 + to_come mode)
worst n (Taken1 mode by mark stay) = by_stay stay 0 (10 + to_come mode) (9 + to_come mode)
worst n Masks1 = 2
worst n Leaves1 = 1
worst n (Drains from woken) = 8
worst n (Enters2 from woken) = 7
worst n (Checked2 from) = 2
worst n (Queued2 from stay) = by_stay stay 1 (18 * n + 18) (18 * n + 17)
worst n (Taken2 from by stay) = by_stay stay 0 10 9
worst n (Leaves2 from) = 18 * n + 6
worst n (Yields from) = 18 * n + 5
worst n Owes1 = 18 * n + 4
worst n (Scans1 cause shared upgradable writer taken) = 18 * n + 17 * length taken + 3
worst n (Stored1 taken) = 17 * length taken + 2
worst n Owes2 = 18 * n + 4
worst n (Scans2 taken) = 18 * n + 17 * length taken + 3
worst n (Masked2 taken) = 17 * length taken + 2
worst n (Wakes taken) = 17 * length taken + 1

-- the rank of the thread that is being stepped, and knows the word; there are so many in the first list, and so many in
-- the second
abbrev pub fresh : ℕ → Word → ℕ → ℕ → Phase → ℕ
fresh n w first second (Seeks mode woken) = asks mode w
fresh n w first second (Enters1 mode woken) = checks1 mode w
fresh n w first second (Drains from woken) = drains w
fresh n w first second (Enters2 from woken) = checks2 w
fresh n w first second Owes1 = 18 * first + 4
fresh n w first second (Scans1 cause shared upgradable writer taken) = 18 * first + 17 * length taken + 3
fresh n w first second Owes2 = 18 * second + 4
fresh n w first second (Scans2 taken) = 18 * second + 17 * length taken + 3
fresh n w first second phase = worst n phase

-- the ranks of all threads but one
abbrev pub rank_of_others : ℕ → List Role → ℕ → ℕ
rank_of_others n rs t = sum_by (λ r. worst n r.does) (slice_set rs t away)

-- The ranks of all threads together, where thread t is being stepped, and is in this phase; stale: what it has seen of
-- the word may be out of date.
abbrev pub ranks : Bool → Lock → ℕ → Phase → ℕ
ranks true l t p = worst (length l.roles) p + rank_of_others (length l.roles) l.roles t
ranks false l t p = fresh (length l.roles) l.word (length l.first) (length l.second) p + rank_of_others (length l.roles)
    l.roles t

-- a deadline that passes is no step of its thread
abbrev pub is_deadline : Step → Bool
is_deadline (Alone (Expire1 mode)) = true
is_deadline (Alone (ExpireTaken1 mode by mark)) = true
is_deadline (Alone (Expire2 from)) = true
is_deadline (Alone (ExpireTaken2 from by)) = true
is_deadline step = false

-- A thread that knows the word enters a section only where it would wait; and it leaves one as invalid only where the
-- check fails.
abbrev pub KnowsTheWord : Bool → Step → Word → Type 0
KnowsTheWord false (Alone (Enter1 mode woken)) w = (w.parked1 ≡ 1) × (0 < bars mode w)
KnowsTheWord false (Alone (Enter2 from woken)) w = (w.parked2 ≡ 1) × (0 < w.readers)
KnowsTheWord stale (Alone (Retreat1 mode woken)) w = (w.parked1 ≡ 0) ⊎ (bars mode w ≡ 0)
KnowsTheWord stale (Alone (Retreat2 from woken)) w = (w.parked2 ≡ 0) ⊎ (w.readers ≡ 0)
KnowsTheWord stale step w = Unit {0}

-- Within a call each step of the thread that is being stepped lowers the ranks, also where it takes others, tells them
-- or wakes them.
abbrev pub RanksFall : Bool → ℕ → Step → Lock → Lock → Type 0
RanksFall recursive t step old new = (stale : Bool) (a b : Role) → slice_get old.roles t ≡ Some a
    → slice_get new.roles t ≡ Some b → a.does ≢ Idle → is_deadline step ≡ false
    → KnowsTheWord stale step old.word → ranks false new t b.does + 1 ≤ ranks stale old t a.does

-- The first step of a call on the word sets the thread's rank to a stated number at most, and leaves the others'.
abbrev pub RanksBegin : Bool → ℕ → Step → Lock → Lock → Type 0
RanksBegin recursive t step old new = (a b : Role) → slice_get old.roles t ≡ Some a → slice_get new.roles t ≡ Some b
    → a.does ≡ Idle
    → ranks false new t b.does ≤ ranks false old t a.does + (18 * length old.roles + 9)

-- Where the thread that was stepped sleeps, or is in no call, another may be stepped, whatever that one has seen.
abbrev pub RanksChange : Lock → Type 0
RanksChange l = (t u : ℕ) (a b : Role) → slice_get l.roles t ≡ Some a → slice_get l.roles u ≡ Some b → (a.does ≡ Idle)
    ⊎ IsTrue (is_asleep a.does)
    → ranks true l u b.does ≤ ranks false l t a.does

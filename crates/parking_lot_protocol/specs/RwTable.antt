-- The calls of a reader-writer lock: the act that each phase has asked for, and the phase that follows what it gives.
use Rattle.std.specs.Prelude.{ℕ, ◌+◌, ◌-◌, ◌/◌, ◌%◌, ◌*◌, ◌^◌, ◌==◌, nat_lt, ◌&&◌, ◌||◌, not, min, Bool, true, false}
use Rattle.std.specs.Prelude.{if◌then◌else◌, Option, Some, None, is_some, Result, Ok, Err}
use Rattle.std.specs.Option.{option_map, option_map_or, option_and_then}
use Rattle.parking_lot_core_model.specs.declared.parking.ParkToken.{ParkToken}
use Rattle.parking_lot_core_model.specs.declared.parking.UnparkToken.{UnparkToken}
use Rattle.parking_lot_protocol.specs.declared.act.Act.{Act}
use Rattle.parking_lot_protocol.specs.declared.act.Act.TheVariants as act
use Rattle.parking_lot_protocol.specs.declared.act.SectionAct.TheVariants as section
use Rattle.parking_lot_protocol.specs.declared.act.WordChange.{WordChange}
use Rattle.parking_lot_protocol.specs.declared.act.CoreAnswer.{CoreAnswer}
use Rattle.parking_lot_protocol.specs.declared.act.CoreAnswer.TheVariants.{Owned, Refused, Released}
use Rattle.parking_lot_protocol.specs.declared.act.ActResult.{ActResult}
use Rattle.parking_lot_protocol.specs.declared.rw_phase.LockMode.{LockMode}
use Rattle.parking_lot_protocol.specs.declared.rw_phase.LockMode.TheVariants as want
use Rattle.parking_lot_protocol.specs.declared.rw_phase.AfterWake.{AfterWake}
use Rattle.parking_lot_protocol.specs.declared.rw_phase.AfterWake.TheVariants as rest
use Rattle.parking_lot_protocol.specs.declared.rw_phase.Outcome.{Outcome}
use Rattle.parking_lot_protocol.specs.declared.rw_phase.Outcome.TheVariants as outcome
use Rattle.parking_lot_protocol.specs.declared.rw_phase.Seeking.{Seeking}
use Rattle.parking_lot_protocol.specs.declared.rw_phase.Draining.{Draining}
use Rattle.parking_lot_protocol.specs.declared.rw_phase.Scanning.{Scanning}
use Rattle.parking_lot_protocol.specs.declared.rw_phase.RwPhase.{RwPhase}
use Rattle.parking_lot_protocol.specs.declared.rw_phase.RwPhase.TheVariants.{Locking, Trying, UnlockingShared}
use Rattle.parking_lot_protocol.specs.declared.rw_phase.RwPhase.TheVariants.{UnlockingExclusive, Downgrading}
use Rattle.parking_lot_protocol.specs.declared.rw_phase.RwPhase.TheVariants.{BumpingShared, BumpingExclusive, Loads}
use Rattle.parking_lot_protocol.specs.declared.rw_phase.RwPhase.TheVariants.{Admits, Spins, SetParked, Enters, Checks}
use Rattle.parking_lot_protocol.specs.declared.rw_phase.RwPhase.TheVariants.{Retreats, Appends, Rests, Sleeps}
use Rattle.parking_lot_protocol.specs.declared.rw_phase.RwPhase.TheVariants.{DrainLoads, DrainSpins, DrainSetParked}
use Rattle.parking_lot_protocol.specs.declared.rw_phase.RwPhase.TheVariants.{DrainEnters, DrainChecks, DrainRetreats}
use Rattle.parking_lot_protocol.specs.declared.rw_phase.RwPhase.TheVariants.{DrainAppends, DrainRests, DrainSleeps}
use Rattle.parking_lot_protocol.specs.declared.rw_phase.RwPhase.TheVariants.{TryLoads, TryAdmits, Refuses, BumpLoads}
use Rattle.parking_lot_protocol.specs.declared.rw_phase.RwPhase.TheVariants.{Relocks, Unshares, EnterWriterWakeSection}
use Rattle.parking_lot_protocol.specs.declared.rw_phase.RwPhase.TheVariants.{TakeWriter, ClearWriterParked}
use Rattle.parking_lot_protocol.specs.declared.rw_phase.RwPhase.TheVariants.{LeaveWriterWakeSection, Unlocks}
use Rattle.parking_lot_protocol.specs.declared.rw_phase.RwPhase.TheVariants.{LooksExclusive, Downgrades}
use Rattle.parking_lot_protocol.specs.declared.rw_phase.RwPhase.TheVariants.{EnterWakeSection, Scans, Stores, Leaves}
use Rattle.parking_lot_protocol.specs.declared.rw_phase.RwPhase.TheVariants.{Wakes, Finishes, Ends, Invalid}
use Rattle.parking_lot_protocol.specs.Acts.{is_start, is_entered, is_made, word_seen, word_before, exchange_seen}
use Rattle.parking_lot_protocol.specs.Acts.{spun_seen, took_seen, stored_seen, woken_seen}
use Rattle.parking_lot_rules.specs.Classes.{bit}

-- WHAT A WORD SAYS

abbrev pub is_parked : ℕ → Bool
is_parked word = word % 2 == 1

abbrev pub is_writer_parked : ℕ → Bool
is_writer_parked word = word / 2 % 2 == 1

abbrev pub is_upgradable : ℕ → Bool
is_upgradable word = word / 4 % 2 == 1

abbrev pub is_written : ℕ → Bool
is_written word = word / 8 % 2 == 1

abbrev pub has_readers : ℕ → Bool
has_readers word = nat_lt 0 (word / 16)

-- one reader more can be counted
abbrev pub has_room : ℕ → Bool
has_room word = nat_lt (word / 16) (2 ^ 60 - 1)

-- what keeps one out that asks for the lock
abbrev pub is_barred : LockMode → ℕ → Bool
is_barred (want.Shared recursive) word = is_written word
is_barred want.Exclusive word = is_written word || is_upgradable word

-- who is admitted: on a recursive lock a reader also passes a pending writer where there are readers
abbrev pub is_admitted : LockMode → ℕ → Bool
is_admitted (want.Shared recursive) word = has_room word && (not (is_written word) || (recursive && has_readers word))
is_admitted want.Exclusive word = not (is_written word || is_upgradable word)

-- what an admission adds to the word, and the token of one that waits for it
abbrev pub share_of : LockMode → ℕ
share_of (want.Shared recursive) = 16
share_of want.Exclusive = 8

-- TAKING WAITERS

-- whom a scan has counted from the beginning: its own hold, where it keeps one
abbrev pub base_of : AfterWake → ℕ
base_of rest.FreedShared = 0
base_of rest.FreedExclusive = 0
base_of rest.Downgraded = 16
base_of rest.AgainShared = 0
base_of rest.AgainExclusive = 0

-- the sum of the tokens that were taken
abbrev pub taken_sum : Scanning → ℕ
taken_sum s = 16 * s.shared + 20 * bit s.upgradable + 8 * bit s.writer

abbrev pub sum_of : Scanning → ℕ
sum_of s = base_of s.rest + taken_sum s

-- how many were taken
abbrev pub count_of : Scanning → ℕ
count_of s = s.shared + bit s.upgradable + bit s.writer

-- whether the release hands the lock over: if it may, is fair and somebody was taken
abbrev pub may_hand : AfterWake → Bool
may_hand rest.FreedShared = true
may_hand rest.FreedExclusive = true
may_hand rest.Downgraded = false
may_hand rest.AgainShared = true
may_hand rest.AgainExclusive = true

abbrev pub hands : Scanning → Bool → Bool
hands s fair = may_hand s.rest && (fair && nat_lt 0 (count_of s))

-- what it stores, as the lock is handed over or not and waiters are left or not
abbrev pub store_of : Scanning → Bool → Bool → WordChange
store_of s true left = record { keep = 0; add = sum_of s + bit left }
store_of s false left =
    (if may_hand s.rest then record { keep = 0; add = bit left } else record { keep = 2 ^ 64 - 2 + bit left; add = 0 })

-- the act that a phase has asked for
abbrev pub answer_of : Outcome → CoreAnswer
answer_of outcome.Shared = Owned
answer_of outcome.Exclusive = Owned
answer_of outcome.Downgraded = Owned
answer_of outcome.FreedShared = Released
answer_of outcome.FreedExclusive = Released

abbrev pub last_act : AfterWake → Act
last_act rest.FreedShared = act.Done Released
last_act rest.FreedExclusive = act.Done Released
last_act rest.Downgraded = act.Done Owned
last_act rest.AgainShared = act.Load
last_act rest.AgainExclusive = act.Load

abbrev pub act_of : RwPhase → Act
act_of (Locking want) = act.Done Refused
act_of (Trying want) = act.Done Refused
act_of UnlockingShared = act.Done Refused
act_of (UnlockingExclusive fair) = act.Done Refused
act_of Downgrading = act.Done Refused
act_of BumpingShared = act.Done Refused
act_of BumpingExclusive = act.Done Refused
act_of (Loads seeking) = act.Load
act_of (Admits seeking word) = act.Exchange word ((word + share_of seeking.want) % 2 ^ 64)
act_of (Spins seeking) = act.Spin
act_of (SetParked seeking word) = act.Exchange word ((word + 1) % 2 ^ 64)
act_of (Enters want woken) = act.Enter 0
act_of (Checks want woken) = act.Section section.Check
act_of (Retreats want woken) = act.Section section.Leave
act_of (Appends want) = act.Section (section.Append (record { 0 = share_of want }))
act_of (Rests want) = act.Section section.Leave
act_of (Sleeps want) = act.Sleep
act_of (DrainLoads draining) = act.Load
act_of (DrainSpins draining) = act.Spin
act_of (DrainSetParked draining word) = act.Exchange word ((word + 2) % 2 ^ 64)
act_of (DrainEnters draining) = act.Enter 1
act_of (DrainChecks draining) = act.Section section.Check
act_of (DrainRetreats draining) = act.Section section.Leave
act_of (DrainAppends rounds) = act.Section (section.Append (record { 0 = 8 }))
act_of (DrainRests rounds) = act.Section section.Leave
act_of (DrainSleeps rounds) = act.Sleep
act_of (TryLoads want) = act.Load
act_of (TryAdmits want word left) = act.Exchange word ((word + share_of want) % 2 ^ 64)
act_of (Refuses want) = act.Done Refused
act_of (BumpLoads want) = act.Load
act_of (Relocks want) = act.Load
act_of (Unshares rest) = act.Add (2 ^ 64 - 16)
act_of (EnterWriterWakeSection rest) = act.Enter 1
act_of (TakeWriter rest) = act.Section section.TakeFirst
act_of (ClearWriterParked rest taken) = act.FetchAnd (2 ^ 64 - 3)
act_of (LeaveWriterWakeSection rest taken) = act.Section section.Leave
act_of (Unlocks fair rest) = act.Exchange 8 0
act_of (LooksExclusive fair rest) = act.Enter 0
act_of Downgrades = act.Add 8
act_of EnterWakeSection = act.Enter 0
act_of (Scans scanning) = act.Section (section.TakeNext (sum_of scanning))
act_of (Stores scanning left) =
    act.Section (section.Store (store_of scanning (hands scanning scanning.fair) left)
    (store_of scanning (hands scanning true) left))
act_of (Leaves rest count handed) = act.Section section.Leave
act_of (Wakes rest count) = act.Section section.Wake
act_of (Finishes rest) = last_act rest
act_of (Ends outcome) = act.Done (answer_of outcome)
act_of Invalid = act.Done Refused

-- WHAT FOLLOWS

abbrev pub begins : LockMode → Bool → Seeking
begins want woken = record { want = want; woken = woken; rounds = 10 }

abbrev pub pends : Bool → Draining
pends woken = record { woken = woken; rounds = 10 }

-- One that asks has seen the word: it is admitted, or spins a while where nobody sleeps, or goes to sleep. Where no
-- reader more can be counted it looks again.
abbrev pub seeks : Seeking → ℕ → RwPhase
seeks s word =
    (if is_admitted s.want word then Admits s word else
    (if is_barred s.want word then
    (if not (is_parked word || is_writer_parked word) && nat_lt 0 s.rounds then Spins s else
    (if is_parked word then Enters s.want s.woken else SetParked s word))
    else Loads s))

-- A pending writer has seen the word: it is admitted where there are no readers, else it spins a while, or goes to
-- sleep.
abbrev pub drains : Draining → ℕ → RwPhase
drains d word =
    (if has_readers word then
    (if nat_lt 0 d.rounds then DrainSpins d else
    (if is_writer_parked word then DrainEnters d else DrainSetParked d word)) else Ends outcome.Exclusive)

-- A try has seen it: a writer is admitted only at 0.
abbrev pub is_tried : LockMode → ℕ → Bool
is_tried (want.Shared recursive) word = is_admitted (want.Shared recursive) word
is_tried want.Exclusive word = word == 0

abbrev pub tries : LockMode → ℕ → ℕ → RwPhase
tries want left word = (if is_tried want word then TryAdmits want word left else Refuses want)

abbrev pub retries : LockMode → ℕ → ℕ → RwPhase
retries want left word = (if nat_lt 0 left then tries want (left - 1) word else Refuses want)

-- one that was admitted: a writer waits for the readers to leave
abbrev pub admits : LockMode → Bool → RwPhase
admits (want.Shared recursive) woken = Ends outcome.Shared
admits want.Exclusive woken = DrainLoads (pends woken)

-- a try that was admitted
abbrev pub gains : LockMode → Outcome
gains (want.Shared recursive) = outcome.Shared
gains want.Exclusive = outcome.Exclusive

-- what comes where nobody was to be woken
abbrev pub over : AfterWake → RwPhase
over rest.FreedShared = Ends outcome.FreedShared
over rest.FreedExclusive = Ends outcome.FreedExclusive
over rest.Downgraded = Ends outcome.Downgraded
over rest.AgainShared = Relocks (want.Shared false)
over rest.AgainExclusive = Relocks want.Exclusive

-- where a bump asks again
abbrev pub asks_again : AfterWake → Option RwPhase
asks_again rest.FreedShared = None
asks_again rest.FreedExclusive = None
asks_again rest.Downgraded = None
asks_again rest.AgainShared = Some (Relocks (want.Shared false))
asks_again rest.AgainExclusive = Some (Relocks want.Exclusive)

-- a bump: where others wait the hold is given up
abbrev pub bumps : LockMode → ℕ → RwPhase
bumps (want.Shared recursive) word = (if is_written word then Unshares rest.AgainShared else Ends outcome.Shared)
bumps want.Exclusive word = (if is_parked word then Unlocks true rest.AgainExclusive else Ends outcome.Exclusive)

-- the word before a shared hold was given up
abbrev pub unshares : AfterWake → ℕ → RwPhase
unshares rest word = (if word / 16 == 1 && is_writer_parked word then EnterWriterWakeSection rest else over rest)

-- a scan that has taken nobody, and one that has taken one more, by its token
abbrev pub scans_for : Bool → AfterWake → Scanning
scans_for fair rest = record { fair = fair; rest = rest; shared = 0; upgradable = false; writer = false }

abbrev pub with_taken : Scanning → ParkToken → Option Scanning
with_taken s token =
    (if token.0 == 16 then Some (record s { shared = min (s.shared + 1) (2 ^ 32 - 1) }) else
    (if token.0 == 8 then Some (record s { writer = true }) else
    (if token.0 == 20 then Some (record s { upgradable = true }) else None)))

-- it goes on while waiters are left and no writer was taken
abbrev pub goes_on : Bool → Scanning → RwPhase
goes_on left s = (if left && not s.writer then Scans s else Stores s left)

abbrev pub scans : Scanning → Option ParkToken → Bool → Option RwPhase
scans s None left = Some (Stores s left)
scans s (Some token) left = option_map (goes_on left) (with_taken s token)

-- so many are to be woken
abbrev pub wakes : AfterWake → ℕ → RwPhase
wakes rest count = (if nat_lt 0 count then Wakes rest count else Finishes rest)

-- one phase where an exchange was won, and one by the word where it was lost
abbrev pub won_or : RwPhase → (ℕ → RwPhase) → Result (Unit {0}) ℕ → RwPhase
won_or won lost (Ok u) = won
won_or won lost (Err word) = lost word

-- a phase, if that was seen
abbrev pub once : Bool → RwPhase → Option RwPhase
once true p = Some p
once false p = None

-- The phase that follows what the act of this one gave; none where the act can't give that.
abbrev pub after : RwPhase → ActResult → Option RwPhase
after (Locking want) s = once (is_start s) (Loads (begins want false))
after (Trying want) s = once (is_start s) (TryLoads want)
after UnlockingShared s = once (is_start s) (Unshares rest.FreedShared)
after (UnlockingExclusive fair) s = once (is_start s) (Unlocks fair rest.FreedExclusive)
after Downgrading s = once (is_start s) Downgrades
after BumpingShared s = once (is_start s) (BumpLoads (want.Shared false))
after BumpingExclusive s = once (is_start s) (BumpLoads want.Exclusive)
after (Loads a) s = option_map (seeks a) (word_seen s)
after (Admits a word) s = option_map (won_or (admits a.want false) (seeks a)) (exchange_seen s)
after (Spins a) s = option_map (λ spun. Loads (record a { rounds = if spun then a.rounds - 1 else 0 })) (spun_seen s)
after (SetParked a word) s = option_map (won_or (Enters a.want a.woken) (seeks a)) (exchange_seen s)
after (Enters want woken) s = once (is_entered s) (Checks want woken)
after (Checks want woken) s =
    option_map (λ word. if is_barred want word && is_parked word then Appends want else Retreats want woken)
    (word_seen s)
after (Retreats want woken) s = once (is_made s) (Loads (begins want woken))
after (Appends want) s = once (is_made s) (Rests want)
after (Rests want) s = once (is_made s) (Sleeps want)
after (Sleeps want) s = option_map (λ token. if token.0 == 1 then admits want true else Loads (begins want true))
    (woken_seen s)
after (DrainLoads d) s = option_map (drains d) (word_seen s)
after (DrainSpins d) s = option_map (λ spun. DrainLoads (record d { rounds = if spun then d.rounds - 1 else 0 }))
    (spun_seen s)
after (DrainSetParked d word) s = option_map (won_or (DrainEnters d) (drains d)) (exchange_seen s)
after (DrainEnters d) s = once (is_entered s) (DrainChecks d)
after (DrainChecks d) s =
    option_map (λ word. if has_readers word && is_writer_parked word then DrainAppends d.rounds else DrainRetreats d)
    (word_seen s)
after (DrainRetreats d) s = once (is_made s) (DrainLoads d)
after (DrainAppends rounds) s = once (is_made s) (DrainRests rounds)
after (DrainRests rounds) s = once (is_made s) (DrainSleeps rounds)
after (DrainSleeps rounds) s = option_map (λ token. DrainLoads (record { woken = true; rounds = rounds }))
    (woken_seen s)
after (TryLoads want) s = option_map (tries want 63) (word_seen s)
after (TryAdmits want word left) s = option_map (won_or (Ends (gains want)) (retries want left)) (exchange_seen s)
after (Refuses want) s = None
after (BumpLoads want) s = option_map (bumps want) (word_seen s)
after (Relocks want) s = option_map (seeks (begins want false)) (word_seen s)
after (Unshares rest) s = option_map (unshares rest) (word_before s)
after (EnterWriterWakeSection rest) s = once (is_entered s) (TakeWriter rest)
after (TakeWriter rest) s = option_map (λ t. ClearWriterParked rest (is_some t.token)) (took_seen s)
after (ClearWriterParked rest taken) s = option_map (λ word. LeaveWriterWakeSection rest taken) (word_before s)
after (LeaveWriterWakeSection rest taken) s = once (is_made s) (wakes rest (bit taken))
after (Unlocks fair rest) s = option_map (won_or (over rest) (λ word. LooksExclusive fair rest)) (exchange_seen s)
after (LooksExclusive fair rest) s = once (is_entered s) (Scans (scans_for fair rest))
after Downgrades s = option_map (λ word. if is_parked word then EnterWakeSection else Ends outcome.Downgraded)
    (word_before s)
after EnterWakeSection s = once (is_entered s) (Scans (scans_for false rest.Downgraded))
after (Scans a) s = option_and_then (λ t. scans a t.token t.left) (took_seen s)
after (Stores a left) s = option_map (λ fair. Leaves a.rest (count_of a) (hands a (a.fair || fair))) (stored_seen s)
after (Leaves rest count handed) s = once (is_made s) (wakes rest count)
after (Wakes rest count) s = once (is_made s) (wakes rest (count - 1))
after (Finishes rest) s = option_and_then (λ word. asks_again rest) (word_seen s)
after (Ends outcome) s = None
after Invalid s = None

-- what doesn't fit leads astray
abbrev pub next_phase : RwPhase → ActResult → RwPhase
next_phase p s = option_map_or (λ q. q) (after p s) Invalid

-- the token for those that a section took, once it has stored
abbrev pub wakes_with : RwPhase → UnparkToken
wakes_with (Leaves rest count true) = record { 0 = 1 }
wakes_with p = record { 0 = 0 }

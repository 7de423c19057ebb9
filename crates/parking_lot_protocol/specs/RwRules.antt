-- Which step of the rules each answer to a reader-writer lock's core is, and in which role its thread is.
use Rattle.std.specs.Prelude.{◌≡◌, ◌≤◌, ◌<◌, ℕ, ◌+◌, ◌-◌, ◌/◌, ◌^◌, ◌==◌, ◌&&◌, ◌||◌, ◌⊎◌, Bool, true, false}
use Rattle.std.specs.Prelude.{if◌then◌else◌, List, [], ◌∷◌, ◌++◌, length, Option, Some, None}
use Rattle.parking_lot_core_model.specs.declared.parking.ParkToken.{ParkToken}
use Rattle.parking_lot_rules.specs.Roles.{Mode, Mark, Normal, Handed, Fresh, Asleep, Cause, Owned, Shares, Excludes}
use Rattle.parking_lot_rules.specs.Roles.{Upgrades, Role}
use Rattle.parking_lot_rules.specs.Roles as rules
use Rattle.parking_lot_rules.specs.Clauses.{Word, IsWord, number}
use Rattle.parking_lot_rules.specs.Plain.{Plain}
use Rattle.parking_lot_rules.specs.Plain as plain
use Rattle.parking_lot_rules.specs.Steps.{Listing, Join1, Join2, listing_from, listing_to, Scan, scanning, taking}
use Rattle.parking_lot_rules.specs.Steps.{Ending, Free, Hand, Keep, ends_for, MayEnd, stored, Waking, Retry, Own}
use Rattle.parking_lot_rules.specs.Steps.{OwnPending, OwnUpgradable, Recheck, waking_from, waking_to}
use Rattle.parking_lot_protocol.specs.declared.act.ActResult.{ActResult}
use Rattle.parking_lot_protocol.specs.declared.act.ActResult.TheVariants as seen
use Rattle.parking_lot_protocol.specs.declared.rw_phase.LockMode.{LockMode}
use Rattle.parking_lot_protocol.specs.declared.rw_phase.LockMode.TheVariants as want
use Rattle.parking_lot_protocol.specs.declared.rw_phase.AfterWake.{AfterWake}
use Rattle.parking_lot_protocol.specs.declared.rw_phase.AfterWake.TheVariants as rest
use Rattle.parking_lot_protocol.specs.declared.rw_phase.Outcome.{Outcome}
use Rattle.parking_lot_protocol.specs.declared.rw_phase.Outcome.TheVariants as outcome
use Rattle.parking_lot_protocol.specs.declared.rw_phase.Scanning.{Scanning}
use Rattle.parking_lot_protocol.specs.declared.rw_phase.RwPhase.{RwPhase}
use Rattle.parking_lot_protocol.specs.declared.rw_phase.RwPhase.TheVariants.{Locking, Trying, UnlockingShared}
use Rattle.parking_lot_protocol.specs.declared.rw_phase.RwPhase.TheVariants.{UnlockingExclusive, Downgrading}
use Rattle.parking_lot_protocol.specs.declared.rw_phase.RwPhase.TheVariants.{BumpingShared, BumpingExclusive, Loads}
use Rattle.parking_lot_protocol.specs.declared.rw_phase.RwPhase.TheVariants.{Admits, Spins, SetParked, Enters, Checks}
use Rattle.parking_lot_protocol.specs.declared.rw_phase.RwPhase.TheVariants.{Retreats, Appends, Rests, Sleeps}
use Rattle.parking_lot_protocol.specs.declared.rw_phase.RwPhase.TheVariants.{DrainLoads, DrainSpins, DrainSetParked}
use Rattle.parking_lot_protocol.specs.declared.rw_phase.RwPhase.TheVariants.{DrainEnters, DrainChecks, DrainRetreats}
use Rattle.parking_lot_protocol.specs.declared.rw_phase.RwPhase.TheVariants.{DrainAppends, DrainRests, DrainSleeps}
use Rattle.parking_lot_protocol.specs.declared.rw_phase.RwPhase.TheVariants.{TryLoads, TryAdmits, Refuses, BumpLoads}
use Rattle.parking_lot_protocol.specs.declared.rw_phase.RwPhase.TheVariants.{Relocks, Unshares, EnterWriterWakeSection}
use Rattle.parking_lot_protocol.specs.declared.rw_phase.RwPhase.TheVariants.{TakeWriter, ClearWriterParked}
use Rattle.parking_lot_protocol.specs.declared.rw_phase.RwPhase.TheVariants.{LeaveWriterWakeSection, Unlocks}
use Rattle.parking_lot_protocol.specs.declared.rw_phase.RwPhase.TheVariants.{LooksExclusive, Downgrades}
use Rattle.parking_lot_protocol.specs.declared.rw_phase.RwPhase.TheVariants.{EnterWakeSection, Scans, Stores, Leaves}
use Rattle.parking_lot_protocol.specs.declared.rw_phase.RwPhase.TheVariants.{Wakes, Finishes, Ends}
use Rattle.parking_lot_protocol.specs.Acts.{Begins, Gives, word_after}
use Rattle.parking_lot_rules.specs.Classes.{bit}
use Rattle.parking_lot_protocol.specs.RwTable.{act_of, next_phase, is_admitted, is_barred, is_parked, is_writer_parked}
use Rattle.parking_lot_protocol.specs.RwTable.{is_tried, has_readers, hands, count_of}
pub use Rattle.parking_lot_protocol.specs.Positions.{QueuePosition, Listed, Off}

abbrev pub mode_of : LockMode → Mode
mode_of (want.Shared recursive) = rules.Shared
mode_of want.Exclusive = rules.Exclusive

abbrev pub sleeping : QueuePosition → Mode → rules.Phase
sleeping Listed mode = rules.Queued1 mode Asleep
sleeping (Off by mark) mode = rules.Taken1 mode by mark Asleep

abbrev pub sleeping2 : QueuePosition → rules.Phase
sleeping2 Listed = rules.Queued2 false Asleep
sleeping2 (Off by mark) = rules.Taken2 false by Asleep

-- WHAT A THREAD OWNS

-- n: how many shared holds it has besides the one that the call is about
abbrev pub owned_by : ℕ → LockMode → Owned
owned_by n (want.Shared recursive) = Shares (n + 1)
owned_by n want.Exclusive = Excludes

abbrev pub owned_at_last : ℕ → AfterWake → Owned
owned_at_last n rest.FreedShared = Shares n
owned_at_last n rest.FreedExclusive = Shares 0
owned_at_last n rest.Downgraded = Shares 1
owned_at_last n rest.AgainShared = Shares n
owned_at_last n rest.AgainExclusive = Shares 0

abbrev pub owned_after : ℕ → Outcome → Owned
owned_after n outcome.Shared = Shares (n + 1)
owned_after n outcome.Exclusive = Excludes
owned_after n outcome.Downgraded = Shares 1
owned_after n outcome.FreedShared = Shares n
owned_after n outcome.FreedExclusive = Shares 0

abbrev pub owns : ℕ → RwPhase → Owned
owns n UnlockingShared = Shares (n + 1)
owns n (UnlockingExclusive fair) = Excludes
owns n Downgrading = Excludes
owns n BumpingShared = Shares (n + 1)
owns n BumpingExclusive = Excludes
owns n (BumpLoads want) = owned_by n want
owns n (Unshares rest) = Shares (n + 1)
owns n (Unlocks fair rest) = Excludes
owns n (LooksExclusive fair rest) = Excludes
owns n Downgrades = Excludes
owns n EnterWakeSection = Shares 1
owns n (Scans s) = owned_at_last n s.rest
owns n (Stores s left) = owned_at_last n s.rest
owns n (Leaves rest count handed) = owned_at_last n rest
owns n (Wakes rest count) = owned_at_last n rest
owns n (Finishes rest) = owned_at_last n rest
owns n (Ends outcome) = owned_after n outcome
owns n phase = Shares n

-- WHAT IT IS DOING

-- why it goes through the first list: it gives the exclusive hold up, or owes the look
abbrev pub cause_of : AfterWake → Cause
cause_of rest.FreedShared = rules.FromExclusive
cause_of rest.FreedExclusive = rules.FromExclusive
cause_of rest.Downgraded = rules.Owed
cause_of rest.AgainShared = rules.FromExclusive
cause_of rest.AgainExclusive = rules.FromExclusive

abbrev pub scan_of : ℕ → Scanning → List ℕ → Scan
scan_of n s us = record {
  owns = owned_at_last n s.rest;
  cause = cause_of s.rest;
  shared = s.shared;
  upgradable = s.upgradable;
  writer = s.writer;
  taken = us;
}

-- What a thread is doing in each phase, in the words of the rules. us: whom it has taken and is to wake.
abbrev pub does : QueuePosition → List ℕ → RwPhase → rules.Phase
does spot us (Loads s) = rules.Seeks (mode_of s.want) s.woken
does spot us (Admits s word) = rules.Seeks (mode_of s.want) s.woken
does spot us (Spins s) = rules.Seeks (mode_of s.want) s.woken
does spot us (SetParked s word) = rules.Seeks (mode_of s.want) s.woken
does spot us (Enters want woken) = rules.Seeks (mode_of want) woken
does spot us (Checks want woken) = rules.Enters1 (mode_of want) woken
does spot us (Retreats want woken) = rules.Enters1 (mode_of want) woken
does spot us (Appends want) = rules.Checked1 (mode_of want)
does spot us (Rests want) = rules.Queued1 (mode_of want) Fresh
does spot us (Sleeps want) = sleeping spot (mode_of want)
does spot us (DrainLoads d) = rules.Drains false d.woken
does spot us (DrainSpins d) = rules.Drains false d.woken
does spot us (DrainSetParked d word) = rules.Drains false d.woken
does spot us (DrainEnters d) = rules.Drains false d.woken
does spot us (DrainChecks d) = rules.Enters2 false d.woken
does spot us (DrainRetreats d) = rules.Enters2 false d.woken
does spot us (DrainAppends rounds) = rules.Checked2 false
does spot us (DrainRests rounds) = rules.Queued2 false Fresh
does spot us (DrainSleeps rounds) = sleeping2 spot
does spot us (TryLoads want) = rules.Seeks (mode_of want) false
does spot us (TryAdmits want word left) = rules.Seeks (mode_of want) false
does spot us (Refuses want) = rules.Seeks (mode_of want) false
does spot us (EnterWriterWakeSection rest) = rules.Owes2
does spot us (TakeWriter rest) = rules.Scans2 []
does spot us (ClearWriterParked rest taken) = rules.Scans2 us
does spot us (LeaveWriterWakeSection rest taken) = rules.Masked2 us
does spot us EnterWakeSection = rules.Owes1
does spot us (Scans s) = rules.Scans1 (cause_of s.rest) s.shared s.upgradable s.writer us
does spot us (Stores s left) = rules.Scans1 (cause_of s.rest) s.shared s.upgradable s.writer us
does spot us (Leaves rest count handed) = rules.Stored1 us
does spot us (Wakes rest count) = rules.Wakes us
does spot us (Finishes rest) = rules.Wakes us
does spot us phase = rules.Idle

abbrev pub role : ℕ → QueuePosition → List ℕ → RwPhase → Role
role n spot us p = record { owns = owns n p; does = does spot us p }

-- WHAT AN ANSWER TO A CORE IS, AS A STEP OF THE RULES

pub data Move : Type 0 where
  -- nothing at the lock changes
  Stays : Move
  -- the thread's own steps
  Makes : (k : Plain) → Move
  Joins : (k : Listing) → Move
  -- it takes the next waiter of the first list, the pending writer, stores, and wakes the first of those that it took
  TakesOne : (mode : Mode) → Move
  TakesWriter : Move
  Tells : (end : Ending) → (left : Bool) → Move
  WakesOne : Move
  -- another wakes it
  IsWoken : (k : Waking) → Move

abbrev pub admission : ℕ → LockMode → Bool → Plain
admission n (want.Shared recursive) woken = plain.Share n woken
admission n want.Exclusive woken = plain.Pend woken

abbrev pub try_admission : ℕ → LockMode → Plain
try_admission n (want.Shared recursive) = plain.Share n false
try_admission n want.Exclusive = plain.Exclude

abbrev pub waking : LockMode → Bool → Waking
waking want false = Retry (mode_of want)
waking (want.Shared recursive) true = Own
waking want.Exclusive true = OwnPending

abbrev pub mode_by : ParkToken → Mode
mode_by token = (if token.0 == 16 then rules.Shared else (if token.0 == 8 then rules.Exclusive else rules.Upgradable))

abbrev pub ending : AfterWake → Bool → Ending
ending rest.FreedShared handed = (if handed then Hand else Free)
ending rest.FreedExclusive handed = (if handed then Hand else Free)
ending rest.Downgraded handed = Keep
ending rest.AgainShared handed = (if handed then Hand else Free)
ending rest.AgainExclusive handed = (if handed then Hand else Free)

-- THE TABLE: WHICH STEP IT IS, BY PHASE AND ANSWER

abbrev pub move : ℕ → List ℕ → RwPhase → ActResult → Move
move n us (Locking want) s = Makes (plain.Begin n (mode_of want))
move n us (Trying want) s = Makes (plain.Begin n (mode_of want))
move n us (Admits a word) seen.Exchanged = Makes (admission n a.want a.woken)
move n us (SetParked a word) seen.Exchanged = Makes (plain.Flag1 (mode_of a.want) a.woken)
move n us (Enters want woken) s = Makes (plain.Enter1 (mode_of want) woken)
move n us (Checks want woken) (seen.Word word) =
    (if is_barred want word && is_parked word then Makes (plain.Check1 (mode_of want) woken) else Stays)
move n us (Retreats want woken) s = Makes (plain.Retreat1 (mode_of want) woken)
move n us (Appends want) s = Joins (Join1 (mode_of want))
move n us (Rests want) s = Makes (plain.Rest1 (mode_of want))
move n us (Sleeps want) (seen.Woken token) = IsWoken (waking want (token.0 == 1))
move n us (DrainLoads d) (seen.Word word) = (if has_readers word then Stays else Makes (plain.Drain false d.woken))
move n us (DrainSetParked d flagged) seen.Exchanged = Makes (plain.Flag2 false d.woken)
move n us (DrainSetParked d flagged) (seen.Word word) =
    (if has_readers word then Stays else Makes (plain.Drain false d.woken))
move n us (DrainEnters d) s = Makes (plain.Enter2 false d.woken)
move n us (DrainChecks d) (seen.Word word) =
    (if has_readers word && is_writer_parked word then Makes (plain.Check2 false d.woken) else Stays)
move n us (DrainRetreats d) s = Makes (plain.Retreat2 false d.woken)
move n us (DrainAppends rounds) s = Joins (Join2 false)
move n us (DrainRests rounds) s = Makes (plain.Rest2 false)
move n us (DrainSleeps rounds) s = IsWoken (Recheck false)
move n us (TryAdmits want word left) seen.Exchanged = Makes (try_admission n want)
move n us (Relocks want) s = Makes (plain.Begin n (mode_of want))
move n us (Unshares rest) (seen.Before word) =
    Makes (if word / 16 == 1 && is_writer_parked word then plain.UnshareLast n else plain.Unshare n)
move n us (EnterWriterWakeSection rest) s = Makes (plain.Look2 n)
move n us (TakeWriter rest) (seen.Took (Some token) left) = TakesWriter
move n us (ClearWriterParked rest taken) s = Makes (plain.Mask2 n us)
move n us (LeaveWriterWakeSection rest taken) s = Makes (plain.Depart2 n us)
move n us (Unlocks fair rest) seen.Exchanged = Makes plain.Unlock
move n us (LooksExclusive fair rest) s = Makes plain.LookExclusive
move n us Downgrades (seen.Before word) = Makes (plain.Downgrade (is_parked word))
move n us EnterWakeSection s = Makes (plain.LookOwed (Shares 1))
move n us (Scans a) (seen.Took (Some token) left) = TakesOne (mode_by token)
move n us (Stores a left) (seen.Stored fair) = Tells (ending a.rest (hands a (a.fair || fair))) left
move n us (Leaves rest count handed) s = Makes (plain.Depart1 (owned_at_last n rest) us)
move n us (Wakes rest count) s = WakesOne
move n us (Finishes rest) s = Makes (plain.Finish (owned_at_last n rest))
move n us p s = Stays

-- and what the end of a call is, where it is answered
abbrev pub last_move : ℕ → RwPhase → Move
last_move n (Refuses want) = Makes (plain.Refuse n (mode_of want))
last_move n (Finishes rest) = Makes (plain.Finish (owned_at_last n rest))
last_move n p = Stays

-- The step k leads from the one role and word to the other, and it may be made: as far as the word goes, where nobody
-- is inside a section.
pub record IsPlain (recursive : Bool) (k : Plain) (old new : Role) (w : Word) (word : ℕ) : Type 0 where
  pub from : old ≡ plain.from k
  pub to : new ≡ plain.to k
  pub may : plain.May recursive k w (λ c. 0)
  pub written : word ≡ number (plain.written k w)

-- a thread that scans takes v, which waits for a mode
pub record TakingOne (n : ℕ) (us : List ℕ) (v : ℕ) (mode : Mode) (p q : RwPhase) (scan : Scan) : Type 0 where
  pub from : role n Listed us p ≡ scanning scan
  pub to : role n Listed (us ++ v ∷ []) q ≡ scanning (taking scan v mode)

-- a thread that scans stores, and the word is the one of that ending
pub record Telling (n : ℕ) (us : List ℕ) (end : Ending) (left : Bool) (p q : RwPhase) (scan : Scan) (w : Word)
    (word : ℕ) : Type 0 where
  pub from : role n Listed us p ≡ scanning scan
  pub to : role n Listed us q ≡ record { owns = scan.owns; does = rules.Stored1 us }
  pub cause : scan.cause ≡ ends_for end
  pub may : MayEnd end us
  pub written : word ≡ number (stored end scan.shared scan.upgradable scan.writer (bit left) w)

-- what a sleeper was told before it is woken so
abbrev pub mark_for : Waking → Mark
mark_for (Retry mode) = Normal
mark_for Own = Handed
mark_for OwnPending = Handed
mark_for OwnUpgradable = Handed
mark_for (Recheck from) = Normal

-- a thread that has taken the threads of a list is to wake them
abbrev pub waker : ℕ → List ℕ → RwPhase → Role
waker n us p = record { owns = owns n p; does = rules.Wakes us }

-- The move leads from phase p to phase q, at word w, and leaves that number as the word.
abbrev pub IsMove : Bool → Move → ℕ → List ℕ → RwPhase → RwPhase → Word → ℕ → Type 0
IsMove recursive Stays n us p q w word = ((spot : QueuePosition) → role n spot us q ≡ role n spot us p)
    × (word ≡ number w)
IsMove recursive (Makes k) n us p q w word = IsPlain recursive k (role n Listed us p) (role n Listed us q) w word
IsMove recursive (Joins k) n us p q w word = (role n Listed us p ≡ listing_from k) × (role n Listed us q ≡ listing_to k)
    × (word ≡ number w)
IsMove recursive (TakesOne mode) n us p q w word = (v : ℕ) → (scan : Scan) × TakingOne n us v mode p q scan
    × (word ≡ number w)
IsMove recursive TakesWriter n us p q w word =
    (v : ℕ) → (role n Listed us p ≡ record { owns = Shares n; does = rules.Scans2 [] })
    × (role n Listed (v ∷ []) q ≡ record { owns = Shares n; does = rules.Scans2 (v ∷ []) }) × (word ≡ number w)
IsMove recursive (Tells end left) n us p q w word = (scan : Scan) × Telling n us end left p q scan w word
IsMove recursive WakesOne n us p q w word = (v : ℕ) → (role n Listed (v ∷ us) p ≡ waker n (v ∷ us) p)
    × (role n Listed us q ≡ waker n us p) × (word ≡ number w)
IsMove recursive (IsWoken k) n us p q w word = (by : ℕ) → (role n (Off by (mark_for k)) us p ≡ waking_from k by Asleep)
    × (role n Listed us q ≡ waking_to k) × (word ≡ number w)

-- WHAT HOLDS OF A PHASE BY ITSELF

abbrev pub gives_shared : AfterWake → Bool
gives_shared rest.FreedShared = true
gives_shared rest.FreedExclusive = false
gives_shared rest.Downgraded = false
gives_shared rest.AgainShared = true
gives_shared rest.AgainExclusive = false

abbrev pub gives_exclusive : AfterWake → Bool
gives_exclusive rest.FreedShared = false
gives_exclusive rest.FreedExclusive = true
gives_exclusive rest.Downgraded = false
gives_exclusive rest.AgainShared = false
gives_exclusive rest.AgainExclusive = true

-- An exchange starts from a word at which it is right, and a release is of the right kind.
abbrev pub IsReady : RwPhase → Type 0
IsReady (Admits a word) = is_admitted a.want word ≡ true
IsReady (SetParked a word) = (is_barred a.want word ≡ true) × (is_parked word ≡ false)
    × (is_admitted a.want word ≡ false)
IsReady (DrainSetParked d word) = (has_readers word ≡ true) × (is_writer_parked word ≡ false)
IsReady (TryAdmits want word left) = is_tried want word ≡ true
IsReady (Unshares rest) = gives_shared rest ≡ true
IsReady (EnterWriterWakeSection rest) = gives_shared rest ≡ true
IsReady (TakeWriter rest) = gives_shared rest ≡ true
IsReady (ClearWriterParked rest taken) = gives_shared rest ≡ true
IsReady (LeaveWriterWakeSection rest taken) = gives_shared rest ≡ true
IsReady (Unlocks fair rest) = gives_exclusive rest ≡ true
IsReady (LooksExclusive fair rest) = gives_exclusive rest ≡ true
IsReady (Scans s) = gives_shared s.rest ≡ false
IsReady (Stores s left) = gives_shared s.rest ≡ false
IsReady p = Unit {0}

-- WHAT WHOEVER RUNS A CORE KNOWS

-- who may ask: one that owns nothing, or on a recursive lock a reader, whose holds the word counts
abbrev pub MayAsk : Bool → ℕ → LockMode → Word → Type 0
MayAsk recursive n (want.Shared true) w = (recursive ≡ true) × (n ≤ w.readers)
MayAsk recursive n (want.Shared false) w = n ≡ 0
MayAsk recursive n want.Exclusive w = n ≡ 0

-- what it owns and has taken fits the phase and the word
abbrev pub Fits : Bool → ℕ → List ℕ → RwPhase → Word → Type 0
Fits recursive n us (Locking want) w = MayAsk recursive n want w
Fits recursive n us (Trying want) w = MayAsk recursive n want w
Fits recursive n us (Loads a) w = MayAsk recursive n a.want w
Fits recursive n us (Admits a word) w = MayAsk recursive n a.want w
Fits recursive n us (Spins a) w = MayAsk recursive n a.want w
Fits recursive n us (SetParked a word) w = MayAsk recursive n a.want w
Fits recursive n us (TryLoads want) w = MayAsk recursive n want w
Fits recursive n us (TryAdmits want word left) w = MayAsk recursive n want w
Fits recursive n us (Refuses want) w = MayAsk recursive n want w
Fits recursive n us (Relocks want) w = MayAsk recursive n want w
Fits recursive n us (Enters want woken) w = n ≡ 0
Fits recursive n us (Checks want woken) w = n ≡ 0
Fits recursive n us (Retreats want woken) w = n ≡ 0
Fits recursive n us (Appends want) w = n ≡ 0
Fits recursive n us (Rests want) w = n ≡ 0
Fits recursive n us (Sleeps want) w = n ≡ 0
Fits recursive n us (DrainLoads d) w = n ≡ 0
Fits recursive n us (DrainSpins d) w = n ≡ 0
Fits recursive n us (DrainSetParked d word) w = n ≡ 0
Fits recursive n us (DrainEnters d) w = n ≡ 0
Fits recursive n us (DrainChecks d) w = n ≡ 0
Fits recursive n us (DrainRetreats d) w = n ≡ 0
Fits recursive n us (DrainAppends rounds) w = n ≡ 0
Fits recursive n us (DrainRests rounds) w = n ≡ 0
Fits recursive n us (DrainSleeps rounds) w = n ≡ 0
Fits recursive n us (Unshares rest) w = 0 < w.readers
Fits recursive n us (TakeWriter rest) w = us ≡ []
Fits recursive n us (Unlocks fair rest) w = n ≡ 0
Fits recursive n us (LooksExclusive fair rest) w = us ≡ []
Fits recursive n us Downgrades w = w.writer ≡ 1
Fits recursive n us EnterWakeSection w = us ≡ []
Fits recursive n us (Scans s) w = s.shared < 2 ^ 32 - 1
Fits recursive n us (Stores s left) w = (s.shared < 2 ^ 32) × (length us ≡ count_of s)
Fits recursive n us (Finishes rest) w = (us ≡ []) × (gives_exclusive rest ≡ true → n ≡ 0)
Fits recursive n us p w = Unit {0}

-- a waiter's token is that of a mode
abbrev pub IsToken : Option ParkToken → Type 0
IsToken None = Unit {0}
IsToken (Some token) = (token.0 ≡ 16) ⊎ (token.0 ≡ 8) ⊎ (token.0 ≡ 20)

-- what a core may be told at a word: that it begins, or what its act gives
abbrev pub IsTold : RwPhase → ℕ → ActResult → Type 0
IsTold (Locking want) word s = Begins s
IsTold (Trying want) word s = Begins s
IsTold UnlockingShared word s = Begins s
IsTold (UnlockingExclusive fair) word s = Begins s
IsTold Downgrading word s = Begins s
IsTold BumpingShared word s = Begins s
IsTold BumpingExclusive word s = Begins s
IsTold (Scans a) word (seen.Took token left) = IsToken token
IsTold p word s = Gives (act_of p) word s

-- What a core is told at a word, at which one reader more can be counted, is a step of the rules, of the kind that the
-- table says; and the phase that follows is ready again.
abbrev pub Follows : RwPhase → ActResult → Type 0
Follows p s = (recursive : Bool) (n : ℕ) (us : List ℕ) (w : Word) → IsReady p → IsWord w → w.readers < 2 ^ 60 - 1
    → Fits recursive n us p w → IsTold p (number w) s
    → IsMove recursive (move n us p s) n us p (next_phase p s) w (word_after (act_of p) s (number w))
    × IsReady (next_phase p s)

-- And so is the end of a call: of one that was refused, or whose wakes are done, the last step is made, and of any
-- other nothing is left.
abbrev pub IsLast : Bool → Move → ℕ → RwPhase → Owned → Type 0
IsLast recursive (Makes k) n p after = (w : Word) → IsPlain recursive k (role n Listed [] p)
    (record { owns = after; does = rules.Idle }) w (number w)
IsLast recursive move n p after = role n Listed [] p ≡ record { owns = after; does = rules.Idle }

abbrev pub Ended : RwPhase → Type 0
Ended (Refuses want) = (recursive : Bool) (n : ℕ) → IsLast recursive (last_move n (Refuses want)) n (Refuses want)
    (Shares n)
Ended (Finishes rest) = (recursive : Bool) (n : ℕ) → IsLast recursive (last_move n (Finishes rest)) n (Finishes rest)
    (owned_at_last n rest)
Ended (Ends outcome) = (recursive : Bool) (n : ℕ) → IsLast recursive (last_move n (Ends outcome)) n (Ends outcome)
    (owned_after n outcome)
Ended p = Unit {0}

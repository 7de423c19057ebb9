-- What a core is told at a sound reader-writer lock is a step of the rules there.
use Rattle.std.specs.Prelude.{◌≡◌, ◌<◌, ◌≤◌, ℕ, zero, suc, ◌-◌, ◌/◌, ◌^◌, false, List, [], length, Some, slice_get}
use Rattle.std.specs.Prelude.{slice_set, Bool, true, ◌++◌, ◌∷◌, remove, ◌⊎◌, ◌≢◌, ◌||◌, map, None}
use Rattle.parking_lot_core_model.specs.declared.parking.ParkToken.{ParkToken}
use Rattle.parking_lot_rules.specs.Roles.{Mode, Shares, Asleep, Stay, Open, Queued1, Taken1, Queued2, Taken2, Role}
use Rattle.parking_lot_rules.specs.Roles.{Mark, Owned, Idle}
use Rattle.parking_lot_rules.specs.Classes.{Class, Inside1, Inside2, weight}
use Rattle.parking_lot_rules.specs.Clauses.{Word, IsWord, number, word_of}
use Rattle.parking_lot_rules.specs.Holds.{shared_holds}
use Rattle.parking_lot_rules.specs.Plain.{Plain}
use Rattle.parking_lot_rules.specs.Lock.{Lock, IsSound, On1, to_wake}
use Rattle.parking_lot_rules.specs.Steps.{wants, Step, Alone, Allowed, after, List_changes, Take1, Take2, Join1, Join2}
use Rattle.parking_lot_rules.specs.Steps.{Take, look, AreSkipped, Ending, ends_saying, Store, Waking, settle, Wake}
use Rattle.parking_lot_rules.specs.Steps.{Scan, scanning}
use Rattle.parking_lot_protocol.specs.declared.act.Act.{Act}
use Rattle.parking_lot_protocol.specs.declared.act.Act.TheVariants.{Enter, FetchAnd, Done, Section}
use Rattle.parking_lot_protocol.specs.declared.act.ActResult.{ActResult}
use Rattle.parking_lot_protocol.specs.declared.act.ActResult.TheVariants as seen
use Rattle.parking_lot_protocol.specs.declared.rw_phase.LockMode.{LockMode}
use Rattle.parking_lot_protocol.specs.declared.rw_phase.AfterWake.{AfterWake}
use Rattle.parking_lot_protocol.specs.declared.rw_phase.Scanning.{Scanning}
use Rattle.parking_lot_protocol.specs.declared.rw_phase.RwPhase.{RwPhase}
use Rattle.parking_lot_protocol.specs.declared.rw_phase.RwPhase.TheVariants.{TakeWriter, Scans, Appends, DrainAppends}
use Rattle.parking_lot_protocol.specs.declared.rw_phase.RwPhase.TheVariants.{Stores, Wakes}
use Rattle.parking_lot_protocol.specs.Acts.{word_after}
use Rattle.parking_lot_protocol.specs.RwTable.{act_of, next_phase, share_of, wakes_with, hands, sum_of}
use Rattle.parking_lot_protocol.specs.RwRules.{QueuePosition, Listed, role, Stays, Makes, move, IsMove, IsReady}
use Rattle.parking_lot_protocol.specs.RwRules.{IsToken, IsTold, Fits, mode_of, mode_by, scan_of, ending, Off}
use Rattle.parking_lot_protocol.specs.RwRules.{owned_at_last, owned_at_last, owns, last_move, Move}
use Rattle.parking_lot_machine.specs.RowFits.{Asks, rw_prepared, rw_keeps, rw_knows}
use Rattle.parking_lot_rules.specs.Roles as rules
use Rattle.parking_lot_core_model.specs.Results.{is_left}
use Rattle.parking_lot_core_model.specs.declared.parking.UnparkToken.{UnparkToken}
use Rattle.parking_lot_machine_calls.specs.CallRoles.{mark_of, owned_of, rw_spot}
use Rattle.parking_lot_machine_calls.specs.CallActs.{told_of, rw_hold_after, settled_spot}
use Rattle.parking_lot_machine_calls.specs.Stances as stance
use Rattle.parking_lot_machine_calls.specs.Stances.{rw_stance, rw_taken, Stance, rw_begun}
use Rattle.parking_lot_protocol.specs.declared.rw_phase.RwPhase.TheVariants as r
use Rattle.parking_lot_protocol.specs.declared.act.CoreAnswer.{CoreAnswer}
use Rattle.parking_lot_core_model.specs.declared.place.Waiter.{Waiter}
use Rattle.parking_lot_rules.specs.Family.{Family, SoundFamilyOf, Crossing, Comes, Goes, First, Second, crossing, key}
use Rattle.parking_lot_rules.specs.Family as crossings
use Rattle.parking_lot_rules.specs.Any.{AnyLock, Rw, AnySound, any_inside}
use Rattle.parking_lot_protocol.specs.declared.act.SectionAct.TheVariants.{Leave}
use Rattle.parking_lot_machine_calls.specs.declared.seat.QueuePosition as seat
use Rattle.parking_lot_machine_calls.specs.declared.seat.WakeResult.{WakeResult}
use Rattle.parking_lot_protocol.specs.Wake.{wake_answer}
use Rattle.parking_lot_core_model.specs.Machine.{threads_of}
use Rattle.parking_lot_protocol.specs.WakeRules.{answer_to}
use Rattle.parking_lot_machine.specs.Passes.{ArePassed, look_by}

-- A number is a word by its parts, and a word of bits is the one of its number.
pub record WordsAreNumbers : Type 0 where
  pub whole : (x : ℕ) → number (word_of x) ≡ x
  pub bits : (x : ℕ) → IsWord (word_of x)
  pub parts : (w : Word) → IsWord w → word_of (number w) ≡ w

-- Thread t is in that phase of a call at a sound lock whose word is the number x. It has n shared holds besides the one
-- that the call is about, and has taken the threads us. Few threads have few holds each.
pub record Meets (recursive : Bool) (l : Lock) (t n : ℕ) (spot : QueuePosition) (us : List ℕ) (p : RwPhase)
    (x : ℕ) : Type 0 where
  pub sound : IsSound l
  pub word : l.word ≡ word_of x
  pub here : slice_get l.roles t ≡ Some (role n spot us p)
  pub ready : IsReady p
  pub prepared : rw_prepared recursive n us p
  pub threads : length l.roles < 2 ^ 18
  pub few : (u : ℕ) (r : Role) → slice_get l.roles u ≡ Some r → shared_holds r.owns ≤ 256

-- what it is told is the move that the table says, and the next phase is ready
abbrev pub IsMoved : Bool → Lock → ℕ → List ℕ → RwPhase → ℕ → ActResult → Type 0
IsMoved recursive l n us p x s = IsMove recursive (move n us p s) n us p (next_phase p s) l.word
    (word_after (act_of p) s x) × IsReady (next_phase p s)

abbrev pub AnswersAreMoves : Type 0
AnswersAreMoves = (recursive : Bool) (l : Lock) (t n : ℕ) (spot : QueuePosition) (us : List ℕ) (p : RwPhase) (x : ℕ)
    (s : ActResult) → Meets recursive l t n spot us p x → IsTold p x s → Fits recursive n us p l.word
    × (l.word.readers < 2 ^ 60 - 1) × IsMoved recursive l n us p x s

-- no thread is of a class
abbrev pub NobodyIs : Class → List Role → Type 0
NobodyIs c rs = (u : ℕ) (r : Role) → slice_get rs u ≡ Some r → weight c r ≡ 0

-- What an act finds, where it goes through: it enters a section that nobody is inside of, and clears the second parked
-- bit where nobody is left to wait for it.
abbrev pub Finds : Act → Lock → Type 0
Finds (Enter zero) l = NobodyIs Inside1 l.roles
Finds (Enter (suc key)) l = NobodyIs Inside2 l.roles
Finds (FetchAnd keep) l = l.second ≡ []
Finds act l = Unit {0}

-- a step that may be made at a lock, and the lock after it
abbrev pub IsStep : Bool → ℕ → Step → Lock → Lock → Type 0
IsStep recursive t step l m = Allowed recursive t step l × (after t step l ≡ m)

-- the lock with another word and another role of a thread
abbrev pub with_role : Lock → ℕ → ℕ → Role → Lock
with_role l x t r = record l { word = word_of x; roles = slice_set l.roles t r }

abbrev pub StaysAreSteps : Type 0
StaysAreSteps = (recursive : Bool) (l : Lock) (t n : ℕ) (spot : QueuePosition) (us : List ℕ) (p : RwPhase) (x : ℕ)
    (s : ActResult) → Meets recursive l t n spot us p x → IsTold p x s → move n us p s ≡ Stays
    → (role n spot us (next_phase p s) ≡ role n spot us p) × (word_after (act_of p) s x ≡ x)

abbrev pub MakesAreSteps : Type 0
MakesAreSteps = (recursive : Bool) (l : Lock) (t n : ℕ) (spot : QueuePosition) (us : List ℕ) (p : RwPhase) (x : ℕ)
    (s : ActResult) (k : Plain) → Meets recursive l t n spot us p x → IsTold p x s → move n us p s ≡ Makes k
    → Finds (act_of p) l
    → IsStep recursive t (Alone k) l (with_role l (word_after (act_of p) s x) t (role n Listed us (next_phase p s)))

-- One that goes to sleep joins the end of its list: the lock's first, or as a pending writer its second.
pub record JoinsAreSteps : Type 0 where
  pub first : (recursive : Bool) (l : Lock) (t n : ℕ) (spot : QueuePosition) (us : List ℕ) (want : LockMode) (x : ℕ)
      → Meets recursive l t n spot us (Appends want) x
      → IsStep recursive t (List_changes (Join1 (mode_of want))) l
      (record (with_role l x t (role n Listed us (next_phase (Appends want) seen.Made)))
      { first = l.first ++ t ∷ [] })
  pub second : (recursive : Bool) (l : Lock) (t n : ℕ) (spot : QueuePosition) (us : List ℕ) (rounds x : ℕ)
      → Meets recursive l t n spot us (DrainAppends rounds) x
      → IsStep recursive t (List_changes (Join2 false)) l
      (record (with_role l x t (role n Listed us (next_phase (DrainAppends rounds) seen.Made)))
      { second = l.second ++ t ∷ [] })

-- A thread that scans takes the waiter v at an index of the first list, by its token: it looks at it so, and those
-- before it are skipped.
pub record MayTakeOne (l : Lock) (a : Scanning) (i v : ℕ) (mode : Mode) (stay : Stay) : Type 0 where
  pub waiter : slice_get l.first i ≡ Some v
  pub waits : slice_get l.roles v ≡ Some (record { owns = Shares 0; does = Queued1 mode stay })
  pub looks : look a.upgradable a.writer mode ≡ Take
  pub skipped : AreSkipped a.upgradable a.writer l.roles l.first i

-- the lock with two roles changed: first that of t, then that of v
abbrev pub with_roles : Lock → ℕ → ℕ → Role → ℕ → Role → Lock
with_roles l x t r v q = record l { word = word_of x; roles = slice_set (slice_set l.roles t r) v q }

abbrev pub TakesAreSteps : Type 0
TakesAreSteps = (recursive : Bool) (l : Lock) (t n : ℕ) (spot : QueuePosition) (us : List ℕ) (a : Scanning) (x : ℕ)
    (token : ParkToken) (left : Bool) (i v : ℕ) (stay : Stay) → Meets recursive l t n spot us (Scans a) x
    → IsToken (Some token) → MayTakeOne l a i v (mode_by token) stay
    → IsStep recursive t (Take1 (scan_of n a us) i v (mode_by token) stay) l
    (record (with_roles l x t (role n Listed (us ++ v ∷ []) (next_phase (Scans a) (seen.Took (Some token) left))) v
    (record { owns = Shares 0; does = Taken1 (mode_by token) t Open stay })) { first = remove l.first i })

-- Whoever waits in the list wants what its token says.
abbrev pub WantAsTold : Lock → List Waiter → Type 0
WantAsTold l queue = (i : ℕ) (w : Waiter) (r : Role) → slice_get queue i ≡ Some w → slice_get l.roles w.thread ≡ Some r
    → IsToken (Some w.token) × (wants r.does ≡ mode_by w.token)

-- A scan answers by whom it has taken: at the sum of its tokens it does what the rules do at a waiter. Those that it
-- passes are skipped.
pub record ScansGoByTokens : Type 0 where
  pub sums : (a : Scanning) (token : ℕ) → wake_answer (sum_of a) token ≡ look_by a.upgradable a.writer token
  pub looks : (upgradable writer : Bool) (token : ParkToken) → IsToken (Some token)
      → look_by upgradable writer token.0 ≡ answer_to (look upgradable writer (mode_by token))
  pub skips : (l : Lock) (upgradable writer : Bool) (queue : List Waiter) (n : ℕ) → l.first ≡ threads_of queue
      → WantAsTold l queue → ArePassed (look_by upgradable writer) queue n → AreSkipped upgradable writer l.roles
      l.first n

-- the token of a waiter is that of what it wants
abbrev pub TokensTell : Type 0
TokensTell = (want : LockMode) → IsToken (Some (record { 0 = share_of want }))
    × (mode_by (record { 0 = share_of want }) ≡ mode_of want)

abbrev pub WritersAreTaken : Type 0
WritersAreTaken = (recursive : Bool) (l : Lock) (t n : ℕ) (spot : QueuePosition) (us : List ℕ) (rest : AfterWake)
    (x : ℕ) (token : ParkToken) (left : Bool) (v : ℕ) (from : Bool) (stay : Stay)
    → Meets recursive l t n spot us (TakeWriter rest) x → slice_get l.second 0 ≡ Some v
    → slice_get l.roles v ≡ Some (record { owns = Shares 0; does = Queued2 from stay })
    → IsStep recursive t (Take2 (Shares n) v from stay) l
    (record (with_roles l x t
    (role n Listed (us ++ v ∷ []) (next_phase (TakeWriter rest) (seen.Took (Some token) left))) v
    (record { owns = Shares 0; does = Taken2 from t stay })) { second = remove l.second 0 })

-- The end of the section: what it stores, and what it tells all that the thread has taken. It knows whether waiters are
-- left, and has taken a writer, or skips all of them.
abbrev pub ending_of : Scanning → Bool → Ending
ending_of a fair = ending a.rest (hands a (a.fair || fair))

abbrev pub StoresAreSteps : Type 0
StoresAreSteps = (recursive : Bool) (l : Lock) (t n : ℕ) (spot : QueuePosition) (us : List ℕ) (a : Scanning)
    (left : Bool) (x : ℕ) (fair : Bool) → Meets recursive l t n spot us (Stores a left) x → is_left l.first ≡ left
    → (a.writer ≡ true) ⊎ AreSkipped a.upgradable a.writer l.roles l.first (length l.first)
    → IsStep recursive t (Store (ending_of a fair) (scan_of n a us)) l
    (record l {
      word = word_of (word_after (act_of (Stores a left)) (seen.Stored fair) x);
      roles = slice_set (map (settle (ends_saying (ending_of a fair))) l.roles) t
          (role n Listed us (next_phase (Stores a left) (seen.Stored fair)));
    })

-- the token with which it tells them says the same
abbrev pub TokensSay : Type 0
TokensSay = (a : Scanning) (left fair : Bool)
    → mark_of (told_of (wakes_with (next_phase (Stores a left) (seen.Stored fair)))) ≡ ends_saying (ending_of a fair)

-- One that has taken others wakes the first of them, which sleeps and goes on as its token says.
abbrev pub WakesAreSteps : Type 0
WakesAreSteps = (recursive : Bool) (l : Lock) (t n : ℕ) (spot : QueuePosition) (v : ℕ) (vs : List ℕ) (rest : AfterWake)
    (count x : ℕ) (m : ℕ) (mark : Mark) (ws : List ℕ) (q : RwPhase) (key : ℕ) (park : ParkToken) (token : UnparkToken)
    → Meets recursive l t n spot (v ∷ vs) (Wakes rest count) x → slice_get l.roles v ≡ Some (role m (Off t mark) ws q)
    → rw_stance q ≡ stance.Asleep key park → rw_prepared recursive m ws q → mark ≡ mark_of (told_of token)
    → (k : Waking) × IsStep recursive t (Wake (owned_at_last n rest) v vs k Asleep) l
    (record l {
      word = word_of x;
      roles = slice_set (slice_set l.roles v (role m Listed ws (next_phase q (seen.Woken token)))) t
          (role n Listed vs (next_phase (Wakes rest count) seen.Made));
    })

-- Who is to be woken by one that wakes was told what it is to do.
abbrev pub WokenAreTold : Type 0
WokenAreTold = (l : Lock) (t v : ℕ) (own has : Owned) (us : List ℕ) (mode : Mode) (mark : Mark) (stay : Stay)
    → IsSound l → slice_get l.roles t ≡ Some (record { owns = own; does = rules.Wakes us })
    → slice_get l.roles v ≡ Some (record { owns = has; does = Taken1 mode t mark stay })
    → mark ≢ Open

-- where a thread stands matters only while it sleeps
abbrev pub OnlySleepersStand : Type 0
OnlySleepersStand = (n : ℕ) (spot : QueuePosition) (us : List ℕ) (p : RwPhase)
    → ((key : ℕ) (park : ParkToken) → rw_stance p ≢ stance.Asleep key park) → role n spot us p ≡ role n Listed us p

-- one that is answered
abbrev pub is_last : RwPhase → Bool
is_last (r.Refuses want) = true
is_last (r.Finishes rest) = true
is_last (r.Ends outcome) = true
is_last r.Invalid = true
is_last phase = false

-- a call that begins is no step by itself: its thread is in the role of one in no call, and hears the start
abbrev pub BeginsAreReady : Type 0
BeginsAreReady = (n : ℕ) (spot : QueuePosition) (us : List ℕ) (p : RwPhase) (x : ℕ) → rw_begun p ≡ false
    → (role n spot us p ≡ record { owns = owns n p; does = Idle }) × IsReady p × IsTold p x seen.Start

-- the last step of a call, where there is one
abbrev pub IsLastStep : Bool → Move → Lock → ℕ → Role → ℕ → Role → Type 0
IsLastStep recursive (Makes k) l t old x new = IsStep recursive t (Alone k) l (with_role l x t new)
IsLastStep recursive move l t old x new = new ≡ old

-- One whose call is answered owns what the machine says, and is in no call.
abbrev pub EndsAreSteps : Type 0
EndsAreSteps = (recursive : Bool) (l : Lock) (t n : ℕ) (spot : QueuePosition) (us : List ℕ) (p : RwPhase) (x : ℕ)
    → Meets recursive l t n spot us p x → is_last p ≡ true → IsLastStep recursive (last_move n p) l t (role n spot us p)
    x (record { owns = owned_of (rw_hold_after n p); does = Idle })

-- a call that has begun is answered in its last phase
abbrev pub AnswersAreLast : Type 0
AnswersAreLast = (p : RwPhase) (answer : CoreAnswer) → rw_begun p ≡ true → act_of p ≡ Done answer → is_last p ≡ true

-- WHAT CALLS KEEP

-- how many readers a phase counts
abbrev pub count_shared : RwPhase → ℕ
count_shared (r.Scans s) = s.shared
count_shared (r.Stores s left) = s.shared
count_shared p = 0

-- with what a call may begin
abbrev pub rw_begins : Bool → ℕ → RwPhase → Type 0
rw_begins recursive n (r.Locking want) = Asks recursive n want
rw_begins recursive n (r.Trying want) = Asks recursive n want
rw_begins recursive n r.UnlockingShared = Unit {0}
rw_begins recursive n (r.UnlockingExclusive fair) = n ≡ 0
rw_begins recursive n r.Downgrading = Unit {0}
rw_begins recursive n r.BumpingShared = n ≡ 0
rw_begins recursive n r.BumpingExclusive = n ≡ 0
rw_begins recursive n phase = ⊥

-- one that asks finds the holds that it has in the word, and room for one more
abbrev pub IsCounted : ℕ → RwPhase → ℕ → Type 0
IsCounted n p x = owns n p ≡ Shares n → (n ≤ x / 16) × (x / 16 < 2 ^ 60 - 1)

-- From its beginning to its end a call keeps what it may rely on. What its phase needs follows, where the thread has
-- taken as many as it counts; and a scan counts no more readers than there are threads.
pub record CallsKeep : Type 0 where
  pub begins : (recursive : Bool) (n : ℕ) (p : RwPhase) → rw_begins recursive n p
      → rw_keeps recursive n (next_phase p seen.Start)
  pub goes_on : (recursive : Bool) (n : ℕ) (p : RwPhase) (x : ℕ) (s : ActResult) → rw_keeps recursive n p
      → IsCounted n p x → IsTold p x s → rw_keeps recursive n (next_phase p s)
  pub prepared : (recursive : Bool) (n : ℕ) (us : List ℕ) (p : RwPhase) → rw_keeps recursive n p
      → length us ≡ rw_taken p → count_shared p ≤ 2 ^ 18 → rw_prepared recursive n us p
  pub few : (l : Lock) (t n : ℕ) (spot : QueuePosition) (us : List ℕ) (p : RwPhase) → IsSound l
      → slice_get l.roles t ≡ Some (role n spot us p) → count_shared p ≤ length l.roles

-- SECTIONS AND LISTS

-- what an act does to the sections, by where its core stands
abbrev pub act_crossing : Stance → Act → Crossing
act_crossing st (Enter zero) = Comes First
act_crossing st (Enter (suc key)) = Comes Second
act_crossing (stance.In zero how) (Section Leave) = Goes First
act_crossing (stance.In (suc key) how) (Section Leave) = Goes Second
act_crossing st act = crossings.Stays

abbrev pub move_crossing : Move → Crossing
move_crossing (Makes k) = crossing (Alone k)
move_crossing move = crossings.Stays

-- A move enters and leaves the section that its act does; and who stands inside a section is inside it.
abbrev pub in_first : Stance → ℕ
in_first (stance.In zero how) = 1
in_first st = 0

abbrev pub in_second : Stance → ℕ
in_second (stance.In (suc key) how) = 1
in_second st = 0

pub record ActsCross : Type 0 where
  pub acts : (n : ℕ) (us : List ℕ) (p : RwPhase) (x : ℕ) (s : ActResult) → IsTold p x s
      → move_crossing (move n us p s) ≡ act_crossing (rw_stance p) (act_of p)
  pub first : (n : ℕ) (spot : QueuePosition) (us : List ℕ) (p : RwPhase) → weight Inside1 (role n spot us p) ≡ in_first
      (rw_stance p)
  pub second : (n : ℕ) (spot : QueuePosition) (us : List ℕ) (p : RwPhase)
      → weight Inside2 (role n spot us p) ≡ in_second (rw_stance p)

-- where nobody has entered the bucket of a key, nobody is inside a section of the key
abbrev pub FreeSectionsAreEmpty : Type 0
FreeSectionsAreEmpty = (bucket : ℕ → ℕ) (f : Family AnyLock) (i : ℕ) (l : Lock)
    → SoundFamilyOf AnySound any_inside bucket f → f.locks i ≡ Rw l
    → (f.entered (bucket (key i First)) ≡ None → NobodyIs Inside1 l.roles)
    × (f.entered (bucket (key i Second)) ≡ None → NobodyIs Inside2 l.roles)

-- What one that takes waiters learns of the lists as they are after that: whether some are left, and that there was
-- none to take.
abbrev pub Learns : RwPhase → ActResult → List Waiter → List Waiter → Type 0
Learns (Scans a) (seen.Took (Some token) left) first second = is_left first ≡ left
Learns (Scans a) (seen.Took None left) first second = (is_left first ≡ left) × ArePassed (wake_answer (sum_of a)) first
    (length first)
Learns (TakeWriter rest) s first second = second ≡ []
Learns p s first second = Unit {0}

pub record ListsAreKnown : Type 0 where
  pub learns : (p : RwPhase) (x : ℕ) (s : ActResult) (old1 old2 first second : List Waiter) → IsTold p x s
      → rw_knows p old1 old2 → Learns p s first second → rw_knows (next_phase p s) first second
  pub second : (l : Lock) → IsSound l → length l.second ≤ 1

-- WHO IS TOLD BY A STORE

-- Where a thread stands after thread t has told all that it took.
abbrev pub told_by : ℕ → WakeResult → seat.QueuePosition → QueuePosition
told_by t said at = rw_spot (settled_spot t said at)

-- At the lock where t stores these are all that were taken and told nothing, and at a lock where t has taken nobody so
-- there are none.
pub record StoresTell : Type 0 where
  pub here : (l : Lock) (t u n : ℕ) (at : seat.QueuePosition) (us : List ℕ) (p : RwPhase) (scan : Scan)
      (said : WakeResult) → IsSound l → slice_get l.roles t ≡ Some (scanning scan)
      → slice_get l.roles u ≡ Some (role n (rw_spot at) us p)
      → role n (told_by t said at) us p ≡ settle (mark_of said) (role n (rw_spot at) us p)
  pub elsewhere : (l : Lock) (t u n : ℕ) (at : seat.QueuePosition) (us : List ℕ) (p : RwPhase) (own : Role)
      (said : WakeResult) → IsSound l → slice_get l.roles t ≡ Some own → to_wake own.does (On1 Open) ≡ []
      → slice_get l.roles u ≡ Some (role n (rw_spot at) us p)
      → role n (told_by t said at) us p ≡ role n (rw_spot at) us p

-- WHO SLEEPS

-- what a thread is that sleeps on the first key with a token, and one that sleeps on the second
pub record SleepsFirst (n : ℕ) (us : List ℕ) (p : RwPhase) (park : ParkToken) : Type 0 where
  pub listed : role n Listed us p ≡ record { owns = Shares 0; does = Queued1 (mode_by park) Asleep }
  pub off : (t : ℕ) (mark : Mark)
      → role n (Off t mark) us p ≡ record { owns = Shares 0; does = Taken1 (mode_by park) t mark Asleep }
  pub token : (park.0 ≡ 16) ⊎ (park.0 ≡ 8)

pub record SleepsSecond (n : ℕ) (us : List ℕ) (p : RwPhase) : Type 0 where
  pub listed : role n Listed us p ≡ record { owns = Shares 0; does = Queued2 false Asleep }
  pub off : (t : ℕ) (mark : Mark) → role n (Off t mark) us p ≡ record { owns = Shares 0; does = Taken2 false t Asleep }

pub record SleepersAreKnown : Type 0 where
  pub stand : (recursive : Bool) (n : ℕ) (us : List ℕ) (p : RwPhase) (key : ℕ) (park : ParkToken)
      → rw_prepared recursive n us p → rw_stance p ≡ stance.Asleep key park → ((key ≡ 0) × SleepsFirst n us p park)
      ⊎ ((key ≡ 1) × SleepsSecond n us p)

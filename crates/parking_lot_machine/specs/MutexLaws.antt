-- What an answer to a mutex's core is, as a step of a sound mutex.
use Rattle.std.specs.Prelude.{◌≡◌, ◌≢◌, ℕ, ◌<◌, ◌==◌, Bool, true, false, List, [], ◌∷◌, ◌++◌, length, map, remove, Some}
use Rattle.std.specs.Prelude.{None, slice_get, slice_set, Option}
use Rattle.parking_lot_core_model.specs.declared.parking.ParkToken.{ParkToken}
use Rattle.parking_lot_core_model.specs.declared.parking.UnparkToken.{UnparkToken}
use Rattle.parking_lot_core_model.specs.declared.place.Waiter.{Waiter}
use Rattle.parking_lot_core_model.specs.Machine.{threads_of}
use Rattle.parking_lot_core_model.specs.Results.{is_left}
use Rattle.std.specs.Option.{option_map}
use Rattle.parking_lot_rules.specs.Roles.{Mark, Open, Asleep, Stay}
use Rattle.parking_lot_rules.specs.Mutex.{Role, Word, Inside, weight, number, Mutex, IsSound, Idle, Seeks, Queued}
use Rattle.parking_lot_rules.specs.Mutex.{Taken, Unlocks, Wakes, Step, Alone, Join, Take, Allowed, after, doing}
use Rattle.parking_lot_rules.specs.Mutex.{note_of, settle}
use Rattle.parking_lot_rules.specs.Family.{Crossing, Comes, Goes, First}
use Rattle.parking_lot_rules.specs.Family as crossing
use Rattle.parking_lot_rules.specs.Any.{mutex_crossing}
use Rattle.parking_lot_protocol.specs.declared.act.Act.{Act}
use Rattle.parking_lot_protocol.specs.declared.act.Act.TheVariants as act
use Rattle.parking_lot_protocol.specs.declared.act.SectionAct.TheVariants as section
use Rattle.parking_lot_protocol.specs.declared.act.WordChange.{WordChange}
use Rattle.parking_lot_protocol.specs.declared.act.CoreAnswer.{CoreAnswer}
use Rattle.parking_lot_protocol.specs.declared.act.ActResult.{ActResult}
use Rattle.parking_lot_protocol.specs.declared.act.ActResult.TheVariants as seen
use Rattle.parking_lot_protocol.specs.declared.mutex_phase.MutexPhase.{MutexPhase}
use Rattle.parking_lot_protocol.specs.declared.mutex_phase.MutexPhase.TheVariants as phase
use Rattle.parking_lot_protocol.specs.Acts.{word_after, Gives}
use Rattle.parking_lot_protocol.specs.MutexTable.{act_of, next_phase, wakes_with}
use Rattle.parking_lot_rules.specs.Classes.{bit, inside as is_inside}
use Rattle.parking_lot_protocol.specs.MutexRules.{QueuePosition, Listed, Off, role, owns, owns_after, taken_of, Move}
use Rattle.parking_lot_protocol.specs.MutexRules.{Stays, Makes, Joins, TakesOne, Tells, WakesOne, IsWoken, move}
use Rattle.parking_lot_protocol.specs.MutexRules.{last_move, IsWord, mark_of}
use Rattle.parking_lot_machine_calls.specs.declared.seat.Hold.{Hold}
use Rattle.parking_lot_machine_calls.specs.declared.seat.WakeResult.{WakeResult}
use Rattle.parking_lot_machine_calls.specs.declared.open_call.Call.{Call}
use Rattle.parking_lot_machine_calls.specs.CallRoles as call_roles
use Rattle.parking_lot_machine.specs.Rows.{mutex_word_of, mutex_role_in}
use Rattle.parking_lot_machine_calls.specs.CallRoles.{first_of_all, owns_mutex}
use Rattle.parking_lot_machine_calls.specs.CallActs.{settled, mutex_hold_after}
use Rattle.parking_lot_machine_calls.specs.Stances.{sign, mutex_taken, mutex_begun}
use Rattle.parking_lot_machine.specs.RowFits.{mutex_knows}
use Rattle.parking_lot_machine.specs.RowSteps.{store_step, wake_step_of}

-- Thread t plays that part at a sound mutex, and its word is that number.
pub record Plays (m : Mutex) (x t : ℕ) (r : Role) : Type 0 where
  pub sound : IsSound m
  pub word : x ≡ number m.word
  pub here : slice_get m.roles t ≡ Some r

abbrev pub NobodyIsInside : Mutex → Type 0
NobodyIsInside m = (u : ℕ) (r : Role) → slice_get m.roles u ≡ Some r → weight Inside r ≡ 0

-- the mutex whose word is that number
abbrev pub mutex_of : ℕ → List Role → List ℕ → Mutex
mutex_of x roles queue = record { word = mutex_word_of x; roles = roles; queue = queue }

-- the step may be made, and this is the mutex after it
abbrev pub Leads : ℕ → Step → Mutex → Mutex → Type 0
Leads t step m n = Allowed t step m × (after t step m ≡ n)

-- The move of thread t, which has taken v, leads from the one to the other. In an act of its own a thread isn't woken.
abbrev pub LeadsBy : Move → ℕ → ℕ → Mutex → Mutex → Type 0
LeadsBy Stays v t m n = n ≡ m
LeadsBy (Makes k) v t m n = Leads t (Alone k) m n
LeadsBy Joins v t m n = Leads t Join m n
LeadsBy TakesOne v t m n = (stay : Stay) × Leads t (Take v stay) m n
LeadsBy (Tells taken handed left) v t m n = Leads t (store_step handed (taken_of v taken)) m n
LeadsBy WakesOne v t m n = (handed : Bool) × (stay : Stay) × Leads t (wake_step_of stay handed v []) m n
LeadsBy (IsWoken handed) v t m n = ⊥

-- acts that touch no list, and nobody else
abbrev pub is_own : Act → Bool
is_own (act.Section section.TakeFirst) = false
is_own (act.Section (section.TakeNext sum)) = false
is_own (act.Section (section.Append token)) = false
is_own (act.Section (section.Store plain fair)) = false
is_own (act.Section section.Wake) = false
is_own act.Sleep = false
is_own other = true

-- what an act does to the section of the first key
abbrev pub crossing_of : Act → Crossing
crossing_of (act.Enter key) = Comes First
crossing_of (act.Section section.Leave) = Goes First
crossing_of other = crossing.Stays

-- and what a move does
abbrev pub move_crossing : Move → Crossing
move_crossing (Makes k) = mutex_crossing (Alone k)
move_crossing other = crossing.Stays

-- who was taken learns so
abbrev pub settle_spot : Mark → QueuePosition → QueuePosition
settle_spot mark Listed = Listed
settle_spot mark (Off by Open) = Off by mark
settle_spot mark (Off by other) = Off by other

-- what one is that was woken
abbrev pub woken_role : Bool → Role
woken_role true = record { owns = true; does = Idle }
woken_role false = doing (Seeks true)

-- what a call that is told s in phase p leaves: the phase, and the word
abbrev pub word_next : MutexPhase → ActResult → ℕ → ℕ
word_next p s x = word_after (act_of p) s x

abbrev pub role_next : ℕ → MutexPhase → ActResult → Role
role_next v p s = role Listed v (next_phase p s)

-- WORDS AND ROLES

pub record MutexWordsAreNumbers : Type 0 where
  pub back : (w : Word) → IsWord w → mutex_word_of (number w) ≡ w
  pub forth : (x : ℕ) → x < 4 → number (mutex_word_of x) ≡ x
  pub small : (w : Word) → IsWord w → number w < 4
  pub sound : (m : Mutex) → IsSound m → IsWord m.word

pub record MutexRolesAreKnown : Type 0 where
  -- where one stood that is awake doesn't matter
  pub awake : (at to : QueuePosition) (v : ℕ) (p : MutexPhase) → act_of p ≢ act.Sleep → role at v p ≡ role to v p
  -- nor whom one has taken that has taken nobody
  pub alone : (at : QueuePosition) (v u : ℕ) (p : MutexPhase) → mutex_taken p ≡ 0 → role at v p ≡ role at u p
  -- one that is told whether it was handed the mutex
  pub settled : (mark : Mark) (at : QueuePosition) (v : ℕ) (p : MutexPhase)
      → settle mark (role at v p) ≡ role (settle_spot mark at) v p
  -- one that is woken
  pub woken : (at : QueuePosition) (v : ℕ) (token : UnparkToken)
      → role at v (next_phase phase.Sleeps (seen.Woken token)) ≡ woken_role (token.0 == 1)
  -- whom one has taken that has taken one or nobody
  pub taken : (p : MutexPhase) (us : List ℕ) (b : Bool) → length us ≡ mutex_taken p → mutex_taken p ≡ bit b
      → us ≡ taken_of (first_of_all us) b
  -- The section of one that gives the mutex up is the one in which those were taken that know nothing yet.
  pub opener : (m : Mutex) (t u by : ℕ) (us : List ℕ) (r : Role) → IsSound m
      → slice_get m.roles t ≡ Some (doing (Unlocks us)) → slice_get m.roles u ≡ Some r → note_of r ≡ Some (by, Open)
      → by ≡ t
  -- and one that is woken knows
  pub known : (m : Mutex) (t u : ℕ) (o : Bool) (us : List ℕ) (mark : Mark) → IsSound m
      → slice_get m.roles t ≡ Some (record { owns = o; does = Wakes us })
      → slice_get m.roles u ≡ Some (doing (Taken t mark Asleep)) → mark ≢ Open

-- WHAT THE ANSWERS ARE

-- An answer to a thread's own act: only the word and its own role change.
pub record IsOwnStep (m : Mutex) (x t v : ℕ) (p : MutexPhase) (s : ActResult) : Type 0 where
  pub leads : LeadsBy (move v p s) v t m (mutex_of (word_next p s x) (slice_set m.roles t (role_next v p s)) m.queue)
  pub small : word_next p s x < 4
  pub crossing : move_crossing (move v p s) ≡ crossing_of (act_of p)

-- It joins the list.
pub record IsJoining (m : Mutex) (x t v : ℕ) (p : MutexPhase) (s : ActResult) : Type 0 where
  pub move : move v p s ≡ Joins
  pub leads : Leads t Join m (mutex_of (word_next p s x) (slice_set m.roles t (role_next v p s)) (m.queue ++ t ∷ []))
  pub same : word_next p s x ≡ x

-- It takes the first of the list.
pub record IsTaking (m : Mutex) (x t v : ℕ) (p : MutexPhase) (s : ActResult) (stay : Stay) : Type 0 where
  pub move : move v p s ≡ TakesOne
  pub leads : Leads t (Take v stay) m
      (mutex_of (word_next p s x) (slice_set (slice_set m.roles t (role_next v p s)) v (doing (Taken t Open stay)))
      (remove m.queue 0))
  pub same : word_next p s x ≡ x

-- It stores, and those whom it has taken know whether they were handed the mutex.
pub record IsTelling (m : Mutex) (x t v : ℕ) (p : MutexPhase) (s : ActResult) : Type 0 where
  pub taken : Bool
  pub handed : Bool
  pub left : Bool
  pub move : move v p s ≡ Tells taken handed left
  pub count : mutex_taken p ≡ bit taken
  pub token : wakes_with (next_phase p s) ≡ sign handed
  pub leads : Leads t (store_step handed (taken_of v taken)) m
      (mutex_of (word_next p s x) (slice_set (map (settle (mark_of handed)) m.roles) t (role_next v p s)) m.queue)
  pub small : word_next p s x < 4

-- It wakes the one that it has taken, with that token.
pub record IsWaking (m : Mutex) (x t v : ℕ) (p : MutexPhase) (s : ActResult) (mark : Mark) (stay : Stay)
    (token : UnparkToken) : Type 0 where
  pub move : move v p s ≡ WakesOne
  pub leads : mark ≡ mark_of (token.0 == 1)
      → Leads t (wake_step_of stay (token.0 == 1) v []) m
      (mutex_of (word_next p s x)
      (slice_set (slice_set m.roles v (role Listed 0 (next_phase phase.Sleeps (seen.Woken token)))) t
      (role_next v p s)) m.queue)
  pub same : word_next p s x ≡ x

pub record MutexAnswersAreSteps : Type 0 where
  -- as a section is entered nobody may be inside one
  pub own : (m : Mutex) (x t v : ℕ) (at : QueuePosition) (p : MutexPhase) (s : ActResult) → Plays m x t (role at v p)
      → Gives (act_of p) x s → is_own (act_of p) ≡ true
      → ((key : ℕ) → act_of p ≡ act.Enter key → NobodyIsInside m) → IsOwnStep m x t v p s
  pub joins : (m : Mutex) (x t v : ℕ) (at : QueuePosition) (p : MutexPhase) (token : ParkToken)
      → Plays m x t (role at v p) → act_of p ≡ act.Section (section.Append token) → IsJoining m x t v p seen.Made
  pub takes : (m : Mutex) (x t v : ℕ) (at : QueuePosition) (p : MutexPhase) (token : ParkToken) (left : Bool)
      (stay : Stay) → Plays m x t (role at v p) → act_of p ≡ act.Section section.TakeFirst
      → slice_get m.queue 0 ≡ Some v → slice_get m.roles v ≡ Some (doing (Queued stay))
      → IsTaking m x t v p (seen.Took (Some token) left) stay
  pub takes_nobody : (m : Mutex) (x t v : ℕ) (at : QueuePosition) (p : MutexPhase) (left : Bool)
      → Plays m x t (role at v p) → act_of p ≡ act.Section section.TakeFirst → IsOwnStep m x t v p (seen.Took None left)
  pub tells : (m : Mutex) (x t v : ℕ) (at : QueuePosition) (p : MutexPhase) (plain fair : WordChange) (is_fair : Bool)
      (waiters : List Waiter) → Plays m x t (role at v p)
      → act_of p ≡ act.Section (section.Store plain fair) → m.queue ≡ threads_of waiters → mutex_knows p waiters
      → IsTelling m x t v p (seen.Stored is_fair)
  pub wakes : (m : Mutex) (x t v : ℕ) (at : QueuePosition) (p : MutexPhase) (mark : Mark) (stay : Stay)
      (token : UnparkToken) → Plays m x t (role at v p) → act_of p ≡ act.Section section.Wake
      → slice_get m.roles v ≡ Some (doing (Taken t mark stay)) → is_inside stay ≡ 0
      → IsWaking m x t v p seen.Made mark stay token
  -- a call begins, of a thread that owns the mutex where it is to give it up
  pub begins : (m : Mutex) (x t v : ℕ) (p : MutexPhase) → mutex_begun p ≡ false
      → Plays m x t (record { owns = owns p; does = Idle }) → IsOwnStep m x t v p seen.Start
  -- and ends, and the thread owns the mutex where the answer says so
  pub ends : (m : Mutex) (x t v : ℕ) (at : QueuePosition) (p : MutexPhase) (answer : CoreAnswer)
      → Plays m x t (role at v p) → mutex_begun p ≡ true → act_of p ≡ act.Done answer
      → LeadsBy (last_move p) v t m
      (mutex_of x (slice_set m.roles t (record { owns = owns_after answer; does = Idle })) m.queue)
      × (move_crossing (last_move p) ≡ crossing.Stays)

-- HOW THE MACHINE SHOWS IT

-- Where thread t tells all whom it has taken, every role at its mutex is settled.
abbrev pub TellingsSettle : Type 0
TellingsSettle =
    (m : Mutex) (t u i : ℕ) (us vs : List ℕ) (said : WakeResult) (h : Hold) (o : Option Call) → IsSound m
    → slice_get m.roles t ≡ Some (doing (Unlocks us)) → slice_get m.roles u ≡ Some (mutex_role_in i vs h o)
    → mutex_role_in i vs h (option_map (settled t said) o) ≡ settle (call_roles.mark_of said) (mutex_role_in i vs h o)

-- What is kept of a thread, where its call ends, is what the answer says.
abbrev pub HoldsAreAnswered : Type 0
HoldsAreAnswered = (p : MutexPhase) (answer : CoreAnswer) → mutex_begun p ≡ true → act_of p ≡ act.Done answer
    → owns_mutex (mutex_hold_after p) ≡ owns_after answer

-- One that takes the first of its list knows what is left of it, and no other act makes one know anything.
pub record TakersKnow : Type 0 where
  pub one : (p : MutexPhase) (token : ParkToken) (waiters : List Waiter) → act_of p ≡ act.Section section.TakeFirst
      → mutex_knows (next_phase p (seen.Took (Some token) (is_left waiters))) waiters
  pub nobody : (p : MutexPhase) → act_of p ≡ act.Section section.TakeFirst
      → mutex_knows (next_phase p (seen.Took None false)) []
  pub other : (p : MutexPhase) (s : ActResult) (waiters : List Waiter) → act_of p ≢ act.Section section.TakeFirst
      → mutex_knows (next_phase p s) waiters

pub record MutexIsShown : Type 0 where
  pub tells : TellingsSettle
  pub ends : HoldsAreAnswered
  pub knows : TakersKnow

-- What a machine of locks does, call by call.
use Rattle.std.specs.Prelude.{◌≡◌, ℕ, ◌*◌, ◌&&◌, ◌||◌, ◌⊎◌, Bool, true, false, not, nat_lt, if◌then◌else◌, List, []}
use Rattle.std.specs.Prelude.{◌∷◌, ◌++◌, length, replicate, Option, Some, None, is_some, is_none, slice_get, slice_set}
use Rattle.std.specs.Option.{option_and_then, option_map, option_or}
use Rattle.parking_lot_core_model.specs.Buckets.{buckets_for, threads_with}
use Rattle.parking_lot_core_model.specs.Runs.{fresh}
use Rattle.parking_lot_core_model.specs.declared.place.Place.TheVariants.{Running}
use Rattle.parking_lot_protocol.specs.declared.act.Act.{Act}
use Rattle.parking_lot_protocol.specs.declared.act.Act.TheVariants as act
use Rattle.parking_lot_protocol.specs.declared.act.SectionAct.{SectionAct}
use Rattle.parking_lot_protocol.specs.declared.act.SectionAct.TheVariants as section
use Rattle.parking_lot_protocol.specs.declared.act.CoreAnswer.{CoreAnswer}
use Rattle.parking_lot_protocol.specs.declared.act.ActResult.{ActResult}
use Rattle.parking_lot_protocol.specs.declared.act.ActResult.TheVariants as seen
use Rattle.parking_lot_machine_calls.specs.declared.calls.LockCall.{LockCall}
use Rattle.parking_lot_machine_calls.specs.declared.calls.LockKind.{LockKind}
use Rattle.parking_lot_machine_calls.specs.declared.open_call.Call.{Call}
use Rattle.parking_lot_machine_calls.specs.declared.seat.Hold.TheVariants as hold
use Rattle.parking_lot_machine_calls.specs.declared.seat.QueuePosition.TheVariants as spot
use Rattle.parking_lot_rules.specs.Classes.{bit}
use Rattle.parking_lot_machine_calls.specs.declared.late_rw.LateRwPhase.{LateRwPhase}
use Rattle.parking_lot_machine_calls.specs.declared.late_rw.LateRwPhase.TheVariants as late_rw
use Rattle.parking_lot_machine_calls.specs.declared.seat.LatePhase.TheVariants as late
use Rattle.parking_lot_machine_calls.specs.declared.seat.Core.{Core}
use Rattle.parking_lot_machine_calls.specs.declared.seat.Core.TheVariants as core
use Rattle.parking_lot_machine_calls.specs.Calls.{is_timed, takes}
use Rattle.parking_lot_machine_calls.specs.Kinds.{kind_in}
use Rattle.parking_lot_machine_calls.specs.Beginnings.{core_of, holds_beside, is_allowed}
use Rattle.parking_lot_machine.specs.Rows.{State, call_at, hold_at, open_at, taken_by}
use Rattle.parking_lot_core_model.specs.declared.parking.ParkToken.{ParkToken}
use Rattle.parking_lot_core_model.specs.declared.parking.UnparkToken.{UnparkToken}
use Rattle.parking_lot_core_model.specs.declared.place.Taking.{Taking}
use Rattle.parking_lot_core_model.specs.declared.place.Waiter.{Waiter}
use Rattle.parking_lot_machine_calls.specs.declared.seat.Wakeup.{Wakeup}
use Rattle.parking_lot_machine_calls.specs.Stances.{In, Joins, Takes, stance, core_act}
use Rattle.parking_lot_machine.specs.RowActs.{loaded, exchanged, added, masked, spun, entered, checked, appended, took}
use Rattle.parking_lot_machine.specs.RowActs.{took_nobody, told_all, left, woke, woke_nobody, begun, answered}
use Rattle.parking_lot_machine_calls.specs.CallActs.{key_of, off_list}
use Rattle.parking_lot_machine.specs.Passes.{ArePassed, IsNext, asks}
use Rattle.parking_lot_machine.specs.TellLaws.{IsDue}
use Rattle.parking_lot_machine.specs.ActLaws.{Acts, Ends}
use Rattle.parking_lot_machine.specs.LateActs.{came_back, expired, quitted}
use Rattle.parking_lot_machine_calls.specs.LateCalls.{comes_late, is_back, is_pending, sleeps_in_time}
use Rattle.parking_lot_machine.specs.LateLaws.{Expires}
use Rattle.parking_lot_machine.specs.Ranks.{Costs, Pays}

-- whether an act can be made: one that sleeps makes none, and a section of the lock's k-th key is entered only where
-- none is taken in its bucket
abbrev pub is_possible : (ℕ → Bool) → Act → Bool
is_possible taken act.Sleep = false
is_possible taken (act.Enter k) = not (taken k)
is_possible taken other = true

abbrev pub is_taken : State → Call → ℕ → Bool
is_taken s c k = is_some (open_at s (key_of c k))

-- One whose moment has passed comes back, where no section is taken, and takes itself out of its list there, or finds
-- that another has taken it.
abbrev pub goes_late : State → Call → Core → Bool
goes_late s c k = is_back k || (comes_late k && not (is_taken s c (bit (is_pending k))))

abbrev pub can_move_in : State → Option Call → Bool
can_move_in s None = false
can_move_in s (Some c) = goes_late s c c.core || is_possible (is_taken s c) (core_act c.core)

abbrev pub can_move : State → ℕ → Bool
can_move s t = can_move_in s (call_at s t)

-- it asks to sleep, until another thread wakes it
abbrev pub sleeps : Act → Bool
sleeps act.Sleep = true
sleeps other = false

-- a thread sleeps, and its deadline hasn't come: behind that it comes back by itself
abbrev pub is_asleep_in : Option Call → Bool
is_asleep_in None = false
is_asleep_in (Some c) = sleeps_in_time c.core

abbrev pub is_asleep : State → ℕ → Bool
is_asleep s t = is_asleep_in (call_at s t)

-- whether a thread may begin a call: it is in none, the lock is of a kind that takes it, and what it owns there allows
-- it
abbrev pub may_begin : State → ℕ → ℕ → LockCall → Bool
may_begin s t lock call =
    nat_lt t (length s.calls)
    && (is_none (call_at s t)
    && (takes (slice_get s.kinds lock) call && is_allowed (kind_in s.kinds lock) (hold_at s t lock) call))

-- the call before it begins
abbrev pub call_for : State → ℕ → ℕ → LockCall → Call
call_for s t lock call =
    record {
      lock = lock;
      others = holds_beside call (hold_at s t lock);
      core = core_of (kind_in s.kinds lock) call;
      spot = spot.Listed;
      asked = call;
    }

-- a machine where nobody has done anything, with so many numbers of threads: one for each, or two
abbrev pub at_rest : Bool → ℕ → List LockKind → State
at_rest paired threads kinds = record {
  kinds = kinds;
  words = replicate (length kinds) 0;
  holds = replicate (threads * length kinds) (hold.Shares 0);
  calls = replicate threads None;
  wakes = [];
  lot = record (fresh threads 0) {
    paired = paired;
    places = replicate threads (Some Running);
    buckets = buckets_for (threads_with paired threads);
  };
}

-- whom a thread takes is off its list, and is to be woken by it
abbrev pub takes_off_by : ℕ → List (Option Call) → Taking → List (Option Call)
takes_off_by t calls x =
    slice_set calls x.thread (option_map (off_list t) (option_and_then (λ c. c) (slice_get calls x.thread)))

abbrev pub owes_to : ℕ → List Wakeup → Taking → List Wakeup
owes_to t wakes x = wakes ++ record { by = t; thread = x.thread; mark = x.mark } ∷ []

-- WHAT IS LEFT OF THE MACHINE

-- a thread takes the next of its list that it wants, or passes all that wait there
abbrev pub IsTakenFrom : ℕ → Call → State → State → Type 0
IsTakenFrom t c s u =
    (k : ℕ) × (stance c.core ≡ In k Takes)
    × (((nth : ℕ) × (w : Waiter) × IsNext (asks (core_act c.core)) (s.lot.queues (key_of c k)) nth w
    × (u ≡ took s t c (key_of c k) nth w))
    ⊎ (ArePassed (asks (core_act c.core)) (s.lot.queues (key_of c k)) (length (s.lot.queues (key_of c k)))
    × (u ≡ took_nobody s t c (key_of c k))))

-- it joins its list
abbrev pub IsJoined : ℕ → Call → ParkToken → State → State → Type 0
IsJoined t c token s u = (k : ℕ) × (stance c.core ≡ In k (Joins token)) × (u ≡ appended s t c (key_of c k) token)

-- it wakes the first of those whom it has taken and who haven't gone on by themselves, or nobody where all have
abbrev pub IsWoken : ℕ → Call → State → State → Type 0
IsWoken t c s u =
    ((e : Wakeup) × (d : Call) × (token : UnparkToken) × IsDue s t e d token × (u ≡ woke s t c e.thread d token))
    ⊎ ((taken_by s.wakes t ≡ []) × (u ≡ woke_nobody s t c))

-- The machine after an act in a section, or after one, whole. A release that stores goes by what the schedule says.
abbrev pub BecameInside : SectionAct → ℕ → Bool → Call → State → State → Type 0
BecameInside section.Check t fair c s u = u ≡ checked s t c
BecameInside section.TakeFirst t fair c s u = IsTakenFrom t c s u
BecameInside (section.TakeNext sum) t fair c s u = IsTakenFrom t c s u
BecameInside (section.Append token) t fair c s u = IsJoined t c token s u
BecameInside (section.Store plain handing) t fair c s u = u ≡ told_all s t c (if fair then handing else plain) fair
BecameInside section.Leave t fair c s u = u ≡ left s t c
BecameInside section.Wake t fair c s u = IsWoken t c s u

-- One whose moment has passed comes back as it sleeps, or takes itself out of its list.
abbrev pub BecameLateRw : LateRwPhase → ℕ → Call → State → State → Type 0
BecameLateRw (late_rw.Expires k) t c s u = u ≡ came_back c.spot s t c
BecameLateRw (late_rw.Quits k) t c s u = u ≡ quitted s t c
BecameLateRw p t c s u = ⊥

abbrev pub BecameLate : Core → ℕ → Call → State → State → Type 0
BecameLate (core.Late late.Expires) t c s u = u ≡ came_back c.spot s t c
BecameLate (core.Late late.Quits) t c s u = u ≡ quitted s t c
BecameLate (core.LateRw p) t c s u = BecameLateRw p t c s u
BecameLate k t c s u = ⊥

-- The machine after an act, whole: which words, lists and calls have changed, and that all else has stayed.
abbrev pub Became : Act → ℕ → Bool → Call → State → State → Type 0
Became act.Load t fair c s u = u ≡ loaded s t c
Became (act.Exchange from to) t fair c s u = u ≡ exchanged s t c from to
Became (act.Add by) t fair c s u = u ≡ added s t c by
Became (act.FetchAnd keep) t fair c s u = u ≡ masked s t c keep
Became act.Spin t fair c s u = u ≡ spun s t c
Became (act.Enter key) t fair c s u = u ≡ entered s t c key
Became (act.Section next) t fair c s u = BecameInside next t fair c s u
Became act.Sleep t fair c s u = BecameLate c.core t c s u
Became (act.Done answer) t fair c s u = u ≡ answered s t c

-- It has begun, and nothing else has changed: that is the step of the rules that its core's table names, and adds a
-- stated number of steps at most.
pub record IsBegun (t lock : ℕ) (call : LockCall) (s u : State) : Type 0 where
  pub became : u ≡ begun s t (call_for s t lock call)
  pub acts : Acts t (call_for s t lock call) seen.Start s u
  pub costs : Costs t call s u

-- whether a thread's moment may pass: it is in a call that has one, and sleeps there, in its list or taken off it
abbrev pub may_expire_in : Option Call → Bool
may_expire_in None = false
may_expire_in (Some c) = is_timed c.asked && is_asleep_in (Some c)

abbrev pub may_expire : State → ℕ → Bool
may_expire s t = may_expire_in (call_at s t)

-- Its moment has passed, and nothing else has changed: that is the step of the rules, and adds a stated number of steps
-- at most, whoever is stepped.
pub record IsExpired (t : ℕ) (s u : State) : Type 0 where
  pub call : Call
  pub here : call_at s t ≡ Some call
  pub became : u ≡ expired s t call
  pub lawful : Expires t call s u

-- how a call ends, by the act that it asks for
abbrev pub end_of : Act → Option CoreAnswer
end_of (act.Done answer) = Some answer
end_of other = None

-- the call is over but for its answer
abbrev pub ended : State → ℕ → Option CoreAnswer
ended s t = option_and_then (λ c. end_of (core_act c.core)) (call_at s t)

-- the step of the rules that the core's table names
abbrev pub IsLawful : ℕ → Call → Option CoreAnswer → State → State → Type 0
IsLawful t c None s u = (told : ActResult) × Acts t c told s u
IsLawful t c (Some answer) s u = Ends t c s u

-- A thread in a call has made a step, and the call is answered where its act is done. All that the step changes follows
-- from the call and its act, it is a step of the rules, and it is paid for by the steps that were left.
pub record IsStepped (t : ℕ) (fair : Bool) (answer : Option CoreAnswer) (s u : State) : Type 0 where
  pub call : Call
  pub here : call_at s t ≡ Some call
  pub answers : answer ≡ end_of (core_act call.core)
  pub became : Became (core_act call.core) t fair call s u
  pub lawful : IsLawful t call answer s u
  pub pays : Pays t s u

-- A call's end is part of its last act: where only the answer is left, it is given at once.
abbrev pub IsAnsweredAtOnce : ℕ → Option CoreAnswer → Option CoreAnswer → State → State → Type 0
IsAnsweredAtOnce t None None v u = u ≡ v
IsAnsweredAtOnce t None (Some end) v u = IsStepped t false (Some end) v u
IsAnsweredAtOnce t (Some end) answer v u = u ≡ v

-- a step, and with the last one the answer: `v` is the machine between them
pub record IsAdvanced (t : ℕ) (fair : Bool) (answer : Option CoreAnswer) (s u : State) : Type 0 where
  pub v : State
  pub first : Option CoreAnswer
  pub step : IsStepped t fair first s v
  pub last : IsAnsweredAtOnce t first (ended v t) v u
  pub answers : answer ≡ option_or first (ended v t)

-- a beginning, and with it the call's first act
pub record IsStarted (t lock : ℕ) (call : LockCall) (fair : Bool) (answer : Option CoreAnswer) (s u : State) : Type 0
  where
    pub v : State
    pub begins : IsBegun t lock call s v
    pub goes : IsAdvanced t fair answer v u

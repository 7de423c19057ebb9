-- What fits of the lot still fits after each act, and the lot refuses no call that an act makes.
use Rattle.std.specs.Prelude.{◌≡◌, ◌≢◌, ℕ, ◌+◌, ◌<◌, ◌≤◌, Bool, true, false, Some, None, length, slice_get, slice_set}
use Rattle.std.specs.Prelude.{[], replicate}
use Rattle.std.specs.List.{position_or_len}
use Rattle.std.specs.Option.{option_map_or}
use Rattle.parking_lot_core_model.specs.declared.parking.ParkToken.{ParkToken}
use Rattle.parking_lot_core_model.specs.declared.parking.UnparkToken.{UnparkToken}
use Rattle.parking_lot_core_model.specs.declared.place.Place.TheVariants.{Running, Waiting, Taken}
use Rattle.parking_lot_core_model.specs.declared.place.Section.{Section}
use Rattle.parking_lot_core_model.specs.declared.place.Sleep.{Sleep}
use Rattle.parking_lot_core_model.specs.declared.place.Waiter.{Waiter}
use Rattle.parking_lot_core_model.specs.Machine.{Machine, registered, enter_fault, step_fault, resume_fault, section_of}
use Rattle.parking_lot_core_model.specs.Machine.{any_phase, changed_at}
use Rattle.parking_lot_core_model.specs.Places.{place_at, is_due, roused, may_check, may_join, may_take, may_store}
use Rattle.parking_lot_core_model.specs.Sound.{Sound}
use Rattle.parking_lot_protocol.specs.declared.act.Act.{Act}
use Rattle.parking_lot_protocol.specs.declared.act.Act.TheVariants as act
use Rattle.parking_lot_protocol.specs.declared.act.CoreAnswer.{CoreAnswer}
use Rattle.parking_lot_protocol.specs.declared.act.SectionAct.TheVariants as section
use Rattle.parking_lot_protocol.specs.declared.act.WordChange.{WordChange}
use Rattle.parking_lot_machine_calls.specs.declared.seat.QueuePosition.TheVariants as spot
use Rattle.parking_lot_machine_calls.specs.declared.open_call.Call.{Call}
use Rattle.parking_lot_machine_calls.specs.declared.seat.Wakeup.{Wakeup}
use Rattle.parking_lot_machine.specs.Rows.{State, call_at, is_by, open_at, taken_by}
use Rattle.parking_lot_machine_calls.specs.Stances.{Doing, Joins, Takes, In, Asleep, stance, core_act}
use Rattle.parking_lot_machine_calls.specs.StanceLaws.{Counts}
use Rattle.parking_lot_core_model.specs.declared.parking.FilterOp.TheVariants.{Unpark}
use Rattle.parking_lot_machine.specs.Passes.{asks}
use Rattle.parking_lot_machine.specs.RowActs as acts
use Rattle.parking_lot_machine_calls.specs.CallActs as call_acts
use Rattle.parking_lot_machine.specs.RowFits.{FitsTogether, LotFits, WakesFit}

-- A thread t in a call c that asks for that act: what fitted fits after it.
abbrev pub Keeps : State → ℕ → Call → Act → State → Type 0
Keeps s t c a u = LotFits s → call_at s t ≡ Some c → core_act c.core ≡ a → LotFits u

-- it takes a waiter
abbrev pub IsTaking : Act → Type 0
IsTaking (act.Section section.TakeFirst) = Unit {0}
IsTaking (act.Section (section.TakeNext sum)) = Unit {0}
IsTaking a = ⊥

pub record ActsKeepFits : Type 0 where
  -- beside sections
  pub loads : (s : State) (t : ℕ) (c : Call) → Keeps s t c act.Load (acts.loaded s t c)
  pub exchanges : (s : State) (t : ℕ) (c : Call) (from to : ℕ)
      → Keeps s t c (act.Exchange from to) (acts.exchanged s t c from to)
  pub adds : (s : State) (t : ℕ) (c : Call) (by : ℕ) → Keeps s t c (act.Add by) (acts.added s t c by)
  pub spins : (s : State) (t : ℕ) (c : Call) → Keeps s t c act.Spin (acts.spun s t c)
  -- where no section is open in its bucket one is entered
  pub enters : (s : State) (t : ℕ) (c : Call) (k : ℕ) → open_at s (call_acts.key_of c k) ≡ None
      → Keeps s t c (act.Enter k) (acts.entered s t c k)
  -- to go to sleep
  pub checks : (s : State) (t : ℕ) (c : Call) → Keeps s t c (act.Section section.Check) (acts.checked s t c)
  pub appends : (s : State) (t : ℕ) (c : Call) (k : ℕ) (token : ParkToken) → stance c.core ≡ In k (Joins token)
      → Keeps s t c (act.Section (section.Append token)) (acts.appended s t c (call_acts.key_of c k) token)
  -- to wake others: one of the list is taken, or nobody
  pub takes : (s : State) (t : ℕ) (c : Call) (a : Act) (k nth : ℕ) (w : Waiter) → IsTaking a
      → stance c.core ≡ In k Takes → slice_get (s.lot.queues (call_acts.key_of c k)) nth ≡ Some w
      → Counts c.core w.token
      → Keeps s t c a (acts.took s t c (call_acts.key_of c k) nth w)
  pub takes_nobody : (s : State) (t : ℕ) (c : Call) (a : Act) (k : ℕ) → IsTaking a → stance c.core ≡ In k Takes
      → Keeps s t c a (acts.took_nobody s t c (call_acts.key_of c k))
  pub stores : (s : State) (t : ℕ) (c : Call) (plain fair change : WordChange) (is_fair : Bool)
      → Keeps s t c (act.Section (section.Store plain fair)) (acts.told_all s t c change is_fair)
  pub masks : (s : State) (t : ℕ) (c : Call) (keep : ℕ) → Keeps s t c (act.FetchAnd keep) (acts.masked s t c keep)
  pub leaves : (s : State) (t : ℕ) (c : Call) → Keeps s t c (act.Section section.Leave) (acts.left s t c)
  -- the first whom it is to wake
  pub wakes : (s : State) (t : ℕ) (c : Call) (e : Wakeup) (d : Call) (token : UnparkToken)
      → slice_get s.wakes (position_or_len (is_by t) s.wakes) ≡ Some e → call_at s e.thread ≡ Some d
      → Keeps s t c (act.Section section.Wake) (acts.woke s t c e.thread d token)
  -- or nobody, where all of them have gone on by themselves
  pub wakes_nobody : (s : State) (t : ℕ) (c : Call) → taken_by s.wakes t ≡ [] → Keeps s t c (act.Section section.Wake)
      (acts.woke_nobody s t c)
  -- calls begin and end
  pub begins : (s : State) (t : ℕ) (c : Call) → LotFits s → t < length s.calls → call_at s t ≡ None
      → LotFits (acts.begun s t c)
  pub ends : (s : State) (t : ℕ) (c : Call) (answer : CoreAnswer) → Keeps s t c (act.Done answer) (acts.answered s t c)

-- the thread is in a section of that key
pub record IsInside (s : State) (t at : ℕ) : Type 0 where
  pub section : Section
  pub there : open_at s at ≡ Some section
  pub own : section_of s.lot t ≡ Some section
  pub key : section.key ≡ at

-- Who is to be woken first: it was told so, and is woken by its mark; then it goes on with that token, and runs.
pub record IsDue (s : State) (t : ℕ) (e : Wakeup) : Type 0 where
  pub other : e.thread ≢ t
  pub call : Call
  pub there : call_at s e.thread ≡ Some call
  pub token : UnparkToken
  pub key : ℕ
  pub sleep : Sleep
  pub place : place_at s.lot.places e.thread ≡ Some (Taken token key sleep false)
  pub due : option_map_or (is_due e.mark) (place_at s.lot.places e.thread) false ≡ true
  pub woken : place_at (changed_at roused s.lot e.thread).places e.thread ≡ Some (Taken token key sleep true)
  pub goes_on : resume_fault (changed_at roused s.lot e.thread) e.thread ≡ None
  pub runs : slice_set (changed_at roused s.lot e.thread).places e.thread (Some Running) ≡ slice_set s.lot.places
      e.thread (Some Running)

-- A waiter that a section may take: another thread, which sleeps in its list.
pub record IsWaiter (s : State) (t k : ℕ) (c : Call) (w : Waiter) : Type 0 where
  pub call : Call
  pub there : call_at s w.thread ≡ Some call
  pub lock : call.lock ≡ c.lock
  pub listed : call.spot ≡ spot.Listed
  pub asleep : stance call.core ≡ Asleep k w.token
  pub other : w.thread ≢ t
  pub sleep : Sleep
  pub place : place_at s.lot.places w.thread ≡ Some (Waiting (call_acts.key_of c k) sleep)
  pub late : sleep.late ≡ false

-- A thread t in a call c that asks for that act.
abbrev pub Asks : State → ℕ → Call → Act → Type 0
Asks s t c a = LotFits s × (call_at s t ≡ Some c) × (core_act c.core ≡ a)

pub record LotNeverRefuses : Type 0 where
  -- only an open section keeps one from entering
  pub enters : (s : State) (t : ℕ) (c : Call) (k : ℕ) → Asks s t c (act.Enter k)
      → open_at s (call_acts.key_of c k) ≡ None → enter_fault s.lot t (call_acts.key_of c k) ≡ None
  -- each step of a section comes where the section may make it
  pub checks : (s : State) (t : ℕ) (c : Call) → Asks s t c (act.Section section.Check)
      → step_fault may_check s.lot t ≡ None
  pub appends : (s : State) (t : ℕ) (c : Call) (token : ParkToken) → Asks s t c (act.Section (section.Append token))
      → step_fault may_join s.lot t ≡ None
  pub takes : (s : State) (t : ℕ) (c : Call) (a : Act) → IsTaking a → Asks s t c a → step_fault may_take s.lot t ≡ None
  pub stores : (s : State) (t : ℕ) (c : Call) (plain fair : WordChange)
      → Asks s t c (act.Section (section.Store plain fair)) → step_fault may_store s.lot t ≡ None
  pub masks : (s : State) (t : ℕ) (c : Call) (keep : ℕ) → Asks s t c (act.FetchAnd keep)
      → step_fault may_store s.lot t ≡ None
  pub leaves : (s : State) (t : ℕ) (c : Call) → Asks s t c (act.Section section.Leave)
      → step_fault any_phase s.lot t ≡ None
  -- in the section of the key that its stance says
  pub inside : (s : State) (t : ℕ) (c : Call) (k : ℕ) (how : Doing) → LotFits s → call_at s t ≡ Some c
      → stance c.core ≡ In k how → IsInside s t (call_acts.key_of c k)
  -- whom it may take there
  pub waiters : (s : State) (t : ℕ) (c : Call) (k nth : ℕ) (w : Waiter) → LotFits s → call_at s t ≡ Some c
      → stance c.core ≡ In k Takes → slice_get (s.lot.queues (call_acts.key_of c k)) nth ≡ Some w → IsWaiter s t k c w
  -- one that is to wake somebody, who hasn't gone on by itself, finds the one, and wakes it
  pub wakes : (s : State) (t : ℕ) (c : Call) → Asks s t c (act.Section section.Wake) → 1 ≤ length (taken_by s.wakes t)
      → (e : Wakeup) × (slice_get s.wakes (position_or_len (is_by t) s.wakes) ≡ Some e) × (e.by ≡ t) × IsDue s t e

-- WHO IS TO BE WOKEN

-- A thread t in a call c that asks for that act: what fitted of those that are to be woken fits after it.
abbrev pub KeepsWakes : State → ℕ → Call → Act → State → Type 0
KeepsWakes s t c a u = LotFits s → WakesFit s → call_at s t ≡ Some c → core_act c.core ≡ a → WakesFit u

pub record ActsKeepWakes : Type 0 where
  pub loads : (s : State) (t : ℕ) (c : Call) → KeepsWakes s t c act.Load (acts.loaded s t c)
  pub exchanges : (s : State) (t : ℕ) (c : Call) (from to : ℕ) → KeepsWakes s t c (act.Exchange from to)
      (acts.exchanged s t c from to)
  pub adds : (s : State) (t : ℕ) (c : Call) (by : ℕ) → KeepsWakes s t c (act.Add by) (acts.added s t c by)
  pub spins : (s : State) (t : ℕ) (c : Call) → KeepsWakes s t c act.Spin (acts.spun s t c)
  pub enters : (s : State) (t : ℕ) (c : Call) (k : ℕ) → KeepsWakes s t c (act.Enter k) (acts.entered s t c k)
  pub checks : (s : State) (t : ℕ) (c : Call) → KeepsWakes s t c (act.Section section.Check) (acts.checked s t c)
  pub appends : (s : State) (t : ℕ) (c : Call) (key : ℕ) (token : ParkToken)
      → KeepsWakes s t c (act.Section (section.Append token)) (acts.appended s t c key token)
  pub takes : (s : State) (t : ℕ) (c : Call) (a : Act) (k nth : ℕ) (w : Waiter) → IsTaking a
      → stance c.core ≡ In k Takes → slice_get (s.lot.queues (call_acts.key_of c k)) nth ≡ Some w
      → KeepsWakes s t c a (acts.took s t c (call_acts.key_of c k) nth w)
  pub takes_nobody : (s : State) (t : ℕ) (c : Call) (a : Act) (key : ℕ) → IsTaking a
      → KeepsWakes s t c a (acts.took_nobody s t c key)
  pub stores : (s : State) (t : ℕ) (c : Call) (plain fair change : WordChange) (is_fair : Bool)
      → KeepsWakes s t c (act.Section (section.Store plain fair)) (acts.told_all s t c change is_fair)
  pub masks : (s : State) (t : ℕ) (c : Call) (keep : ℕ) → KeepsWakes s t c (act.FetchAnd keep) (acts.masked s t c keep)
  pub leaves : (s : State) (t : ℕ) (c : Call) → KeepsWakes s t c (act.Section section.Leave) (acts.left s t c)
  pub wakes : (s : State) (t : ℕ) (c : Call) (e : Wakeup) (d : Call) (token : UnparkToken)
      → slice_get s.wakes (position_or_len (is_by t) s.wakes) ≡ Some e → call_at s e.thread ≡ Some d
      → KeepsWakes s t c (act.Section section.Wake) (acts.woke s t c e.thread d token)
  pub wakes_nobody : (s : State) (t : ℕ) (c : Call) → KeepsWakes s t c (act.Section section.Wake)
      (acts.woke_nobody s t c)
  -- a call begins as if its thread stood in a list
  pub begins : (s : State) (t : ℕ) (c : Call) → WakesFit s → t < length s.calls → call_at s t ≡ None
      → c.spot ≡ spot.Listed → WakesFit (acts.begun s t c)
  pub ends : (s : State) (t : ℕ) (c : Call) (answer : CoreAnswer)
      → KeepsWakes s t c (act.Done answer) (acts.answered s t c)

-- WHERE IT BEGINS

-- A machine in which nobody is in a call, nobody waits and each thread runs.
pub record IsNew (s : State) : Type 0 where
  pub calls : (t : ℕ) → call_at s t ≡ None
  pub wakes : s.wakes ≡ []
  pub lists : (key : ℕ) → s.lot.queues key ≡ []
  pub runs : (t : ℕ) → t < length s.calls → place_at s.lot.places t ≡ Some Running
  pub free : (b : ℕ) → s.lot.sections b ≡ None
  pub outside : (t : ℕ) → s.lot.inside t ≡ None

abbrev pub NewMachinesFit : Type 0
NewMachinesFit = (s : State) → Sound s.lot → IsNew s → LotFits s × WakesFit s

-- A lot that registers one thread after another has that many that run.
abbrev pub RegisteredThreadsRun : Type 0
RegisteredThreadsRun = (m : Machine) (n : ℕ) → m.places ≡ replicate n (Some Running)
    → (registered m).places ≡ replicate (n + 1) (Some Running)

-- Whoever takes a waiter that it wants can count it: there are few threads, and a scan that goes on has taken no
-- writer.
abbrev pub ScansHaveRoom : Type 0
ScansHaveRoom = (s : State) → FitsTogether s → (t : ℕ) (c : Call) → call_at s t ≡ Some c → (k nth : ℕ) (w : Waiter)
    → stance c.core ≡ In k Takes → slice_get (s.lot.queues (call_acts.key_of c k)) nth ≡ Some w
    → asks (core_act c.core) w.token.0 ≡ Unpark → Counts c.core w.token

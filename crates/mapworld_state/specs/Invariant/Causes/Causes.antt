-- Who was on a shard when a try found its lock taken, and whose deadline came before a call gave up.
use Rattle.std.specs.Prelude.{◌≡◌, ◌≢◌, ℕ, ◌+◌, ◌<◌, ◌≤◌, ◌⊎◌, ◌==◌, Bool, true, false, not, List, Some, slice_get}
use Rattle.parking_lot_protocol.specs.declared.act.CoreAnswer.TheVariants.{Owned}
use Rattle.parking_lot_protocol.specs.declared.rw_phase.RwPhase.{RwPhase}
use Rattle.parking_lot_protocol.specs.declared.rw_phase.RwPhase.TheVariants as r
use Rattle.parking_lot_machine_calls.specs.Calls.{is_timed}
use Rattle.parking_lot_machine_calls.specs.declared.seat.Core.{Core}
use Rattle.parking_lot_machine_calls.specs.declared.seat.Core.TheVariants as core
use Rattle.parking_lot_machine_calls.specs.declared.open_call.Call.{Call}
use Rattle.parking_lot_machine.specs.CallLaws.Stages.{Stage, Asks, Over, core_stage}
use Rattle.parking_lot_machine.specs.Machines.{is_asleep}
use Rattle.parking_lot_machine.specs.Rows.{call_at, state, word_at}
use Rattle.mapworld_calls.specs.Deadlines.{IsDeadlineOf, LockedHaveDeadlines}
use Rattle.mapworld_calls.specs.Setup.{Setup}
use Rattle.mapworld_calls.specs.Shards.{IsOnShard, LockedHaveCauses}
use Rattle.mapworld_state.specs.Locks.Stands.{Stand, stand_in}
use Rattle.mapworld_state.specs.Locks.Views.{Shown}
use Rattle.mapworld_state.specs.declared.holds.Hold.{Hold}
use Rattle.mapworld_calls.specs.declared.reply.Answer.{Answer}
use Rattle.mapworld_calls.specs.declared.reply.Answer.TheVariants as answer
use Rattle.mapworld_state.specs.declared.place.Phase.{Phase}
use Rattle.mapworld_state.specs.declared.place.Phase.TheVariants as phase
use Rattle.mapworld_state.specs.Places.{Place}
use Rattle.mapworld_state.specs.State.{State, deadlines_of, next_step, started_of}

-- a try has seen a word that isn't 0
abbrev pub has_seen_in : RwPhase → Bool
has_seen_in (r.TryAdmits want word left) = not (word == 0)
has_seen_in (r.Refuses want) = true
has_seen_in other = false

abbrev pub has_seen : Core → Bool
has_seen (core.Rw c) = has_seen_in c.phase
has_seen (core.Mutex c) = false
has_seen (core.Late p) = false
has_seen (core.LateRw p) = false
has_seen (core.Upgrade c) = false

-- a call may be answered otherwise than that it has its lock: it only asks for it no longer
abbrev pub may_fail_at : Stage → Bool
may_fail_at (Asks mode from) = false
may_fail_at (Over Owned hold) = false
may_fail_at other = true

-- a shard that the thread holds, or of whose lock it is in a call
abbrev pub IsSite : Shown → ℕ → List Hold → ℕ → Type 0
IsSite locks t holds shard = ((i : ℕ) × (h : Hold) × (slice_get holds i ≡ Some h) × (h.shard ≡ shard))
    ⊎ ((stand : Stand) × (stand_in locks t ≡ Some stand) × (stand.shard ≡ shard))

abbrev pub is_locked : {K V T A : Type 0} → Answer K V T A → Bool
is_locked answer.Locked = true
is_locked other = false

-- an answer that is to be given isn't that of a try that found its lock taken
abbrev pub IsTold : {K V D T A : Type 0} → Phase K V D T A → Type 0
IsTold (phase.Release a) = is_locked a ≡ false
IsTold (phase.Answer a) = is_locked a ≡ false
IsTold f = Unit {0}

module _ {K V S D T A : Type 0} (x : Setup K V D T) (w : State K V S D T A) where
  -- at that step a call of the thread is on the shard
  abbrev pub IsOnAt : ℕ → ℕ → ℕ → Type 0
  IsOnAt t shard p = IsOnShard x (started_of w) w.blocks w.replies t shard p

  -- it is there now, and as long as the thread makes no step
  abbrev pub IsOnNow : ℕ → ℕ → Type 0
  IsOnNow t shard = (p : ℕ) → next_step w ≤ p → IsOnAt t shard p

  -- its call is there, and the shard is the one that its place is at, or the one before
  pub record IsSited (t : ℕ) (place : Place K V D T A) (shard : ℕ) : Type 0 where
    pub on : IsOnNow t shard
    pub near : (shard ≡ place.shard) ⊎ (shard + 1 ≡ place.shard)

  -- since a thread's call began, a call of another one was on its shard
  pub record HasMet (t : ℕ) (place : Place K V D T A) : Type 0 where
    pub start : ℕ
    pub started : place.started ≡ Some start
    pub step : ℕ
    pub from : start ≤ step
    pub until : step ≤ next_step w
    pub other : ℕ
    pub another : other ≢ t
    pub on : IsOnAt other place.shard step

  -- since a thread's call began, its deadline has come
  pub record HasExpired (t : ℕ) (place : Place K V D T A) : Type 0 where
    pub start : ℕ
    pub started : place.started ≡ Some start
    pub step : ℕ
    pub from : start < step
    pub until : step < next_step w
    pub is : IsDeadlineOf (deadlines_of w) t step

  -- a call of its that has a deadline may fail only behind that
  abbrev pub FailsLate : Shown → ℕ → Place K V D T A → Type 0
  FailsLate locks t p = (c : Call) → call_at (state locks.rows) t ≡ Some c → is_timed c.asked ≡ true
      → may_fail_at (core_stage 0 c.core) ≡ true → HasExpired t p

  pub record HasCauses : Type 0 where
    pub sited : (t : ℕ) (p : Place K V D T A) (shard : ℕ) → slice_get w.places t ≡ Some p
        → IsSite w.locks t p.holds shard → IsSited t p shard
    pub met : (t : ℕ) (p : Place K V D T A) (c : Call) → slice_get w.places t ≡ Some p
        → call_at (state w.locks.rows) t ≡ Some c → has_seen c.core ≡ true → HasMet t p
    -- a try is told at once that it is locked, by its last step
    pub untold : (t : ℕ) (p : Place K V D T A) → slice_get w.places t ≡ Some p → IsTold p.phase
    pub locked : LockedHaveCauses x (started_of w) w.blocks w.replies
    pub late : (t : ℕ) (p : Place K V D T A) → slice_get w.places t ≡ Some p → FailsLate w.locks t p
    pub missed : LockedHaveDeadlines x (deadlines_of w) w.replies

  -- where a lock's word isn't 0, a call is on the lock's shard
  abbrev pub WordsHaveCalls : Type 0
  WordsHaveCalls = (shard : ℕ) → word_at (state w.locks.rows) shard ≢ 0 → (t : ℕ) × IsOnNow t shard

  -- A thread that sleeps in a call at a shard's lock has a call on that shard, and so has another thread.
  pub record HasCompany (t : ℕ) (stand : Stand) : Type 0 where
    pub own : IsOnNow t stand.shard
    pub other : ℕ
    pub another : other ≢ t
    pub on : IsOnNow other stand.shard

  abbrev pub SleepersHaveCompany : Type 0
  SleepersHaveCompany = (t : ℕ) (stand : Stand) → stand_in w.locks t ≡ Some stand
      → is_asleep (state w.locks.rows) t ≡ true → HasCompany t stand

-- What a world of locks, condition variables and onces consists of, which steps of a schedule it makes, and what is
-- seen of it.
use Rattle.std.specs.Prelude.{◌≡◌, ◌⊎◌, ◌++◌, ℕ, zero, suc, ◌/◌, ◌*◌, ◌==◌, Bool, true, false, not, ◌&&◌, ◌||◌}
use Rattle.std.specs.Prelude.{is_some}
use Rattle.std.specs.Prelude.{is_none, nat_lt, if◌then◌else◌, List, [], ◌∷◌, length, map, Option, Some, None, Result}
use Rattle.std.specs.Prelude.{Ok, Err, slice_get, slice_set}
use Rattle.std.specs.Option.{option_and_then, option_map, option_map_or}
use Rattle.parking_lot_core_model.specs.Buckets.{slot}
use Rattle.parking_lot_protocol.specs.declared.act.Act.{Act}
use Rattle.parking_lot_protocol.specs.declared.act.Act.TheVariants as act
use Rattle.parking_lot_protocol_waits.specs.Once.OnceTable.{act_of}
use Rattle.parking_lot_machine_sides.specs.declared.once.calls.OnceReply.{OnceReply}
use Rattle.parking_lot_machine_sides.specs.Once.Entries.{list_of}
use Rattle.parking_lot_machine_sides.specs.Once.OnceDebts as once_debts
use Rattle.parking_lot_machine_sides.specs.Once.OnceActs as once
use Rattle.parking_lot_machine_sides.specs.Once.OnceFits.{Fits}
use Rattle.parking_lot_machine_sides.specs.Once.OnceSteps as once_steps
use Rattle.parking_lot_machine_sides.specs.declared.once.open_call.OpenCall.{OpenCall}
use Rattle.parking_lot_machine_sides.specs.Once.Onces.{Onces}
use Rattle.parking_lot_machine_sides.specs.Once.Onces as onces
use Rattle.parking_lot_machine_waits.specs.declared.ended.Ended.{Ended}
use Rattle.parking_lot_machine_waits.specs.Joint.{Joint, is_var}
use Rattle.parking_lot_machine_waits.specs.Joint as joints
use Rattle.parking_lot_machine_waits.specs.JointLaws.{PartsFit}
use Rattle.parking_lot_machine_waits.specs.JointMoves as joint
use Rattle.parking_lot_machine_waits.specs.JointProgress.{GiversAreOut}
use Rattle.parking_lot_machine_waits.specs.JointSides.{is_busy, lock_call}
use Rattle.parking_lot_machine_waits.specs.JointSides as sides
use Rattle.parking_lot_machine_waits.specs.JointSteps as joint_steps
use Rattle.parking_lot_machine_waits.specs.Whole as waits
use Rattle.parking_lot_machine_calls.specs.declared.calls.OwnMode.{OwnMode}
use Rattle.parking_lot_machine_calls.specs.declared.open_call.Call.{Call}
use Rattle.parking_lot_machine.specs.Rows.{State, state}
use Rattle.parking_lot_machine.specs.Rows as row
use Rattle.parking_lot_world.specs.declared.calls.Asked.{Asked}
use Rattle.parking_lot_world.specs.declared.calls.Asked.TheVariants.{OfLock, OfVariable, OfOnce}
use Rattle.parking_lot_world.specs.declared.calls.LockAnswer.{LockAnswer}
use Rattle.parking_lot_world.specs.declared.calls.LockKind.{LockKind}
use Rattle.parking_lot_world.specs.declared.fault.WorldFault.{WorldFault}
use Rattle.parking_lot_world.specs.declared.fault.WorldRefusal.{WorldRefusal}
use Rattle.parking_lot_world.specs.declared.fault.WorldRefusal.TheVariants as refused
use Rattle.parking_lot_world.specs.declared.step.WorldStep.{WorldStep}
use Rattle.parking_lot_world.specs.declared.step.WorldStep.TheVariants as step
use Rattle.parking_lot_world.specs.WorldCalls.{asked, is_once, is_variable, of_ended, of_reply, row_kind, step_thread}

pub record Shown : Type 0 where
  -- by the number of the lock
  pub kinds : List LockKind
  -- the machine of locks and condition variables, and that of onces: each has a place for every lock, and nobody is
  -- ever in a call at one of the other machine's
  pub waits : Joint
  pub onces : Onces
  -- by the number of the thread: what its last call answered
  pub answers : List (Option LockAnswer)

-- the machine of the locks; of n threads, thread t has the numbers t and n + t there
abbrev pub rows_of : Shown → State
rows_of w = state w.waits.rows

-- a lock is a once
abbrev pub is_once_at : Shown → ℕ → Bool
is_once_at w i = option_map_or is_once (slice_get w.kinds i) false

-- it is a condition variable
abbrev pub is_variable_at : Shown → ℕ → Bool
is_variable_at w i = option_map_or is_variable (slice_get w.kinds i) false

-- THE TWO MACHINES, SIDE BY SIDE

-- What one machine is to the other: who is in a call there, who can make a step as far as that machine goes, which
-- bucket its next step enters, and which with it, and in which buckets a section is open.
pub record Side : Type 0 where
  pub calls : ℕ → Bool
  pub moves : ℕ → Bool
  pub enters : ℕ → Option ℕ
  pub beside : ℕ → Option ℕ
  pub shuts : ℕ → Bool

abbrev pub act_enters : Onces → OpenCall → Act → Option ℕ
act_enters s c (act.Enter key) = Some (onces.bucket_of s c.once)
act_enters s c other = None

abbrev pub once_enters : Onces → ℕ → Option ℕ
once_enters s t = option_and_then (λ c. act_enters s c (act_of c.core.phase)) (onces.call_at s t)

abbrev pub wait_side : Joint → Side
wait_side j = record {
  calls = is_busy j;
  moves = joint.may_go j;
  enters = sides.enters j;
  beside = sides.enters_beside j;
  shuts = joints.is_shut j;
}

abbrev pub once_side : Onces → Side
once_side s = record {
  calls = λ t. is_some (onces.call_at s t);
  moves = once.can_move s;
  enters = once_enters s;
  beside = λ t. None;
  shuts = λ b. is_some (slot s.inside b);
}

-- a section of that machine is open in the bucket
abbrev pub shuts_out : Side → Option ℕ → Bool
shuts_out b o = option_map_or b.shuts o false

-- It can move in its machine, and enters no bucket in which a section of the other is open.
abbrev pub goes : Side → Side → ℕ → Bool
goes a b t = a.moves t && not (shuts_out b (a.beside t) || shuts_out b (a.enters t))

-- STEPS

abbrev pub is_in_once : Shown → ℕ → Bool
is_in_once w t = (once_side w.onces).calls t

-- the lock is of the call's machine, where the thread may begin it, and the thread is in no call of the other
abbrev pub may_ask : Shown → ℕ → ℕ → Asked → Bool
may_ask w t i (OfLock c) = not (is_once_at w i) && (is_none (onces.call_at w.onces t) && joint.may_ask w.waits t i c)
may_ask w t i (OfVariable c) = is_none (onces.call_at w.onces t) && joint.may_call_at w.waits t i c
may_ask w t i (OfOnce c) = is_once_at w i && (not (is_busy w.waits t) && once.may_begin w.onces t i)

abbrev pub may_go : Shown → ℕ → Bool
may_go w t = if is_in_once w t then goes (once_side w.onces) (wait_side w.waits) t else goes (wait_side w.waits)
    (once_side w.onces) t

-- the step is allowed now, of a thread that the world has
abbrev pub may_make : Shown → WorldStep → Bool
may_make w (step.Begin thread lock call) = may_ask w thread lock (asked call)
may_make w (step.Go thread fair) = may_go w thread
may_make w (step.Deadline thread) = joint.may_expire w.waits thread

-- why a step is refused, tried in this order
abbrev pub refusal : Shown → WorldStep → Option WorldRefusal
refusal w s =
    if nat_lt (step_thread s) (length w.answers)
    then (if may_make w s then None else Some refused.CannotMove)
    else Some refused.NoSuchThread

-- a call that goes on has no answer
abbrev pub noted : ℕ → Option LockAnswer → List (Option LockAnswer) → List (Option LockAnswer)
noted thread None answers = answers
noted thread (Some answer) answers = slice_set answers thread (Some answer)

-- A call is begun by its machine, and the other stays.
abbrev pub IsAsked : ℕ → ℕ → Asked → Shown → Shown → Type 0
IsAsked t i (OfLock c) w v = joint_steps.IsAsked t i c w.waits v.waits × (v.onces ≡ w.onces)
IsAsked t i (OfVariable c) w v = joint_steps.IsCalled t i c w.waits v.waits × (v.onces ≡ w.onces)
IsAsked t i (OfOnce c) w v = once_steps.IsBegun t i c w.onces v.onces × (v.waits ≡ w.waits)

-- A step is made by the machine at which the thread is in a call, and the other stays.
abbrev pub IsGone : Bool → ℕ → Bool → Shown → Shown → Type 0
IsGone true t fair w v = (reply : Option OnceReply) × once_steps.IsStepped t reply w.onces v.onces × (v.waits ≡ w.waits)
    × (v.answers ≡ noted t (option_map of_reply reply) w.answers)
IsGone false t fair w v =
    (end : Option Ended) × joint_steps.IsGone t fair end w.waits v.waits × (v.onces ≡ w.onces)
    × (v.answers ≡ noted t (option_map (of_ended (lock_call w.waits t)) end) w.answers)

-- a deadline comes in the machine of locks and condition variables alone
abbrev pub IsLate : ℕ → Shown → Shown → Type 0
IsLate t w v = joint_steps.IsLate t w.waits v.waits × (v.onces ≡ w.onces) × (v.answers ≡ w.answers)

-- the step is made
abbrev pub IsMade : WorldStep → Shown → Shown → Type 0
IsMade (step.Begin thread lock call) w v = IsAsked thread lock (asked call) w v
    × (v.answers ≡ slice_set w.answers thread None) × (v.kinds ≡ w.kinds)
IsMade (step.Go thread fair) w v = IsGone (is_in_once w thread) thread fair w v × (v.kinds ≡ w.kinds)
IsMade (step.Deadline thread) w v = IsLate thread w v × (v.kinds ≡ w.kinds)

-- WHAT IS SEEN

abbrev pub word_at : Shown → ℕ → ℕ
word_at w i = if is_once_at w i then onces.word_at w.onces i else joints.word_at w.waits i

-- Nobody owns a once, or a condition variable. A thread has a lock by one of its numbers.
abbrev pub mode_at : Shown → ℕ → ℕ → Option OwnMode
mode_at w i t = if is_once_at w i || is_variable_at w i then None else joints.mode_at w.waits t i

-- a once has the first of its two keys
abbrev pub queue_at : Shown → ℕ → List ℕ
queue_at w key = if is_once_at w (key / 2) then (if key == 2 * (key / 2) then list_of w.onces.waiting (key / 2) else [])
    else sides.queue_at w.waits key

-- of so many threads those that own, and how, in the order of their numbers
abbrev pub entry : ℕ → Option OwnMode → List (ℕ × OwnMode)
entry t None = []
entry t (Some m) = (t, m) ∷ []

abbrev pub owners_below : (ℕ → Option OwnMode) → ℕ → List (ℕ × OwnMode)
owners_below mode_of zero = []
owners_below mode_of (suc n) = owners_below mode_of n ++ entry n (mode_of n)

-- of so many threads those that pass a test, in the order of their numbers
abbrev pub those_below : (ℕ → Bool) → ℕ → List ℕ
those_below test zero = []
those_below test (suc n) = those_below test n ++ (if test n then n ∷ [] else [])

-- it owes by one of its numbers at the locks, or at the variable that it is in a call at
abbrev pub is_indebted : Shown → ℕ → Bool
is_indebted w t = once_debts.is_in_debt w.onces t || sides.is_indebted w.waits t

-- WHAT HOLDS TOGETHER

-- A thread is in a call of one machine at most, at a lock of a kind that is the machine's. Both have as many buckets of
-- keys, and in none are sections open of both.
pub record IsWhole (w : Shown) : Type 0 where
  pub wait_threads : length w.waits.seats ≡ length w.answers
  pub once_threads : length w.onces.calls ≡ length w.answers
  pub row_kinds : w.waits.rows.kinds ≡ map row_kind w.kinds
  pub variables : (v : ℕ) → is_var w.waits v ≡ is_variable_at w v
  pub once_count : length w.onces.words ≡ length w.kinds
  pub apart : (t : ℕ) → is_busy w.waits t ≡ true → onces.call_at w.onces t ≡ None
  pub at_locks : (k : ℕ) (c : Call) → row.call_at (rows_of w) k ≡ Some c → is_once_at w c.lock ≡ false
  pub at_onces : (t : ℕ) (c : OpenCall) → onces.call_at w.onces t ≡ Some c → is_once_at w c.once ≡ true
  pub buckets : length w.onces.inside ≡ joints.buckets w.waits
  pub sections : (b : ℕ) → (joints.is_shut w.waits b ≡ false) ⊎ (slot w.onces.inside b ≡ None)

-- RUNS

-- what every world keeps: it is whole, and each of its machines fits together
pub record IsFit (w : Shown) : Type 0 where
  pub whole : IsWhole w
  pub tied : waits.IsWhole w.waits
  pub givers : GiversAreOut w.waits
  pub parts : PartsFit w.waits
  pub onces : Fits w.onces

-- the steps lead from one world to the other, one after another; none is refused, and each leaves a world that fits
-- together
abbrev pub Ran : Shown → List WorldStep → Shown → Type 0
Ran w [] v = v ≡ w
Ran w (s ∷ steps) v = (mid : Shown) × (refusal w s ≡ None) × IsMade s w mid × IsFit mid × Ran mid steps v

-- how many of n steps a run did
abbrev pub steps_done : {X : Type 0} → Result X WorldFault → ℕ → ℕ
steps_done (Ok x) n = n
steps_done (Err f) n = f.done

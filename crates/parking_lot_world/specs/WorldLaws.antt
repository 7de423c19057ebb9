-- What holds of a world at every moment, and what each of its steps is to the locks and onces of the rules.
use Rattle.std.specs.Prelude.{◌≡◌, ◌≢◌, ◌⊎◌, ℕ, ◌+◌, ◌*◌, ◌≤◌, ◌<◌, Bool, true, false, if◌then◌else◌, List, [], ◌∷◌}
use Rattle.std.specs.Prelude.{length, Option, Some, None, slice_get}
use Rattle.parking_lot_rules.specs.declared.once.once_state.OnceState.TheVariants.{Done}
use Rattle.parking_lot_rules.specs.Once.Once.{Once, Step}
use Rattle.parking_lot_machine_sides.specs.Once.OnceMachineLaws.{OnlyWaits}
use Rattle.parking_lot_machine_sides.specs.Once.OnceMachineLaws as of_onces
use Rattle.parking_lot_machine_sides.specs.Once.OnceRanks as once_ranks
use Rattle.parking_lot_machine_sides.specs.Once.OnceSteps.{HasMade}
use Rattle.parking_lot_machine_sides.specs.declared.once.open_call.OpenCall.{OpenCall}
use Rattle.parking_lot_machine_sides.specs.Once.Onces.{once_at}
use Rattle.parking_lot_machine_sides.specs.Once.Onces as onces
use Rattle.parking_lot_rules.specs.Any.{AnyLock}
use Rattle.parking_lot_rules.specs.Variable as rules
use Rattle.parking_lot_rules.specs.Variable.{Variable}
use Rattle.parking_lot_machine_sides.specs.Condvar.Machines.{State as Var, variable}
use Rattle.parking_lot_machine_sides.specs.Condvar.Steps.{Runs}
use Rattle.parking_lot_machine_waits.specs.Joint.{thread_of, var_at}
use Rattle.parking_lot_machine_waits.specs.JointProgress.{IsKeptOut, IsListed}
use Rattle.parking_lot_machine_waits.specs.JointRanks as wait_ranks
use Rattle.parking_lot_machine_waits.specs.JointSides.{is_busy}
use Rattle.parking_lot_machine_calls.specs.declared.calls.OwnMode.{OwnMode}
use Rattle.parking_lot_machine_calls.specs.declared.calls.OwnMode.TheVariants as mode
use Rattle.parking_lot_machine_calls.specs.declared.open_call.Call.{Call}
use Rattle.parking_lot_machine_calls.specs.Kinds.{AsRw, manner_of, recursive_in}
use Rattle.parking_lot_machine.specs.Rows.{first_key, second_key}
use Rattle.parking_lot_machine.specs.Rows as row
use Rattle.parking_lot_machine.specs.SoundLaws.{agrees}
use Rattle.parking_lot_machine.specs.SoundLaws as of_locks
use Rattle.parking_lot_machine.specs.Worlds.{mode_in}
use Rattle.parking_lot_world.specs.declared.step.WorldStep.{WorldStep}
use Rattle.parking_lot_world.specs.WorldCalls.{step_thread}
use Rattle.parking_lot_world.specs.Worlds.{IsFit, IsMade, Shown, is_indebted, is_once_at, is_variable_at, may_go}
use Rattle.parking_lot_world.specs.Worlds.{may_make, mode_at, queue_at, rows_of}

-- WHO CAN MOVE

abbrev pub Moves : Shown → Type 0
Moves w = (u : ℕ) × (may_go w u ≡ true)

-- Where a thread is in a call at a lock or a condition variable, somebody can move; or it waits in a variable's list,
-- for a notification or its deadline; or it sleeps, and one that is in no call at its lock keeps it. Where it is in one
-- at a once, somebody can move; or it only waits, for a closure that nobody has begun.
pub record SomebodyCanMove (w : Shown) : Type 0 where
  pub waits : (t : ℕ) → is_busy w.waits t ≡ true → Moves w ⊎ (IsListed w.waits t ⊎ IsKeptOut w.waits t)
  pub onces : (t : ℕ) (c : OpenCall) → onces.call_at w.onces t ≡ Some c → Moves w ⊎ OnlyWaits w.onces t c

-- HOW MANY STEPS ARE LEFT

-- of all threads' calls at locks, condition variables and onces, where thread t is stepped on
abbrev pub steps_left : Shown → ℕ → ℕ
steps_left w t = wait_ranks.steps_left w.waits t + once_ranks.left w.onces t

abbrev pub StepsAreFew : Shown → Type 0
StepsAreFew w = (t : ℕ) → steps_left w t ≤ wait_ranks.most_left (length w.answers) + length w.answers * once_ranks.most
    (length w.answers)

-- ALL OF IT

-- any two owners of a lock agree
abbrev pub OwnersAgree : Shown → Type 0
OwnersAgree w = (i t u : ℕ) (a b : OwnMode) → t ≢ u → mode_at w i t ≡ Some a → mode_at w i u ≡ Some b
    → agrees a b ≡ true

-- By none of their numbers does a thread own the lock, but by shared holds; and by none does one read under it, by a
-- shared hold or the upgradable one.
abbrev pub OnlyReaders : Shown → ℕ → Type 0
OnlyReaders w i = (k : ℕ) (a : OwnMode) → mode_in (row.lock_at (rows_of w) i) k ≡ Some a → a ≡ mode.Shared

abbrev pub NoReaders : Shown → ℕ → Type 0
NoReaders w i = (k : ℕ) (a : OwnMode) → mode_in (row.lock_at (rows_of w) i) k ≡ Some a → (a ≢ mode.Shared)
    × (a ≢ mode.Upgradable)

-- some thread in a call at the lock is in debt
abbrev pub SomebodyIsInDebt : Shown → ℕ → Type 0
SomebodyIsInDebt w i = (k : ℕ) × (c : Call) × (row.call_at (rows_of w) k ≡ Some c) × (c.lock ≡ i)
    × (is_indebted w (thread_of w.waits k) ≡ true)

-- a lock that is neither a once nor a condition variable
pub record IsOwned (w : Shown) (i : ℕ) : Type 0 where
  pub no_once : is_once_at w i ≡ false
  pub no_variable : is_variable_at w i ≡ false

-- Where somebody waits under a lock's first key and nobody owns the lock but by shared holds, somebody there is in
-- debt. Where the pending writer waits under the second and nobody reads, too.
pub record DebtsAreKept (w : Shown) : Type 0 where
  pub first : (i : ℕ) → IsOwned w i → 0 < length (queue_at w (first_key i)) → OnlyReaders w i → SomebodyIsInDebt w i
  pub second : (i : ℕ) → IsOwned w i → manner_of (slice_get w.waits.rows.kinds i) ≡ Some AsRw
      → 0 < length (queue_at w (second_key i)) → NoReaders w i → SomebodyIsInDebt w i

pub record IsSoundWorld (w : Shown) : Type 0 where
  pub fit : IsFit w
  pub locks : of_locks.IsSoundMachine (rows_of w)
  pub onces : of_onces.IsSoundMachine w.onces
  pub owners : OwnersAgree w
  pub debts : DebtsAreKept w
  pub moves : SomebodyCanMove w
  pub few : StepsAreFew w

-- WHAT IS DONE

abbrev pub IsDone : Shown → ℕ → Type 0
IsDone w i = (is_once_at w i ≡ true) × ((once_at w.onces i).word.state ≡ Done)

-- what is done stays done
abbrev pub DoneStays : Shown → Shown → Type 0
DoneStays w v = (i : ℕ) → IsDone w i → IsDone v i

-- WHAT A STEP IS TO A LOCK

-- a lock of the rules, or a condition variable or a once of theirs
pub data WorldLock : Type 0 where
  AsLock : AnyLock → WorldLock
  AsVariable : Variable → WorldLock
  AsOnce : Once → WorldLock

abbrev pub lock_or : Option Var → AnyLock → WorldLock
lock_or None l = AsLock l
lock_or (Some x) l = AsVariable (variable x)

abbrev pub lock_at : Shown → ℕ → WorldLock
lock_at w i = if is_once_at w i then AsOnce (once_at w.onces i) else lock_or (var_at w.waits i)
    (row.lock_at (rows_of w) i)

-- Of n threads, thread t has made these cases of a lock without a word, one after another, each by its second number or
-- its first.
abbrev pub AreCases : Bool → ℕ → ℕ → List Bool → AnyLock → AnyLock → Type 0
AreCases recursive n t [] l m = m ≡ l
AreCases recursive n t (second ∷ by) l m = (x : AnyLock) × of_locks.IsCaseAt recursive (if second then n + t else t) l x
    × AreCases recursive n t by x m

-- What a step of thread t does to a lock is cases of a lock without a word; to a condition variable or a once it is
-- steps of the rules, or nothing.
abbrev pub IsCaseAt : Bool → ℕ → ℕ → WorldLock → WorldLock → Type 0
IsCaseAt recursive n t (AsLock l) (AsLock m) = (by : List Bool) × AreCases recursive n t by l m
IsCaseAt recursive n t (AsVariable l) (AsVariable m) = (steps : List rules.Step) × Runs t steps l m
IsCaseAt recursive n t (AsOnce l) (AsOnce m) = (step : Option Step) × HasMade t step l m
IsCaseAt recursive n t l m = ⊥

-- It is that at lock i, and at variable v, and leaves every other lock, variable and once as it was. A wait or a
-- notification does something at a variable and at its mutex at once; all other steps change one of both.
pub record IsStepAt (t i v : ℕ) (w x : Shown) : Type 0 where
  pub lock : IsCaseAt (recursive_in w.waits.rows.kinds i) (length w.answers) t (lock_at w i) (lock_at x i)
  pub variable : IsCaseAt (recursive_in w.waits.rows.kinds v) (length w.answers) t (lock_at w v) (lock_at x v)
  pub elsewhere : (j : ℕ) → j ≢ i → j ≢ v → lock_at x j ≡ lock_at w j

-- So is each step that is allowed, of every world.
abbrev pub StepsAreCases : Type 0
StepsAreCases = (w x : Shown) (s : WorldStep) → IsFit w → may_make w s ≡ true → IsMade s w x → (i : ℕ) × (v : ℕ)
    × IsStepAt (step_thread s) i v w x

-- Each step of a thread's call lowers the steps that are left, where the same thread is stepped on.
abbrev pub StepsArePaid : Type 0
StepsArePaid = (w v : Shown) (t : ℕ) (fair : Bool) → IsFit w → IsFit v → IsMade (WorldStep.Go t fair) w v
    → steps_left v t + 1 ≤ steps_left w t

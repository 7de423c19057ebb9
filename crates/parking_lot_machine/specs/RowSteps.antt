-- Which steps of the rules the acts of the machine are.
use Rattle.std.specs.Prelude.{◌≡◌, ℕ, Bool, true, false, if◌then◌else◌, List, [], ◌∷◌}
use Rattle.parking_lot_rules.specs.Roles.{Mark, Owned, Stay}
use Rattle.parking_lot_rules.specs.Plain.{Leave1, Leave2, Mask1}
use Rattle.parking_lot_rules.specs.Steps.{Alone, List_changes, Take1, Take2, Store, Wake, Pass, Scan, Waking}
use Rattle.parking_lot_rules.specs.Mutex as mutex
use Rattle.parking_lot_rules.specs.Roles as rules
use Rattle.parking_lot_rules.specs.Any.{AnyStep, RwStep, MxStep, any_rules}
use Rattle.parking_lot_rules.specs.Family.{StepOf}
use Rattle.parking_lot_protocol.specs.declared.act.ActResult.{ActResult}
use Rattle.parking_lot_protocol.specs.declared.act.ActResult.TheVariants as seen
use Rattle.parking_lot_protocol.specs.MutexRules as of_mutex
use Rattle.parking_lot_protocol.specs.RwRules as of_rw
use Rattle.parking_lot_protocol_rw.specs.UpgradeMoves as of_upgrade
use Rattle.parking_lot_machine_calls.specs.Kinds.{recursive_in}
use Rattle.parking_lot_machine_calls.specs.LateRoles.{finding, quitting, reentering, resuming}
use Rattle.parking_lot_machine_calls.specs.declared.seat.LatePhase.{LatePhase}
use Rattle.parking_lot_machine_calls.specs.declared.seat.LatePhase.TheVariants as late
use Rattle.parking_lot_machine_calls.specs.declared.late_rw.LateRwPhase.{LateRwPhase}
use Rattle.parking_lot_machine_calls.specs.declared.late_rw.LateRwPhase.TheVariants as late_rw
use Rattle.parking_lot_machine_calls.specs.declared.late_rw.RwSleeper.{RwSleeper}
use Rattle.parking_lot_machine_calls.specs.declared.seat.Core.{Core}
use Rattle.parking_lot_machine_calls.specs.declared.seat.Core.TheVariants as core
use Rattle.parking_lot_machine_calls.specs.declared.open_call.Call.{Call}
use Rattle.parking_lot_machine.specs.LateActs.{unowed}
use Rattle.parking_lot_machine.specs.Rows.{State, lock_at, entered_in, family, bucket, taken_by}
use Rattle.parking_lot_machine_calls.specs.CallRoles.{first_of_all}

-- nothing of the locks changes
pub record IsQuiet (s u : State) : Type 0 where
  pub locks : (i : ℕ) → lock_at u i ≡ lock_at s i
  pub entered : (b : ℕ) → entered_in u b ≡ entered_in s b

-- thread t makes a step of the rules at lock j, and nothing changes at the others
abbrev pub IsMade : ℕ → ℕ → AnyStep → State → State → Type 0
IsMade j t step s u = StepOf (any_rules (recursive_in s.kinds)) (bucket s) j t step (family s) (family u)

-- the one where somebody is to be woken, and the other where all have gone on by themselves
abbrev pub IfAny : List ℕ → Type 0 → Type 0 → Type 0
IfAny [] some none = none
IfAny (v ∷ us) some none = some

-- and which step it is, by the move that the core's table names, of a thread that is to wake those
abbrev pub IsRwMove : of_rw.Move → List ℕ → ℕ → ℕ → State → State → Type 0
IsRwMove of_rw.Stays us j t s u = IsQuiet s u
IsRwMove (of_rw.Makes k) us j t s u = IsMade j t (RwStep (Alone k)) s u
IsRwMove (of_rw.Joins k) us j t s u = IsMade j t (RwStep (List_changes k)) s u
IsRwMove (of_rw.TakesOne mode) us j t s u = (scan : Scan) × (i v : ℕ) × (stay : Stay)
    × IsMade j t (RwStep (Take1 scan i v mode stay)) s u
IsRwMove of_rw.TakesWriter us j t s u = (owns : Owned) × (v : ℕ) × (from : Bool) × (stay : Stay)
    × IsMade j t (RwStep (Take2 owns v from stay)) s u
IsRwMove (of_rw.Tells end left) us j t s u = (scan : Scan) × IsMade j t (RwStep (Store end scan)) s u
IsRwMove of_rw.WakesOne us j t s u =
    IfAny us ((owns : Owned) × (v : ℕ) × (rest : List ℕ) × (k : Waking) × (stay : Stay)
    × IsMade j t (RwStep (Wake owns v rest k stay)) s u) (IsQuiet s u)
IsRwMove (of_rw.IsWoken k) us j t s u = ⊥

-- a release stores: the mutex is handed over or not, by whether it was
abbrev pub store_step : Bool → List ℕ → mutex.Step
store_step true (v ∷ us) = mutex.Hand v
store_step true [] = mutex.Free []
store_step false us = mutex.Free us

-- those that are woken own the mutex, or try again
abbrev pub wake_step_of : Stay → Bool → ℕ → List ℕ → mutex.Step
wake_step_of stay true v us = mutex.WakeOwner false v us stay
wake_step_of stay false v us = mutex.Wake false v us stay

abbrev pub wake_step : Bool → ℕ → List ℕ → mutex.Step
wake_step handed v us = wake_step_of rules.Asleep handed v us

abbrev pub IsMutexMove : of_mutex.Move → List ℕ → ℕ → ℕ → State → State → Type 0
IsMutexMove of_mutex.Stays us j t s u = IsQuiet s u
IsMutexMove (of_mutex.Makes k) us j t s u = IsMade j t (MxStep (mutex.Alone k)) s u
IsMutexMove of_mutex.Joins us j t s u = IsMade j t (MxStep mutex.Join) s u
IsMutexMove of_mutex.TakesOne us j t s u = (v : ℕ) × (stay : Stay) × IsMade j t (MxStep (mutex.Take v stay)) s u
IsMutexMove (of_mutex.Tells taken handed left) us j t s u = IsMade j t (MxStep (store_step handed us)) s u
IsMutexMove of_mutex.WakesOne us j t s u =
    IfAny us ((handed : Bool) × (v : ℕ) × (rest : List ℕ) × (stay : Stay)
    × IsMade j t (MxStep (wake_step_of stay handed v rest)) s u) (IsQuiet s u)
IsMutexMove (of_mutex.IsWoken handed) us j t s u = ⊥

-- One that was taken finds that out as it comes back. That is two steps of the rules, one after the other: its taker,
-- which is outside its section, drops it from those that it is to wake, and then it enters the section. Between them is
-- the machine in which nobody is to wake it.
abbrev pub IsFound : ℕ → ℕ → AnyStep → AnyStep → ℕ → State → State → Type 0
IsFound j by passing finding t s u = IsMade j by passing s (unowed s t) × IsMade j t finding (unowed s t) u

abbrev pub IsMutexFound : ℕ → ℕ → State → State → Type 0
IsMutexFound j t s u = (by : ℕ) × (mark : Mark) × (before taken : List ℕ)
    × IsFound j by (MxStep (mutex.Pass false before t taken)) (MxStep (mutex.Alone (mutex.ReenterTaken by mark))) t s u

abbrev pub IsRwFound : RwSleeper → ℕ → ℕ → State → State → Type 0
IsRwFound k j t s u = (by : ℕ) × (mark : Mark) × (owns : Owned) × (before taken : List ℕ)
    × IsFound j by (RwStep (Pass owns before t taken)) (finding k by mark) t s u

-- one that has found that it was taken leaves the section: it owns the mutex, or tries again
abbrev pub resume_step : Bool → ℕ → mutex.Plain
resume_step true by = mutex.Receive by
resume_step false by = mutex.Resume by

-- one whose moment has passed comes back, takes itself out, as the last one or as one of several, masks the parked bit
-- off, and leaves
abbrev pub IsLateMove : LatePhase → ActResult → ℕ → ℕ → State → State → Type 0
IsLateMove late.Expires seen.Entered j t s u = IsMade j t (MxStep (mutex.Alone mutex.Reenter)) s u
IsLateMove late.Quits (seen.Took token left) j t s u = (i : ℕ)
    × IsMade j t (MxStep (if left then mutex.Quit i else mutex.QuitLast i)) s u
IsLateMove late.Masks (seen.Before word) j t s u = IsMade j t (MxStep (mutex.Alone mutex.Mask)) s u
IsLateMove late.Leaves seen.Made j t s u = IsMade j t (MxStep (mutex.Alone mutex.Leave)) s u
IsLateMove late.Expires seen.Made j t s u = IsMutexFound j t s u
IsLateMove (late.WasTaken by handed) seen.Made j t s u = IsMade j t (MxStep (mutex.Alone (resume_step handed by))) s u
IsLateMove p told j t s u = ⊥

-- the same at a reader-writer lock, where a pending writer leaves the section of the second list
abbrev pub IsLateRwMove : LateRwPhase → ActResult → ℕ → ℕ → State → State → Type 0
IsLateRwMove (late_rw.Expires k) seen.Entered j t s u = IsMade j t (reentering k) s u
IsLateRwMove (late_rw.Quits k) (seen.Took token left) j t s u = (i : ℕ) × IsMade j t (quitting k left i) s u
IsLateRwMove late_rw.Masks (seen.Before word) j t s u = IsMade j t (RwStep (Alone Mask1)) s u
IsLateRwMove late_rw.Leaves seen.Made j t s u = IsMade j t (RwStep (Alone Leave1)) s u
IsLateRwMove (late_rw.LeavesPending from) seen.Made j t s u = IsMade j t (RwStep (Alone (Leave2 from))) s u
IsLateRwMove (late_rw.Expires k) seen.Made j t s u = IsRwFound k j t s u
IsLateRwMove (late_rw.WasTaken k by handed) seen.Made j t s u = IsMade j t (resuming k by handed) s u
IsLateRwMove p told j t s u = ⊥

-- A thread in a call at lock j is told this, and the machine's step is the one that the core's table names.
abbrev pub IsMoveOf : Core → ℕ → List ℕ → ActResult → ℕ → ℕ → State → State → Type 0
IsMoveOf (core.Rw c) n us told j t s u = IsRwMove (of_rw.move n us c.phase told) us j t s u
IsMoveOf (core.Mutex c) n us told j t s u = IsMutexMove (of_mutex.move (first_of_all us) c.phase told) us j t s u
IsMoveOf (core.Late p) n us told j t s u = IsLateMove p told j t s u
IsMoveOf (core.LateRw p) n us told j t s u = IsLateRwMove p told j t s u
IsMoveOf (core.Upgrade c) n us told j t s u = IsRwMove (of_upgrade.move n us c.phase told) us j t s u

abbrev pub Goes : ℕ → Call → ActResult → State → State → Type 0
Goes t c told s u = IsMoveOf c.core c.others (taken_by s.wakes t) told c.lock t s u

-- and where the call ends
abbrev pub IsLastOf : Core → ℕ → ℕ → ℕ → State → State → Type 0
IsLastOf (core.Rw c) n j t s u = IsRwMove (of_rw.last_move n c.phase) [] j t s u
IsLastOf (core.Mutex c) n j t s u = IsMutexMove (of_mutex.last_move c.phase) [] j t s u
IsLastOf (core.Late p) n j t s u = IsQuiet s u
IsLastOf (core.LateRw p) n j t s u = IsQuiet s u
IsLastOf (core.Upgrade c) n j t s u = IsRwMove (of_upgrade.last_move n c.phase) [] j t s u

abbrev pub GoesAway : ℕ → Call → State → State → Type 0
GoesAway t c s u = IsLastOf c.core c.others c.lock t s u

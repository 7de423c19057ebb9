-- Which step of the rules each answer to such a core is, and in which role its thread is.
use Rattle.std.specs.Prelude.{◌≡◌, ℕ, ◌==◌, Bool, false, if◌then◌else◌}
use Rattle.parking_lot_rules.specs.Roles.{Late, Back}
use Rattle.parking_lot_rules.specs.Mutex as rules
use Rattle.parking_lot_protocol.specs.MutexRules as mutex
use Rattle.parking_lot_protocol.specs.Positions.{QueuePosition, Listed, Off}
use Rattle.parking_lot_protocol.specs.declared.timed.timed_act.TimedAct.{TimedAct}
use Rattle.parking_lot_protocol.specs.declared.timed.timed_act.TimedAct.TheVariants as act
use Rattle.parking_lot_protocol.specs.declared.timed.timed_act.TimedSeen.{TimedSeen}
use Rattle.parking_lot_protocol.specs.declared.timed.timed_act.TimedSeen.TheVariants.{Plain, Quit, WasTaken}
use Rattle.parking_lot_protocol.specs.declared.timed.timed_core.TimedMutexPhase.{TimedMutexPhase}
use Rattle.parking_lot_protocol.specs.declared.timed.timed_core.TimedMutexPhase.TheVariants.{Asks, Expires, Quits}
use Rattle.parking_lot_protocol.specs.declared.timed.timed_core.TimedMutexPhase.TheVariants.{Masks, Leaves, GivesUp}
use Rattle.parking_lot_protocol.specs.declared.timed.timed_core.TimedMutexPhase.TheVariants.{Resumes}
use Rattle.parking_lot_protocol.specs.Timed.TimedTable.{act_of, next_phase, word_after, Gives}

-- one whose moment has passed, where it stands: still in the list, or off it
abbrev pub late : QueuePosition → rules.Phase
late Listed = rules.Queued Late
late (Off by mark) = rules.Taken by mark Late

-- and back in the section
abbrev pub back : QueuePosition → rules.Phase
back Listed = rules.Queued Back
back (Off by mark) = rules.Taken by mark Back

-- What a thread is doing in each phase, in the words of the rules.
abbrev pub does : QueuePosition → ℕ → TimedMutexPhase → rules.Phase
does spot v (Asks core) = mutex.does spot v core.phase
does spot v Expires = late spot
does spot v Quits = back spot
does spot v Masks = rules.Masks
does spot v Leaves = rules.Leaves
does spot v GivesUp = rules.Idle
does spot v (Resumes token) = back spot

abbrev pub owns : TimedMutexPhase → Bool
owns (Asks core) = mutex.owns core.phase
owns phase = false

abbrev pub role : QueuePosition → ℕ → TimedMutexPhase → rules.Role
role spot v p = record { owns = owns p; does = does spot v p }

-- What an answer to such a core is, as a step of the rules.
pub data Move : Type 0 where
  -- as an answer to a call that waits
  Asking : (move : mutex.Move) → Move
  -- its moment passes, and it enters the section, both wherever it stands
  Expiring : Move
  Reentering : Move
  -- it takes itself off the list, as the last one there or as one of several; or finds that another has taken it
  Quitting : (last : Bool) → Move
  FindingItselfTaken : (handed : Bool) → Move
  -- its own steps, off the list
  Making : (k : rules.Plain) → Move
  -- it goes on as one that another had taken, and handed the mutex over or not
  Resuming : (handed : Bool) → Move

-- THE TABLE: WHICH STEP IT IS, BY PHASE AND ANSWER

abbrev pub move : ℕ → TimedMutexPhase → TimedSeen → Move
move v (Asks core) (Plain seen) = Asking (mutex.move v core.phase seen)
move v (Asks core) seen = Expiring
move v Expires seen = Reentering
move v Quits (WasTaken token) = FindingItselfTaken (token.0 == 1)
move v Quits (Quit last) = Quitting last
move v Quits seen = Asking mutex.Stays
move v Masks seen = Making rules.Mask
move v Leaves seen = Making rules.Leave
move v (Resumes token) seen = Resuming (token.0 == 1)
move v GivesUp seen = Asking mutex.Stays

-- the step by which a moment passes, and by which the section is entered
abbrev pub expire : QueuePosition → rules.Plain
expire Listed = rules.Expire
expire (Off by mark) = rules.ExpireTaken by mark

abbrev pub reenter : QueuePosition → rules.Plain
reenter Listed = rules.Reenter
reenter (Off by mark) = rules.ReenterTaken by mark

-- the step by which one that was taken goes on
abbrev pub resume : ℕ → Bool → rules.Plain
resume by handed = if handed then rules.Receive by else rules.Resume by

-- The move leads from phase p to phase q, at word w, and leaves that number as the word.
abbrev pub IsMove : Move → ℕ → TimedMutexPhase → TimedMutexPhase → rules.Word → ℕ → Type 0
IsMove (Asking m) v (Asks old) (Asks new) w word = mutex.IsMove m v old.phase new.phase w word
IsMove (Asking m) v p q w word = ⊥
IsMove Expiring v p q w word = (spot : QueuePosition) → mutex.IsPlain (expire spot) (role spot v p) (role spot v q) w
    word
IsMove Reentering v p q w word = (spot : QueuePosition) → mutex.IsPlain (reenter spot) (role spot v p) (role spot v q) w
    word
IsMove (Quitting last) v p q w word =
    mutex.Keeps (role Listed v p) (rules.doing (rules.Queued Back)) (role Listed v q)
    (if last then rules.doing rules.Masks else rules.doing rules.Leaves) w word
IsMove (FindingItselfTaken handed) v p q w word = (by : ℕ) → let here = Off by (mutex.mark_of handed) in
    mutex.Keeps (role here v p) (rules.doing (rules.Taken by (mutex.mark_of handed) Back)) (role here v q)
    (rules.doing (rules.Taken by (mutex.mark_of handed) Back)) w word
IsMove (Making k) v p q w word = mutex.IsPlain k (role Listed v p) (role Listed v q) w word
IsMove (Resuming handed) v p q w word = (by : ℕ)
    → mutex.IsPlain (resume by handed) (role (Off by (mutex.mark_of handed)) v p) (role Listed v q) w word

-- what a core may be told at a word: that it begins, or what its act gives
abbrev pub IsTold : TimedMutexPhase → ℕ → TimedSeen → Type 0
IsTold (Asks core) word (Plain seen) = mutex.IsTold core.phase word seen
IsTold p word seen = Gives (act_of p) word seen

-- What a core is told at a word is a step of the rules, of the kind that the table says.
abbrev pub Follows : TimedMutexPhase → TimedSeen → Type 0
Follows p s = (w : rules.Word) (v : ℕ) → mutex.IsWord w → IsTold p (rules.number w) s
    → IsMove (move v p s) v p (next_phase p s) w (word_after (act_of p) s (rules.number w))

-- The end of a call is that of one that waits; or it has given up: then it owns nothing, and does nothing at the mutex
-- any more.
abbrev pub EndsRightly : TimedMutexPhase → TimedAct → Type 0
EndsRightly (Asks core) (act.Makes act) = mutex.Ended core.phase act
EndsRightly p act.GivesUp = (spot : QueuePosition) (v : ℕ) → role spot v p ≡ rules.away
EndsRightly p act = Unit {0}

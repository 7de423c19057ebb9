-- Which step of the rules each answer to such a core is, and in which role its thread is.
use Rattle.std.specs.Prelude.{◌≡◌, ◌<◌, ℕ, ◌-◌, ◌^◌, ◌==◌, Bool, true, false, List, Option, Some, None}
use Rattle.parking_lot_rules.specs.Roles.{Mode, Mark, Normal, Handed, Stay, Late, Back, Owned, Shares, Role}
use Rattle.parking_lot_rules.specs.Roles as rules
use Rattle.parking_lot_rules.specs.Clauses.{Word, IsWord, number}
use Rattle.parking_lot_rules.specs.Plain.{Plain}
use Rattle.parking_lot_rules.specs.Plain as plain
use Rattle.parking_lot_rules.specs.Steps.{Listing, Quit1, QuitLast1, Quit2, listing_from, listing_to}
use Rattle.parking_lot_protocol.specs.Positions.{QueuePosition, Listed, Off}
use Rattle.parking_lot_protocol.specs.RwRules as rw
use Rattle.parking_lot_protocol.specs.RwRules.{IsPlain, mode_of}
use Rattle.parking_lot_protocol.specs.MutexRules.{mark_of}
use Rattle.parking_lot_protocol.specs.declared.rw_phase.RwPhase.{RwPhase}
use Rattle.parking_lot_protocol.specs.declared.rw_phase.RwPhase.TheVariants.{Sleeps, DrainSleeps}
use Rattle.parking_lot_protocol.specs.Timed.TimedTable.{Gives}
use Rattle.parking_lot_protocol.specs.declared.timed.timed_act.TimedAct.{TimedAct}
use Rattle.parking_lot_protocol.specs.declared.timed.timed_act.TimedAct.TheVariants as act
use Rattle.parking_lot_protocol.specs.declared.timed.timed_act.TimedSeen.{TimedSeen}
use Rattle.parking_lot_protocol.specs.declared.timed.timed_act.TimedSeen.TheVariants as seen
use Rattle.parking_lot_protocol_rw.specs.UpgradeMoves as upgrades
use Rattle.parking_lot_protocol_rw.specs.UpgradeRoles as roles
use Rattle.parking_lot_protocol_rw.specs.UpgradeRules as calls
use Rattle.parking_lot_protocol_rw.specs.declared.upgrade_phase.UpgradePhase.{UpgradePhase}
use Rattle.parking_lot_protocol_rw.specs.declared.upgrade_phase.UpgradePhase.TheVariants as call
use Rattle.parking_lot_protocol_rw.specs.Timed.TimedTable.{act_of, next_phase, word_after}
use Rattle.parking_lot_protocol_rw.specs.declared.timed.timed_phase.TimedRwPhase.{TimedRwPhase}
use Rattle.parking_lot_protocol_rw.specs.declared.timed.timed_phase.TimedRwPhase.TheVariants.{Asks, Expires, Quits}
use Rattle.parking_lot_protocol_rw.specs.declared.timed.timed_phase.TimedRwPhase.TheVariants.{Masks, Leaves, GivesUp}
use Rattle.parking_lot_protocol_rw.specs.declared.timed.timed_phase.TimedRwPhase.TheVariants.{LeavesPending, Resumes}

-- WHAT A THREAD IS DOING

-- one that sleeps waits for a mode, or until the readers have left
pub data Waiter : Type 0 where
  For : (mode : Mode) → Waiter
  Pending : (from : Bool) → Waiter

abbrev pub inner_waiter : Bool → RwPhase → Option Waiter
inner_waiter from (Sleeps want) = Some (For (mode_of want))
inner_waiter from (DrainSleeps rounds) = Some (Pending from)
inner_waiter from phase = None

abbrev pub asks_upgradable : RwPhase → Option Waiter
asks_upgradable (Sleeps want) = Some (For rules.Upgradable)
asks_upgradable phase = None

abbrev pub waiter_of : UpgradePhase → Option Waiter
waiter_of (call.Plain core) = inner_waiter false core.phase
waiter_of (call.Seeks core) = asks_upgradable core.phase
waiter_of (call.Drains core) = inner_waiter true core.phase
waiter_of phase = None

-- where it is, in its list or off it
abbrev pub standing : Stay → Waiter → QueuePosition → rules.Phase
standing stay (For mode) Listed = rules.Queued1 mode stay
standing stay (For mode) (Off by mark) = rules.Taken1 mode by mark stay
standing stay (Pending from) Listed = rules.Queued2 from stay
standing stay (Pending from) (Off by mark) = rules.Taken2 from by stay

abbrev pub stands : Stay → Option Waiter → QueuePosition → rules.Phase
stands stay (Some who) spot = standing stay who spot
stands stay None spot = rules.Idle

abbrev pub owns : ℕ → TimedRwPhase → Owned
owns n (Asks core) = roles.owns n core.phase
owns n phase = Shares 0

-- What a thread is doing in each phase, in the words of the rules. us: whom it has taken and is to wake.
abbrev pub does : QueuePosition → List ℕ → TimedRwPhase → rules.Phase
does spot us (Asks core) = roles.does spot us core.phase
does spot us (Expires core) = stands Late (waiter_of core.phase) spot
does spot us (Quits core) = stands Back (waiter_of core.phase) spot
does spot us Masks = rules.Masks1
does spot us Leaves = rules.Leaves1
does spot us GivesUp = rules.Idle
does spot us (LeavesPending from) = rules.Leaves2 from
does spot us (Resumes core token) = stands Back (waiter_of core.phase) spot

abbrev pub role : ℕ → QueuePosition → List ℕ → TimedRwPhase → Role
role n spot us p = record { owns = owns n p; does = does spot us p }

-- WHAT AN ANSWER IS

pub data Move : Type 0 where
  -- as an answer to a call that waits
  Asking : (move : rw.Move) → Move
  -- its moment passes, and it enters the section, both wherever it stands
  Expiring : (who : Waiter) → Move
  Reentering : (who : Waiter) → Move
  -- it takes itself off its list, as the last one there or as one of several; or finds that another has taken it
  Quitting : (who : Waiter) → (last : Bool) → Move
  FindingItselfTaken : (who : Waiter) → Move
  -- its own steps, off the list
  Making : (k : Plain) → Move
  -- it goes on as one that another had taken, and handed the lock over or not
  Resuming : (who : Waiter) → (handed : Bool) → Move

abbrev pub by_waiter : Option Waiter → (Waiter → Move) → Move
by_waiter (Some who) f = f who
by_waiter None f = Asking rw.Stays

-- THE TABLE: WHICH STEP IT IS, BY PHASE AND ANSWER

abbrev pub move : ℕ → List ℕ → TimedRwPhase → TimedSeen → Move
move n us (Asks core) (seen.Plain s) = Asking (upgrades.move n us core.phase s)
move n us (Asks core) s = by_waiter (waiter_of core.phase) Expiring
move n us (Expires core) s = by_waiter (waiter_of core.phase) Reentering
move n us (Quits core) (seen.Quit last) = by_waiter (waiter_of core.phase) (λ who. Quitting who last)
move n us (Quits core) s = by_waiter (waiter_of core.phase) FindingItselfTaken
move n us Masks s = Making plain.Mask1
move n us Leaves s = Making plain.Leave1
move n us GivesUp s = Asking rw.Stays
move n us (LeavesPending from) s = Making (plain.Leave2 from)
move n us (Resumes core token) s = by_waiter (waiter_of core.phase) (λ who. Resuming who (token.0 == 1))

-- the step by which a moment passes, and by which the section is entered
abbrev pub expire : Waiter → QueuePosition → Plain
expire (For mode) Listed = plain.Expire1 mode
expire (For mode) (Off by mark) = plain.ExpireTaken1 mode by mark
expire (Pending from) Listed = plain.Expire2 from
expire (Pending from) (Off by mark) = plain.ExpireTaken2 from by

abbrev pub reenter : Waiter → QueuePosition → Plain
reenter (For mode) Listed = plain.Reenter1 mode
reenter (For mode) (Off by mark) = plain.ReenterTaken1 mode by mark
reenter (Pending from) Listed = plain.Reenter2 from
reenter (Pending from) (Off by mark) = plain.ReenterTaken2 from by

-- by which it leaves its list, from the i-th place
abbrev pub quit : Waiter → Bool → ℕ → Listing
quit (For mode) true i = QuitLast1 mode i
quit (For mode) false i = Quit1 mode i
quit (Pending from) last i = Quit2 from i

-- by which one that was taken goes on
abbrev pub resume : Waiter → ℕ → Bool → Plain
resume (For mode) by false = plain.Resume1 mode by
resume (For rules.Shared) by true = plain.ReceiveShared by
resume (For rules.Exclusive) by true = plain.ReceivePending by
resume (For rules.Upgradable) by true = plain.ReceiveUpgradable by
resume (Pending from) by handed = plain.Resume2 from by

-- The move leads from phase p to phase q, at word w, and leaves that number as the word.
abbrev pub IsMove : Bool → Move → ℕ → List ℕ → TimedRwPhase → TimedRwPhase → Word → ℕ → Type 0
IsMove recursive (Asking m) n us (Asks old) (Asks new) w word = upgrades.IsMove recursive m n us old.phase new.phase w
    word
IsMove recursive (Asking m) n us p q w word = ⊥
IsMove recursive (Expiring who) n us p q w word = (spot : QueuePosition)
    → IsPlain recursive (expire who spot) (role n spot us p) (role n spot us q) w word
IsMove recursive (Reentering who) n us p q w word = (spot : QueuePosition)
    → IsPlain recursive (reenter who spot) (role n spot us p) (role n spot us q) w word
IsMove recursive (Quitting who last) n us p q w word =
    (i : ℕ) → (role n Listed us p ≡ listing_from (quit who last i))
    × (role n Listed us q ≡ listing_to (quit who last i)) × (word ≡ number w)
IsMove recursive (FindingItselfTaken who) n us p q w word =
    (by : ℕ) (mark : Mark)
    → (role n (Off by mark) us p ≡ record { owns = Shares 0; does = standing Back who (Off by mark) })
    × (role n (Off by mark) us q ≡ role n (Off by mark) us p) × (word ≡ number w)
IsMove recursive (Making k) n us p q w word = IsPlain recursive k (role n Listed us p) (role n Listed us q) w word
IsMove recursive (Resuming who handed) n us p q w word =
    (by : ℕ) → IsPlain recursive (resume who by handed) (role n (Off by (mark_of handed)) us p) (role n Listed us q) w
    word

-- one that sleeps
abbrev pub IsAsleep : Option Waiter → Type 0
IsAsleep (Some who) = Unit {0}
IsAsleep None = ⊥

-- what holds of a phase by itself
abbrev pub IsReady : TimedRwPhase → Type 0
IsReady (Asks core) = calls.IsReady core.phase
IsReady (Expires core) = calls.IsReady core.phase × IsAsleep (waiter_of core.phase)
IsReady (Quits core) = calls.IsReady core.phase × IsAsleep (waiter_of core.phase)
IsReady (Resumes core token) = calls.IsReady core.phase × IsAsleep (waiter_of core.phase)
IsReady phase = Unit {0}

-- what it owns and has taken fits the phase and the word
abbrev pub Fits : Bool → ℕ → List ℕ → TimedRwPhase → Word → Type 0
Fits recursive n us (Asks core) w = calls.Fits recursive n us core.phase w
Fits recursive n us (Resumes core token) w = n ≡ 0
Fits recursive n us phase w = Unit {0}

-- what a core may be told at a word: that it begins, or what its act gives
abbrev pub IsTold : TimedRwPhase → ℕ → TimedSeen → Type 0
IsTold (Asks core) word (seen.Plain s) = calls.IsTold core.phase word s
IsTold p word s = Gives (act_of p) word s

-- What a core is told at a word, at which one reader more can be counted, is a step of the rules, of the kind that the
-- table says; and the phase that follows is ready again.
abbrev pub Follows : TimedRwPhase → TimedSeen → Type 0
Follows p s = (recursive : Bool) (n : ℕ) (us : List ℕ) (w : Word) → IsReady p → IsWord w → w.readers < 2 ^ 60 - 1
    → Fits recursive n us p w → IsTold p (number w) s
    → IsMove recursive (move n us p s) n us p (next_phase p s) w (word_after (act_of p) s (number w))
    × IsReady (next_phase p s)

-- The end of a call is that of one that waits; or it has given up on the first list: then it owns nothing, and does
-- nothing at the lock any more.
abbrev pub EndsRightly : TimedRwPhase → TimedAct → Type 0
EndsRightly (Asks core) last = calls.Ended core.phase
EndsRightly p act.GivesUp = (n : ℕ) (spot : QueuePosition) (us : List ℕ) → role n spot us p ≡ rules.away
EndsRightly p last = Unit {0}

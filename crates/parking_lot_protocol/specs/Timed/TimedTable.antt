-- A mutex's call that may give up: the act that each phase has asked for, and the phase that follows what it gives.
use Rattle.std.specs.Prelude.{ℕ, ◌-◌, ◌^◌, Bool, true, false, if◌then◌else◌, bit_and}
use Rattle.parking_lot_protocol.specs.declared.act.Act.TheVariants.{Sleep}
use Rattle.parking_lot_protocol.specs.declared.act.ActResult.TheVariants.{Woken}
use Rattle.parking_lot_protocol.specs.declared.mutex_phase.MutexPhase.{MutexPhase}
use Rattle.parking_lot_protocol.specs.declared.mutex_phase.MutexPhase.TheVariants as plain
use Rattle.parking_lot_protocol.specs.Acts as acts
use Rattle.parking_lot_protocol.specs.MutexTable as mutex
use Rattle.parking_lot_protocol.specs.declared.timed.timed_act.TimedAct.{TimedAct}
use Rattle.parking_lot_protocol.specs.declared.timed.timed_act.TimedAct.TheVariants as act
use Rattle.parking_lot_protocol.specs.declared.timed.timed_act.TimedSeen.{TimedSeen}
use Rattle.parking_lot_protocol.specs.declared.timed.timed_act.TimedSeen.TheVariants.{Plain, Expired, Reentered, Quit}
use Rattle.parking_lot_protocol.specs.declared.timed.timed_act.TimedSeen.TheVariants.{WasTaken, Masked, Left}
use Rattle.parking_lot_protocol.specs.declared.timed.timed_core.TimedMutexCore.{TimedMutexCore}
use Rattle.parking_lot_protocol.specs.declared.timed.timed_core.TimedMutexPhase.{TimedMutexPhase}
use Rattle.parking_lot_protocol.specs.declared.timed.timed_core.TimedMutexPhase.TheVariants.{Asks, Expires, Quits}
use Rattle.parking_lot_protocol.specs.declared.timed.timed_core.TimedMutexPhase.TheVariants.{Masks, Leaves, GivesUp}
use Rattle.parking_lot_protocol.specs.declared.timed.timed_core.TimedMutexPhase.TheVariants.{Resumes}

-- the act that a phase has asked for
abbrev pub act_of : TimedMutexPhase → TimedAct
act_of (Asks core) = act.Makes (mutex.act_of core.phase)
act_of Expires = act.Reenters
act_of Quits = act.TakesItself
act_of Masks = act.Masks
act_of Leaves = act.Leaves
act_of GivesUp = act.GivesUp
act_of (Resumes token) = act.Leaves

-- a call that waits and stands there
abbrev pub asking : MutexPhase → TimedMutexPhase
asking phase = Asks (record { phase = phase })

-- whether it sleeps
abbrev pub is_asleep : MutexPhase → Bool
is_asleep plain.Sleeps = true
is_asleep phase = false

-- The phase that follows what the act of this one gave. What doesn't fit leads astray.
abbrev pub next_phase : TimedMutexPhase → TimedSeen → TimedMutexPhase
next_phase (Asks core) (Plain seen) = asking (mutex.next_phase core.phase seen)
next_phase (Asks core) Expired = (if is_asleep core.phase then Expires else asking plain.Invalid)
next_phase Expires Reentered = Quits
next_phase Quits (Quit last) = (if last then Masks else Leaves)
next_phase Quits (WasTaken token) = Resumes token
next_phase Masks Masked = Leaves
next_phase Leaves Left = GivesUp
next_phase (Resumes token) Left = asking (mutex.next_phase plain.Sleeps (Woken token))
next_phase phase seen = asking plain.Invalid

-- what an act can give at a word
abbrev pub Gives : TimedAct → ℕ → TimedSeen → Type 0
Gives (act.Makes act) word (Plain seen) = acts.Gives act word seen
Gives (act.Makes Sleep) word Expired = Unit {0}
Gives act.Reenters word Reentered = Unit {0}
Gives act.TakesItself word (Quit last) = Unit {0}
Gives act.TakesItself word (WasTaken token) = Unit {0}
Gives act.Masks word Masked = Unit {0}
Gives act.Leaves word Left = Unit {0}
Gives act word seen = ⊥

-- the word after an act that gave this
abbrev pub word_after : TimedAct → TimedSeen → ℕ → ℕ
word_after (act.Makes act) (Plain seen) word = acts.word_after act seen word
word_after act.Masks Masked word = bit_and word (2 ^ 64 - 3)
word_after act seen word = word

-- a core that was told so much more, and the act that one has asked for
abbrev pub timed_told : TimedMutexCore → TimedSeen → TimedMutexCore
timed_told core seen = record core { phase = next_phase core.phase seen }

abbrev pub timed_asks : TimedMutexCore → TimedAct
timed_asks core = act_of core.phase

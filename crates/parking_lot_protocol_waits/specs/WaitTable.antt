-- A wait on a condition variable: the act that each phase has asked for, and the phase that follows what it gives.
use Rattle.std.specs.Prelude.{◌≡◌, ℕ, ◌+◌, ◌%◌, ◌^◌, ◌==◌, ◌||◌, true, false, if◌then◌else◌}
use Rattle.parking_lot_core_model.specs.declared.parking.UnparkToken.{UnparkToken}
use Rattle.parking_lot_protocol_waits.specs.declared.wait_act.WaitAct.{WaitAct}
use Rattle.parking_lot_protocol_waits.specs.declared.wait_act.WaitAct.TheVariants as act
use Rattle.parking_lot_protocol_waits.specs.declared.wait_act.WaitAnswer.TheVariants as answer
use Rattle.parking_lot_protocol_waits.specs.declared.wait_act.WaitSeen.{WaitSeen}
use Rattle.parking_lot_protocol_waits.specs.declared.wait_act.WaitSeen.TheVariants.{Start, Word, Made, Woken, Expired}
use Rattle.parking_lot_protocol_waits.specs.declared.wait_act.WaitSeen.TheVariants.{Quit, WasTaken}
use Rattle.parking_lot_protocol_waits.specs.declared.wait_core.WaitCore.{WaitCore}
use Rattle.parking_lot_protocol_waits.specs.declared.wait_core.WaitPhase.{WaitPhase}
use Rattle.parking_lot_protocol_waits.specs.declared.wait_core.WaitPhase.TheVariants.{Waiting, Stranger, GivingWay}
use Rattle.parking_lot_protocol_waits.specs.declared.wait_core.WaitPhase.TheVariants.{Looks, Enters, Checks, Retreats}
use Rattle.parking_lot_protocol_waits.specs.declared.wait_core.WaitPhase.TheVariants.{Appends, Shows, Rests, Unlocks}
use Rattle.parking_lot_protocol_waits.specs.declared.wait_core.WaitPhase.TheVariants.{Sleeps, Expires, Quits, Forgets}
use Rattle.parking_lot_protocol_waits.specs.declared.wait_core.WaitPhase.TheVariants.{Masks, Leaves, Resumes, Yields}
use Rattle.parking_lot_protocol_waits.specs.declared.wait_core.WaitPhase.TheVariants.{Locks, Ends, Invalid}

-- the word that shows a mutex
abbrev pub shown_by : ℕ → ℕ
shown_by mutex = (mutex + 1) % 2 ^ 64

-- the act that a phase has asked for
abbrev pub act_of : WaitPhase → WaitAct
act_of (Waiting mutex) = act.Nothing
act_of Stranger = act.Nothing
act_of GivingWay = act.Nothing
act_of Looks = act.Load
act_of (Enters mutex) = act.Enter
act_of (Checks mutex) = act.Check
act_of Retreats = act.Leave
act_of (Appends mutex) = act.Append
act_of (Shows mutex) = act.Show (shown_by mutex)
act_of (Rests mutex) = act.Leave
act_of (Unlocks mutex) = act.UnlocksMutex
act_of (Sleeps mutex) = act.Sleep
act_of (Expires mutex) = act.Reenters
act_of (Quits mutex) = act.TakesItself
act_of Forgets = act.Forgets
act_of Masks = act.MasksMutex
act_of (Leaves timed_out) = act.Leave
act_of (Resumes token) = act.Leave
act_of Yields = act.UnlocksMutex
act_of (Locks timed_out) = act.LocksMutex
act_of (Ends answer) = act.Done answer
act_of Invalid = act.Nothing

-- one that is woken owns the mutex where it was handed over, and else waits for it
abbrev pub begins_again : UnparkToken → WaitPhase
begins_again token = (if token.0 == 1 then Ends answer.Woken else Locks false)

-- The phase that follows what the act of this one gave. What doesn't fit leads astray.
abbrev pub next_phase : WaitPhase → WaitSeen → WaitPhase
next_phase (Waiting mutex) Start = Enters mutex
next_phase Stranger Start = Looks
next_phase GivingWay Start = Yields
next_phase Looks (Word word) = (if word == 0 then Ends answer.WrongLot else Ends answer.WrongMutex)
next_phase (Enters mutex) Made = Checks mutex
next_phase (Checks mutex) (Word word) = (if (word == 0) || (word == shown_by mutex) then Appends mutex else Retreats)
next_phase Retreats Made = Ends answer.WrongMutex
next_phase (Appends mutex) Made = Shows mutex
next_phase (Shows mutex) Made = Rests mutex
next_phase (Rests mutex) Made = Unlocks mutex
next_phase (Unlocks mutex) Made = Sleeps mutex
next_phase (Sleeps mutex) (Woken token) = begins_again token
next_phase (Sleeps mutex) Expired = Expires mutex
next_phase (Expires mutex) Made = Quits mutex
next_phase (Quits mutex) (Quit here last) = (if last then (if here then Forgets else Masks) else Leaves here)
next_phase (Quits mutex) (WasTaken token) = Resumes token
next_phase Forgets Made = Leaves true
next_phase Masks Made = Leaves false
next_phase (Leaves timed_out) Made = Locks timed_out
next_phase (Resumes token) Made = begins_again token
next_phase Yields Made = Locks false
next_phase (Locks timed_out) Made = (if timed_out then Ends answer.TimedOut else Ends answer.Woken)
next_phase phase seen = Invalid

-- what an act can give at a word of the variable
abbrev pub Gives : WaitAct → ℕ → WaitSeen → Type 0
Gives act.Load word (Word seen) = seen ≡ word
Gives act.Check word (Word seen) = seen ≡ word
Gives act.Enter word Made = Unit {0}
Gives act.Leave word Made = Unit {0}
Gives act.Append word Made = Unit {0}
Gives (act.Show shown) word Made = Unit {0}
Gives act.UnlocksMutex word Made = Unit {0}
Gives act.LocksMutex word Made = Unit {0}
Gives act.Sleep word (Woken token) = Unit {0}
Gives act.Sleep word Expired = Unit {0}
Gives act.Reenters word Made = Unit {0}
Gives act.TakesItself word (Quit here last) = Unit {0}
Gives act.TakesItself word (WasTaken token) = Unit {0}
Gives act.Forgets word Made = Unit {0}
Gives act.MasksMutex word Made = Unit {0}
Gives act word seen = ⊥

-- the word of the variable after an act that gave this
abbrev pub word_after : WaitAct → WaitSeen → ℕ → ℕ
word_after (act.Show shown) Made word = shown
word_after act.Forgets Made word = 0
word_after act seen word = word

-- a core that was told so much more, and the act that one has asked for
abbrev pub wait_told : WaitCore → WaitSeen → WaitCore
wait_told core seen = record core { phase = next_phase core.phase seen }

abbrev pub wait_asks : WaitCore → WaitAct
wait_asks core = act_of core.phase

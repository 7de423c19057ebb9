-- Where the right to a mutex is in each phase of a call, and what an act may do to that.
use Rattle.std.specs.Prelude.{◌≡◌, ◌⊎◌, ℕ, Bool}
use Rattle.lock_word.specs.Owning.{then_owned}
use Rattle.parking_lot_protocol.specs.declared.act.Act.{Act}
use Rattle.parking_lot_protocol.specs.declared.act.Act.TheVariants as act
use Rattle.parking_lot_protocol.specs.declared.act.ActResult.TheVariants.{Exchanged, Made}
use Rattle.parking_lot_protocol.specs.declared.act.CoreAnswer.{CoreAnswer}
use Rattle.parking_lot_protocol.specs.declared.act.CoreAnswer.TheVariants.{Owned, Refused, Released}
use Rattle.parking_lot_protocol.specs.declared.mutex_phase.MutexPhase.{MutexPhase}
use Rattle.parking_lot_protocol.specs.declared.mutex_phase.MutexPhase.TheVariants as phase
use Rattle.parking_lot_protocol.specs.MutexTable.{act_of, next_phase}

abbrev pub owned_at_end : CoreAnswer → ℕ
owned_at_end Owned = 1
owned_at_end Refused = 0
owned_at_end Released = 0

-- Whether the caller has the right in hand. A call that gives the lock up has it until its exchange is won, or until it
-- enters the section in which it stores: it is left there for whoever is to own the lock next. A call that asks has it
-- once it is over. One that hasn't begun asks for nothing.
abbrev pub in_hand : MutexPhase → ℕ
in_hand phase.Locking = 0
in_hand phase.Trying = 0
in_hand (phase.Unlocking fair) = 0
in_hand phase.Bumping = 0
in_hand (phase.Loads asking) = 0
in_hand (phase.Locks asking waiters) = 0
in_hand (phase.Spins asking) = 0
in_hand (phase.Parks asking) = 0
in_hand (phase.Enters woken) = 0
in_hand (phase.Checks woken) = 0
in_hand (phase.Retreats woken) = 0
in_hand phase.Appends = 0
in_hand phase.Rests = 0
in_hand phase.Sleeps = 0
in_hand phase.TryLoads = 0
in_hand (phase.TryLocks waiters left) = 0
in_hand phase.Refuses = 0
in_hand phase.BumpLoads = 1
in_hand phase.Relocks = 0
in_hand (phase.Unlocks giving) = 1
in_hand (phase.Looks giving) = 1
in_hand (phase.Takes giving) = 0
in_hand (phase.Stores giving taken left) = 0
in_hand (phase.Leaves giving taken handed) = 0
in_hand (phase.Wakes giving) = 0
in_hand (phase.Finishes giving) = 0
in_hand (phase.Ends answer) = owned_at_end answer
in_hand phase.Invalid = 0

-- whether a call that asks for this is over and owns the lock
abbrev pub owned_by : Act → ℕ
owned_by (act.Done answer) = owned_at_end answer
owned_by a = 0

-- The right is in hand exactly where the call is over and owns the lock: so it is in a section, and after it.
abbrev pub IsOwnedAtEnd : MutexPhase → Type 0
IsOwnedAtEnd p = in_hand p ≡ owned_by (act_of p)

-- What an act does to what is in hand: an exchange takes the right with bit 0, and in a section nothing is in hand.
abbrev pub KeepsHand : Act → MutexPhase → Type 0
KeepsHand (act.Exchange from to) p = in_hand (next_phase p Exchanged) ≡ then_owned (in_hand p) from to
KeepsHand (act.Section inside) p = (in_hand p ≡ 0) × (in_hand (next_phase p Made) ≡ 0)
KeepsHand a p = Unit {0}

-- a try that is under way, or was refused
abbrev pub IsTrying : MutexPhase → Type 0
IsTrying p = (p ≡ phase.TryLoads)
    ⊎ (((waiters : Bool) × ((left : ℕ) × (p ≡ phase.TryLocks waiters left))) ⊎ (p ≡ phase.Refuses))

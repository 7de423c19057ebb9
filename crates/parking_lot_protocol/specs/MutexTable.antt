-- The calls of a mutex: the act that each phase has asked for, and the phase that follows what it gives.
use Rattle.std.specs.Prelude.{ℕ, ◌+◌, ◌-◌, ◌/◌, ◌%◌, ◌*◌, ◌==◌, nat_lt, ◌&&◌, ◌||◌, Bool, true, false, if◌then◌else◌}
use Rattle.std.specs.Prelude.{Option, Some, None, is_some, Result, Ok, Err}
use Rattle.std.specs.Option.{option_map, option_map_or}
use Rattle.parking_lot_core_model.specs.declared.parking.UnparkToken.{UnparkToken}
use Rattle.parking_lot_protocol.specs.declared.act.Act.{Act}
use Rattle.parking_lot_protocol.specs.declared.act.Act.TheVariants as act
use Rattle.parking_lot_protocol.specs.declared.act.SectionAct.TheVariants as section
use Rattle.parking_lot_protocol.specs.declared.act.WordChange.{WordChange}
use Rattle.parking_lot_protocol.specs.declared.act.CoreAnswer.TheVariants.{Owned, Refused, Released}
use Rattle.parking_lot_protocol.specs.declared.act.ActResult.{ActResult}
use Rattle.parking_lot_protocol.specs.declared.mutex_phase.Asking.{Asking}
use Rattle.parking_lot_protocol.specs.declared.mutex_phase.MutexPhase.{MutexPhase}
use Rattle.parking_lot_protocol.specs.declared.mutex_phase.MutexPhase.TheVariants.{Locking, Trying, Unlocking, Bumping}
use Rattle.parking_lot_protocol.specs.declared.mutex_phase.MutexPhase.TheVariants.{Loads, Locks, Spins, Parks, Enters}
use Rattle.parking_lot_protocol.specs.declared.mutex_phase.MutexPhase.TheVariants.{Checks, Retreats, Appends, Rests}
use Rattle.parking_lot_protocol.specs.declared.mutex_phase.MutexPhase.TheVariants.{Sleeps, TryLoads, TryLocks, Refuses}
use Rattle.parking_lot_protocol.specs.declared.mutex_phase.MutexPhase.TheVariants.{BumpLoads, Relocks, Unlocks, Looks}
use Rattle.parking_lot_protocol.specs.declared.mutex_phase.MutexPhase.TheVariants.{Takes, Stores, Leaves, Wakes}
use Rattle.parking_lot_protocol.specs.declared.mutex_phase.MutexPhase.TheVariants.{Finishes, Ends, Invalid}
use Rattle.parking_lot_protocol.specs.Acts.{is_start, is_entered, is_made, word_seen, exchange_seen, spun_seen}
use Rattle.parking_lot_protocol.specs.Acts.{took_seen, stored_seen, woken_seen}
use Rattle.parking_lot_rules.specs.Classes.{bit}

-- what a release stores: the lock stays locked where it is handed over, and the parked bit where waiters are left
abbrev pub store_of : Bool → Bool → WordChange
store_of handed left = record { keep = 0; add = bit handed + 2 * bit left }

-- the act that a phase has asked for
abbrev pub act_of : MutexPhase → Act
act_of Locking = act.Done Refused
act_of Trying = act.Done Refused
act_of (Unlocking fair) = act.Done Refused
act_of Bumping = act.Done Refused
act_of (Loads asking) = act.Load
act_of (Locks asking waiters) = act.Exchange (2 * bit waiters) (2 * bit waiters + 1)
act_of (Spins asking) = act.Spin
act_of (Parks asking) = act.Exchange 1 3
act_of (Enters woken) = act.Enter 0
act_of (Checks woken) = act.Section section.Check
act_of (Retreats woken) = act.Section section.Leave
act_of Appends = act.Section (section.Append (record { 0 = 0 }))
act_of Rests = act.Section section.Leave
act_of Sleeps = act.Sleep
act_of TryLoads = act.Load
act_of (TryLocks waiters left) = act.Exchange (2 * bit waiters) (2 * bit waiters + 1)
act_of Refuses = act.Done Refused
act_of BumpLoads = act.Load
act_of Relocks = act.Load
act_of (Unlocks giving) = act.Exchange 1 0
act_of (Looks giving) = act.Enter 0
act_of (Takes giving) = act.Section section.TakeFirst
act_of (Stores giving taken left) =
    act.Section (section.Store (store_of (giving.fair && taken) left) (store_of taken left))
act_of (Leaves giving taken handed) = act.Section section.Leave
act_of (Wakes giving) = act.Section section.Wake
act_of (Finishes giving) = (if giving.again then act.Load else act.Done Released)
act_of (Ends answer) = act.Done answer
act_of Invalid = act.Done Refused

-- one that asks, and may spin for ten rounds
abbrev pub begins : Bool → Asking
begins woken = record { woken = woken; rounds = 10 }

-- One that asks has seen the word: it locks an unlocked mutex, waits a while for a locked one where nobody else waits,
-- and else goes to sleep.
abbrev pub seeks : Asking → ℕ → MutexPhase
seeks a word =
    (if word == 0 then Locks a false else
    (if word == 2 then Locks a true else
    (if word == 1 then (if nat_lt 0 a.rounds then Spins a else Parks a) else Enters a.woken)))

-- One that tries has seen it: `left` tells how many exchanges it may make after the next.
abbrev pub tries : ℕ → ℕ → MutexPhase
tries left word = (if word == 0 then TryLocks false left else (if word == 2 then TryLocks true left else Refuses))

abbrev pub retries : ℕ → ℕ → MutexPhase
retries left word = (if nat_lt 0 left then tries (left - 1) word else Refuses)

-- one phase where an exchange was won, and one by the word where it was lost
abbrev pub won_or : MutexPhase → (ℕ → MutexPhase) → Result (Unit {0}) ℕ → MutexPhase
won_or won lost (Ok u) = won
won_or won lost (Err word) = lost word

-- a phase, if that was seen
abbrev pub once : Bool → MutexPhase → Option MutexPhase
once true p = Some p
once false p = None

-- The phase that follows what the act of this one gave; none where the act can't give that.
abbrev pub after : MutexPhase → ActResult → Option MutexPhase
after Locking s = once (is_start s) (Loads (begins false))
after Trying s = once (is_start s) TryLoads
after (Unlocking fair) s = once (is_start s) (Unlocks (record { fair = fair; again = false }))
after Bumping s = once (is_start s) BumpLoads
after (Loads a) s = option_map (seeks a) (word_seen s)
after (Locks a waiters) s = option_map (won_or (Ends Owned) (seeks a)) (exchange_seen s)
after (Spins a) s = option_map (λ spun. if spun then Loads (record a { rounds = a.rounds - 1 }) else Parks a)
    (spun_seen s)
after (Parks a) s = option_map (won_or (Enters a.woken) (seeks a)) (exchange_seen s)
after (Enters woken) s = once (is_entered s) (Checks woken)
after (Checks woken) s = option_map (λ word. if word == 3 then Appends else Retreats woken) (word_seen s)
after (Retreats woken) s = once (is_made s) (Loads (begins woken))
after Appends s = once (is_made s) Rests
after Rests s = once (is_made s) Sleeps
after Sleeps s = option_map (λ token. if token.0 == 1 then Ends Owned else Loads (begins true)) (woken_seen s)
after TryLoads s = option_map (tries 63) (word_seen s)
after (TryLocks waiters left) s = option_map (won_or (Ends Owned) (retries left)) (exchange_seen s)
after Refuses s = None
after BumpLoads s =
    option_map (λ word. if word / 2 % 2 == 1 then Unlocks (record { fair = true; again = true }) else Ends Owned)
    (word_seen s)
after Relocks s = option_map (seeks (begins false)) (word_seen s)
after (Unlocks g) s = option_map (won_or (if g.again then Relocks else Ends Released) (λ word. Looks g))
    (exchange_seen s)
after (Looks g) s = once (is_entered s) (Takes g)
after (Takes g) s = option_map (λ t. Stores g (is_some t.token) t.left) (took_seen s)
after (Stores g taken left) s = option_map (λ fair. Leaves g taken (taken && (g.fair || fair))) (stored_seen s)
after (Leaves g taken handed) s = once (is_made s) (if taken then Wakes g else Finishes g)
after (Wakes g) s = once (is_made s) (Finishes g)
after (Finishes g) s = (if g.again then option_map (λ word. Relocks) (word_seen s) else None)
after (Ends answer) s = None
after Invalid s = None

-- what doesn't fit leads astray
abbrev pub next_phase : MutexPhase → ActResult → MutexPhase
next_phase p s = option_map_or (λ q. q) (after p s) Invalid

-- the token for those that a section took, once it has stored
abbrev pub wakes_with : MutexPhase → UnparkToken
wakes_with (Leaves g taken true) = record { 0 = 1 }
wakes_with p = record { 0 = 0 }

-- The protocol of a one-time initialization as a table: the act of each phase, and the phase that follows what the act
-- gave.
use Rattle.std.specs.Prelude.{ℕ, ◌+◌, ◌*◌, ◌-◌, ◌/◌, ◌%◌, ◌^◌, ◌==◌, ◌&&◌, nat_lt, min, Bool, true, false, is_some}
use Rattle.std.specs.Prelude.{if◌then◌else◌, Option, Some, None, option_map, Result, Ok, Err}
use Rattle.std.specs.Option.{option_map_or}
use Rattle.parking_lot_rules.specs.Classes.{bit}
use Rattle.parking_lot_protocol.specs.declared.act.Act.{Act}
use Rattle.parking_lot_protocol.specs.declared.act.Act.TheVariants as act
use Rattle.parking_lot_protocol.specs.declared.act.SectionAct.TheVariants as section
use Rattle.parking_lot_protocol.specs.declared.act.WordChange.{WordChange}
use Rattle.parking_lot_protocol.specs.declared.act.CoreAnswer.{CoreAnswer}
use Rattle.parking_lot_protocol.specs.declared.act.CoreAnswer.TheVariants.{Owned, Refused, Released}
use Rattle.parking_lot_protocol.specs.declared.act.ActResult.{ActResult}
use Rattle.parking_lot_protocol.specs.Acts.{is_start, is_entered, is_made, word_seen, exchange_seen, spun_seen}
use Rattle.parking_lot_protocol.specs.Acts.{took_seen, stored_seen, woken_seen}
use Rattle.parking_lot_rules.specs.declared.once.once_state.OnceState.{OnceState}
use Rattle.parking_lot_rules.specs.declared.once.once_state.OnceState.TheVariants.{New, Poisoned, InProgress, Done}
use Rattle.parking_lot_rules.specs.declared.once.wish.Wish.{Wish}
use Rattle.parking_lot_rules.specs.Once.Once.{state_number, waits, ended}
use Rattle.parking_lot_protocol_waits.specs.declared.once.once_phase.Seeking.{Seeking}
use Rattle.parking_lot_protocol_waits.specs.declared.once.once_phase.OnceAnswer.{OnceAnswer}
use Rattle.parking_lot_protocol_waits.specs.declared.once.once_phase.OnceAnswer.TheVariants as answer
use Rattle.parking_lot_protocol_waits.specs.declared.once.once_phase.OncePhase.{OncePhase}
use Rattle.parking_lot_protocol_waits.specs.declared.once.once_phase.OncePhase.TheVariants.{Asking, Returning, Loads}
use Rattle.parking_lot_protocol_waits.specs.declared.once.once_phase.OncePhase.TheVariants.{Starts, Spins, Parks}
use Rattle.parking_lot_protocol_waits.specs.declared.once.once_phase.OncePhase.TheVariants.{Enters, Checks, Retreats}
use Rattle.parking_lot_protocol_waits.specs.declared.once.once_phase.OncePhase.TheVariants.{Appends, Rests, Sleeps}
use Rattle.parking_lot_protocol_waits.specs.declared.once.once_phase.OncePhase.TheVariants.{Stores, Looks, Scans}
use Rattle.parking_lot_protocol_waits.specs.declared.once.once_phase.OncePhase.TheVariants.{Clears, Leaves, Wakes}
use Rattle.parking_lot_protocol_waits.specs.declared.once.once_phase.OncePhase.TheVariants.{Finishes, Ends, Invalid}

-- the state that a word has, and whether callers may wait
abbrev pub state_of : ℕ → OnceState
state_of word = (if word % 2 ==
    1 then Done else (if word / 2 % 2 == 1 then Poisoned else (if word / 4 % 2 == 1 then InProgress else New)))

abbrev pub is_parked : ℕ → Bool
is_parked word = word / 8 % 2 == 1

-- the word of a state, with callers that may wait or none
abbrev pub word_of : OnceState → Bool → ℕ
word_of state parked = state_number state + 8 * bit parked

-- what a section stores at the end of a closure
abbrev pub end_store : Bool → WordChange
end_store well = record { keep = 0; add = state_number (ended well) }

-- How a call has ended, as far as other cores know it: it has the run, has given it up, or neither.
abbrev pub core_answer : OnceAnswer → CoreAnswer
core_answer (answer.Runs before) = Owned
core_answer answer.Completed = Refused
core_answer answer.Poisoned = Refused
core_answer answer.Finished = Released

-- the act that a phase has asked for
abbrev pub act_of : OncePhase → Act
act_of (Asking wish) = act.Done Refused
act_of (Returning well) = act.Done Refused
act_of (Loads a) = act.Load
act_of (Starts a before parked) = act.Exchange (word_of before parked) (word_of InProgress parked)
act_of (Spins a state) = act.Spin
act_of (Parks a state) = act.Exchange (word_of state false) (word_of state true)
act_of (Enters wish) = act.Enter 0
act_of (Checks wish) = act.Section section.Check
act_of (Retreats wish) = act.Section section.Leave
act_of (Appends wish) = act.Section (section.Append (record { 0 = 0 }))
act_of (Rests wish) = act.Section section.Leave
act_of (Sleeps wish) = act.Sleep
act_of (Stores well) = act.Exchange (word_of InProgress false) (word_of (ended well) false)
act_of (Looks well) = act.Enter 0
act_of (Scans well taken) = act.Section (section.TakeNext 0)
act_of (Clears well taken) = act.Section (section.Store (end_store well) (end_store well))
act_of (Leaves taken) = act.Section section.Leave
act_of (Wakes count) = act.Section section.Wake
act_of Finishes = act.Done Released
act_of (Ends end) = act.Done (core_answer end)
act_of Invalid = act.Done Refused

-- how a call has ended, if it has
abbrev pub answer_of : OncePhase → Option OnceAnswer
answer_of Finishes = Some answer.Finished
answer_of (Ends end) = Some end
answer_of p = None

-- one that asks, and may spin for ten rounds
abbrev pub begins : Wish → Seeking
begins wish = record { wish = wish; rounds = 10 }

-- One that has to wait: it spins a while where nobody else waits, and else goes to sleep.
abbrev pub waiting : Seeking → OnceState → Bool → OncePhase
waiting a state parked =
    (if parked then Enters a.wish else (if nat_lt 0 a.rounds then Spins a state else Parks a state))

-- One that asks has seen the state: it is done, or refused where the last closure failed; it begins to run its closure,
-- or has to wait.
abbrev pub seeks : Seeking → OnceState → Bool → OncePhase
seeks a Done parked = Ends answer.Completed
seeks a Poisoned parked =
    (if a.wish.force then (if a.wish.runs then Starts a Poisoned parked else waiting a Poisoned parked) else Ends
    answer.Poisoned)
seeks a New parked = (if a.wish.runs then Starts a New parked else waiting a New parked)
seeks a InProgress parked = waiting a InProgress parked

abbrev pub sees : Seeking → ℕ → OncePhase
sees a word = seeks a (state_of word) (is_parked word)

-- one phase where an exchange was won, and one by the word where it was lost
abbrev pub won_or : OncePhase → (ℕ → OncePhase) → Result (Unit {0}) ℕ → OncePhase
won_or won lost (Ok u) = won
won_or won lost (Err word) = lost word

-- a phase, if that was seen
abbrev pub once : Bool → OncePhase → Option OncePhase
once true p = Some p
once false p = None

-- it goes on as long as waiters are left
abbrev pub scans : Bool → ℕ → Bool → OncePhase
scans well taken left = (if left then Scans well taken else Clears well taken)

-- one more was taken, or there was none
abbrev pub with_taken : ℕ → Bool → ℕ
with_taken taken one = min (taken + bit one) (2 ^ 32 - 1)

-- so many are to be woken
abbrev pub wakes : ℕ → OncePhase
wakes count = (if nat_lt 0 count then Wakes count else Finishes)

-- The phase that follows what the act of this one gave; none where the act can't give that.
abbrev pub after : OncePhase → ActResult → Option OncePhase
after (Asking wish) s = once (is_start s) (Loads (begins wish))
after (Returning well) s = once (is_start s) (Stores well)
after (Loads a) s = option_map (sees a) (word_seen s)
after (Starts a before parked) s = option_map (won_or (Ends (answer.Runs before)) (sees a)) (exchange_seen s)
after (Spins a state) s =
    option_map (λ spun. if spun then Loads (record a { rounds = a.rounds - 1 }) else Parks a state) (spun_seen s)
after (Parks a state) s = option_map (won_or (Enters a.wish) (sees a)) (exchange_seen s)
after (Enters wish) s = once (is_entered s) (Checks wish)
after (Checks wish) s =
    option_map (λ word. if waits wish (state_of word) && is_parked word then Appends wish else Retreats wish)
    (word_seen s)
after (Retreats wish) s = once (is_made s) (Loads (begins wish))
after (Appends wish) s = once (is_made s) (Rests wish)
after (Rests wish) s = once (is_made s) (Sleeps wish)
after (Sleeps wish) s = option_map (λ token. Loads (begins wish)) (woken_seen s)
after (Stores well) s = option_map (won_or (Ends answer.Finished) (λ word. Looks well)) (exchange_seen s)
after (Looks well) s = once (is_entered s) (Scans well 0)
after (Scans well taken) s = option_map (λ t. scans well (with_taken taken (is_some t.token)) t.left) (took_seen s)
after (Clears well taken) s = option_map (λ fair. Leaves taken) (stored_seen s)
after (Leaves taken) s = once (is_made s) (wakes taken)
after (Wakes count) s = once (is_made s) (wakes (count - 1))
after Finishes s = None
after (Ends end) s = None
after Invalid s = None

-- what doesn't fit leads astray
abbrev pub next_phase : OncePhase → ActResult → OncePhase
next_phase p s = option_map_or (λ q. q) (after p s) Invalid

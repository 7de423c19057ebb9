-- A call keeps to what it began with, and ends by an answer.
use Rattle.std.proofs.Common.{◌≡◌, ℕ, ◌&&◌, nat_lt, Bool, true, false, cond, Some, None, refl, subst}
use Rattle.parking_lot_protocol.specs.declared.act.Act.TheVariants.{Done}
use Rattle.parking_lot_protocol.specs.declared.act.ActResult.{ActResult}
use Rattle.parking_lot_protocol.specs.declared.act.ActResult.TheVariants as seen
use Rattle.parking_lot_protocol.specs.declared.act.CoreAnswer.{CoreAnswer}
use Rattle.parking_lot_protocol.specs.Acts.{Gives}
use Rattle.parking_lot_rules.specs.declared.once.once_state.OnceState.{OnceState}
use Rattle.parking_lot_rules.specs.declared.once.once_state.OnceState.TheVariants as state
use Rattle.parking_lot_rules.specs.declared.once.wish.Wish.{Wish}
use Rattle.parking_lot_rules.specs.Once.Once.{waits}
use Rattle.parking_lot_protocol_waits.specs.declared.once.once_phase.Seeking.{Seeking}
use Rattle.parking_lot_protocol_waits.specs.declared.once.once_phase.OnceAnswer.{OnceAnswer}
use Rattle.parking_lot_protocol_waits.specs.declared.once.once_phase.OnceAnswer.TheVariants.{Finished}
use Rattle.parking_lot_protocol_waits.specs.declared.once.once_phase.OncePhase.{OncePhase}
use Rattle.parking_lot_protocol_waits.specs.declared.once.once_phase.OncePhase.TheVariants.{Asking, Returning, Loads}
use Rattle.parking_lot_protocol_waits.specs.declared.once.once_phase.OncePhase.TheVariants.{Starts, Spins, Parks}
use Rattle.parking_lot_protocol_waits.specs.declared.once.once_phase.OncePhase.TheVariants.{Enters, Checks, Retreats}
use Rattle.parking_lot_protocol_waits.specs.declared.once.once_phase.OncePhase.TheVariants.{Appends, Rests, Sleeps}
use Rattle.parking_lot_protocol_waits.specs.declared.once.once_phase.OncePhase.TheVariants.{Stores, Looks, Scans}
use Rattle.parking_lot_protocol_waits.specs.declared.once.once_phase.OncePhase.TheVariants.{Clears, Leaves, Wakes}
use Rattle.parking_lot_protocol_waits.specs.declared.once.once_phase.OncePhase.TheVariants.{Finishes, Ends}
use Rattle.parking_lot_protocol_waits.specs.Once.OnceTable.{state_of, is_parked, act_of, answer_of, next_phase, waiting}
use Rattle.parking_lot_protocol_waits.specs.Once.OnceTable.{seeks, sees, wakes}
use Rattle.parking_lot_protocol_waits.specs.Once.OnceAnswers.{MayAnswer, IsUnderWay, KeepsToItsCall, EndsByAnAnswer}

either : {X : Type 0} (P : X → Type 0) (b : Bool) (x y : X) → P x → P y → P (cond b x y)
either P true x y p q = p
either P false x y p q = q

waits_on : (a : Seeking) (s : OnceState) (parked : Bool) → IsUnderWay (Asking a.wish) (waiting a s parked)
waits_on a s parked = either (IsUnderWay (Asking a.wish)) parked _ _ refl
    (either (IsUnderWay (Asking a.wish)) (nat_lt 0 a.rounds) _ _ refl refl)

seeks_on : (runs force : Bool) (rounds : ℕ) (s : OnceState) (parked : Bool) → let a : Seeking =
    record { wish = record { runs = runs; force = force }; rounds = rounds } in
    IsUnderWay (Asking a.wish) (seeks a s parked)
seeks_on runs force rounds state.Done parked = tt
seeks_on runs false rounds state.Poisoned parked = refl
seeks_on true true rounds state.Poisoned parked = (refl, refl, refl)
seeks_on false true rounds state.Poisoned parked =
    waits_on (record { wish = record { runs = false; force = true }; rounds = rounds }) state.Poisoned parked
seeks_on true force rounds state.New parked = (refl, refl, refl)
seeks_on false force rounds state.New parked =
    waits_on (record { wish = record { runs = false; force = force }; rounds = rounds }) state.New parked
seeks_on runs force rounds state.InProgress parked =
    waits_on (record { wish = record { runs = runs; force = force }; rounds = rounds }) state.InProgress parked

sees_on : (wish : Wish) (a : Seeking) (word : ℕ) → a.wish ≡ wish → IsUnderWay (Asking wish) (sees a word)
sees_on wish a word e = subst (λ x. IsUnderWay (Asking x) (sees a word)) e
    (seeks_on a.wish.runs a.wish.force a.rounds (state_of word) (is_parked word))

wakes_on : (well : Bool) (n : ℕ) → IsUnderWay (Returning well) (wakes n)
wakes_on well n = either (IsUnderWay (Returning well)) (nat_lt 0 n) _ _ tt tt

asks_on : (wish : Wish) (p : OncePhase) (s : ActResult) (word : ℕ) → IsUnderWay (Asking wish) p
    → Gives (act_of p) word s → IsUnderWay (Asking wish) (next_phase p s)
asks_on wish (Loads a) (seen.Word n) word e g = sees_on wish a n e
asks_on wish (Starts a before parked) seen.Exchanged word e g = (e.1, e.2)
asks_on wish (Starts a before parked) (seen.Word n) word e g = sees_on wish a n e.0
asks_on wish (Spins a s) (seen.Spun true) word e g = e
asks_on wish (Spins a s) (seen.Spun false) word e g = e
asks_on wish (Parks a s) seen.Exchanged word e g = e
asks_on wish (Parks a s) (seen.Word n) word e g = sees_on wish a n e
asks_on wish (Enters same) seen.Entered word e g = e
asks_on wish (Checks same) (seen.Word n) word e g = either (IsUnderWay (Asking wish))
    (waits same (state_of n) && is_parked n) _ _ e e
asks_on wish (Retreats same) seen.Made word e g = e
asks_on wish (Appends same) seen.Made word e g = e
asks_on wish (Rests same) seen.Made word e g = e
asks_on wish (Sleeps same) (seen.Woken token) word e g = e
asks_on wish (Stores same) s word e g = absurd e
asks_on wish (Looks same) s word e g = absurd e
asks_on wish (Scans same taken) s word e g = absurd e
asks_on wish (Clears same taken) s word e g = absurd e
asks_on wish (Leaves taken) s word e g = absurd e
asks_on wish (Wakes count) s word e g = absurd e
asks_on wish p s word e g = absurd g

ends_on : (well : Bool) (p : OncePhase) (s : ActResult) (word : ℕ) → IsUnderWay (Returning well) p
    → Gives (act_of p) word s → IsUnderWay (Returning well) (next_phase p s)
ends_on well (Stores same) seen.Exchanged word e g = tt
ends_on well (Stores same) (seen.Word n) word e g = e
ends_on well (Looks same) seen.Entered word e g = e
ends_on well (Scans same taken) (seen.Took (Some token) left) word e g = either (IsUnderWay (Returning well)) left _ _ e
    e
ends_on well (Scans same taken) (seen.Took None left) word e g = either (IsUnderWay (Returning well)) left _ _ e e
ends_on well (Clears same taken) (seen.Stored fair) word e g = tt
ends_on well (Leaves taken) seen.Made word e g = wakes_on well taken
ends_on well (Wakes count) seen.Made word e g = wakes_on well _
ends_on well (Loads a) s word e g = absurd e
ends_on well (Starts a before parked) s word e g = absurd e
ends_on well (Spins a state) s word e g = absurd e
ends_on well (Parks a state) s word e g = absurd e
ends_on well (Enters same) s word e g = absurd e
ends_on well (Checks same) s word e g = absurd e
ends_on well (Retreats same) s word e g = absurd e
ends_on well (Appends same) s word e g = absurd e
ends_on well (Rests same) s word e g = absurd e
ends_on well (Sleeps same) s word e g = absurd e
ends_on well p s word e g = absurd g

pub goes_on : (begun p : OncePhase) (s : ActResult) (word : ℕ) → IsUnderWay begun p → Gives (act_of p) word s
    → IsUnderWay begun (next_phase p s)
goes_on (Asking wish) p s word e g = asks_on wish p s word e g
goes_on (Returning well) p s word e g = ends_on well p s word e g
goes_on begun p s word e g = absurd e

asking_begins : (wish : Wish) (s : ActResult) → KeepsToItsCall (Asking wish) s
asking_begins wish seen.Start g = refl
asking_begins wish s g = absurd g

returning_begins : (well : Bool) (s : ActResult) → KeepsToItsCall (Returning well) s
returning_begins well seen.Start g = refl
returning_begins well s g = absurd g

pub keeps_to_its_call : (p : OncePhase) (s : ActResult) → KeepsToItsCall p s
keeps_to_its_call (Asking wish) s = asking_begins wish s
keeps_to_its_call (Returning well) s = returning_begins well s
keeps_to_its_call p s = λ begun word e g. goes_on begun p s word e g

asking_ends : (wish : Wish) (p : OncePhase) (end : CoreAnswer) → IsUnderWay (Asking wish) p → act_of p ≡ Done end
    → (answer : OnceAnswer) × (answer_of p ≡ Some answer) × MayAnswer (Asking wish) answer
asking_ends wish (Ends answer) end e a = (answer, refl, e)
asking_ends wish (Loads same) end e a = absurd cc
asking_ends wish (Starts same before parked) end e a = absurd cc
asking_ends wish (Spins same state) end e a = absurd cc
asking_ends wish (Parks same state) end e a = absurd cc
asking_ends wish (Enters same) end e a = absurd cc
asking_ends wish (Checks same) end e a = absurd cc
asking_ends wish (Retreats same) end e a = absurd cc
asking_ends wish (Appends same) end e a = absurd cc
asking_ends wish (Rests same) end e a = absurd cc
asking_ends wish (Sleeps same) end e a = absurd cc
asking_ends wish p end e a = absurd e

returning_ends : (well : Bool) (p : OncePhase) (end : CoreAnswer) → IsUnderWay (Returning well) p → act_of p ≡ Done end
    → (answer : OnceAnswer) × (answer_of p ≡ Some answer) × MayAnswer (Returning well) answer
returning_ends well Finishes end e a = (Finished, refl, tt)
returning_ends well (Ends answer) end e a = (answer, refl, e)
returning_ends well (Stores same) end e a = absurd cc
returning_ends well (Looks same) end e a = absurd cc
returning_ends well (Scans same taken) end e a = absurd cc
returning_ends well (Clears same taken) end e a = absurd cc
returning_ends well (Leaves taken) end e a = absurd cc
returning_ends well (Wakes count) end e a = absurd cc
returning_ends well p end e a = absurd e

pub ends_by_an_answer : (p : OncePhase) → EndsByAnAnswer p
ends_by_an_answer p (Asking wish) end e a = asking_ends wish p end e a
ends_by_an_answer p (Returning well) end e a = returning_ends well p end e a
ends_by_an_answer p begun end e a = absurd e

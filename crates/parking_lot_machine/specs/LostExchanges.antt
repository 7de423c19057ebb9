-- Why an exchange is lost: another thread has changed the word.
use Rattle.std.specs.Prelude.{◌≡◌, ◌≢◌, ℕ, ◌⊎◌, Bool, List, [], ◌∷◌, Option, Some}
use Rattle.parking_lot_protocol.specs.declared.act.Act.TheVariants as act
use Rattle.parking_lot_protocol.specs.declared.act.CoreAnswer.{CoreAnswer}
use Rattle.parking_lot_machine_calls.specs.declared.calls.LockCall.{LockCall}
use Rattle.parking_lot_machine_calls.specs.declared.open_call.Call.{Call}
use Rattle.parking_lot_machine.specs.Machines.{IsBegun, IsStepped}
use Rattle.parking_lot_machine.specs.Rows.{State, call_at, word_at}
use Rattle.parking_lot_machine_calls.specs.Stances.{core_act}

-- a thread makes a step, or begins a call
abbrev pub Moves : ℕ → State → State → Type 0
Moves u s v = ((fair : Bool) × (answer : Option CoreAnswer) × IsStepped u fair answer s v)
    ⊎ ((lock : ℕ) × (call : LockCall) × IsBegun u lock call s v)

-- These moves, one after another from s on, are of other threads than t: of each, who makes it, and the machine after
-- it.
abbrev pub AreOfOthers : ℕ → State → List (ℕ × State) → Type 0
AreOfOthers t s [] = Unit {0}
AreOfOthers t s (m ∷ rest) = (m.0 ≢ t) × Moves m.0 s m.1 × AreOfOthers t m.1 rest

-- the machine after the last of them
abbrev pub after_all : State → List (ℕ × State) → State
after_all s [] = s
after_all s (m ∷ rest) = after_all m.1 rest

-- one of them, of another thread than t, changes the word of lock i
abbrev pub SomeChanges : ℕ → ℕ → State → List (ℕ × State) → Type 0
SomeChanges t i s [] = ⊥
SomeChanges t i s (m ∷ rest) = ((m.0 ≢ t) × Moves m.0 s m.1 × (word_at m.1 i ≢ word_at s i)) ⊎ SomeChanges t i m.1 rest

-- The next act of thread t is an exchange at lock i that takes the word for another than it is.
pub record IsLost (t i from : ℕ) (s : State) : Type 0 where
  pub call : Call
  pub here : call_at s t ≡ Some call
  pub there : call.lock ≡ i
  pub to : ℕ
  pub asks : core_act call.core ≡ act.Exchange from to
  pub lost : word_at s i ≢ from

-- Where the word was so when the thread made its last step, a step of another thread has changed it since.
abbrev pub LostExchangesHaveCauses : Type 0
LostExchangesHaveCauses = (t i from : ℕ) (s : State) (moves : List (ℕ × State)) → word_at s i ≡ from
    → AreOfOthers t s moves → IsLost t i from (after_all s moves) → SomeChanges t i s moves

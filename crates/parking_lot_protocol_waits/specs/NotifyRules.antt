-- Which step of the rules of a condition variable each answer to a notification is, and what its thread is doing there
-- in each phase.
use Rattle.std.specs.Prelude.{◌≡◌, ℕ, ◌+◌, ◌%◌, ◌^◌, ◌==◌, ◌&&◌, nat_lt, not, Bool, true, false, if◌then◌else◌}
use Rattle.parking_lot_rules.specs.Variable as rules
use Rattle.parking_lot_protocol_waits.specs.declared.notify_act.NotifySeen.{NotifySeen}
use Rattle.parking_lot_protocol_waits.specs.declared.notify_act.NotifySeen.TheVariants.{Start, Word, Moved}
use Rattle.parking_lot_protocol_waits.specs.declared.notify_act.NotifyAct.{NotifyAct}
use Rattle.parking_lot_protocol_waits.specs.declared.notify_act.NotifyAct.TheVariants as act
use Rattle.parking_lot_protocol_waits.specs.declared.notify_core.NotifyPhase.{NotifyPhase}
use Rattle.parking_lot_protocol_waits.specs.declared.notify_core.NotifyPhase.TheVariants.{Notifying, Enters, Checks}
use Rattle.parking_lot_protocol_waits.specs.declared.notify_core.NotifyPhase.TheVariants.{Marks, Moves, MarksRest}
use Rattle.parking_lot_protocol_waits.specs.declared.notify_core.NotifyPhase.TheVariants.{Forgets, Leaves, Wakes, Ends}
use Rattle.parking_lot_protocol_waits.specs.NotifyTable.{act_of, next_phase, Gives}
use Rattle.parking_lot_protocol_waits.specs.WaitRules.{IsPlain, Keeps}

-- What a thread is doing at the variable in each phase, in the words of the rules.
abbrev pub does : NotifyPhase → rules.Phase
does (Checks all word) = rules.Notifies
does (Marks all) = rules.Notifies
does (Moves all locked) = rules.Notifies
does (MarksRest notice) = rules.Notifies
does (Forgets notice) = rules.Notifies
does (Leaves notice) = rules.Left
does p = rules.Idle

-- how many it has taken
abbrev pub taken_in : NotifyPhase → ℕ
taken_in (MarksRest notice) = notice.count
taken_in (Forgets notice) = notice.count
taken_in (Leaves notice) = notice.count
taken_in (Wakes count) = count
taken_in (Ends count) = count
taken_in p = 0

-- What an answer to a notification is, as steps of the rules.
pub data Move : Type 0 where
  -- nothing at the variable changes
  Stays : Move
  -- its own steps
  Makes : (k : rules.Plain) → Move
  -- it has nothing more to do in the section, and the word stays as it is: others wait, or it shows no mutex
  Closes : (closes : Bool) → Move
  -- it takes so many waiters off the list, from the first on, and closes or not
  Releases : (count : ℕ) → (closes : Bool) → Move

-- THE TABLE: WHICH STEPS IT IS, BY PHASE AND ANSWER

abbrev pub move : NotifyPhase → NotifySeen → Move
move (Enters all word) seen = Makes rules.Notify
move (Checks all word) (Word now) = (if now == word then Stays else Closes true)
move (Moves all locked) (Moved unparked requeued left) =
    Releases (unparked + requeued) (if not locked && nat_lt 0 requeued then false else left)
move (MarksRest notice) seen = Closes notice.left
move (Forgets notice) seen = Makes (rules.Forget rules.Notifies)
move (Leaves notice) seen = Makes rules.Go
move p seen = Stays

-- the word of the variable after an act that gave this
abbrev pub word_after : NotifyAct → ℕ → ℕ
word_after act.Forgets word = 0
word_after act word = word

-- in the section, or with nothing left to do there
abbrev pub closed : Bool → rules.Phase
closed true = rules.Left
closed false = rules.Notifies

-- The move leads from phase p to phase q, at a word, and leaves that word. Only a move that takes waiters changes how
-- many were taken.
abbrev pub IsMove : Move → NotifyPhase → NotifyPhase → ℕ → ℕ → Type 0
IsMove Stays p q word after = (does q ≡ does p) × (taken_in q ≡ taken_in p) × (after ≡ word)
IsMove (Makes k) p q word after = IsPlain k (does p) (does q) word after × (taken_in q ≡ taken_in p)
IsMove (Closes closes) p q word after = Keeps (does p) rules.Notifies (does q) (closed closes) word after
    × (taken_in q ≡ taken_in p)
IsMove (Releases count closes) p q word after = Keeps (does p) rules.Notifies (does q) (closed closes) word after
    × (taken_in q ≡ count % 2 ^ 64)

-- what a notification may be told at a word: that it begins, or what its act gives
abbrev pub IsTold : NotifyPhase → ℕ → NotifySeen → Type 0
IsTold (Notifying all) word Start = Unit {0}
IsTold p word seen = Gives (act_of p) word seen

-- What a notification is told at a word is steps of the rules, of the kind that the table says.
abbrev pub Follows : NotifyPhase → NotifySeen → Type 0
Follows p s = (word : ℕ) → IsTold p word s → IsMove (move p s) p (next_phase p s) word (word_after (act_of p) word)

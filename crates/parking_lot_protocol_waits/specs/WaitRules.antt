-- Which step of the rules of a condition variable each answer to a wait is, and what its thread is doing there in each
-- phase.
use Rattle.std.specs.Prelude.{◌≡◌, ℕ, ◌+◌, ◌<◌, ◌^◌, ◌==◌, ◌||◌, Bool, true, if◌then◌else◌}
use Rattle.parking_lot_rules.specs.Roles.{Fresh, Asleep, Late, Back}
use Rattle.parking_lot_rules.specs.Variable as rules
use Rattle.parking_lot_protocol_waits.specs.declared.wait_act.WaitSeen.{WaitSeen}
use Rattle.parking_lot_protocol_waits.specs.declared.wait_act.WaitSeen.TheVariants.{Start, Word, Expired, Quit}
use Rattle.parking_lot_protocol_waits.specs.declared.wait_core.WaitPhase.{WaitPhase}
use Rattle.parking_lot_protocol_waits.specs.declared.wait_core.WaitPhase.TheVariants.{Waiting, Stranger, GivingWay}
use Rattle.parking_lot_protocol_waits.specs.declared.wait_core.WaitPhase.TheVariants.{Enters, Checks, Appends, Shows}
use Rattle.parking_lot_protocol_waits.specs.declared.wait_core.WaitPhase.TheVariants.{Rests, Unlocks, Sleeps, Expires}
use Rattle.parking_lot_protocol_waits.specs.declared.wait_core.WaitPhase.TheVariants.{Quits, Forgets, Leaves}
use Rattle.parking_lot_protocol_waits.specs.WaitTable.{act_of, next_phase, word_after, Gives}

-- Where a waiter stands: in the variable's list, or off it, as a notification has moved or woken it.
pub data WaiterPosition : Type 0 where
  Listed : WaiterPosition
  Gone : WaiterPosition

-- what is so of one in the list, and nothing of one off it
abbrev pub where_listed : WaiterPosition → rules.Phase → rules.Phase
where_listed Listed p = p
where_listed Gone p = rules.Idle

-- What a thread is doing at the variable in each phase, in the words of the rules.
abbrev pub does : WaiterPosition → WaitPhase → rules.Phase
does spot (Checks k) = rules.Enters k
does spot (Appends k) = rules.Checked k
does spot (Shows k) = rules.Joined k
does spot (Rests k) = rules.Queued k Fresh
does spot (Unlocks k) = where_listed spot (rules.Queued k Asleep)
does spot (Sleeps k) = where_listed spot (rules.Queued k Asleep)
does spot (Expires k) = where_listed spot (rules.Queued k Late)
does spot (Quits k) = where_listed spot (rules.Queued k Back)
does spot Forgets = rules.Leaves
does spot (Leaves true) = rules.Left
does spot p = rules.Idle

-- What an answer to a wait is, as a step of the rules.
pub data Move : Type 0 where
  -- nothing at the variable changes
  Stays : Move
  -- its own steps
  Makes : (k : rules.Plain) → Move
  Joins : (mutex : ℕ) → Move
  -- steps that it makes where it stands in the list; off it nothing changes
  MakesThere : (k : rules.Plain) → Move
  -- it takes itself off the list, as the last one there or as one of several: then the word stays as it is
  Quitting : (mutex : ℕ) → (last : Bool) → Move
  -- it was off the list before
  WasGone : Move

-- THE TABLE: WHICH STEP IT IS, BY PHASE AND ANSWER

abbrev pub move : WaitPhase → WaitSeen → Move
move (Enters k) seen = Makes (rules.Enter k)
move (Checks k) (Word word) = (if (word == 0) || (word == k + 1) then Makes (rules.Check k) else Makes (rules.Refuse k))
move (Appends k) seen = Joins k
move (Shows k) seen = Makes (rules.Show k)
move (Rests k) seen = Makes (rules.Rest k)
move (Sleeps k) Expired = MakesThere (rules.Expire k)
move (Sleeps k) seen = WasGone
move (Expires k) seen = MakesThere (rules.Reenter k)
move (Quits k) (Quit true last) = Quitting k last
move (Quits k) seen = WasGone
move Forgets seen = Makes (rules.Forget rules.Leaves)
move (Leaves true) seen = Makes rules.Go
move p seen = Stays

-- The step k leads from the one phase and word to the other, and it may be made: as far as the word goes, where nobody
-- is inside.
pub record IsPlain (k : rules.Plain) (old new : rules.Phase) (word after : ℕ) : Type 0 where
  pub from : old ≡ rules.from k
  pub to : new ≡ rules.to k
  pub may : rules.May k word (λ c. 0)
  pub written : after ≡ rules.written k word

-- one phase became the other, and the word is the same
abbrev pub Keeps : rules.Phase → rules.Phase → rules.Phase → rules.Phase → ℕ → ℕ → Type 0
Keeps old old' new new' word after = (old ≡ old') × (new ≡ new') × (after ≡ word)

-- The move leads from phase p to phase q, at a word, and leaves that word.
abbrev pub IsMove : Move → WaitPhase → WaitPhase → ℕ → ℕ → Type 0
IsMove Stays p q word after = ((spot : WaiterPosition) → does spot q ≡ does spot p) × (after ≡ word)
IsMove (Makes k) p q word after = IsPlain k (does Listed p) (does Listed q) word after
IsMove (Joins k) p q word after = Keeps (does Listed p) (rules.Checked k) (does Listed q) (rules.Joined k) word after
IsMove (MakesThere k) p q word after = IsPlain k (does Listed p) (does Listed q) word after
    × Keeps (does Gone p) rules.Idle (does Gone q) rules.Idle word after
IsMove (Quitting k last) p q word after = Keeps (does Listed p) (rules.Queued k Back) (does Listed q)
    (if last then rules.Leaves else rules.Left) word after
IsMove WasGone p q word after = Keeps (does Gone p) rules.Idle (does Gone q) rules.Idle word after

-- what a wait may be told at a word: that it begins, or what its act gives
abbrev pub IsTold : WaitPhase → ℕ → WaitSeen → Type 0
IsTold (Waiting k) word Start = Unit {0}
IsTold Stranger word Start = Unit {0}
IsTold GivingWay word Start = Unit {0}
IsTold p word seen = Gives (act_of p) word seen

-- the mutex of a phase has a word that shows it
abbrev pub CanBeShown : WaitPhase → Type 0
CanBeShown (Checks k) = k + 1 < 2 ^ 64
CanBeShown (Shows k) = k + 1 < 2 ^ 64
CanBeShown p = Unit {0}

-- What a wait is told at a word is a step of the rules, of the kind that the table says.
abbrev pub Follows : WaitPhase → WaitSeen → Type 0
Follows p s = (word : ℕ) → CanBeShown p → IsTold p word s → IsMove (move p s) p (next_phase p s) word
    (word_after (act_of p) s word)

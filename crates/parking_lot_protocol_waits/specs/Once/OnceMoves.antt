-- Which step of the rules each answer to a core is, and in which role its thread is.
use Rattle.std.specs.Prelude.{◌≡◌, ◌<◌, ◌≤◌, ℕ, ◌-◌, ◌^◌, ◌&&◌, Bool, true, if◌then◌else◌, List, [], ◌∷◌, ◌++◌, length}
use Rattle.std.specs.Prelude.{Option, Some, None}
use Rattle.parking_lot_protocol.specs.declared.act.ActResult.{ActResult}
use Rattle.parking_lot_protocol.specs.declared.act.ActResult.TheVariants as seen
use Rattle.parking_lot_protocol.specs.Acts.{Begins, Gives, word_after}
use Rattle.parking_lot_rules.specs.declared.once.once_state.OnceState.{OnceState}
use Rattle.parking_lot_rules.specs.declared.once.once_state.OnceState.TheVariants.{New, Poisoned, InProgress, Done}
use Rattle.parking_lot_rules.specs.declared.once.wish.Wish.{Wish}
use Rattle.parking_lot_rules.specs.Once.Once.{waits, may_run}
use Rattle.parking_lot_rules.specs.Once.Once as rules
use Rattle.parking_lot_protocol_waits.specs.declared.once.once_phase.OnceAnswer.{OnceAnswer}
use Rattle.parking_lot_protocol_waits.specs.declared.once.once_phase.OnceAnswer.TheVariants as answer
use Rattle.parking_lot_protocol_waits.specs.declared.once.once_phase.OncePhase.{OncePhase}
use Rattle.parking_lot_protocol_waits.specs.declared.once.once_phase.OncePhase.TheVariants.{Asking, Returning, Loads}
use Rattle.parking_lot_protocol_waits.specs.declared.once.once_phase.OncePhase.TheVariants.{Starts, Spins, Parks}
use Rattle.parking_lot_protocol_waits.specs.declared.once.once_phase.OncePhase.TheVariants.{Enters, Checks, Retreats}
use Rattle.parking_lot_protocol_waits.specs.declared.once.once_phase.OncePhase.TheVariants.{Appends, Rests, Sleeps}
use Rattle.parking_lot_protocol_waits.specs.declared.once.once_phase.OncePhase.TheVariants.{Stores, Looks, Scans}
use Rattle.parking_lot_protocol_waits.specs.declared.once.once_phase.OncePhase.TheVariants.{Clears, Leaves, Wakes}
use Rattle.parking_lot_protocol_waits.specs.declared.once.once_phase.OncePhase.TheVariants.{Finishes, Ends, Invalid}
use Rattle.parking_lot_protocol_waits.specs.Once.OnceTable.{state_of, is_parked, act_of, next_phase}

-- What whoever runs a core knows: the state that its closure was handed, and whom it has taken and is to wake.
pub record Known : Type 0 where
  pub before : OnceState
  pub taken : List ℕ

-- what a sleeper does, where it stands in the list or was taken by a thread
abbrev pub sleeping : Wish → Option ℕ → rules.Role
sleeping wish None = rules.Sleeps wish
sleeping wish (Some by) = rules.Taken wish by

-- what a thread is in behind its call
abbrev pub role_after : OnceAnswer → rules.Role
role_after (answer.Runs before) = rules.Runs before
role_after answer.Completed = rules.Idle
role_after answer.Poisoned = rules.Idle
role_after answer.Finished = rules.Idle

-- What a thread is doing in each phase, in the words of the rules. by: the thread that has taken it off the list, if it
-- sleeps.
abbrev pub role : Option ℕ → Known → OncePhase → rules.Role
role by k (Asking wish) = rules.Idle
role by k (Returning well) = rules.Runs k.before
role by k (Loads a) = rules.Seeks a.wish
role by k (Starts a before parked) = rules.Seeks a.wish
role by k (Spins a state) = rules.Seeks a.wish
role by k (Parks a state) = rules.Seeks a.wish
role by k (Enters wish) = rules.Seeks wish
role by k (Checks wish) = rules.Enters wish
role by k (Retreats wish) = rules.Enters wish
role by k (Appends wish) = rules.Checked wish
role by k (Rests wish) = rules.Joined wish
role by k (Sleeps wish) = sleeping wish by
role by k (Stores well) = rules.Ends well
role by k (Looks well) = rules.Ends well
role by k (Scans well taken) = rules.Scans well k.taken
role by k (Clears well taken) = rules.Scans well k.taken
role by k (Leaves taken) = rules.Stored k.taken
role by k (Wakes count) = rules.Wakes k.taken
role by k Finishes = rules.Wakes []
role by k (Ends end) = role_after end
role by k Invalid = rules.Idle

-- what an answer to a core is, as a step of the rules
pub data Move : Type 0 where
  -- nothing changes there
  Stays : Move
  -- the thread's own steps
  Makes : (k : rules.Plain) → Move
  Joins : (wish : Wish) → Move
  -- it takes the first waiter; and wakes the next of those that it has taken
  TakesOne : (well : Bool) → Move
  WakesOne : Move
  -- another wakes it
  IsWoken : (wish : Wish) → Move

-- THE TABLE: WHICH STEP IT IS, BY PHASE AND ANSWER

-- one that asks sees the state: its call may be over with that
abbrev pub seeing : Wish → OnceState → Move
seeing wish Done = Makes (rules.Complete wish)
seeing wish Poisoned = (if wish.force then Stays else Makes (rules.Refuse wish.runs))
seeing wish New = Stays
seeing wish InProgress = Stays

abbrev pub move : Known → OncePhase → ActResult → Move
move k (Asking wish) s = Makes (rules.Begin wish)
move k (Returning well) s = Makes (rules.Return k.before well)
move k (Loads a) (seen.Word word) = seeing a.wish (state_of word)
move k (Starts a before parked) seen.Exchanged = Makes (rules.Start a.wish.force before)
move k (Starts a before parked) (seen.Word word) = seeing a.wish (state_of word)
move k (Parks a state) seen.Exchanged = Makes (rules.Flag a.wish)
move k (Parks a state) (seen.Word word) = seeing a.wish (state_of word)
move k (Enters wish) s = Makes (rules.Enter wish)
move k (Checks wish) (seen.Word word) =
    (if waits wish (state_of word) && is_parked word then Makes (rules.Check wish) else Stays)
move k (Retreats wish) s = Makes (rules.Retreat wish)
move k (Appends wish) s = Joins wish
move k (Rests wish) s = Makes (rules.Rest wish)
move k (Sleeps wish) s = IsWoken wish
move k (Stores well) seen.Exchanged = Makes (rules.Finish well)
move k (Looks well) s = Makes (rules.Look well)
move k (Scans well taken) (seen.Took (Some token) left) = TakesOne well
move k (Clears well taken) s = Makes (rules.Store well k.taken)
move k (Leaves taken) s = Makes (rules.Depart k.taken)
move k (Wakes count) s = WakesOne
move k p s = Stays

-- a word has a state, and the parked bit or not
abbrev pub IsWord : rules.Word → Type 0
IsWord w = w.parked ≤ 1

-- The step k leads from the one role and word to the other, and it may be made: as far as the word goes, where nobody
-- is inside or waits.
pub record IsPlain (k : rules.Plain) (old new : rules.Role) (w : rules.Word) (word : ℕ) : Type 0 where
  pub from : old ≡ rules.from k
  pub to : new ≡ rules.to k
  pub may : rules.May k w (λ c. 0)
  pub written : word ≡ rules.number (rules.written k w)

-- the count of a phase is that of those whom it has taken, and there are none before it scans
abbrev pub Holds : List ℕ → OncePhase → Type 0
Holds us (Returning well) = us ≡ []
Holds us (Stores well) = us ≡ []
Holds us (Looks well) = us ≡ []
Holds us (Scans well taken) = length us ≡ taken
Holds us (Clears well taken) = length us ≡ taken
Holds us (Leaves taken) = length us ≡ taken
Holds us (Wakes count) = length us ≡ count
Holds us p = Unit {0}

-- An exchange starts from a state at which it is right.
abbrev pub IsReady : OncePhase → Type 0
IsReady (Starts a before parked) = (a.wish.runs ≡ true) × (may_run a.wish.force before ≡ true)
IsReady (Spins a state) = waits a.wish state ≡ true
IsReady (Parks a state) = waits a.wish state ≡ true
IsReady p = Unit {0}

-- The move leads from phase p to phase q, at word w, and leaves that number as the word; and the next phase counts whom
-- it has taken.
abbrev pub IsMove : Move → Known → OncePhase → OncePhase → rules.Word → ℕ → Type 0
IsMove Stays k p q w word = ((by : Option ℕ) → role by k q ≡ role by k p) × (word ≡ rules.number w) × Holds k.taken q
IsMove (Makes step) k p q w word = IsPlain step (role None k p) (role None k q) w word × Holds k.taken q
IsMove (Joins wish) k p q w word = (role None k p ≡ rules.Checked wish) × (role None k q ≡ rules.Joined wish)
    × (word ≡ rules.number w)
IsMove (TakesOne well) k p q w word =
    (v : ℕ) → let later : Known = record k { taken = k.taken ++ v ∷ [] } in
    (role None k p ≡ rules.Scans well k.taken) × (role None later q ≡ rules.Scans well later.taken)
    × (word ≡ rules.number w) × Holds later.taken q
IsMove WakesOne k p q w word =
    (v : ℕ) (left : List ℕ) → k.taken ≡ v ∷ left → let later : Known = record k { taken = left } in
    (role None k p ≡ rules.Wakes (v ∷ left)) × (role None later q ≡ rules.Wakes left) × (word ≡ rules.number w)
    × Holds left q
IsMove (IsWoken wish) k p q w word = (by : ℕ) → (role (Some by) k p ≡ rules.Taken wish by)
    × (role None k q ≡ rules.Seeks wish) × (word ≡ rules.number w)

-- what a core may be told at a word: that it begins, or what its act gives
abbrev pub IsTold : OncePhase → ℕ → ActResult → Type 0
IsTold (Asking wish) word s = Begins s
IsTold (Returning well) word s = Begins s
IsTold p word s = Gives (act_of p) word s

-- What a core is told at a word is a step of the rules, of the kind that the table says; and the phase that follows is
-- ready again.
abbrev pub Follows : OncePhase → ActResult → Type 0
Follows p s = (k : Known) (w : rules.Word) → IsReady p → IsWord w → Holds k.taken p → length k.taken < 2 ^ 32 - 1
    → IsTold p (rules.number w) s
    → IsMove (move k p s) k p (next_phase p s) w (word_after (act_of p) s (rules.number w)) × IsReady (next_phase p s)

-- And so is the end of a call: where it has woken all, it leaves, and else nothing is left to be done.
abbrev pub Ended : OncePhase → Type 0
Ended Finishes = (k : Known) (w : rules.Word) → IsPlain rules.Leave (role None k Finishes) (role_after answer.Finished)
    w (rules.number w)
Ended (Ends end) = (k : Known) → role None k (Ends end) ≡ role_after end
Ended p = Unit {0}

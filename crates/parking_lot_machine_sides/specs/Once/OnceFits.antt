-- What holds of a machine of onces at every moment.
use Rattle.std.specs.Prelude.{◌≡◌, ℕ, ◌+◌, ◌<◌, ◌≤◌, ◌==◌, ◌⊎◌, Bool, true, false, count_by, List, [], length, Option}
use Rattle.std.specs.Prelude.{Some, None}
use Rattle.std.specs.Option.{option_map_or}
use Rattle.parking_lot_rules.specs.Once.Once.{IsSound, number}
use Rattle.parking_lot_rules.specs.declared.once.once_state.OnceState.{OnceState}
use Rattle.parking_lot_protocol_waits.specs.declared.once.once_phase.OnceAnswer.TheVariants as end
use Rattle.parking_lot_protocol_waits.specs.declared.once.once_phase.OncePhase.{OncePhase}
use Rattle.parking_lot_protocol_waits.specs.declared.once.once_phase.OncePhase.TheVariants.{Asking, Returning, Loads}
use Rattle.parking_lot_protocol_waits.specs.declared.once.once_phase.OncePhase.TheVariants.{Starts, Spins, Parks}
use Rattle.parking_lot_protocol_waits.specs.declared.once.once_phase.OncePhase.TheVariants.{Checks, Retreats, Appends}
use Rattle.parking_lot_protocol_waits.specs.declared.once.once_phase.OncePhase.TheVariants.{Rests, Sleeps, Scans}
use Rattle.parking_lot_protocol_waits.specs.declared.once.once_phase.OncePhase.TheVariants.{Clears, Leaves, Wakes}
use Rattle.parking_lot_protocol_waits.specs.Once.OnceAnswers.{IsUnderWay, MayAnswer}
use Rattle.parking_lot_protocol_waits.specs.Once.OnceMoves.{IsReady}
use Rattle.parking_lot_machine_sides.specs.declared.once.calls.OnceCall.{OnceCall}
use Rattle.parking_lot_machine_sides.specs.Once.Entries.{list_of}
use Rattle.parking_lot_machine_sides.specs.Once.OnceCalls.{ends_well, wish_of}
use Rattle.parking_lot_core_model.specs.Buckets.{slot}
use Rattle.parking_lot_machine_sides.specs.Once.Onces.{OpenCall, Onces, bucket_of, call_at, inside_at, once_at, word_at}
use Rattle.parking_lot_machine_sides.specs.Once.Onces.{word_of}

-- it is in a section
abbrev pub is_in_section : OncePhase → Bool
is_in_section (Checks wish) = true
is_in_section (Retreats wish) = true
is_in_section (Appends wish) = true
is_in_section (Rests wish) = true
is_in_section (Scans well taken) = true
is_in_section (Clears well taken) = true
is_in_section (Leaves taken) = true
is_in_section p = false

-- it stands in a list, or was taken off it and not yet woken
abbrev pub is_listed : OncePhase → Bool
is_listed (Rests wish) = true
is_listed (Sleeps wish) = true
is_listed p = false

-- it sleeps
abbrev pub is_sleeping : OncePhase → Bool
is_sleeping (Sleeps wish) = true
is_sleeping p = false

-- how many it has taken and is still to wake
abbrev pub taken_count : OncePhase → ℕ
taken_count (Scans well taken) = taken
taken_count (Clears well taken) = taken
taken_count (Leaves taken) = taken
taken_count (Wakes count) = count
taken_count p = 0

-- for how many rounds it may still spin
abbrev pub rounds_of : OncePhase → ℕ
rounds_of (Loads a) = a.rounds
rounds_of (Starts a before parked) = a.rounds
rounds_of (Spins a state) = a.rounds
rounds_of (Parks a state) = a.rounds
rounds_of p = 0

-- one that is to store has taken all; and one that is to wake somebody has taken somebody
abbrev pub Knows : List ℕ → OncePhase → Type 0
Knows queue (Clears well taken) = queue ≡ []
Knows queue (Wakes count) = 1 ≤ count
Knows queue p = Unit {0}

-- The call is under way, and wants the same still; or its closure has run, as it might, and it ends.
abbrev pub GoesOn : OnceCall → OnceState → OncePhase → Type 0
GoesOn call before p = IsUnderWay (Asking (wish_of call)) p
    ⊎ (IsUnderWay (Returning (ends_well call)) p × MayAnswer (Asking (wish_of call)) (end.Runs before))

-- that thread is the one
abbrev pub is_the : Option ℕ → ℕ → Bool
is_the o t = option_map_or (λ u. u == t) o false

-- what holds of a thread in a call, among so many onces, with whom it is to wake, its once's list, and who is in the
-- section of its bucket
pub record Sits (onces t : ℕ) (c : OpenCall) (us queue : List ℕ) (inside : Option ℕ) : Type 0 where
  pub low : c.once < onces
  pub goes : GoesOn c.call c.before c.core.phase
  pub ready : IsReady c.core.phase
  pub taken : length us ≡ taken_count c.core.phase
  pub knows : Knows queue c.core.phase
  pub few : rounds_of c.core.phase ≤ 10
  pub section : is_in_section c.core.phase ≡ is_the inside t
  -- only a sleeper was taken by anybody
  pub awake : is_sleeping c.core.phase ≡ false → c.taker ≡ None

abbrev pub lies : Option OpenCall → Bool
lies o = option_map_or (λ c. is_listed c.core.phase) o false

pub record Fits (s : Onces) : Type 0 where
  -- each once is sound in the sense of the rules, and its word is a number of theirs
  pub sound : (i : ℕ) → IsSound (once_at s i)
  pub words : (i : ℕ) → number (word_of (word_at s i)) ≡ word_at s i
  pub seated : (t : ℕ) (c : OpenCall) → call_at s t ≡ Some c → Sits (length s.words) t c (list_of s.wakes t)
      (list_of s.waiting c.once) (inside_at s c.once)
  -- one in no call is to wake nobody; and who is in the section of a bucket is in a call there
  pub idle : (t : ℕ) → call_at s t ≡ None → list_of s.wakes t ≡ []
  pub inside : (b t : ℕ) → slot s.inside b ≡ Some t → (c : OpenCall) × (call_at s t ≡ Some c) × (bucket_of s c.once ≡ b)
  pub buckets : 0 < length s.inside
  -- the entries are those that wait or are to be woken
  pub room : length s.waiting + length s.wakes ≡ count_by lies s.calls
  pub small : length s.calls ≤ 65536

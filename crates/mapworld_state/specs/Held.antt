-- Which threads hold shards, and what the shards' locks know of it.
use Rattle.std.specs.Prelude.{◌≡◌, ◌≢◌, ℕ, ◌⊎◌, if◌then◌else◌, List, [], ◌∷◌, length, Option, Some, None}
use Rattle.std.specs.Prelude.{slice_get}
use Rattle.lock_api_desk.specs.declared.mode.Mode.{Mode as DeskMode}
use Rattle.mapworld_state.specs.Locks.Aims.{Aim, Gets, GivesUp, Turns}
use Rattle.mapworld_state.specs.Locks.Views.{Shown, owner_in}
use Rattle.mapworld_state.specs.Locks.Stands.{Stand, stand_in}
use Rattle.mapworld_state.specs.declared.holds.Mode.{Mode}
use Rattle.mapworld_state.specs.declared.holds.Mode.TheVariants.{Shared}
use Rattle.mapworld_state.specs.declared.holds.Manner.{Manner}
use Rattle.mapworld_state.specs.declared.holds.Manner.TheVariants.{Waits}
use Rattle.mapworld_state.specs.declared.holds.Hold.{Hold}
use Rattle.mapworld_state.specs.declared.place.Phase.{Phase}
use Rattle.mapworld_state.specs.declared.place.Phase.TheVariants as phase
use Rattle.mapworld_state.specs.Places.{Place}
use Rattle.mapworld_state.specs.Classes.{class_of, holds_in}
use Rattle.mapworld_state.specs.Holds.{at_desk, tries_so, has_deadline_so, IsAmong}
use Rattle.mapworld_state.specs.Moves.{mode_of, request_manner}
use Rattle.mapworld_state.specs.Walks.{walk_mode, hands_over, kept_over}

-- what is still done for a thread at a lock before its answer: it has given its hold up, or shares it now
abbrev pub MayOwe : {K V D T A : Type 0} → Place K V D T A → ℕ → Aim → Type 0
MayOwe p shard (Gets mode) = ⊥
MayOwe p shard (GivesUp mode) = (i : ℕ) (h : Hold) → slice_get p.holds i ≡ Some h → h.shard ≢ shard
MayOwe p shard Turns = (hold : Hold) × (p.holds ≡ hold ∷ []) × (hold.shard ≡ shard) × (hold.mode ≡ Shared)

abbrev pub IsOwing : {K V D T A : Type 0} → Place K V D T A → Option Stand → Type 0
IsOwing p None = Unit {0}
IsOwing p (Some stand) = MayOwe p stand.shard stand.aim

-- A thread asks for its shard, and waits so.
pub record IsWanting {K V D T A : Type 0} (p : Place K V D T A) (mode : Mode) (manner : Manner)
    (stand : Option Stand) : Type 0 where
  pub is : stand ≡ Some (record {
    shard = p.shard;
    aim = Gets (at_desk mode);
    trying = tries_so manner;
    timed = has_deadline_so manner;
  })

-- the call that a thread is in at a lock, by its phase: the admission that it waits for; what its release or its
-- downgrade owes; and else none
abbrev pub StandsBefore : {K V D T A : Type 0} → Place K V D T A → Phase K V D T A → Option Stand → Type 0
StandsBefore p phase.Rest stand = stand ≡ None
StandsBefore p (phase.Admit r) stand = IsWanting p (mode_of r) (request_manner r) stand
StandsBefore p (phase.Find r) stand = stand ≡ None
StandsBefore p (phase.Grow c) stand = stand ≡ None
StandsBefore p (phase.Append k v) stand = stand ≡ None
StandsBefore p (phase.Apply k) stand = stand ≡ None
StandsBefore p (phase.View k d) stand = stand ≡ None
StandsBefore p (phase.Read d) stand = stand ≡ None
StandsBefore p (phase.Change h) stand = stand ≡ None
StandsBefore p (phase.Fill v) stand = stand ≡ None
StandsBefore p phase.Downgrade stand = stand ≡ None
StandsBefore p (phase.Idle f) stand = stand ≡ None
StandsBefore p (phase.Reach f) stand = IsWanting p (walk_mode f) Waits stand
StandsBefore p (phase.Part f) stand = stand ≡ None
StandsBefore p (phase.Visit f) stand = IsOwing p stand
StandsBefore p (phase.Seek f) stand = stand ≡ None
StandsBefore p (phase.Item f) stand = stand ≡ None
StandsBefore p (phase.Give f) stand = stand ≡ None
StandsBefore p (phase.Onward f) stand = IsOwing p stand
StandsBefore p (phase.Release a) stand = stand ≡ None
StandsBefore p (phase.Answer a) stand = IsOwing p stand

-- the thread is in a call at the shard's lock
abbrev pub IsAt : Shown → ℕ → ℕ → Type 0
IsAt locks t shard = (stand : Stand) × (stand_in locks t ≡ Some stand) × (stand.shard ≡ shard)

-- A hold of a place is an owner's of its shard's lock, in that mode; and whoever owns a lock has such a hold, or is in
-- a call there: it has been admitted and hasn't gone on yet, or hasn't given the lock up yet. No two threads' holds
-- exclude each other, and no thread holds a shard twice.
pub record HoldsMatch {K V D T A : Type 0} (places : List (Place K V D T A)) (locks : Shown) : Type 0 where
  pub owned : (t i : ℕ) (p : Place K V D T A) (h : Hold) → slice_get places t ≡ Some p → slice_get p.holds i ≡ Some h
      → owner_in locks h.shard t ≡ Some (at_desk h.mode)
  pub known : (t shard : ℕ) (p : Place K V D T A) (mode : DeskMode) → slice_get places t ≡ Some p
      → owner_in locks shard t ≡ Some mode → IsAmong shard mode p.holds ⊎ IsAt locks t shard
  pub once : (t i j : ℕ) (p : Place K V D T A) (a b : Hold) → slice_get places t ≡ Some p → slice_get p.holds i ≡ Some a
      → slice_get p.holds j ≡ Some b → a.shard ≡ b.shard → i ≡ j
  pub compatible : (t u i j : ℕ) (p q : Place K V D T A) (a b : Hold) → t ≢ u → slice_get places t ≡ Some p
      → slice_get places u ≡ Some q → slice_get p.holds i ≡ Some a → slice_get q.holds j ≡ Some b → a.shard ≡ b.shard
      → (a.mode ≡ Shared) × (b.mode ≡ Shared)
  pub stands : (t : ℕ) (p : Place K V D T A) → slice_get places t ≡ Some p → StandsBefore p p.phase (stand_in locks t)

-- how many holds a walk keeps beside the one that it asks for, where it is before that phase
abbrev pub kept_before : {K V D T A : Type 0} → ℕ → Phase K V D T A → ℕ
kept_before shard (phase.Reach f) = kept_over f shard
kept_before shard (phase.Onward f) = if hands_over f then 1 else 0
kept_before shard f = 0

-- how many holds a thread before that phase has
abbrev pub holds_before : {K V D T A : Type 0} → Place K V D T A → Phase K V D T A → ℕ
holds_before p f = holds_in p.guard (kept_before p.shard f) (class_of f)

-- each thread has as many
abbrev pub HoldByPhase : {K V D T A : Type 0} → List (Place K V D T A) → Type 0
HoldByPhase {K} {V} {D} {T} {A} places =
    (t : ℕ) (p : Place K V D T A) → slice_get places t ≡ Some p → length p.holds ≡ holds_before p p.phase

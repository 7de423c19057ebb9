-- What the code keeps of a world, and how much room it has.
use Rattle.std.specs.List.{list_any}
use Rattle.std.specs.Prelude.{◌≡◌, ℕ, Bool, true, false, ◌||◌, not, ◌+◌, ◌-◌, ◌<◌, ◌≤◌, ◌^◌, if◌then◌else◌, List}
use Rattle.std.specs.Prelude.{length, map, Some, slice_get, sum_by, vec_capacity}
use Rattle.std.specs.Hash.{HashWrites}
use Rattle.std.specs.declared.hash.BuildHasher as builder
use Rattle.std.specs.declared.hash.Hasher as hasher
use Rattle.mapworld_calls.specs.declared.deed.Deed as deed
use Rattle.mapworld_calls.specs.declared.ask.Ask.{Ask}
use Rattle.mapworld_calls.specs.declared.ask.Ask.TheVariants as ask
use Rattle.mapworld_calls.specs.declared.ask.Walk.{Walk}
use Rattle.mapworld_calls.specs.Programs.{stop_of}
use Rattle.mapworld_calls.specs.Setup.{Setup}
use Rattle.parking_lot_machine.specs.Rows.{state}
use Rattle.mapworld_state.specs.Locks.Views.{Shown}
use Rattle.mapworld_state.specs.declared.holds.Hold.{Hold}
use Rattle.mapworld_state.specs.declared.place.Phase.{Phase}
use Rattle.mapworld_state.specs.declared.place.Phase.TheVariants as phase
use Rattle.mapworld_state.specs.declared.place.Place.{Place as KeptPlace}
use Rattle.mapworld_state.specs.Places.{Place, place_of}
use Rattle.mapworld_state.specs.declared.world_core.Core.{Core}
use Rattle.mapworld_state.specs.Classes.{class_of, walks_in, answers_owed, blocks_left, pairs_left}
use Rattle.mapworld_state.specs.Moves.{stops_at}
use Rattle.mapworld_state.specs.Walks.{gives_reads}
use Rattle.mapworld_state.specs.Route.{IsWorldAmount}
use Rattle.mapworld_state.specs.Shards.{shard_pairs}
use Rattle.mapworld_state.specs.State.{State, pairs_of}
use Rattle.mapworld_state.specs.declared.step.Step.{Step}
use Rattle.mapworld_state.specs.Running.{unanswered_of}
use Rattle.mapworld_state.specs.Sound.{Sound}
use Rattle.mapworld_state.specs.Slots.{HasSlots, key_hash}
use Rattle.mapworld_state.specs.World.{setup_of}

abbrev pub state_of : {K V S D T A : Type 0} → Core K V S D T A → State K V S D T A
state_of c = record {
  hasher = c.hasher;
  opening = c.opening.value.items;
  programs = map (λ v. v.items) c.programs.value.items;
  steps = c.steps.items;
  places = map place_of c.places.items;
  tables = map shard_pairs c.tables.items;
  locks = c.locks;
  blocks = c.blocks.items;
  replies = c.replies.items;
}

-- whether a call before that phase isn't answered, and may still add a pair
abbrev pub owes : {K V D T A : Type 0} → Phase K V D T A → ℕ
owes f = answers_owed (class_of f)

abbrev pub adds : {K V D T A : Type 0} → Phase K V D T A → ℕ
adds f = pairs_left (class_of f)

-- and how many blocks it may list, of a walk by how many shards are left behind the one that it is at: a call on a
-- guard lists none
abbrev pub lists : {K V D T A : Type 0} → ℕ → Phase K V D T A → ℕ
lists more (phase.Read d) = 0
lists more (phase.Change h) = 0
lists more (phase.Fill v) = 0
lists more phase.Downgrade = 0
lists more f = blocks_left more (class_of f)

-- and a call that hasn't started: one for each guard that it takes, and a walk that is to give no items takes none
abbrev pub blocks_of : {K V D : Type 0} → ℕ → Ask K V D → ℕ
blocks_of shards (ask.Keyed k) = 1
blocks_of shards (ask.Begin b) = 1
blocks_of shards (ask.Held h) = 0
blocks_of shards (ask.Walk f) = if stops_at (stop_of f) 0 then 0 else shards

-- how many answers a thread owes, how many blocks it may list in a world of so many shards, and how many pairs it may
-- add
abbrev pub owed : {K V D T A : Type 0} → Place K V D T A → ℕ
owed p = length p.asks + owes p.phase

abbrev pub may_list : {K V D T A : Type 0} → ℕ → Place K V D T A → ℕ
may_list shards p = sum_by (blocks_of shards) p.asks + lists (shards - (p.shard + 1)) p.phase

abbrev pub may_add : {K V D T A : Type 0} → Place K V D T A → ℕ
may_add p = length p.asks + adds p.phase

-- whether a call is a walk, whether it is one that comes to a shard, and whether a thread may still come to one in a
-- walk
abbrev pub is_walk : {K V D : Type 0} → Ask K V D → Bool
is_walk (ask.Walk f) = true
is_walk a = false

abbrev pub may_visit : {K V D : Type 0} → Ask K V D → Bool
may_visit (ask.Walk f) = not (stops_at (stop_of f) 0)
may_visit a = false

abbrev pub may_walk : {K V D T A : Type 0} → Place K V D T A → Bool
may_walk p = list_any may_visit p.asks || walks_in (class_of p.phase)

-- how many lists of what they have read a thread's walks may still be answered with
abbrev pub walk_lists : {D : Type 0} → Walk D → ℕ
walk_lists f = if gives_reads f then 1 else 0

abbrev pub ask_lists : {K V D : Type 0} → Ask K V D → ℕ
ask_lists (ask.Walk f) = walk_lists f
ask_lists a = 0

abbrev pub phase_lists : {K V D T A : Type 0} → Phase K V D T A → ℕ
phase_lists (phase.Idle f) = walk_lists f
phase_lists (phase.Reach f) = walk_lists f
phase_lists (phase.Part f) = walk_lists f
phase_lists (phase.Visit f) = walk_lists f
phase_lists (phase.Seek f) = walk_lists f
phase_lists (phase.Item f) = walk_lists f
phase_lists (phase.Give f) = walk_lists f
phase_lists (phase.Onward f) = walk_lists f
phase_lists f = 0

abbrev pub lists_due : {K V D T A : Type 0} → Place K V D T A → ℕ
lists_due p = sum_by ask_lists p.asks + phase_lists p.phase

-- the locks are those of the shards, each with a desk, and their threads those of the world
pub record AreLocksOf (threads shards : ℕ) (locks : Shown) : Type 0 where
  pub threads_are : length (state locks.rows).calls ≡ threads
  pub shards_are : length (state locks.rows).kinds ≡ shards
  pub desks_are : length locks.desks ≡ shards

-- that the lists have room for all that is to come, and that the counts are right and fit
pub record Room {K V S D T A : Type 0} (c : Core K V S D T A) : Type 0 where
  pub count : c.count ≡ length c.steps.items
  pub count_fits : c.count < 2 ^ 63
  pub unanswered : c.unanswered ≡ unanswered_of (state_of c)
  pub answers : length c.replies.items + sum_by owed (state_of c).places ≡ sum_by length (state_of c).programs
  pub calls_fit : sum_by length (state_of c).programs ≤ 2 ^ 20
  pub replies : sum_by length (state_of c).programs ≤ vec_capacity c.replies
  pub blocks : length c.blocks.items + sum_by (may_list (length c.tables.items)) (state_of c).places ≤ vec_capacity
      c.blocks
  pub blocks_fit : length c.blocks.items + sum_by (may_list (length c.tables.items)) (state_of c).places < 2 ^ 32
  pub visits : (t : ℕ) (p : KeptPlace K V D T A) → slice_get c.places.items t ≡ Some p → may_walk (place_of p) ≡ true
      → length c.tables.items ≤ vec_capacity p.visits
  pub lists : (t : ℕ) (p : KeptPlace K V D T A) → slice_get c.places.items t ≡ Some p
      → lists_due (place_of p) ≤ length p.lists.items
  pub held : (t i : ℕ) (p : Place K V D T A) (h : Hold) → slice_get (state_of c).places t ≡ Some p
      → slice_get p.holds i ≡ Some h → h.shard < length c.tables.items
  pub locks : AreLocksOf (length (state_of c).places) (length c.tables.items) (state_of c).locks
  pub pairs : c.pairs ≡ length (pairs_of (state_of c))
  pub pairs_fit : c.pairs + sum_by may_add (state_of c).places ≤ 2 ^ 31 + 2 ^ 20
  pub places : length (state_of c).places ≡ length (state_of c).programs
  pub threads_fit : length (state_of c).places ≤ 256
  pub shards : IsWorldAmount (length c.tables.items)
  pub listed : (t : ℕ) (p : Place K V D T A) (i : ℕ) → slice_get (state_of c).places t ≡ Some p → p.block ≡ Some i
      → i < length c.blocks.items

-- a thread stands before that phase
pub record IsBefore {K V D T A : Type 0} (places : List (Place K V D T A)) (t : ℕ) (ph : Phase K V D T A) : Type 0 where
  pub place : Place K V D T A
  pub stands : slice_get places t ≡ Some place
  pub before : place.phase ≡ ph

-- what is kept is a sound world with its own setup
abbrev pub IsSoundCore : {K V S H D T A : Type 0} → deed.Ghosts D K V T → builder.Ghosts S H → hasher.Ghosts H
    → (K → K → Bool) → (K → HashWrites) → Core K V S D T A → Type 0
IsSoundCore d b h eq writes c = Sound (setup_of d b h eq writes (state_of c)) (state_of c)

-- what is kept finds each pair where it stands
abbrev pub IsSlotted : {K V S H D T A : Type 0} → deed.Ghosts D K V T → builder.Ghosts S H → hasher.Ghosts H
    → (K → K → Bool) → (K → HashWrites) → Core K V S D T A → Type 0
IsSlotted d b h eq writes c = HasSlots (setup_of d b h eq writes (state_of c)) (key_hash b h writes c.hasher)
    c.tables.items c.blocks.items c.places.items

-- a step of that kind leads from the one to the other
abbrev pub MakesStep : {K V S H D T A : Type 0}
    → (Setup K V D T → State K V S D T A → Step → State K V S D T A → Type 0)
    → deed.Ghosts D K V T → builder.Ghosts S H → hasher.Ghosts H → (K → K → Bool) → (K → HashWrites) → Core K V S D T A
    → Step → Core K V S D T A → Type 0
MakesStep kind d b h eq writes c s c' = kind (setup_of d b h eq writes (state_of c)) (state_of c) s (state_of c')

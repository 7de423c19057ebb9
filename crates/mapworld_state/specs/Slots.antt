-- Where the code finds pairs: the slots that places keep, and the hashes that shards keep.
use Rattle.std.specs.Prelude.{◌≡◌, ℕ, ◌+◌, ◌-◌, ◌<◌, ◌≤◌, ◌^◌, min, Bool, true, false, if◌then◌else◌, List, length}
use Rattle.std.specs.Prelude.{drop, Option, Some, None, slice_get, is_some, Vec, vec_capacity}
use Rattle.std.specs.Hash.{HashWrites}
use Rattle.std.specs.declared.hash.BuildHasher as builder
use Rattle.std.specs.declared.hash.Hasher as hasher
use Rattle.mapworld_calls.specs.declared.block.Block.{Block}
use Rattle.mapworld_calls.specs.declared.ask.Walk.{Walk}
use Rattle.mapworld_calls.specs.declared.ask.Walk.TheVariants as walk
use Rattle.mapworld_calls.specs.Programs.{keyed_key, stop_of}
use Rattle.mapworld_calls.specs.Setup.{Setup}
use Rattle.dashmap_table.specs.declared.entry.Entry.{Entry}
use Rattle.dashmap_table.specs.Route.{hash_of}
use Rattle.dashmap_table.specs.Slots.{at, count}
use Rattle.dashmap_table.specs.Table.{Table}
use Rattle.mapworld_state.specs.declared.place.Phase.{Phase}
use Rattle.mapworld_state.specs.declared.place.Phase.TheVariants as phase
use Rattle.mapworld_state.specs.declared.place.Place.{Place as KeptPlace}
use Rattle.mapworld_state.specs.Places.{Place, place_of}
use Rattle.mapworld_state.specs.Moves.{lent_way, stops_at}
use Rattle.mapworld_state.specs.Walks.{is_visited}
use Rattle.mapworld_state.specs.Steps.{guarded_key}

-- the key whose pair a call has found
abbrev pub phase_key : {K V D T A : Type 0} → Phase K V D T A → Option K
phase_key (phase.Apply k) = Some (keyed_key k)
phase_key (phase.View k d) = Some k
phase_key f = None

-- the key whose pair stands in a place's slot: that of its session while its guard lends a pair, or that of its call
abbrev pub slot_key : {K V D T A : Type 0} → Setup K V D T → List (Block K) → Place K V D T A → Option K
slot_key x bs p = if is_some (lent_way p.guard) then guarded_key x bs p.block else phase_key p.phase

-- each pair of a shard stands in its slot with its key's hash
abbrev pub HasHashes : {K V : Type 0} → (K → ℕ) → Table K V → Type 0
HasHashes {K} {V} hash table = (j : ℕ) (e : Entry K V) → at table.slots j ≡ Some e → e.hash ≡ hash e.key

-- a slot has the key's pair
pub record HasKeyAt {K V : Type 0} (eq : K → K → Bool) (table : Table K V) (slot : ℕ) (key : K) : Type 0 where
  pub entry : Entry K V
  pub there : at table.slots slot ≡ Some entry
  pub equal : eq entry.key key ≡ true

pub record IsAt {K V : Type 0} (eq : K → K → Bool) (tables : List (Table K V)) (shard slot : ℕ) (key : K) : Type 0 where
  pub table : Table K V
  pub held : slice_get tables shard ≡ Some table
  pub has : HasKeyAt eq table slot key

-- how many items a walk gives at the most behind n of them, where its shard has so many left
abbrev pub to_give : Option ℕ → ℕ → ℕ → ℕ
to_give None n left = left
to_give (Some stop) n left = min left (stop - n)

-- the list of what a walk reads has room for all that it may still read of so many pairs, behind n items
abbrev pub FitsReads : {D T A : Type 0} → Walk D → Vec T A → ℕ → ℕ → Type 0
FitsReads (walk.Iter d stop) reads n left = length reads.items + to_give stop n left ≤ vec_capacity reads
FitsReads (walk.IterMut d stop) reads n left = length reads.items + to_give stop n left ≤ vec_capacity reads
FitsReads f reads n left = Unit {0}

-- A place's slot is that of the next pair of its visit: those before it are done, and those from it on aren't. Items
-- are left to give, and what they read has room.
pub record IsNextSlot {K V D T A : Type 0} (eq : K → K → Bool) (tables : List (Table K V)) (bs : List (Block K))
    (p : KeptPlace K V D T A) (f : Walk D) : Type 0 where
  pub index : ℕ
  pub own : slice_get p.visits.items p.shard ≡ Some index
  pub block : Block K
  pub listed : slice_get bs index ≡ Some block
  pub table : Table K V
  pub held : slice_get tables p.shard ≡ Some table
  pub entry : Entry K V
  pub there : at table.slots p.slot ≡ Some entry
  pub numbered : p.slot + 1 < 2 ^ 64
  pub done : (j : ℕ) (e : Entry K V) → j < p.slot → at table.slots j ≡ Some e → is_visited eq block.visited.items e.key
      ≡ true
  pub left : (j : ℕ) (e : Entry K V) → p.slot ≤ j → at table.slots j ≡ Some e → is_visited eq block.visited.items e.key
      ≡ false
  pub goes_on : stops_at (stop_of f) p.count ≡ false
  pub fits : FitsReads f p.reads p.count (count (drop p.slot table.slots))

abbrev pub SlotIsNext : {K V D T A : Type 0} → (K → K → Bool) → List (Table K V) → List (Block K) → KeptPlace K V D T A
    → Phase K V D T A → Type 0
SlotIsNext eq tables bs p (phase.Seek f) = IsNextSlot eq tables bs p f
SlotIsNext eq tables bs p (phase.Item f) = IsNextSlot eq tables bs p f
SlotIsNext eq tables bs p f = Unit {0}

-- each place's slot has its key's pair
pub record HasSlots {K V D T A : Type 0} (x : Setup K V D T) (hash : K → ℕ) (tables : List (Table K V))
    (bs : List (Block K)) (places : List (KeptPlace K V D T A)) : Type 0 where
  pub hashed : (i : ℕ) (table : Table K V) → slice_get tables i ≡ Some table → HasHashes hash table
  pub found : (t : ℕ) (p : KeptPlace K V D T A) (key : K) → slice_get places t ≡ Some p
      → slot_key x bs (place_of p) ≡ Some key → IsAt x.eq tables p.shard p.slot key
  pub next : (t : ℕ) (p : KeptPlace K V D T A) → slice_get places t ≡ Some p → SlotIsNext x.eq tables bs p p.phase

-- the hash of a key
abbrev pub key_hash : {K S H : Type 0} → builder.Ghosts S H → hasher.Ghosts H → (K → HashWrites) → S → K → ℕ
key_hash b h writes hasher key = hash_of b h hasher (writes key)

-- How a new world's threads and tables begin.
use Rattle.std.specs.Prelude.{◌≡◌, ℕ, ◌≤◌, Bool, true, false, List, [], length, map, flat_map, Some, None, slice_get}
use Rattle.std.specs.Prelude.{sum_by, vec_capacity}
use Rattle.std.specs.List.{list_any}
use Rattle.mapworld_state.specs.Shards.{ShardPairs}
use Rattle.dashmap_table.specs.Table.{Table}
use Rattle.mapworld_calls.specs.declared.ask.Ask.{Ask}
use Rattle.mapworld_calls.specs.Pairs.{pair_of, opening_pair, AreDistinct}
use Rattle.mapworld_state.specs.declared.place.Phase.TheVariants as phase
use Rattle.mapworld_state.specs.declared.place.Place.{Place as KeptPlace}
use Rattle.mapworld_state.specs.Core.{ask_lists, may_visit}
use Rattle.mapworld_state.specs.Places.{Place}
use Rattle.mapworld_state.specs.Slots.{HasHashes}

-- before its first call a thread has neither started, nor does it hold anything
abbrev pub at_start : {K V D T A : Type 0} → List (Ask K V D) → Place K V D T A
at_start asks = record {
  asks = asks;
  next = 0;
  started = None;
  closes = false;
  shard = 0;
  holds = [];
  block = None;
  guard = None;
  visits = [];
  reads = [];
  count = 0;
  phase = phase.Rest;
}

-- each program has a thread, which is before its first call
pub record AreAtStart {K V D T A : Type 0} (programs : List (List (Ask K V D)))
    (places : List (Place K V D T A)) : Type 0 where
  pub programs_are : map (λ p. p.asks) places ≡ programs
  pub each : (t : ℕ) (p : Place K V D T A) → slice_get places t ≡ Some p → p ≡ at_start p.asks

-- the tables have the opening pairs, each in its shard's table
pub record AreFilled {K V : Type 0} (eq : K → K → Bool) (route : K → ℕ) (pairs : List (K × V))
    (tables : List (ShardPairs K V)) : Type 0 where
  pub routed : (i j : ℕ) (table : ShardPairs K V) (p : K × V) → slice_get tables i ≡ Some table
      → slice_get table.items j ≡ Some p → route p.0 ≡ i
  pub distinct : (i : ℕ) (table : ShardPairs K V) → slice_get tables i ≡ Some table → AreDistinct eq table.items
  pub contents_are : (q : K) (table : ShardPairs K V) → slice_get tables (route q) ≡ Some table
      → pair_of eq table.items q ≡ opening_pair eq pairs q

-- how many pairs all tables have
abbrev pub pairs_in : {K V : Type 0} → List (ShardPairs K V) → ℕ
pairs_in tables = length (flat_map (λ table. table.items) tables)

-- shards without pairs
abbrev pub AreEmpty : {K V : Type 0} → List (Table K V) → Type 0
AreEmpty {K} {V} tables = (i : ℕ) (table : Table K V) → slice_get tables i ≡ Some table → table.slots ≡ []

-- the pairs of each shard stand under their keys' hashes
abbrev pub AreHashed : {K V : Type 0} → (K → ℕ) → List (Table K V) → Type 0
AreHashed {K} {V} hash tables = (i : ℕ) (table : Table K V) → slice_get tables i ≡ Some table → HasHashes hash table

-- a thread whose program has walks that come to shards has a list of visits with room for all shards, and any thread an
-- empty list for each answer of what a walk reads
pub record HasLists {K V D T A : Type 0} (shards : ℕ) (p : KeptPlace K V D T A) : Type 0 where
  pub visits : list_any may_visit p.asks.items ≡ true → shards ≤ vec_capacity p.visits
  pub lists : sum_by ask_lists p.asks.items ≤ length p.lists.items

abbrev pub HaveLists : {K V D T A : Type 0} → ℕ → List (KeptPlace K V D T A) → Type 0
HaveLists {K} {V} {D} {T} {A} shards places = (t : ℕ) (p : KeptPlace K V D T A) → slice_get places t ≡ Some p
    → HasLists shards p

-- Where a thread stands, as contracts see it: the code's place without its allocator, and without the slot at which it
-- finds a pair.
use Rattle.std.specs.Prelude.{ℕ, Bool, List, Option}
use Rattle.mapworld_calls.specs.declared.ask.Ask.{Ask}
use Rattle.mapworld_state.specs.declared.holds.Hold.{Hold}
use Rattle.mapworld_state.specs.declared.place.Guard.{Guard}
use Rattle.mapworld_state.specs.declared.place.Phase.{Phase}
use Rattle.mapworld_state.specs.declared.place.Place.{Place as KeptPlace}

pub record Place (K V D T A : Type 0) : Type 0 where
  -- the calls that have not started, in order
  pub asks : List (Ask K V D)
  -- the number of the call that it is in, or that is next
  pub next : ℕ
  -- the step at which its call started, while it is in one
  pub started : Option ℕ
  -- whether its block ends with the call that it is in
  pub closes : Bool
  -- the shard of its call or session
  pub shard : ℕ
  -- its holds, the one that it took first in front
  pub holds : List Hold
  -- the block of its call or session, from the position on
  pub block : Option ℕ
  -- its guard, while it has one
  pub guard : Option (Guard K)
  -- the blocks of its walk's visits, in order
  pub visits : List ℕ
  -- what its walk has read so far, and how many pairs it has done or counted, or for how many its shards have room
  pub reads : List T
  pub count : ℕ
  -- what its next step is
  pub phase : Phase K V D T A

abbrev pub place_of : {K V D T A : Type 0} → KeptPlace K V D T A → Place K V D T A
place_of p = record {
  asks = p.asks.items;
  next = p.next;
  started = p.started;
  closes = p.closes;
  shard = p.shard;
  holds = p.holds.items;
  block = p.block;
  guard = p.guard;
  visits = p.visits.items;
  reads = p.reads.items;
  count = p.count;
  phase = p.phase;
}

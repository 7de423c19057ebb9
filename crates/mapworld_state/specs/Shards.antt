-- The pairs of a shard, as contracts see them: a finite map by key, and for how many pairs there is room.
use Rattle.std.specs.Prelude.{◌≡◌, ℕ, ◌+◌, ◌*◌, ◌≤◌, Bool, nat_lt, if◌then◌else◌, List, length, Option, Some, None}
use Rattle.std.specs.Prelude.{IsSome, max}
use Rattle.dashmap_table.specs.Slots as slots
use Rattle.dashmap_table.specs.Table.{Table}
use Rattle.mapworld_calls.specs.Pairs.{pair_of, AreDistinct}

pub record ShardPairs (K V : Type 0) : Type 0 where
  -- its pairs, in an order that is open
  pub items : List (K × V)
  -- for how many pairs it has room
  pub room : ℕ

abbrev pub shard_pairs : {K V : Type 0} → Table K V → ShardPairs K V
shard_pairs t = record { items = slots.pairs_of t.slots; room = t.room }

-- whether there is room for one pair more
abbrev pub has_room : {K V : Type 0} → ShardPairs K V → Bool
has_room s = nat_lt (length s.items) s.room

-- for how many pairs a shard of n pairs has room behind a growth, at the least; four times as many are the most
abbrev pub grown_room : ℕ → ℕ
grown_room n = 2 * n + 4

abbrev pub number_of : {X : Type 0} → Option X → ℕ
number_of None = 0
number_of (Some y) = 1

-- how many places a key uses up that had o and gets r
abbrev pub used : {X : Type 0} → Option X → Option X → ℕ
used None r = number_of r
used (Some o) r = 0

-- the one shard is the other with o in place of the key's pair: every other key has what it had, no spare room is
-- dropped, and none is taken where the key has a pair
pub record Puts {K V : Type 0} (eq : K → K → Bool) (old new : ShardPairs K V) (key : K) (o : Option (K × V)) : Type 0
  where
    pub found : (q : K) → pair_of eq new.items q ≡ (if eq key q then o else pair_of eq old.items q)
    pub distinct : AreDistinct eq new.items
    pub counted : length new.items + number_of (pair_of eq old.items key) ≡ length old.items + number_of o
    pub spare : old.room + length new.items ≤ new.room + length old.items + used (pair_of eq old.items key) o
    pub no_more : IsSome (pair_of eq old.items key) → new.room ≤ old.room

-- the one shard is the other with more room: every key has what it had
pub record Grown {K V : Type 0} (eq : K → K → Bool) (old new : ShardPairs K V) : Type 0 where
  pub found : (q : K) → pair_of eq new.items q ≡ pair_of eq old.items q
  pub distinct : AreDistinct eq new.items
  pub counted : length new.items ≡ length old.items
  pub room : grown_room (length old.items) ≤ new.room
  pub most : new.room ≤ max old.room (4 * grown_room (length old.items))

-- the one shard is the other with no more room than it needs: every key has what it had, and there is none for a
-- shard without pairs
pub record Shrunk {K V : Type 0} (eq : K → K → Bool) (old new : ShardPairs K V) : Type 0 where
  pub found : (q : K) → pair_of eq new.items q ≡ pair_of eq old.items q
  pub distinct : AreDistinct eq new.items
  pub counted : length new.items ≡ length old.items
  pub room : new.room ≤ old.room
  pub tight : new.room ≤ 4 * length new.items

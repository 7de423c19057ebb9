-- What the owner of locks took out of them and put behind them. The evidence is two members of which nothing else is
-- known.
use Rattle.std.specs.Prelude.{◌≡◌, ℕ, ◌+◌, ◌<◌, ◌≤◌, Bool, List, length, Option, Some, Result, Ok, Err, MatchResult}
use Rattle.std.specs.Hash.{HashWrites}
use Rattle.std.specs.List.{All, AllWithin, AllZip, HoldsAt}
use Rattle.std.specs.declared.hash.BuildHasher as builder
use Rattle.std.specs.declared.hash.Hasher as hasher
use Rattle.crossbeam_utils.specs.declared.cache_padded.CachePadded.{CachePadded}
use Rattle.crossbeam_utils.specs.Padded.{padded_value}
use Rattle.dashmap_table.specs.Route.{share_of}
use Rattle.dashmap_table.specs.Shards.{key_hash}
use Rattle.dashmap_table.specs.Slots.{count}
use Rattle.dashmap_table.specs.Table.{Table, SamePairs}
use Rattle.dashmap_map.specs.Effects.{Inserts, KeepsSpareRoom, Shrunk}
use Rattle.dashmap_map.specs.Evidence.{UnderLock, HeldUpTo}
use Rattle.dashmap_map.specs.Locked.{Locked, lock_at, lock_of}

-- there is room for so many more pairs, and each pair is found as it was
abbrev pub Reserves : {K V : Type 0} → (K → K → Bool) → ℕ → Table K V → Table K V → Type 0
Reserves eq additional old new =
    SamePairs eq old new × (old.room ≤ new.room) × (count new.slots + additional ≤ new.room)

-- there was no room for so many more pairs, and nothing is another
abbrev pub LacksRoom : {K V : Type 0} → ℕ → Table K V → Table K V → Type 0
LacksRoom additional old new = (new ≡ old) × (old.room < count old.slots + additional)

-- room is made for so many more pairs; or there was none, and it was refused
abbrev pub AsksForRoom : {K V X E : Type 0} → (K → K → Bool) → ℕ → Result X E → Table K V → Table K V → Type 0
AsksForRoom eq additional result old new =
    MatchResult result (λ _. Reserves eq additional old new) (λ _. LacksRoom additional old new)

-- there is no pair, and room for that share; none where the share is nothing
abbrev pub IsFresh : {K V : Type 0} → ℕ → Table K V → Type 0
IsFresh share t = (count t.slots ≡ 0) × (share ≤ t.room) × (share ≡ 0 → t.room ≡ 0)

-- behind each of these locks its owner put a table of which P holds
abbrev pub EachBehind : {K V Q : Type 0} → (Q → Table K V → Type 0) → (Table K V → Type 0) → List (CachePadded Q)
    → Type 0
EachBehind {K} {V} put P locks =
    All (λ lock. (shard : Table K V) × put (padded_value lock) shard × P shard) locks

-- so of each of these locks and the table of the same number
abbrev pub EachOf : {K V Q : Type 0} → (Q → Table K V → Type 0) → List (CachePadded Q) → List (Table K V) → Type 0
EachOf seen locks tables = AllZip (λ lock table. seen (padded_value lock) table) locks tables

-- a map is made of shards without pairs, each with room for its share of the capacity, and without room where that is 0
abbrev pub HasRoom : {K V Q S : Type 0} → (Q → Table K V → Type 0) → ℕ → Locked Q S → Type 0
HasRoom put capacity m = EachBehind put (IsFresh (share_of capacity (length m.locks))) m.locks

module _ {K V Q : Type 0} (taken put : Q → Table K V → Type 0) where
  -- the owner of a lock took one table out of it and put another behind it, and P holds between them
  abbrev pub Alone : (Table K V → Table K V → Type 0) → Q → Type 0
  Alone P lock = (old : Table K V) × (new : Table K V) × taken lock old × put lock new × P old new

  -- so of each of these locks
  abbrev pub EachAlone : (Table K V → Table K V → Type 0) → List (CachePadded Q) → Type 0
  EachAlone P locks = All (λ lock. Alone P (padded_value lock)) locks

  -- so of the locks before the n-th, and of that one R holds in place of P
  pub record AloneUpTo (P R : Table K V → Table K V → Type 0) (locks : List (CachePadded Q)) : Type 0 where
    pub n : ℕ
    pub below : n < length locks
    pub before : AllWithin (λ lock. Alone P (padded_value lock)) locks 0 n
    pub here : HoldsAt (λ lock. Alone R (padded_value lock)) locks n

  module _ {S H : Type 0} (b : builder.Ghosts S H) (h : hasher.Ghosts H) (input : K → HashWrites) (m : Locked Q S)
    where
      -- so of the lock of a key's shard, at the key's hash
      abbrev pub AloneAtKey : K → (ℕ → Table K V → Table K V → Type 0) → Type 0
      AloneAtKey key P =
          (lock : Q) × (lock_of b h input m key ≡ Some lock) × Alone (P (key_hash b h input m.hasher key)) lock

      -- a pair was put in behind the lock of its key's shard
      abbrev pub IsPut : (K → K → Bool) → K × V → Type 0
      IsPut eq p =
          (had : Option V) × AloneAtKey p.0 (λ hash old new. Inserts eq old new hash p.0 p.1 (Ok had))

      -- there was no room for a pair there, whose key is new
      abbrev pub HadNoRoom : (K → K → Bool) → K × V → Type 0
      HadNoRoom eq p = AloneAtKey p.0 (λ hash old new. Inserts eq old new hash p.0 p.1 (Err p))

-- each shard was shrunk while it was held, one after another; or so many were, and then one with room to give up was
-- held and stayed as it was
abbrev pub ShrinksAll : {K V Q S Party X E : Type 0} → (K → K → Bool)
    → (Q → Party → Party → Table K V → Table K V → Type 0) → Locked Q S → Party → Party → Result X E → Type 0
ShrinksAll {Party = Party} eq held m from to result = MatchResult result
    (λ _. HeldUpTo held m (Shrunk eq) (length m.locks) from to)
    (λ _. (n : ℕ) × (mid : Party) × HeldUpTo held m (Shrunk eq) n from mid
    × UnderLock held (lock_at m n) mid to KeepsSpareRoom)

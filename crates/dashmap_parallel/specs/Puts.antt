-- Pairs that are dealt out to pieces, and put into their shards.
use Rattle.std.specs.Prelude.{◌≡◌, ℕ, ◌+◌, ◌-◌, ◌*◌, ◌/◌, ◌%◌, ◌<◌, ◌≤◌, Bool, if◌then◌else◌, nat_eq, nat_lt, List, ◌∷◌}
use Rattle.std.specs.Prelude.{◌++◌, length, filter, slice_get, slice_index_or, All, Some, None}
use Rattle.std.specs.declared.vec.Vec.{Vec}
use Rattle.std.specs.declared.hash.BuildHasher as builder
use Rattle.std.specs.declared.hash.Hasher as hasher
use Rattle.std.specs.Hash.{HashWrites}
use Rattle.std.specs.List.{FoldsTo}
use Rattle.std.specs.Option.{option_map}
use Rattle.crossbeam_utils.specs.declared.cache_padded.CachePadded.{CachePadded}
use Rattle.crossbeam_utils.specs.Padded.{padded_value}
use Rattle.dashmap_table.specs.Route.{route_of}
use Rattle.dashmap_table.specs.Slots.{count, slot_of}
use Rattle.dashmap_table.specs.Table.{Table, PutsIn}
use Rattle.dashmap_table.specs.Shards.{key_hash}
use Rattle.dashmap_map.specs.Evidence.{UnderLock, UnderKey}
use Rattle.dashmap_map.specs.Locked.{Locked, shard_of, lock_of}
use Rattle.dashmap_iter.specs.Walks.Held.{WhileHeld}

-- the piece that a shard belongs to: the first pieces have one shard more as long as there is a rest
abbrev pub piece_number : ℕ → ℕ → ℕ → ℕ
piece_number shards pieces shard =
    if nat_lt shard ((shards % pieces) * (shards / pieces + 1)) then shard / (shards / pieces + 1) else
    (shards % pieces) + (shard - (shards % pieces) * (shards / pieces + 1)) / (shards / pieces)

-- each list has the items that belong to it, in their order, and each item belongs to one
pub record AreDealt {X A : Type 0} (to : X → ℕ) (xs : List X) (lists : List (Vec X A)) : Type 0 where
  pub below : All (λ x. to x < length lists) xs
  pub each : (k : ℕ) (d : Vec X A) → k < length lists → (slice_index_or lists k d).items ≡ filter (λ x. nat_eq (to x) k)
      xs

-- a new key finds no room in its shard, which stays as it is
pub record FindsNoRoom {K V : Type 0} (eq : K → K → Bool) (old new : Table K V) (hash : ℕ) (key : K) : Type 0 where
  pub absent : slot_of eq old.slots hash key ≡ None
  pub full : old.room ≤ count old.slots
  pub stays : new ≡ old

-- the piece of the shard to which a hash leads
abbrev pub piece_at : {K V : Type 0} → ℕ → ℕ → ℕ × K × V → ℕ
piece_at shards pieces x = piece_number shards pieces (route_of x.0 shards)

module _ {K V Q Party : Type 0} (eq : K → K → Bool) (held : Q → Party → Party → Table K V → Table K V → Type 0)
    (locks : List (CachePadded Q)) where
  -- that lock of some shards to which a hash leads was held exclusively, by the wait that took the party on, and P
  -- holds between what it found and what it left
  abbrev pub AtLockOf : ℕ → Party → Party → (Table K V → Table K V → Type 0) → Type 0
  AtLockOf hash from to P =
      UnderLock held (option_map padded_value (slice_get locks (route_of hash (length locks)))) from to P

  -- in which a pair was put in under its hash
  abbrev pub PutAt : Party → ℕ × K × V → Party → Type 0
  PutAt from x to = AtLockOf x.0 from to (λ old new. PutsIn eq old new x.0 x.1 x.2)

  -- in which it found no room
  abbrev pub RefusedAt : Party → ℕ × K × V → Party → Type 0
  RefusedAt from x to = AtLockOf x.0 from to (λ old new. FindsNoRoom eq old new x.0 x.1)

  -- pairs were put in so in their order, by one wait of a party after another, and it had no other
  abbrev pub PutInTurn : Party → List (ℕ × K × V) → Party → Type 0
  PutInTurn from xs to = FoldsTo PutAt from xs to

  -- the first pairs were put in so, and the next one found no room
  abbrev pub PutUpTo : Party → List (ℕ × K × V) → Party → Type 0
  PutUpTo from xs to = (before : List (ℕ × K × V)) × (x : ℕ × K × V) × (rest : List (ℕ × K × V)) × (between : Party)
      × (xs ≡ before ++ x ∷ rest) × PutInTurn from before between × RefusedAt between x to

module _ {K V S H : Type 0} (b : builder.Ghosts S H) (h : hasher.Ghosts H) (input : K → HashWrites) where
  -- a pair behind the hash of its key
  abbrev pub hashed : S → K × V → ℕ × K × V
  hashed s p = (key_hash b h input s p.0, p.0, p.1)

  -- the piece of the shard of a pair's key, where a map's shards are cut into so many
  abbrev pub piece_of_pair : {Q : Type 0} → Locked Q S → ℕ → K × V → ℕ
  piece_of_pair m pieces p = piece_number (length m.locks) pieces (shard_of b h input m p.0)

module _ {K V Q S H Party : Type 0} (b : builder.Ghosts S H) (h : hasher.Ghosts H) (input : K → HashWrites)
    (eq : K → K → Bool) (held : Q → Party → Party → Table K V → Table K V → Type 0) (m : Locked Q S) where
  -- a pair was put in under an exclusive hold of the lock of its key's shard
  abbrev pub WasPut : K × V → Type 0
  WasPut p = (lock : Q) × (lock_of b h input m p.0 ≡ Some lock)
      × WhileHeld held lock (λ old new. PutsIn eq old new (key_hash b h input m.hasher p.0) p.0 p.1)

  -- so, by the wait that took a party on
  abbrev pub PutByWait : Party → K × V → Party → Type 0
  PutByWait from p to = UnderKey b h input held m p.0 from to (λ hash old new. PutsIn eq old new hash p.0 p.1)

  -- each piece of a map's shards has a party of its own, which had one wait after another: one for each pair of the
  -- piece in their order, in the hold of which that pair was put in, and no other. Each pair is of one piece
  pub record PutInPieces (pairs : List (K × V)) (old new : List Party) : Type 0 where
    pub same : length new ≡ length old
    pub below : All (λ p. piece_of_pair b h input m (length old) p < length old) pairs
    pub each : (k : ℕ) (d : Party) → k < length old → FoldsTo PutByWait (slice_index_or old k d)
        (filter (λ p. nat_eq (piece_of_pair b h input m (length old) p) k) pairs) (slice_index_or new k d)

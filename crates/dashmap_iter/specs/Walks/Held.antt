-- What was done to shards while they were held, one after another.
use Rattle.std.specs.Prelude.{ℕ, length}
use Rattle.dashmap_table.specs.Table.{Table}
use Rattle.dashmap_map.specs.Evidence.{UnderLock}
use Rattle.dashmap_map.specs.Locked.{Locked, lock_at}
use Rattle.dashmap_iter.specs.Walks.Visits.{Walked}

module _ {K V Q Party : Type 0} (held : Q → Party → Party → Table K V → Table K V → Type 0) where
  -- of an exclusive hold of a lock there is evidence, which some wait gave, and P holds between what it found and what
  -- it left
  abbrev pub WhileHeld : Q → (Table K V → Table K V → Type 0) → Type 0
  WhileHeld lock P =
      (from : Party) × (to : Party) × (old : Table K V) × (new : Table K V) × held lock from to old new × P old new

module _ {K V Q Party F S : Type 0} (held : Q → Party → Party → Table K V → Table K V → Type 0) (m : Locked Q S)
    (P : F × Table K V → F × Table K V → Type 0) where
  -- of an exclusive hold of each of the first n shards there is evidence, of one wait after another, and P took what is
  -- beside the party on over what each of them found and left
  abbrev pub LockedUpTo : ℕ → Party × F → Party × F → Type 0
  LockedUpTo n p q =
      Walked (λ p i q. UnderLock held (lock_at m i) p.0 q.0 (λ old new. P (p.1, old) (q.1, new))) n p q

  -- so of all shards, each of which was held once
  abbrev pub EachLocked : Party × F → Party × F → Type 0
  EachLocked p q = LockedUpTo (length m.locks) p q

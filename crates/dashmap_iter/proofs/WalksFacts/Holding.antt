-- Walks over shards, a shard at a time.
use Rattle.std.proofs.Common.{◌≡◌, ℕ, ◌+◌, List, Some, slice_get, refl, sym, subst}
use Rattle.std.specs.Option.{option_map}
use Rattle.crossbeam_utils.specs.declared.cache_padded.CachePadded.{CachePadded}
use Rattle.crossbeam_utils.specs.Padded.{padded_value}
use Rattle.dashmap_table.specs.Table.{Table}
use Rattle.dashmap_map.specs.Evidence.{UnderLock}
use Rattle.dashmap_map.specs.Locked.{Locked, lock_at}
use Rattle.dashmap_iter.specs.Walks.Held.{LockedUpTo}
use Rattle.dashmap_iter.proofs.WalksFacts.Walking.{walked_next}

-- a lock that was found in the list of a map's locks is that of the shard
pub found_at : {Q S : Type 0} (m : Locked Q S) (locks : List (CachePadded Q)) (i : ℕ) (lock : Q) → locks ≡ m.locks
    → option_map padded_value (slice_get locks i) ≡ Some lock → lock_at m i ≡ Some lock
found_at m locks i lock same read = subst (λ ls. option_map padded_value (slice_get ls i) ≡ Some lock) same read

module _ {K V Q Party F S : Type 0} (held : Q → Party → Party → Table K V → Table K V → Type 0) (m : Locked Q S)
    (P : F × Table K V → F × Table K V → Type 0) where
  -- one shard further
  pub locked_next : (n : ℕ) (p q r : Party × F) (lock : Q) → LockedUpTo held m P n p q → lock_at m n ≡ Some lock
      → UnderLock held (Some lock) q.0 r.0 (λ old new. P (q.1, old) (r.1, new)) → LockedUpTo held m P (n + 1) p r
  locked_next n p q r lock before at did =
      walked_next (λ p i q. UnderLock held (lock_at m i) p.0 q.0 (λ old new. P (p.1, old) (q.1, new))) n p q r before
      (subst (λ o. UnderLock held o q.0 r.0 (λ old new. P (q.1, old) (r.1, new))) (sym at) did)

  -- up to a number is up to an equal one
  pub locked_same : (n k : ℕ) (p q : Party × F) → n ≡ k → LockedUpTo held m P n p q → LockedUpTo held m P k p q
  locked_same n k p q same locked = subst (λ j. LockedUpTo held m P j p q) same locked

  -- the first n shards were held and given back, and that of the number n, which the wait from this party gave, is held
  abbrev pub HoldsAfter : ℕ → Party × F → Q → Party → Table K V → Table K V → F → Type 0
  HoldsAfter n p lock from old new f =
      (g : F) × LockedUpTo held m P n p (from, g) × (lock_at m n ≡ Some lock) × P (g, old) (f, new)

  -- the first is held
  pub holds_first : (p : Party × F) (lock : Q) (from : Party) (old new : Table K V) (f : F) → from ≡ p.0
      → lock_at m 0 ≡ Some lock → P (p.1, old) (f, new) → HoldsAfter 0 p lock from old new f
  holds_first p lock from old new f same at did =
      (p.1, subst (λ q. LockedUpTo held m P 0 p (q, p.1)) (sym same) refl, at, did)

  -- what is held is given back
  pub gave_back : (n : ℕ) (p : Party × F) (lock : Q) (from to next : Party) (old new : Table K V) (f : F)
      → HoldsAfter n p lock from old new f → held lock from to old new → to ≡ next
      → LockedUpTo held m P (n + 1) p (next, f)
  gave_back n p lock from to next old new f holds did same =
      locked_next n p (from, holds.0) (next, f) lock holds.1 holds.2
      (lock, old, new, refl, subst (λ t. held lock from t old new) same did, holds.3)

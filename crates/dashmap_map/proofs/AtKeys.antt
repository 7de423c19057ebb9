-- What a look-up of a key under a hold comes to.
use Rattle.std.proofs.Common.{◌≡◌, ℕ, ◌≤◌, Bool, Option, Some, None, Result, Ok, Err, MatchOption, IfOk, IfErr, ap}
use Rattle.lock_api_rw.specs.declared.Guard.{Guard}
use Rattle.dashmap_table.specs.Slots.{count, slot_of}
use Rattle.dashmap_table.specs.Table.{Table, SamePairs}
use Rattle.dashmap_guard.specs.declared.mapref.entry.Entry.{Entry}
use Rattle.dashmap_guard.specs.declared.mapref.entry.Entry.TheVariants.{Occupied, Vacant}
use Rattle.dashmap_guard.specs.Entries.{by_entry}
use Rattle.dashmap_map.specs.Effects.{Finds, IsEntryOf, Enters}

module _ {K V W H Lock Runtime Party Apart : Type 0} (eq : K → K → Bool) (part : W → Table K V)
    (guard : Guard W H Lock Runtime Party Apart) (hash : ℕ) (key : K) where
  pub finds : (result : Option (Guard W H Lock Runtime Party Apart × ℕ))
      → MatchOption result (slot_of eq (part guard.inner).slots hash key ≡ None)
      (λ r. (r.0 ≡ guard) × (slot_of eq (part guard.inner).slots hash key ≡ Some r.1))
      → Finds eq (λ r. (part r.0.inner, r.1)) (part guard.inner) hash key result
  finds None none = none
  finds (Some r) is = (ap (λ w. part w.inner) is.0, is.1)

module _ {K V A W H D Lock Runtime Party Apart : Type 0} (eq : K → K → Bool) (part : W → Table K V)
    (guard : Guard W H Lock Runtime Party Apart) (hash : ℕ) (key : K) where
  -- what is said of an entry that was found under a guard
  abbrev FoundBy : Entry K V A W H D Lock Runtime Party Apart → Type 0
  FoundBy entry = by_entry
      (λ o. (o.1 ≡ key) × (o.0.0 ≡ guard) × (slot_of eq (part guard.inner).slots hash key ≡ Some o.0.1))
      (λ v. (v.1 ≡ hash) × (v.2 ≡ key) × (v.0.held ≡ guard.held)
      × (slot_of eq (part guard.inner).slots hash key ≡ None) × SamePairs eq (part guard.inner) (part v.0.inner)) entry

  pub is_entry : (entry : Entry K V A W H D Lock Runtime Party Apart) → FoundBy entry
      → IsEntryOf eq part (part guard.inner) hash key entry
  is_entry (Occupied o) found = (ap (λ w. part w.inner) found.1, found.2)
  is_entry (Vacant v) found = (found.3, found.4)

  pub enters : (result : Result (Entry K V A W H D Lock Runtime Party Apart) K) → IfOk result FoundBy
      → IfErr result (λ back. (back ≡ key) × (slot_of eq (part guard.inner).slots hash key ≡ None)
      × ((part guard.inner).room ≤ count (part guard.inner).slots))
      → Enters eq part (part guard.inner) hash key result
  enters (Ok entry) found refused = is_entry entry found
  enters (Err back) found refused = (refused.1, refused.2)

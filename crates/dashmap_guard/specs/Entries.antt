-- The two kinds of entries.
use Rattle.std.specs.Prelude.{ℕ, Option, Some}
use Rattle.lock_api_guards.specs.declared.guard.Guard.{Guard}
use Rattle.dashmap_table.specs.Table.{Table}
use Rattle.dashmap_guard.specs.declared.mapref.entry.Entry.{Entry}
use Rattle.dashmap_guard.specs.declared.mapref.entry.Entry.TheVariants.{Occupied, Vacant}
use Rattle.dashmap_guard.specs.Guarded.{key_in}

module _ {K V A W H D Lock Runtime Party Apart : Type 0} where
  -- what holds of an occupied entry, and what of a vacant one
  abbrev pub by_entry : ((Guard W H Lock Runtime Party Apart × ℕ) × K → Type 0)
      → (Guard W H Lock Runtime Party Apart × ℕ × K → Type 0) → Entry K V A W H D Lock Runtime Party Apart → Type 0
  by_entry occupied vacant (Occupied entry) = occupied entry
  by_entry occupied vacant (Vacant entry) = vacant entry

  -- the stored key of an occupied entry, and the key that a vacant one was handed
  abbrev pub entry_key : (W → Table K V) → Entry K V A W H D Lock Runtime Party Apart → Option K
  entry_key part (Occupied entry) = key_in (part entry.0.0.inner) entry.0.1
  entry_key part (Vacant entry) = Some entry.2

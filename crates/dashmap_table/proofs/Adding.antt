-- A new entry in a free slot.
use Rattle.std.proofs.Common.{◌≡◌, ◌<◌, ℕ, Bool, List, length, Option, Some, None, slice_set}
use Rattle.std.specs.Cmp.{IsEquivalence}
use Rattle.std.proofs.lemmas.List.{get_or-set_same, get_or-set_other}
use Rattle.dashmap_table.specs.declared.entry.Entry.{Entry}
use Rattle.dashmap_table.specs.Slots.{at, slot_of, AreDistinct}
use Rattle.dashmap_table.proofs.Changing.{AreDistinct-added}

module _ {K V : Type 0} (eq : K → K → Bool) (laws : IsEquivalence eq) (xs : List (Option (Entry K V))) (e : Entry K V)
    (distinct : AreDistinct eq xs) (absent : slot_of eq xs e.hash e.key ≡ None) where
  pub AreDistinct-filled : (i : ℕ) → i < length xs → at xs i ≡ None → AreDistinct eq (slice_set xs i (Some e))
  AreDistinct-filled i within free =
      AreDistinct-added eq laws xs (slice_set xs i (Some e)) e i distinct absent free
      (get_or-set_same xs i (Some e) None within) (λ j other. get_or-set_other xs i j (Some e) None other)

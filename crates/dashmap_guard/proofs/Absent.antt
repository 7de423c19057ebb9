-- A key that isn't there stays so where every key finds what it found.
use Rattle.std.proofs.Common.{◌≡◌, ℕ, Bool, None, sym, ap, ◌∙◌, inl, inr}
use Rattle.std.specs.Option.{option_and_then}
use Rattle.std.proofs.lemmas.Option.{none-some}
use Rattle.dashmap_table.specs.Slots.{at, slot_of}
use Rattle.dashmap_table.specs.Table.{Table, SamePairs}
use Rattle.dashmap_table.proofs.Cases.{option_cases}
use Rattle.dashmap_table.proofs.Finding.{slot_of-is, entry_of-none}

pub absent-same : {K V : Type 0} (eq : K → K → Bool) (old new : Table K V) → SamePairs eq old new → (hash : ℕ) (key : K)
    → slot_of eq old.slots hash key ≡ None → slot_of eq new.slots hash key ≡ None
absent-same eq old new same hash key absent = elim (option_cases (slot_of eq new.slots hash key)) [
  | inl none ↦ none
  | inr some ↦
      let is = slot_of-is eq new.slots hash key some.0 some.1 in
      absurd (none-some is.0 (sym (entry_of-none eq old.slots hash key absent) ∙ sym (same.found hash key)
      ∙ (ap (option_and_then (at new.slots)) some.1 ∙ is.1)))
]

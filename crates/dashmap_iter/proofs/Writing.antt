-- What a writing walk does between two calls.
use Rattle.std.proofs.Common.{◌≡◌, ℕ, zero, suc, ◌+◌, Bool, List, false, [], ◌∷◌, Option, Some, None, IsSome, refl, sym}
use Rattle.std.proofs.Common.{ap, subst, ◌∙◌, inl, inr, arith}
use Rattle.std.proofs.Math.Bool.{Bool-set}
use Rattle.std.proofs.lemmas.Bool.{false≢true}
use Rattle.std.specs.Option.{option_map}
use Rattle.dashmap_table.specs.declared.entry.Entry.{Entry}
use Rattle.dashmap_table.specs.Slots.{at, IsNextFull, giving_value, changed}
use Rattle.dashmap_table.specs.Table.{Table, with_value}
use Rattle.dashmap_table.proofs.Cases.{option_cases}
use Rattle.dashmap_iter.specs.Lending.{Walk, slots_held, Passes}
use Rattle.dashmap_iter.specs.Writing.{LendsToWrite, guard_written, if_full}
use Rattle.dashmap_iter.proofs.Leaving.{full_within, passes_failed}

-- a full slot stays full where its entry is changed
changed_full : {K V : Type 0} (f : Entry K V → Entry K V) (xs : List (Option (Entry K V))) (i : ℕ) → IsSome (at xs i)
    → IsSome (at (changed f xs i) i)
changed_full f [] zero full = full
changed_full f [] (suc i) full = full
changed_full f (None ∷ xs) zero full = full
changed_full f (Some e ∷ xs) zero full = refl
changed_full f (x ∷ xs) (suc i) full = changed_full f xs i full

-- a slot that was written stays full
pub still_full : {K V G : Type 0} (table : G → Table K V) (with_table : G → Table K V → G)
    → ((g : G) (t : Table K V) → table (with_table g t) ≡ t) → (held : Option G) (slot : ℕ) (value : V)
    → IsSome (at (slots_held table held) slot)
    → IsSome (at (slots_held table (option_map (guard_written table with_table slot value) held)) slot)
still_full table with_table law None slot value full = full
still_full {K} {V} table with_table law (Some g) slot value full =
    subst (λ (t : Table K V). IsSome (at t.slots slot)) (sym (law g (with_value (table g) slot value)))
    (changed_full (giving_value value) (table g).slots slot full)

-- where a slot is full, any proof of it makes the same
pub if_full_at : {E X : Type 0} (slot : Option E) (made : IsSome slot → X) (other : X) (full : IsSome slot)
    → made full ≡ if_full slot made other
if_full_at None made other full = absurd (false≢true full)
if_full_at (Some entry) made other full = ap made (Bool-set _ _ full refl)

module _ {K V Q G : Type 0} (eq : K → K → Bool) (table : G → Table K V) (lock : G → Q)
    (seen : Q → Table K V → Type 0) where
  -- the walk that went on to u lends the slot that was found there
  pub lends_found : (v u : Walk Q G) (slot passed : ℕ) → u.failed ≡ false → Passes eq table lock seen passed v u
      → IsNextFull (slots_held table u.held) u.from slot
      → LendsToWrite table eq lock seen v slot (record u { from = slot + 1 })
  lends_found v u slot passed ready passes next = elim (option_cases u.held) [
    | inl none ↦ absurd
        (omega (
          arith,
          full_within {K = K} {V = V} [] slot
              (subst (λ (o : Option G). IsSome (at (slots_held table o) slot)) none next.full),
        ))
    | inr some ↦ (
      some.0,
      record {
        ready = sym (passes_failed eq table lock seen passed v u passes) ∙ ready;
        passed = passed;
        stop = u;
        passes = passes;
        held = some.1;
        slot = subst (λ (o : Option G). IsNextFull (slots_held table o) u.from slot) some.1 next;
        after = refl;
      },
    )
  ]

-- Values that are written slot by slot.
use Rattle.std.proofs.Common.{◌≡◌, ◌≢◌, ℕ, suc, ◌+◌, ◌<◌, ◌≤◌, List, [], ◌∷◌, length, slice_index_or, Option, Some}
use Rattle.std.proofs.Common.{None, MatchOption, refl, sym, ap, ◌∙◌, subst, inl, inr, arith}
use Rattle.std.specs.Option.{option_map}
use Rattle.std.specs.List.{AllZip}
use Rattle.std.specs.Borrow.{Bor, MutBor}
use Rattle.std.proofs.lemmas.Bool.{cases_eq, cases_lt}
use denote.Param.Members.{Shared}
use Rattle.dashmap_table.specs.declared.entry.Entry.{Entry}
use Rattle.dashmap_table.specs.Slots.{at, pair_of, giving_value, IsNextFull}
use Rattle.dashmap_table.specs.Table.{Table}
use Rattle.dashmap_table.proofs.Cases.{option_cases}
use Rattle.dashmap_table.proofs.Changing.{at-changed, at-changed_other}
use Rattle.dashmap_view.specs.Parallel.Calls.{LeavesOf, WritesAt, IsWritten}

module _ {F K V : Type 0} (g : Shared F (Bor K × (MutBor V × Unit {0})) (Unit {0} × (MutBor V × Unit {0}))) (f : F)
  where
    -- the slots below one are written, and the others as they were
    pub record WritesBelow (from : ℕ) (old new : Table K V) : Type 0 where
      pub below : (i : ℕ) → i < from → IsWritten g f old new i
      pub above : (i : ℕ) → from ≤ i → at new.slots i ≡ at old.slots i

    pub writes-none : (t : Table K V) → WritesBelow 0 t t
    writes-none t = record { below = λ i lt. absurd (omega (arith, lt)); above = λ i le. refl }

    -- a slot that has what another table has there is written in both
    moved : (old mid new : Table K V) (i : ℕ) → at new.slots i ≡ at mid.slots i → IsWritten g f old mid i
        → IsWritten g f old new i
    moved old mid new i same h =
        subst (λ o. MatchOption (at old.slots i) (o ≡ None)
        (λ e. (w : V) × LeavesOf g f (pair_of e) w × (o ≡ Some (giving_value w e)))) (sym same) h

    free : (old new : Table K V) (i : ℕ) → at old.slots i ≡ None → at new.slots i ≡ None → IsWritten g f old new i
    free old new i was is =
        subst (λ o. MatchOption o (at new.slots i ≡ None)
        (λ e. (w : V) × LeavesOf g f (pair_of e) w × (at new.slots i ≡ Some (giving_value w e)))) (sym was) is

    full : (old new : Table K V) (i : ℕ) (e : Entry K V) (w : V) → at old.slots i ≡ Some e → LeavesOf g f (pair_of e) w
        → at new.slots i ≡ Some (giving_value w e) → IsWritten g f old new i
    full old new i e w was leaves is =
        subst (λ o. MatchOption o (at new.slots i ≡ None)
        (λ e. (w : V) × LeavesOf g f (pair_of e) w × (at new.slots i ≡ Some (giving_value w e)))) (sym was)
        (w, leaves, is)

    module _ (from i : ℕ) (old mid new : Table K V) (so_far : WritesBelow from old mid)
        (next : IsNextFull mid.slots from i) (writes : WritesAt g f mid i new) where
      still : (j : ℕ) → j ≢ i → at new.slots j ≡ at mid.slots j
      still j other = ap (λ (t : Table K V). at t.slots j) writes.after ∙ at-changed_other (giving_value writes.left)
          mid.slots i j other

      here : at new.slots i ≡ Some (giving_value writes.left writes.entry)
      here =
          ap (λ (t : Table K V). at t.slots i) writes.after
          ∙ (at-changed (giving_value writes.left) mid.slots i ∙ ap (option_map (giving_value writes.left)) writes.full)

      pub writes-one : WritesBelow (i + 1) old new
      writes-one = record {
        below = λ j lt. elim (cases_eq j i) [
          | inl same ↦
              subst (λ n. IsWritten g f old new n) (sym same)
              (full old new i writes.entry writes.left (sym (so_far.above i next.above) ∙ writes.full) writes.leaves
              here)
          | inr other ↦ elim (cases_lt j from) [
            | inl low ↦ moved old mid new j (still j other) (so_far.below j low)
            | inr high ↦
                let none = next.first j high (let apart = other in omega (arith, lt, apart)) in
                free old new j (sym (so_far.above j high) ∙ none) (still j other ∙ none)
          ]
        ];
        above = λ j le. still j (λ same. absurd (omega (arith, le, same)))
            ∙ so_far.above j (let at_least = next.above in omega (arith, le, at_least));
      }

    -- no full slot is left from one on
    pub writes-rest : (from : ℕ) (old new : Table K V) → WritesBelow from old new
        → ((i : ℕ) → from ≤ i → at new.slots i ≡ None) → (i : ℕ) → IsWritten g f old new i
    writes-rest from old new so_far none i = elim (cases_lt i from) [
      | inl low ↦ so_far.below i low
      | inr high ↦ free old new i (sym (so_far.above i high) ∙ none i high) (none i high)
    ]

-- what holds at each place of two lists
pub zip-by-index : {X : Type 0} (R : X → X → Type 0) (xs ys : List X) → length ys ≡ length xs
    → ((k : ℕ) (d : X) → k < length xs → R (slice_index_or xs k d) (slice_index_or ys k d)) → AllZip R xs ys
zip-by-index R [] [] long h = tt
zip-by-index R [] (y ∷ ys) long h = absurd (omega (arith, long))
zip-by-index R (x ∷ xs) [] long h = absurd (omega (arith, long))
zip-by-index R (x ∷ xs) (y ∷ ys) long h =
    (h 0 x (omega arith), zip-by-index R xs ys (omega (arith, long)) (λ k d lt. h (suc k) d (omega (arith, lt))))

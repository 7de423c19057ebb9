-- The entries of some slots, moved one after another into another table.
use Rattle.std.proofs.Common.{◌≡◌, ◌≢◌, ℕ, ◌+◌, ◌<◌, ◌≤◌, cond, Bool, true, false, List, length, take, Option, Some}
use Rattle.std.proofs.Common.{None, is_some, slice_index_or, sym, ap, ◌∙◌, subst, inl, inr, arith}
use Rattle.std.specs.Cmp.{IsEquivalence}
use Rattle.std.specs.Option.{option_and_then}
use Rattle.std.proofs.lemmas.Bool.{cases_lt, cases_eq, cases_Bool, false_from_ne_true, false≢true}
use Rattle.std.proofs.lemmas.Option.{none-some, same_Some}
use Rattle.std.proofs.lemmas.List.{get_or_read, get_or-take, get_or_past, length-take}
use Rattle.std.proofs.lemmas.List.Sums.{count_by_more_yes, count_by_more_no, sum_by-take-le}
use Rattle.dashmap_table.specs.declared.entry.Entry.{Entry}
use Rattle.dashmap_table.specs.Slots.{at, count, holds, slot_of, entry_of, AreDistinct}
use Rattle.dashmap_table.specs.Table.{Table, IsSound, Adds, SamePairs}
use Rattle.dashmap_table.proofs.Cases.{option_cases}
use Rattle.dashmap_table.proofs.Places.{at_within}
use Rattle.dashmap_table.proofs.Finding.{slot_of-is, slot_of-none_from, entry_of-at, entry_of-none, entry_of-same}

-- what was read of a slot that is as it was
pub read-at : {X : Type 0} (xs ys : List (Option X)) (i : ℕ) (read : Option X) → i < length xs → length ys ≡ length xs
    → slice_index_or ys i None ≡ slice_index_or xs i None → read ≡ slice_index_or ys i read
    → read ≡ slice_index_or xs i None
read-at xs ys i read within long left here = get_or_read ys i read (omega (arith, within, long)) here None ∙ left

module _ {K V : Type 0} where
  pub at-take_from : (xs : List (Option (Entry K V))) (n j : ℕ) → j < n → at (take n xs) j ≡ at xs j
  at-take_from xs n j below = get_or-take n xs j None below

  pub at-take : (xs : List (Option (Entry K V))) (n j : ℕ) (e : Entry K V) → at (take n xs) j ≡ Some e → (j < n)
      × (at xs j ≡ Some e)
  at-take xs n j e here = elim (cases_lt j n) [
    | inl below ↦ (below, sym (at-take_from xs n j below) ∙ here)
    | inr over ↦ absurd
        (none-some e (sym (get_or_past (take n xs) j None (omega (arith, over, length-take n xs))) ∙ here))
  ]

  -- one more is full, or not
  pub count-more_full : (xs : List (Option (Entry K V))) (i : ℕ) (e : Entry K V) → at xs i ≡ Some e
      → count (take (i + 1) xs) ≡ count (take i xs) + 1
  count-more_full xs i e here = count_by_more_yes is_some xs i None (at_within xs i e here) (ap is_some here)

  pub count-more_free : (xs : List (Option (Entry K V))) (i : ℕ) → i < length xs → at xs i ≡ None
      → count (take (i + 1) xs) ≡ count (take i xs)
  count-more_free xs i within here = count_by_more_no is_some xs i None within (ap is_some here)

  pub count-room : (xs : List (Option (Entry K V))) (i : ℕ) (e : Entry K V) → at xs i ≡ Some e
      → count (take i xs) + 1 ≤ count xs
  count-room xs i e here =
      let more = count-more_full xs i e here in
      let most = count-take_le xs (i + 1) in omega (arith, more, most)
    where
      count-take_le : (ys : List (Option (Entry K V))) (n : ℕ) → count (take n ys) ≤ count ys
      count-take_le ys n = sum_by-take-le (λ o. cond (is_some o) 1 0) ys n

  module _ (eq : K → K → Bool) where
    -- what isn't found is found in no table that finds the same
    pub absent-carried : (ys zs : List (Option (Entry K V))) (h : ℕ) (k : K) → entry_of eq ys h k ≡ entry_of eq zs h k
        → slot_of eq zs h k ≡ None → slot_of eq ys h k ≡ None
    absent-carried ys zs h k same absent = elim (option_cases (slot_of eq ys h k)) [
      | inl none ↦ none
      | inr some ↦
          let is = slot_of-is eq ys h k some.0 some.1 in
          let found : entry_of eq ys h k ≡ Some is.0 = ap (option_and_then (at ys)) some.1 ∙ is.1 in
          absurd (none-some is.0 (sym (entry_of-none eq zs h k absent) ∙ (sym same ∙ found)))
    ]

  module _ (eq : K → K → Bool) (laws : IsEquivalence eq) (xs : List (Option (Entry K V))) (distinct : AreDistinct eq xs)
    where
      pub distinct-take : (n : ℕ) → AreDistinct eq (take n xs)
      distinct-take n i j d e hi hj has = distinct i j d e (at-take xs n i d hi).1 (at-take xs n j e hj).1 has

      -- a slot's entry isn't in those before
      pub absent-before : (i : ℕ) (e : Entry K V) → at xs i ≡ Some e → slot_of eq (take i xs) e.hash e.key ≡ None
      absent-before i e here = slot_of-none_from eq (take i xs) e.hash e.key
          (λ j d there. false_from_ne_true (holds eq e.hash e.key (Some d)) (λ has.
          let before = at-take xs i j d there in
          let same : i ≡ j = distinct i j e d here before.1 has in absurd (omega (arith, same, before.0))))

      -- one more slot, which doesn't hold what is looked for
      pub entry-more_other : (i h : ℕ) (k : K) → ((e : Entry K V) → at xs i ≡ Some e → holds eq h k (Some e) ≡ false)
          → entry_of eq (take (i + 1) xs) h k ≡ entry_of eq (take i xs) h k
      entry-more_other i h k other = entry_of-same eq laws (take i xs) (take (i + 1) xs) (distinct-take (i + 1))
          h k there
          back
        where
          there : (j : ℕ) (e : Entry K V) → at (take i xs) j ≡ Some e → holds eq h k (Some e) ≡ true → (m : ℕ)
              × (at (take (i + 1) xs) m ≡ Some e)
          there j e here has =
              let before = at-take xs i j e here in (j, at-take_from xs (i + 1) j (omega (arith, before.0)) ∙ before.1)

          back : (j : ℕ) (e : Entry K V) → at (take (i + 1) xs) j ≡ Some e → holds eq h k (Some e) ≡ true → (m : ℕ)
              × (at (take i xs) m ≡ Some e)
          back j e here has =
              let before = at-take xs (i + 1) j e here in
              elim (cases_eq j i) [
                | inl same ↦ absurd (false≢true (sym (other e (ap (at xs) (sym same) ∙ before.1)) ∙ has))
                | inr apart ↦ (j, at-take_from xs i j (omega (arith, before.0, apart)) ∙ before.1)
              ]

      pub entry-more_own : (i h : ℕ) (k : K) (e : Entry K V) → at xs i ≡ Some e → holds eq h k (Some e) ≡ true
          → entry_of eq (take (i + 1) xs) h k ≡ Some e
      entry-more_own i h k e here has = entry_of-at eq laws (take (i + 1) xs) (distinct-take (i + 1)) h k i e
          (at-take_from xs (i + 1) i (omega arith) ∙ here) has

      -- a table that finds the same takes one more
      pub found-more : (old new : Table K V) (i s : ℕ) (e : Entry K V) → Adds eq old new e s → IsSound eq new
          → at xs i ≡ Some e
          → ((h : ℕ) (k : K) → entry_of eq old.slots h k ≡ entry_of eq (take i xs) h k) → (h : ℕ) (k : K)
          → entry_of eq new.slots h k ≡ entry_of eq (take (i + 1) xs) h k
      found-more old new i s e adds sound here found h k = elim (cases_Bool (holds eq h k (Some e))) [
        | inl has ↦ entry_of-at eq laws new.slots sound.distinct h k s e adds.placed has
            ∙ sym (entry-more_own i h k e here has)
        | inr not ↦
            adds.others h k not
            ∙ (found h k
            ∙ sym (entry-more_other i h k (λ d there. ap (λ x. holds eq h k (Some x)) (same_Some d e (sym there ∙ here))
            ∙ not)))
      ]

      pub found-free : (old : Table K V) (i : ℕ) → at xs i ≡ None
          → ((h : ℕ) (k : K) → entry_of eq old.slots h k ≡ entry_of eq (take i xs) h k) → (h : ℕ) (k : K)
          → entry_of eq old.slots h k ≡ entry_of eq (take (i + 1) xs) h k
      found-free old i none found h k = found h k
          ∙ sym (entry-more_other i h k (λ d there. absurd (none-some d (sym none ∙ there))))

  -- a table that was given room and then took an entry
  pub adds-after : (eq : K → K → Bool) (old mid new : Table K V) (e : Entry K V) (i : ℕ) → SamePairs eq old mid
      → old.room ≤ mid.room → (count old.slots + 1 ≤ old.room → mid ≡ old) → Adds eq mid new e i → Adds eq old new e i
  adds-after eq old mid new e i same room stays adds =
      record {
        placed = adds.placed;
        others = λ h k not. adds.others h k not ∙ same.found h k;
        counted = adds.counted ∙ ap (λ n. n + 1) same.counted;
        left = omega (arith, adds.left, adds.counted, same.counted, room);
        in_place = λ some.
            let is = stays (omega (arith, some)) in
            subst (λ (t : Table K V). (at t.slots i ≡ None) × ((j : ℕ) → j ≢ i → at new.slots j ≡ at t.slots j)) is
            (adds.in_place (subst (λ (t : Table K V). count t.slots < t.room) (sym is) some));
      }

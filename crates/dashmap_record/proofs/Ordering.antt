-- Stamps that rise, and one more above them.
use Rattle.std.proofs.Common.{◌≡◌, ℕ, ◌<◌, true, List, [], ◌∷◌, ◌++◌, Option, None, Some, refl, sym, ap, subst, arith}
use Rattle.std.specs.Prelude.{nat_le}
use Rattle.std.specs.List.{list_all}
use Rattle.std.proofs.lemmas.Bool.{and_parts, and_from, leb-true, le-leb, lt-ltb}
use Rattle.dashmap_record.specs.declared.history.entry.Entered.{Entered}
use Rattle.dashmap_record.specs.History.Match.{is_above, rises_above, rises}
use Rattle.dashmap_record.specs.Notes.{Noted, AreInOrder, with_entry}

module _ {K V : Type 0} where
  rises-more : (from : Option ℕ) (last : ℕ) (es : List (Entered K V)) (e : Entered K V) → rises_above from es ≡ true
      → list_all (λ d. nat_le d.stamp last) es ≡ true → is_above from e.stamp ≡ true → last < e.stamp
      → rises_above from (es ++ e ∷ []) ≡ true
  rises-more from last [] e rise below above less = and_from (is_above from e.stamp) true above refl
  rises-more from last (d ∷ es) e rise below above less =
      let r = and_parts (is_above from d.stamp) (rises_above (Some d.stamp) es) rise in
      let b = and_parts (nat_le d.stamp last) (list_all (λ c. nat_le c.stamp last) es) below in
      let under = leb-true d.stamp last b.0 in
      and_from (is_above from d.stamp) (rises_above (Some d.stamp) (es ++ e ∷ [])) r.0
      (rises-more (Some d.stamp) last es e r.1 b.1 (lt-ltb d.stamp e.stamp (omega (arith, under, less))) less)

  below-more : (last : ℕ) (es : List (Entered K V)) (e : Entered K V) → list_all (λ d. nat_le d.stamp last) es ≡ true
      → last < e.stamp → list_all (λ d. nat_le d.stamp e.stamp) (es ++ e ∷ []) ≡ true
  below-more last [] e below less = and_from (nat_le e.stamp e.stamp) true (le-leb e.stamp e.stamp (omega arith)) refl
  below-more last (d ∷ es) e below less =
      let b = and_parts (nat_le d.stamp last) (list_all (λ c. nat_le c.stamp last) es) below in
      let under = leb-true d.stamp last b.0 in
      and_from (nat_le d.stamp e.stamp) (list_all (λ c. nat_le c.stamp e.stamp) (es ++ e ∷ []))
      (le-leb d.stamp e.stamp (omega (arith, under, less))) (below-more last es e b.1 less)

  pub ordered_on : (n : Noted K V) (e : Entered K V) → AreInOrder n → n.last < e.stamp → AreInOrder (with_entry n e)
  ordered_on n e order less =
      record {
        rise = rises-more None n.last n.entries e order.rise order.below refl less;
        below = below-more n.last n.entries e order.below less;
      }

  -- the same of the parts
  pub ordered_by : (n : Noted K V) (e : Entered K V) (es fs : List (Entered K V)) (last room more : ℕ)
      → record { entries = es; last = last; room = room } ≡ n
      → AreInOrder (record { entries = es; last = last; room = room }) → n.last < e.stamp
      → fs ≡ es ++ e ∷ [] → AreInOrder (record { entries = fs; last = e.stamp; room = more })
  ordered_by n e es fs last room more is order less items =
      let below : last < e.stamp = subst (λ l. l < e.stamp) (sym (ap (λ (m : Noted K V). m.last) is)) less in
      let now = ordered_on (record { entries = es; last = last; room = room }) e order below in
      record {
        rise = subst (λ l. rises l ≡ true) (sym items) now.rise;
        below = subst (λ l. list_all (λ d. nat_le d.stamp e.stamp) l ≡ true) (sym items) now.below;
      }

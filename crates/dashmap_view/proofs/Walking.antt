-- The pairs that are left behind a slot of the first shard.
use Rattle.std.proofs.Common.{◌≡◌, ℕ, zero, suc, ◌+◌, ◌<◌, ◌≤◌, List, [], ◌∷◌, ◌++◌, length, drop, Option, Some, None}
use Rattle.std.proofs.Common.{IsSome, MatchOption, refl, sym, ap, ◌∙◌, add-one, arith}
use Rattle.std.specs.Option.{option_map}
use Rattle.std.specs.Iterator.{MakesProgress, item_count}
use Rattle.std.proofs.lemmas.Bool.{false≢true}
use Rattle.std.proofs.lemmas.Option.{none-some, same_Some}
use Rattle.dashmap_table.specs.declared.entry.Entry.{Entry}
use Rattle.dashmap_table.specs.Slots.{at, pair_of, pairs_of, IsNextFull}
use Rattle.dashmap_table.specs.Table.{Table}
use Rattle.dashmap_view.specs.Views.{all_pairs, pairs_from}

pub value_of : {X : Type 0} (o : Option X) → IsSome o → (x : X) × (o ≡ Some x)
value_of None there = absurd (false≢true there)
value_of (Some x) there = (x, refl)

module _ {K V : Type 0} where
  -- slots of which none is full
  pub pairs-empty : (xs : List (Option (Entry K V))) → ((i : ℕ) → at xs i ≡ None) → pairs_of xs ≡ []
  pairs-empty [] none = refl
  pairs-empty (None ∷ xs) none = pairs-empty xs (λ i. none (suc i))
  pairs-empty (Some e ∷ xs) none = absurd (none-some e (sym (none 0)))

  pub pairs-none : (from : ℕ) (xs : List (Option (Entry K V))) → ((i : ℕ) → from ≤ i → at xs i ≡ None)
      → pairs_of (drop from xs) ≡ []
  pairs-none zero xs none = pairs-empty xs (λ i. none i (omega arith))
  pairs-none (suc from) [] none = refl
  pairs-none (suc from) (x ∷ xs) none = pairs-none from xs (λ i above. none (suc i) (omega arith))

  -- the first full slot from one on has the first pair
  pub pairs-next : (from i : ℕ) (xs : List (Option (Entry K V))) (e : Entry K V) → from ≤ i
      → ((j : ℕ) → from ≤ j → j < i → at xs j ≡ None) → at xs i ≡ Some e
      → pairs_of (drop from xs) ≡ pair_of e ∷ pairs_of (drop (suc i) xs)
  pairs-next zero zero [] e above none here = absurd (none-some e here)
  pairs-next zero zero (x ∷ xs) e above none here = ap (λ (o : Option (Entry K V)). pairs_of (o ∷ xs)) here
  pairs-next zero (suc i) [] e above none here = absurd (none-some e here)
  pairs-next zero (suc i) (x ∷ xs) e above none here =
      ap (λ (o : Option (Entry K V)). pairs_of (o ∷ xs)) (none 0 (omega arith) (omega arith))
      ∙ pairs-next zero i xs e (omega arith) (λ j low high. none (suc j) (omega arith) (omega arith)) here
  pairs-next (suc from) zero xs e above none here = absurd (omega arith)
  pairs-next (suc from) (suc i) [] e above none here = absurd (none-some e here)
  pairs-next (suc from) (suc i) (x ∷ xs) e above none here = pairs-next from i xs e (omega arith)
      (λ j low high. none (suc j) (omega arith) (omega arith)) here

  pub pairs_from-zero : (ts : List (Table K V)) → pairs_from 0 ts ≡ all_pairs ts
  pairs_from-zero [] = refl
  pairs_from-zero (t ∷ ts) = refl

  -- a shard without a full slot from one on is passed over
  pub pass_over : (slot : ℕ) (tables : List (Table K V)) (t : Table K V) (ts : List (Table K V)) → tables ≡ t ∷ ts
      → ((i : ℕ) → slot ≤ i → at t.slots i ≡ None)
      → pairs_from 0 ts ≡ pairs_from slot tables
  pass_over slot tables t ts split none =
      pairs_from-zero ts
      ∙ sym (ap (λ (l : List (Table K V)). pairs_from slot l) split ∙ ap (λ (l : List (K × V)). l ++ all_pairs ts)
      (pairs-none slot t.slots none))

  -- a full slot's pair is given
  pub give : {P : Type 0} (read : P → K × V) (o : Option P) (slot i : ℕ) (tables : List (Table K V)) (t : Table K V)
      (ts : List (Table K V)) → tables ≡ t ∷ ts → IsNextFull t.slots slot i
      → option_map read o ≡ option_map pair_of (at t.slots i)
      → MatchOption o ((pairs_from slot tables ≡ []) × (pairs_from (i + 1) tables ≡ []))
      (λ p. pairs_from slot tables ≡ read p ∷ pairs_from (i + 1) tables)
  give read None slot i tables t ts split next lent =
      let entry = value_of (at t.slots i) next.full in
      absurd (none-some (pair_of entry.0) (lent ∙ ap (option_map pair_of) entry.1))
  give read (Some p) slot i tables t ts split next lent =
      let entry = value_of (at t.slots i) next.full in
      let same = same_Some (read p) (pair_of entry.0) (lent ∙ ap (option_map pair_of) entry.1) in
      let step : pairs_of (drop slot t.slots) ≡ read p ∷ pairs_of (drop (i + 1) t.slots) =
      rw (add-one, same) (pairs-next slot i t.slots entry.0 next.above next.first entry.1) in
      rw (split, step)

-- a call that gives the first of what is left makes progress
pub progress : {P B : Type 0} (can : List B → Type 0) → ((l : List B) → can l)
    → (read : P → B) (r : Option P) (before after : List B)
    → MatchOption r ((before ≡ []) × (after ≡ [])) (λ x. before ≡ read x ∷ after)
    → MakesProgress can (item_count (λ (l : List B). l)) before r after
progress can able read None before after given = record { on = λ _. tt; keeps = tt; rests = λ _. tt }
progress can able read (Some x) before after given =
    let long : length before ≡ suc (length after) = ap length given in
    record { on = λ _. (able after, tt, omega arith); keeps = able after; rests = λ _. tt }

-- Plain shards that change places with those behind locks, one after another.
use Rattle.std.proofs.Common.{◌≡◌, ℕ, zero, suc, ◌<◌, List, [], ◌∷◌, ◌++◌, length, slice_index_or, slice_set}
use Rattle.std.proofs.Common.{refl, sym, ap, subst, arith}
use Rattle.crossbeam_utils.specs.declared.cache_padded.CachePadded.{CachePadded}
use Rattle.crossbeam_utils.specs.Padded.{padded_value}
use Rattle.dashmap_table.specs.Table.{Table}
use Rattle.dashmap_map.specs.Owner.{EachOf}
use Rattle.dashmap_plain.specs.Exchanged.{Exchanged}

module _ {K V Q : Type 0} (taken put : Q → Table K V → Type 0) where
  -- one more changed places with the one behind its lock
  pub exchanged_next : (n : ℕ) (locks : List (CachePadded Q)) (old now : List (Table K V)) (lock : CachePadded Q)
      (o w : Table K V) → n < length locks → n < length now → lock ≡ slice_index_or locks n lock
      → o ≡ slice_index_or now n o → taken (padded_value lock) w → put (padded_value lock) o
      → Exchanged taken put n locks old now → Exchanged taken put (suc n) locks old (slice_set now n w)
  exchanged_next zero [] old now lock o w many more at is was left before = absurd (omega (arith, many))
  exchanged_next zero (l ∷ ls) old [] lock o w many more at is was left before = absurd (omega (arith, more))
  exchanged_next zero (l ∷ ls) old (x ∷ xs) lock o w many more at is was left before =
      subst (λ os. Exchanged taken put 1 (l ∷ ls) os (w ∷ xs)) (sym before) (
        subst (λ q. taken (padded_value q) w) at was,
        subst (λ t. put (padded_value l) t) is (subst (λ q. put (padded_value q) o) at left),
        refl,
      )
  exchanged_next (suc n) [] old now lock o w many more at is was left before = absurd before
  exchanged_next (suc n) (l ∷ ls) [] now lock o w many more at is was left before = absurd before
  exchanged_next (suc n) (l ∷ ls) (y ∷ ys) [] lock o w many more at is was left before = absurd before
  exchanged_next (suc n) (l ∷ ls) (y ∷ ys) (x ∷ xs) lock o w many more at is was left before = (
    before.0,
    before.1,
    exchanged_next n ls ys xs lock o w (omega (arith, many)) (omega (arith, more)) at is was
        left before.2,
  )

  -- all, and a last one
  pub exchanged_last : (n : ℕ) (locks : List (CachePadded Q)) (old new : List (Table K V)) (lock : CachePadded Q)
      (o w : Table K V) → n ≡ length old → length locks ≡ suc n → lock ≡ slice_index_or locks n lock
      → taken (padded_value lock) w → put (padded_value lock) o → Exchanged taken put n locks old new
      → EachOf taken locks (new ++ w ∷ []) × EachOf put locks (old ++ o ∷ [])
  exchanged_last zero [] old new lock o w all many at was left before = absurd (omega (arith, many))
  exchanged_last zero (l ∷ k ∷ ls) old new lock o w all many at was left before = absurd (omega (arith, many))
  exchanged_last zero (l ∷ []) (y ∷ ys) new lock o w all many at was left before = absurd (omega (arith, all))
  exchanged_last zero (l ∷ []) [] new lock o w all many at was left before =
      subst (λ ws. EachOf taken (l ∷ []) (ws ++ w ∷ []) × EachOf put (l ∷ []) (o ∷ [])) before
      ((subst (λ q. taken (padded_value q) w) at was, tt), (subst (λ q. put (padded_value q) o) at left, tt))
  exchanged_last (suc n) [] old new lock o w all many at was left before = absurd before
  exchanged_last (suc n) (l ∷ ls) [] new lock o w all many at was left before = absurd before
  exchanged_last (suc n) (l ∷ ls) (y ∷ ys) [] lock o w all many at was left before = absurd before
  exchanged_last (suc n) (l ∷ ls) (y ∷ ys) (x ∷ xs) lock o w all many at was left before =
      let rest = exchanged_last n ls ys xs lock o w (omega (arith, all)) (omega (arith, many)) at was left before.2 in
      ((before.0, rest.0), (before.1, rest.1))

-- what is read at a place and put there again changes nothing
pub set_same : {X : Type 0} (xs : List X) (i : ℕ) (x : X) → x ≡ slice_index_or xs i x → slice_set xs i x ≡ xs
set_same [] i x is = refl
set_same (y ∷ ys) zero x is = ap (λ z. z ∷ ys) is
set_same (y ∷ ys) (suc i) x is = ap (λ zs. y ∷ zs) (set_same ys i x is)

-- there are as many tables as locks
pub each_long : {K V Q : Type 0} (seen : Q → Table K V → Type 0) (locks : List (CachePadded Q)) (tables : List (Table K V))
    → EachOf seen locks tables → length tables ≡ length locks
each_long seen [] [] each = refl
each_long seen [] (t ∷ ts) each = absurd each
each_long seen (l ∷ ls) [] each = absurd each
each_long seen (l ∷ ls) (t ∷ ts) each = let rest = each_long seen ls ts each.1 in omega (arith, rest)

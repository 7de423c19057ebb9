-- Where a thread stands in a list.
use Rattle.std.proofs.Common.{◌≡◌, ◌≢◌, ℕ, zero, suc, ◌+◌, ◌<◌, ◌≤◌, ◌==◌, Bool, true, false, not, cond, nat_lt, List}
use Rattle.std.proofs.Common.{[], ◌∷◌, length, position, Option, Some, None, slice_get, refl, sym, ap, ◌∙◌, subst}
use Rattle.std.proofs.Common.{arith, eqb-true}
use Rattle.std.proofs.lemmas.Bool.{eqb-false, ltb-true, ltb-false}
use Rattle.std.specs.List.{position_or_len}
use Rattle.parking_lot_rules.specs.Lists.{occurs}
use Rattle.parking_lot_rules.proofs.Waiting.{counted-other, occurs-cons}

abbrev is_it : ℕ → ℕ → Bool
is_it t u = u == t

one_more : (n : ℕ) → 1 + n ≡ suc n
one_more n = omega arith

first_by : (t u : ℕ) (q : List ℕ) (b : Bool) → is_it t u ≡ b
    → (position_or_len (is_it t) q < length q → slice_get q (position_or_len (is_it t) q) ≡ Some t)
    → cond (not b) (1 + position_or_len (is_it t) q) 0 < length (u ∷ q)
    → slice_get (u ∷ q) (cond (not b) (1 + position_or_len (is_it t) q) 0) ≡ Some t
first_by t u q true at more low = ap Some (eqb-true u t at)
first_by t u q false at more low = ap (slice_get (u ∷ q)) (one_more (position_or_len (is_it t) q))
    ∙ more (omega (arith, low))

first_at : (t : ℕ) (q : List ℕ) → position_or_len (is_it t) q < length q → slice_get q (position_or_len (is_it t) q)
    ≡ Some t
first_at t [] h = absurd (omega (arith, h))
first_at t (u ∷ q) h = first_by t u q (is_it t u) refl (first_at t q) h

none_by : (t u : ℕ) (q : List ℕ) (b : Bool) → is_it t u ≡ b → (length q ≤ position_or_len (is_it t) q → occurs t q ≡ 0)
    → length (u ∷ q) ≤ cond (not b) (1 + position_or_len (is_it t) q) 0 → occurs t (u ∷ q) ≡ 0
none_by t u q true at more low = absurd (omega (arith, low))
none_by t u q false at more low =
    omega (arith, occurs-cons t u q, counted-other t u (λ e. eqb-false u t at (sym e)), more (omega (arith, low)))

none_there : (t : ℕ) (q : List ℕ) → length q ≤ position_or_len (is_it t) q → occurs t q ≡ 0
none_there t [] h = refl
none_there t (u ∷ q) h = none_by t u q (is_it t u) refl (none_there t q) h

-- one that is there has a place
pub placed : (t : ℕ) (q : List ℕ) → 0 < occurs t q → (i : ℕ) × (position (λ u. u == t) q ≡ Some i)
    × (slice_get q i ≡ Some t)
placed t q some = go (nat_lt (position_or_len (is_it t) q) (length q)) refl
  where
    go : (b : Bool) → nat_lt (position_or_len (is_it t) q) (length q) ≡ b → (i : ℕ) × (position (is_it t) q ≡ Some i)
        × (slice_get q i ≡ Some t)
    go true e = (
      position_or_len (is_it t) q,
      ap (λ b. cond b (Some (position_or_len (is_it t) q)) None) e,
      first_at t q (ltb-true _ _ e),
    )
    go false e = absurd (omega (arith, some, none_there t q (ltb-false _ _ e)))

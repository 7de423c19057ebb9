-- Pairs of equal keys: a list of pairs has the same for both.
use Rattle.std.proofs.Common.{◌≡◌, Bool, true, List, reverse, ap, ◌∙◌}
use Rattle.std.specs.Cmp.{IsEquivalence}
use Rattle.mapworld_calls.specs.Pairs.{has_key, pair_of, key_and_value, opening_pair}
use Rattle.mapworld_calls.proofs.Folds.{find-same}

pub eq-same_right : {K : Type 0} (eq : K → K → Bool) (e : IsEquivalence eq) (a j k : K) → eq j k ≡ true
    → eq a j ≡ eq a k
eq-same_right eq e a j k same = e.symm a j ∙ e.congr j k a same ∙ e.symm k a

module _ {K V : Type 0} (eq : K → K → Bool) (e : IsEquivalence eq) where
  pub pair_of-same : (pairs : List (K × V)) (j k : K) → eq j k ≡ true → pair_of eq pairs j ≡ pair_of eq pairs k
  pair_of-same pairs j k same = find-same (has_key eq j) (has_key eq k) pairs (λ p. eq-same_right eq e p.0 j k same)

  pub opening_pair-same : (pairs : List (K × V)) (j k : K) → eq j k ≡ true → opening_pair eq pairs j ≡ opening_pair eq
      pairs k
  opening_pair-same pairs j k same =
      ap (λ o. key_and_value o (pair_of eq (reverse pairs) j)) (pair_of-same pairs j k same)
      ∙ ap (λ o. key_and_value (pair_of eq pairs k) o) (pair_of-same (reverse pairs) j k same)

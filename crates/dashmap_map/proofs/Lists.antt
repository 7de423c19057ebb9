-- What holds of each item of a list, when one is put to its end or taken off.
use Rattle.std.proofs.Common.{◌≡◌, ℕ, zero, suc, ◌<◌, List, [], ◌∷◌, ◌++◌, length, Some, slice_index_or, sym, ap, arith}
use Rattle.std.specs.Prelude.{slice_get}
use Rattle.std.specs.List.{All}
use Rattle.std.proofs.lemmas.List.Elements.{All-nil, All-cons, All-head, All-tail, All-append}

module _ {X : Type 0} (P : X → Type 0) where
  pub all_push : (xs : List X) (x : X) → All P xs → P x → All P (xs ++ x ∷ [])
  all_push xs x each last = All-append P xs (x ∷ []) each (All-cons P x [] last (All-nil P))

  pub all_before : (xs ys : List X) → All P (xs ++ ys) → All P xs
  all_before [] ys each = All-nil P
  all_before (x ∷ xs) ys each =
      All-cons P x xs (All-head P x (xs ++ ys) each) (all_before xs ys (All-tail P x (xs ++ ys) each))

  pub all_after : (xs ys : List X) → All P (xs ++ ys) → All P ys
  all_after [] ys each = each
  all_after (x ∷ xs) ys each = all_after xs ys (All-tail P x (xs ++ ys) each)

-- what is read at a place of a list
pub read_here : {X : Type 0} (xs : List X) (i : ℕ) (x : X) → i < length xs → x ≡ slice_index_or xs i x
    → slice_get xs i ≡ Some x
read_here [] i x within is = absurd (omega (arith, within))
read_here (y ∷ xs) zero x within is = ap Some (sym is)
read_here (y ∷ xs) (suc i) x within is = read_here xs i x (omega (arith, within)) is

-- What is put back as it was leaves a list as it was.
use Rattle.std.proofs.Common.{◌≡◌, ℕ, List, get_or, Some, slice_get, slice_set, ap, sym, ◌∙◌}
use Rattle.std.proofs.lemmas.List.{set-get_or}
use Rattle.std.proofs.lemmas.Option.{get_or_from_slice_get}

-- an element that was read, put back
pub put_back : {X : Type 0} (xs : List X) (i : ℕ) (x r : X) → x ≡ r → r ≡ get_or xs i r → slice_set xs i x ≡ xs
put_back xs i x r same read = ap (λ z. slice_set xs i z) (same ∙ read) ∙ set-get_or xs i r

-- an element that stands there, put back
pub put_there : {X : Type 0} (xs : List X) (i : ℕ) (x : X) → slice_get xs i ≡ Some x → slice_set xs i x ≡ xs
put_there xs i x at = ap (λ z. slice_set xs i z) (sym (get_or_from_slice_get xs i x x at)) ∙ set-get_or xs i x

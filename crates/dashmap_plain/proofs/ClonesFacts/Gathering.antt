-- Clones that are gathered in the order of what they are of.
use Rattle.std.proofs.Common.{suc, refl, ◌≡◌, ℕ, ◌+◌, ◌<◌, List, [], ◌∷◌, ◌++◌, length, take, get_or, sym, ap, subst}
use Rattle.std.proofs.Common.{◌∙◌}
use Rattle.std.specs.List.{AllZip}
use Rattle.std.proofs.lemmas.List.{take_more}
use Rattle.std.proofs.lemmas.Slice.Zip.{all_zipped_more}

-- one more
pub zipped_next : {A B : Type 0} (R : A → B → Type 0) (xs : List A) (ys : List B) (i : ℕ) (x : A) (y : B)
    → i < length xs → x ≡ get_or xs i x → AllZip R (take i xs) ys → R x y → AllZip R (take (i + 1) xs) (ys ++ y ∷ [])
zipped_next R xs ys i x y within is all here =
    subst (λ zs. AllZip R zs (ys ++ y ∷ [])) (sym (take_more xs i x within ∙ ap (λ z. take i xs ++ z ∷ []) (sym is)))
    (all_zipped_more R (take i xs) ys x y all here)

-- as many as there were
pub zipped_long : {A B : Type 0} (R : A → B → Type 0) (xs : List A) (ys : List B) → AllZip R xs ys
    → length ys ≡ length xs
zipped_long R [] [] all = refl
zipped_long R [] (y ∷ ys) all = absurd all
zipped_long R (x ∷ xs) [] all = absurd all
zipped_long R (x ∷ xs) (y ∷ ys) all = ap suc (zipped_long R xs ys all.1)

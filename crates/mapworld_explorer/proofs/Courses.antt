-- Steps that are told one after another.
use Rattle.std.proofs.Common.{◌≡◌, ℕ, ◌<◌, ◌+◌, ◌++◌, ◌∷◌, [], List, length, map, take, get_or, sym, ap, ◌∙◌}
use Rattle.std.proofs.lemmas.List.{map-append, map_more}

-- what is told of one step more
pub told_so_far : {X Y : Type 0} (f : X → ℕ) (g : Y → ℕ) (xs : List X) (ys zs : List Y) (i : ℕ) (d : X) (y : Y)
    → i < length xs → map g ys ≡ map f (take i xs) → zs ≡ ys ++ y ∷ [] → g y ≡ f (get_or xs i d)
    → map g zs ≡ map f (take (i + 1) xs)
told_so_far f g xs ys zs i d y within known put e = ap (map g) put ∙ map-append g ys (y ∷ [])
    ∙ ap (λ l. l ++ g y ∷ []) known ∙ ap (λ n. map f (take i xs) ++ n ∷ []) e ∙ sym (map_more f xs i d within)

-- Numbered lists.
use Rattle.std.proofs.Common.{◌≡◌, ℕ, ◌+◌, ◌&&◌, Bool, List, [], ◌∷◌, map, refl, ap}
use Rattle.std.specs.List.{list_all, enumerate_from}

pub list_all-numbered : {X Y : Type 0} (test : ℕ × Y → Bool) (f : X → Y) (n : ℕ) (xs : List X)
    → list_all (λ p. test (p.0, f p.1)) (enumerate_from n xs) ≡ list_all test (enumerate_from n (map f xs))
list_all-numbered test f n [] = refl
list_all-numbered test f n (x ∷ xs) = ap (λ b. test (n, f x) && b) (list_all-numbered test f (n + 1) xs)

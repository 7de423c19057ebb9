-- There are as many pairs as full slots.
use Rattle.std.proofs.Common.{◌≡◌, ◌+◌, cond, List, [], ◌∷◌, length, Option, Some, None, is_some, refl, arith, count_by}
use Rattle.std.proofs.lemmas.List.Sums.{sum_by-cons}
use Rattle.dashmap_table.specs.declared.entry.Entry.{Entry}
use Rattle.dashmap_table.specs.Slots.{pairs_of}

pub length-pairs_of : {K V : Type 0} (xs : List (Option (Entry K V))) → length (pairs_of xs) ≡ count_by is_some xs
length-pairs_of [] = refl
length-pairs_of (None ∷ xs) =
    let skip : count_by is_some (None ∷ xs) ≡ 0 + count_by is_some xs = sum_by-cons (λ o. cond (is_some o) 1 0) None xs
    in
    let rest = length-pairs_of xs in omega arith
length-pairs_of (Some e ∷ xs) =
    let step : count_by is_some (Some e ∷ xs) ≡ 1 + count_by is_some xs = sum_by-cons (λ o. cond (is_some o) 1 0)
    (Some e) xs in
    let rest = length-pairs_of xs in omega arith

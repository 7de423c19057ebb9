-- Chains that move.
use Rattle.std.proofs.Common.{◌≡◌, ◌∙◌, ◌∷◌, ◌++◌, [], List, refl, sym, ap, Bool, true, false, cond, Some, None}
use Rattle.std.proofs.Common.{slice_get, slice_set, drop, take, ℕ, length, ◌≤◌, arith}
use Rattle.parking_lot_core.specs.declared.chain.Waiting.{Waiting}
use Rattle.parking_lot_core.specs.declared.chain.Wanted.TheVariants.{Thread}
use Rattle.parking_lot_core.specs.Waits.{fits, onto, found, under}

-- nobody stands first in a list that is empty
pub nobody : (xs : List Waiting) → slice_get xs 0 ≡ None → xs ≡ []
nobody [] e = refl
nobody (x ∷ xs) e = absurd (some≢none e)
  where
    some≢none : Some x ≡ None → ⊥
    some≢none e = cc

-- the first, and those behind it
pub somebody : (xs : List Waiting) (x : Waiting) → slice_get xs 0 ≡ Some x → xs ≡ x ∷ drop 1 xs
somebody [] x e = absurd (none≢some e)
  where
    none≢some : None ≡ Some x → ⊥
    none≢some e = cc
somebody (y ∷ xs) x e = ap (λ z. z ∷ xs) (same e)
  where
    same : {a b : Waiting} → Some a ≡ Some b → a ≡ b
    same e = cc

-- one more is moved
pub poured : (xs ys : List Waiting) → onto (drop 1 xs) (take 1 xs ++ ys) ≡ onto xs ys
poured [] ys = refl
poured (x ∷ xs) ys = refl

-- one more is moved, under another key
pub poured_under : (key : ℕ) (xs ys : List Waiting) (x : Waiting) (named left to : List Waiting)
    → slice_get xs 0 ≡ Some x → named ≡ slice_set xs 0 (record x { key = key }) → left ≡ drop 1 named
    → to ≡ take 1 named ++ ys → onto (under key left) to ≡ onto (under key xs) ys
poured_under key [] ys x named left to e n l t = absurd (none≢some e)
  where
    none≢some : None ≡ Some x → ⊥
    none≢some e = cc
poured_under key (y ∷ xs) ys x named left to e n l t =
    ap (λ zs. onto (under key zs) to) (l ∙ ap (drop 1) n)
    ∙ ap (λ zs. onto (under key xs) zs)
    (t ∙ (ap (λ zs. take 1 zs ++ ys) n ∙ ap (λ (z : Waiting). record z { key = key } ∷ ys) (sym (same e))))
  where
    same : {a b : Waiting} → Some a ≡ Some b → a ≡ b
    same e = cc

-- of one the order is the same
pub onto_found : (p : Waiting → Bool) (xs : List Waiting) → onto (found p xs) [] ≡ found p xs
onto_found p [] = refl
onto_found p (x ∷ xs) = both (onto_found p xs) (p x)
  where
    both : onto (found p xs) [] ≡ found p xs → (b : Bool)
        → onto (cond b (x ∷ []) (found p xs)) [] ≡ cond b (x ∷ []) (found p xs)
    both i true = refl
    both i false = i

-- who was found stands first
pub first_found : (t : ℕ) (xs old to : List Waiting) (w x : Waiting) → found (fits (Thread t)) xs ≡ w ∷ []
    → to ≡ found (fits (Thread t)) xs ++ old → slice_get to 0 ≡ Some x → x ≡ w
first_found t xs old to w x f is first =
    same (sym first ∙ ap (λ ys. slice_get ys 0) (is ∙ ap (λ ys. ys ++ old) f))
  where
    same : {a b : Waiting} → Some a ≡ Some b → a ≡ b
    same e = cc

-- it is one at most
pub found_few : (p : Waiting → Bool) (xs : List Waiting) → length (found p xs ++ []) ≤ 1
found_few p [] = omega arith
found_few p (x ∷ xs) = both (found_few p xs) (p x)
  where
    both : length (found p xs ++ []) ≤ 1 → (b : Bool) → length (cond b (x ∷ []) (found p xs) ++ []) ≤ 1
    both i true = omega arith
    both i false = i

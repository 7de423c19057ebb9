-- Lists that are moved one by one.
use Rattle.std.proofs.Common.{◌≡◌, ◌∙◌, ◌∷◌, ◌++◌, [], List, refl, sym, ap, Bool, true, false, cond}
use Rattle.std.proofs.Common.{append_assoc, slice_get, slice_set, take, Some, None}
use Rattle.std.proofs.lemmas.List.{append-nil}
use Rattle.parking_lot_core.specs.declared.chain.Waiting.{Waiting}
use Rattle.parking_lot_core.specs.Waits.{onto, any}

-- what is moved stands before what was there
pub onto_front : (xs ys zs : List Waiting) → onto xs (ys ++ zs) ≡ onto xs ys ++ zs
onto_front [] ys zs = refl
onto_front (x ∷ xs) ys zs = onto_front xs (x ∷ ys) zs

-- who is moved twice stands as before
pub onto_twice : (xs ys zs : List Waiting) → onto (onto xs ys) zs ≡ onto ys (xs ++ zs)
onto_twice [] ys zs = refl
onto_twice (x ∷ xs) ys zs = onto_twice xs (x ∷ ys) zs

pub settled : (front back passed none front' front'' : List Waiting) → passed ≡ onto front [] → none ≡ []
    → front' ≡ onto back none → front'' ≡ onto passed front' → front'' ≡ front ++ onto back []
settled front back passed none front' front'' p n f g =
    g ∙ (ap (λ xs. onto xs front') p ∙ (onto_twice front [] front'
    ∙ ap (λ xs. front ++ xs) (f ∙ ap (onto back) n)))

-- one more is the newest
pub newest : (front back : List Waiting) (x : Waiting) → front ++ onto (x ∷ back) [] ≡ (front ++ onto back []) ++ x ∷ []
newest front back x = ap (λ xs. front ++ xs) (onto_front back [] (x ∷ []))
    ∙ sym (append_assoc front (onto back []) (x ∷ []))

-- the first of a chain joins a line, once it is named
pub one_joins : (front back mine named to : List Waiting) (x w : Waiting) → slice_get mine 0 ≡ Some x
    → named ≡ slice_set mine 0 w → to ≡ take 1 named ++ back
    → front ++ onto to [] ≡ (front ++ onto back []) ++ w ∷ []
one_joins front back [] named to x w e n t = absurd (none≢some e)
  where
    none≢some : None ≡ Some x → ⊥
    none≢some e = cc
one_joins front back (y ∷ mine) named to x w e n t =
    ap (λ xs. front ++ onto xs []) (t ∙ ap (λ xs. take 1 xs ++ back) n) ∙ newest front back w

-- several more are
pub newer : (front back more : List Waiting) → front ++ onto (onto more back) [] ≡ (front ++ onto back []) ++ more
newer front back more =
    ap (λ xs. front ++ xs) (onto_twice more back [] ∙ (ap (onto back) (append-nil more)
    ∙ onto_front back [] more))
    ∙ sym (append_assoc front (onto back []) more)

-- who is there
module _ (p : Waiting → Bool) where
  pub any_append : (xs ys : List Waiting) → any p (xs ++ ys) ≡ cond (any p xs) true (any p ys)
  any_append [] ys = refl
  any_append (x ∷ xs) ys = both (any_append xs ys) (p x)
    where
      both : any p (xs ++ ys) ≡ cond (any p xs) true (any p ys) → (b : Bool)
          → cond b true (any p (xs ++ ys)) ≡ cond (cond b true (any p xs)) true (any p ys)
      both i true = refl
      both i false = i

  pub any_onto : (xs ys : List Waiting) → any p (onto xs ys) ≡ cond (any p xs) true (any p ys)
  any_onto [] ys = refl
  any_onto (x ∷ xs) ys = any_onto xs (x ∷ ys) ∙ both (p x) (any p xs)
    where
      both : (b c : Bool) → cond c true (cond b true (any p ys)) ≡ cond (cond b true c) true (any p ys)
      both true true = refl
      both true false = refl
      both false c = refl

  -- in both parts of a line
  pub any_line : (front back : List Waiting) → any p (front ++ onto back []) ≡ cond (any p front) true (any p back)
  any_line front back = any_append front (onto back [])
      ∙ ap (λ b. cond (any p front) true b) (any_onto back [] ∙ both (any p back))
    where
      both : (b : Bool) → cond b true false ≡ b
      both true = refl
      both false = refl

-- nobody is newer
pub none_newer : (front back : List Waiting) → back ≡ [] → front ++ onto back [] ≡ front
none_newer front back e = ap (λ xs. front ++ onto xs []) e ∙ append-nil front

-- nobody is there
pub nobody_there : (front back : List Waiting) → front ≡ [] → back ≡ [] → front ++ onto back [] ≡ []
nobody_there front back f b = none_newer front back b ∙ f

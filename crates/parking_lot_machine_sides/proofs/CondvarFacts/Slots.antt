-- Lists of threads' calls, and sums over them.
use Rattle.std.proofs.Common.{◌≡◌, ◌≢◌, ℕ, zero, suc, ◌+◌, ◌<◌, ◌≤◌, List, [], ◌∷◌, length, map, Option, Some, None}
use Rattle.std.proofs.Common.{slice_get, slice_set, refl, sym, ap, ◌∙◌, subst, arith}
use Rattle.std.proofs.lemmas.List.{length-set}
use Rattle.std.proofs.lemmas.List.Sums.{sum_by-cons}
use Rattle.std.proofs.lemmas.Option.{none-some, same_Some, slice_get-map, slice_get_within}
use Rattle.std.specs.List.{sum_by}
use Rattle.std.specs.Option.{option_and_then, option_map}
use Rattle.parking_lot_rules.proofs.Indexed.{get-set_same, get-set_other}

-- a place in the list
pub has_slot : {X : Type 0} (xs : List X) (t : ℕ) → t < length xs → (x : X) × (slice_get xs t ≡ Some x)
has_slot [] t h = absurd (omega (arith, h))
has_slot (x ∷ xs) zero h = (x, refl)
has_slot (x ∷ xs) (suc t) h = has_slot xs t (omega (arith, h))

pub map_set : {X Y : Type 0} (f : X → Y) (xs : List X) (t : ℕ) (x : X) → map f (slice_set xs t x) ≡ slice_set (map f xs)
    t (f x)
map_set f [] t x = refl
map_set f (y ∷ ys) zero x = refl
map_set f (y ∷ ys) (suc t) x = ap (λ zs. f y ∷ zs) (map_set f ys t x)

pub set_set : {X : Type 0} (xs : List X) (t : ℕ) (x y : X) → slice_set (slice_set xs t x) t y ≡ slice_set xs t y
set_set [] t x y = refl
set_set (z ∷ zs) zero x y = refl
set_set (z ∷ zs) (suc t) x y = ap (λ ws. z ∷ ws) (set_set zs t x y)

pub length_map : {X Y : Type 0} (f : X → Y) (xs : List X) → length (map f xs) ≡ length xs
length_map f [] = refl
length_map f (x ∷ xs) = ap suc (length_map f xs)

-- sums of the same are the same
pub same_sum : {X : Type 0} (f g : X → ℕ) (xs : List X) → ((i : ℕ) (x : X) → slice_get xs i ≡ Some x → f x ≡ g x)
    → sum_by f xs ≡ sum_by g xs
same_sum f g [] h = refl
same_sum f g (x ∷ xs) h =
    omega (arith, sum_by-cons f x xs, sum_by-cons g x xs, h zero x refl, same_sum f g xs (λ i y at. h (suc i) y at))

pub no_sum : {X : Type 0} (f : X → ℕ) (xs : List X) → ((i : ℕ) (x : X) → slice_get xs i ≡ Some x → f x ≡ 0)
    → sum_by f xs ≡ 0
no_sum f [] h = refl
no_sum f (x ∷ xs) h = omega (arith, sum_by-cons f x xs, h zero x refl, no_sum f xs (λ i y at. h (suc i) y at))

-- where each weighs 1 at most
pub few : {X : Type 0} (f : X → ℕ) (xs : List X) → ((x : X) → f x ≤ 1) → sum_by f xs ≤ length xs
few f [] h = omega arith
few f (x ∷ xs) h = omega (arith, sum_by-cons f x xs, h x, few f xs h)

-- and one weighs nothing
pub fewer : {X : Type 0} (f : X → ℕ) (xs : List X) (t : ℕ) (x : X) → ((y : X) → f y ≤ 1) → slice_get xs t ≡ Some x
    → f x ≡ 0 → sum_by f xs < length xs
fewer f [] t x h at e = absurd (none-some x at)
fewer f (y ∷ ys) zero x h at e = omega (arith, sum_by-cons f y ys, few f ys h, ap f (same_Some y x at), e)
fewer f (y ∷ ys) (suc t) x h at e = omega (arith, sum_by-cons f y ys, h y, fewer f ys t x h at e)

-- the element that a function of it shows
pub mapped : {X Y : Type 0} (f : X → Y) (xs : List X) (t : ℕ) (y : Y) → slice_get (map f xs) t ≡ Some y → (x : X)
    × (slice_get xs t ≡ Some x) × (f x ≡ y)
mapped f xs t y at = go (slice_get xs t) refl
  where
    go : (o : Option _) → slice_get xs t ≡ o → (x : _) × (slice_get xs t ≡ Some x) × (f x ≡ y)
    go None e = absurd (none-some y (sym (ap (option_map f) e) ∙ sym (slice_get-map f xs t) ∙ at))
    go (Some x) e = (x, e, same_Some (f x) y (sym (ap (option_map f) e) ∙ sym (slice_get-map f xs t) ∙ at))

-- CALLS

abbrev pub find_call : {X : Type 0} → List (Option X) → ℕ → Option X
find_call calls t = option_and_then (λ c. c) (slice_get calls t)

module _ {X : Type 0} where
  pub slot : (calls : List (Option X)) (t : ℕ) (c : X) → find_call calls t ≡ Some c → slice_get calls t ≡ Some (Some c)
  slot calls t c h = go (slice_get calls t) refl
    where
      go : (o : Option (Option X)) → slice_get calls t ≡ o → slice_get calls t ≡ Some (Some c)
      go None e = absurd (none-some c (sym (ap (option_and_then (λ x. x)) e) ∙ h))
      go (Some x) e = e ∙ ap Some (sym (ap (option_and_then (λ y. y)) e) ∙ h)

  pub within : (calls : List (Option X)) (t : ℕ) (c : X) → find_call calls t ≡ Some c → t < length calls
  within calls t c h = slice_get_within calls t (Some c) (slot calls t c h)

  pub call_here : (calls : List (Option X)) (t : ℕ) (o : Option X) → t < length calls
      → find_call (slice_set calls t o) t ≡ o
  call_here calls t o h = let x = has_slot calls t h in ap (option_and_then (λ y. y)) (get-set_same calls t x.0 o x.1)

  pub call_elsewhere : (calls : List (Option X)) (t v : ℕ) (o : Option X) → v ≢ t
      → find_call (slice_set calls t o) v ≡ find_call calls v
  call_elsewhere calls t v o ne = ap (option_and_then (λ y. y)) (get-set_other calls t v o (λ e. ne (sym e)))

pub room_set : {X : Type 0} (xs : List X) (t : ℕ) (x : X) (room : ℕ) → length xs ≤ room
    → length (slice_set xs t x) ≤ room
room_set xs t x room h = subst (λ m. m ≤ room) (sym (length-set xs t x)) h

-- Buckets of keys: how many there are, and what stands in them.
use Rattle.std.proofs.Common.{◌≡◌, ℕ, zero, suc, ◌+◌, ◌*◌, ◌/◌, ◌<◌, ◌≤◌, ◌==◌, ◌||◌, Bool, true, false, cond, nat_lt}
use Rattle.std.proofs.Common.{List, []}
use Rattle.std.proofs.Common.{◌∷◌, ◌++◌, length, max, Option, Some, None, is_some, slice_get, slice_set, refl, sym}
use Rattle.std.proofs.Common.{ap, ◌∙◌}
use Rattle.std.proofs.Common.{subst, arith, get_or, add-one}
use mathlib.Core.Path.{fun_ext}
use Rattle.std.specs.Option.{option_and_then}
use Rattle.std.proofs.lemmas.Bool.{cond-true, cond-false, lt-ltb, le-ltb, ltb-true, ltb-false, false≢true, eqb-false}
use Rattle.std.proofs.lemmas.Option.{slice_get-get_or}
use Rattle.parking_lot_core_model.specs.declared.place.Section.{Section}
use Rattle.parking_lot_core_model.specs.Lists.{updated}
use Rattle.parking_lot_core_model.specs.Buckets.{threads_with, twice_below, doubled, buckets_for, slot, any_open}
use Rattle.parking_lot_core_model.proofs.Kept.{by_eqb}

-- the greater of two numbers
pub max_more : (a b : ℕ) → nat_lt a b ≡ true → max a b ≡ b
max_more a b e = omega (arith, ltb-true a b e)

pub max_less : (a b : ℕ) → nat_lt a b ≡ false → max a b ≡ a
max_less a b e = omega (arith, ltb-false a b e)

-- once the number is what is wanted it stays
pub settled_at : (wanted n m : ℕ) → n ≤ m → wanted ≤ doubled wanted n → doubled wanted m ≡ doubled wanted n
settled_at wanted n zero fits h = let e : 0 ≡ n = omega arith in ap (doubled wanted) e
settled_at wanted n (suc m) fits h = by_eqb n (suc m) (doubled wanted (suc m) ≡ doubled wanted n)
    (λ e. ap (doubled wanted) (sym e))
    (λ e.
    let less : n ≤ m = omega (arith, eqb-false n (suc m) e) in
    let d = doubled wanted m in
    let same : d ≡ doubled wanted n = settled_at wanted n m less h in
    cond-false (nat_lt d wanted) (2 * d) d (le-ltb d wanted (subst (λ (x : ℕ). wanted ≤ x) (sym same) h)) ∙ same)

-- it is doubled once more
pub doubles : (wanted n : ℕ) → doubled wanted n < wanted → 2 * doubled wanted n ≡ doubled wanted (n + 1)
doubles wanted n h =
    rw add-one
    (sym (cond-true (nat_lt (doubled wanted n) wanted) (2 * doubled wanted n) (doubled wanted n)
    (lt-ltb (doubled wanted n) wanted h)))

-- threads are no more than their numbers
pub threads_few : (paired : Bool) (n : ℕ) → n ≤ 131072 → threads_with paired n ≤ 131072
threads_few true n h = omega arith
threads_few false n h = h

-- there is at least one
pub some_buckets : (wanted n : ℕ) → 16 ≤ doubled wanted n
some_buckets wanted zero = omega arith
some_buckets wanted (suc n) =
    let d = doubled wanted n in
    let h : 16 ≤ d = some_buckets wanted n in
    elim (nat_lt d wanted) as (λ b. 16 ≤ cond b (2 * d) d) [ true ↦ omega arith | false ↦ h ]

module _ {X : Type 0} where
  -- a free place more at the end holds nothing
  slot_more : (xs : List (Option X)) (i : ℕ) → slot (xs ++ None ∷ []) i ≡ slot xs i
  slot_more [] zero = refl
  slot_more [] (suc i) = refl
  slot_more (x ∷ xs) zero = refl
  slot_more (x ∷ xs) (suc i) = slot_more xs i

  pub slot_push : (xs : List (Option X)) → slot (xs ++ None ∷ []) ≡ slot xs
  slot_push xs = fun_ext (slot_more xs)

-- the first buckets
or_true : (b : Bool) → (b || true) ≡ true
or_true true = refl
or_true false = refl

pub any_at : (f : ℕ → Option Section) (i n : ℕ) → i < n → is_some (f i) ≡ true → any_open f n ≡ true
any_at f i zero h e = absurd (omega arith)
any_at f i (suc n) h e = by_eqb i n (any_open f (suc n) ≡ true)
    (λ same. ap (λ k. is_some (f k) || any_open f n) (sym same) ∙ ap (λ b. b || any_open f n) e)
    (λ other.
    let less : i < n = omega (arith, eqb-false i n other) in
    ap (λ b. is_some (f n) || b) (any_at f i n less e) ∙ or_true (is_some (f n)))

pub none_at : (f : ℕ → Option Section) (i n : ℕ) → i < n → any_open f n ≡ false → f i ≡ None
none_at f i n h none = by (f i) refl
  where
    by : (o : Option Section) → f i ≡ o → f i ≡ None
    by None e = e
    by (Some s) e = absurd (false≢true (sym none ∙ any_at f i n h (ap is_some e)))

pub none_more : (f : ℕ → Option Section) (n : ℕ) → any_open f n ≡ false → is_some (f n) ≡ false
    → any_open f (n + 1) ≡ false
none_more f n none here = rw add-one (ap (λ b. b || any_open f n) here ∙ none)

-- the same of the code's list
slot_is : (xs : List (Option Section)) (i : ℕ) (d : Option Section) → i < length xs → slot xs i ≡ get_or xs i d
slot_is xs i d h = ap (option_and_then (λ x. x)) (slice_get-get_or xs i d h)

pub any_there : (xs : List (Option Section)) (i : ℕ) (d : Option Section) → i < length xs
    → is_some (get_or xs i d) ≡ true → any_open (slot xs) (length xs) ≡ true
any_there xs i d h e = any_at (slot xs) i (length xs) h (ap is_some (slot_is xs i d h) ∙ e)

pub none_there : (xs : List (Option Section)) (i : ℕ) (d : Option Section) → i < length xs
    → any_open (slot xs) i ≡ false → is_some (get_or xs i d) ≡ false → any_open (slot xs) (i + 1) ≡ false
none_there xs i d h none e = none_more (slot xs) i none (ap is_some (slot_is xs i d h) ∙ e)

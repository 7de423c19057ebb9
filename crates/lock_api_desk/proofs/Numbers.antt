-- Guards by their numbers, which are distinct.
use Rattle.std.proofs.Common.{◌≡◌, ℕ, zero, suc, Bool, true, false, cond, not, ◌&&◌, ◌||◌, ◌==◌, List, [], ◌∷◌, ◌++◌}
use Rattle.std.proofs.Common.{map, set, remove, Some, slice_get, refl, sym, ap, subst, ◌∙◌}
use Rattle.std.specs.List.{IsDistinct, AllByRecursion, list_any}
use Rattle.std.proofs.lemmas.Option.{none-some, same_Some}
use Rattle.std.proofs.lemmas.Bool.{eqb-false, eq-eqb, ne_eqb, or_parts, cond-true, cond-false}
use Rattle.lock_api_desk.specs.Guards.{Guard, has_number, is_held, amend, without, put_aside, is_held_beside, is_in_use}

abbrev pub numbers : List Guard → List ℕ
numbers guards = map (λ guard. guard.number) guards

abbrev pub Distinct : List ℕ → Type 0
Distinct ns = IsDistinct (λ a b. a == b) ns

other_way : (a b : ℕ) → (a == b) ≡ false → (b == a) ≡ false
other_way a b h = ne_eqb b a (λ e. eqb-false a b h (sym e))

-- the numbers of the others
abbrev pub Others : ℕ → List Guard → Type 0
Others n guards = AllByRecursion (λ y. (n == y) ≡ false) (numbers guards)

others_at : (n : ℕ) (guards : List Guard) (i : ℕ) (g : Guard) → Others n guards → slice_get guards i ≡ Some g
    → (n == g.number) ≡ false
others_at n [] i g o at = absurd (none-some g at)
others_at n (x ∷ xs) zero g o at = ap (λ y. n == y.number) (sym (same_Some x g at)) ∙ o.0
others_at n (x ∷ xs) (suc i) g o at = others_at n xs i g o.1 at

amend_others : (change : Guard → Guard) (n : ℕ) (guards : List Guard) → Others n guards → amend change n guards ≡ guards
amend_others change n [] o = refl
amend_others change n (x ∷ xs) o =
    ap (λ y. y ∷ amend change n xs) (cond-false (has_number n x) (change x) x (other_way n x.number o.0))
    ∙ ap (λ ys. x ∷ ys) (amend_others change n xs o.1)

without_others : (n : ℕ) (guards : List Guard) → Others n guards → without n guards ≡ guards
without_others n [] o = refl
without_others n (x ∷ xs) o =
    ap (λ b. cond (not b) (x ∷ without n xs) (without n xs)) (other_way n x.number o.0)
    ∙ ap (λ ys. x ∷ ys) (without_others n xs o.1)

-- the guard that is changed is the one at its place
pub amend_at : (change : Guard → Guard) (n : ℕ) (guards : List Guard) (i : ℕ) (g : Guard) → Distinct (numbers guards)
    → slice_get guards i ≡ Some g → g.number ≡ n → amend change n guards ≡ set guards i (change g)
unfolding IsDistinct
amend_at change n [] i g d at own = absurd (none-some g at)
amend_at change n (x ∷ xs) zero g d at own =
    let same = same_Some x g at in
    let mine : x.number ≡ n = ap (λ y. y.number) same ∙ own in
    ap (λ y. y ∷ amend change n xs) (cond-true (has_number n x) (change x) x (eq-eqb x.number n mine) ∙ ap change same)
    ∙ ap (λ ys. change g ∷ ys) (amend_others change n xs (let P : ℕ → Type 0 = λ m. Others m xs in subst P mine d.0))
amend_at change n (x ∷ xs) (suc i) g d at own =
    let apart = others_at x.number xs i g d.0 at in
    ap (λ y. y ∷ amend change n xs)
    (cond-false (has_number n x) (change x) x (ap (λ m. x.number == m) (sym own) ∙ apart))
    ∙ ap (λ ys. x ∷ ys) (amend_at change n xs i g d.1 at own)

-- the guard that goes is the one at its place
pub without_at : (n : ℕ) (guards : List Guard) (i : ℕ) (g : Guard) → Distinct (numbers guards)
    → slice_get guards i ≡ Some g → g.number ≡ n → without n guards ≡ remove guards i
unfolding IsDistinct
without_at n [] i g d at own = absurd (none-some g at)
without_at n (x ∷ xs) zero g d at own =
    let same = same_Some x g at in
    let mine : x.number ≡ n = ap (λ y. y.number) same ∙ own in
    ap (λ b. cond (not b) (x ∷ without n xs) (without n xs)) (eq-eqb x.number n mine)
    ∙ without_others n xs (let P : ℕ → Type 0 = λ m. Others m xs in subst P mine d.0)
without_at n (x ∷ xs) (suc i) g d at own =
    let apart = others_at x.number xs i g d.0 at in
    ap (λ b. cond (not b) (x ∷ without n xs) (without n xs)) (ap (λ m. x.number == m) (sym own) ∙ apart)
    ∙ ap (λ ys. x ∷ ys) (without_at n xs i g d.1 at own)

-- a new number is another than each
pub distinct_append : (guards : List Guard) (g : Guard) → Distinct (numbers guards) → is_in_use g.number guards ≡ false
    → Distinct (numbers (guards ++ g ∷ []))
unfolding IsDistinct
distinct_append [] g d new = (tt, tt)
distinct_append (x ∷ xs) g d new =
    let parts = or_parts (has_number g.number x) (is_in_use g.number xs) new in
    (others_append x.number xs g d.0 parts.0, distinct_append xs g d.1 parts.1)
  where
    others_append : (n : ℕ) (guards : List Guard) (g : Guard) → Others n guards → (n == g.number) ≡ false
        → Others n (guards ++ g ∷ [])
    others_append n [] g o apart = (apart, tt)
    others_append n (x ∷ xs) g o apart = (o.0, others_append n xs g o.1 apart)

others_remove : (n : ℕ) (guards : List Guard) (i : ℕ) → Others n guards → Others n (remove guards i)
others_remove n [] zero o = o
others_remove n [] (suc i) o = o
others_remove n (x ∷ xs) zero o = o.1
others_remove n (x ∷ xs) (suc i) o = (o.0, others_remove n xs i o.1)

pub distinct_remove : (guards : List Guard) (i : ℕ) → Distinct (numbers guards) → Distinct (numbers (remove guards i))
unfolding IsDistinct
distinct_remove [] zero d = d
distinct_remove [] (suc i) d = d
distinct_remove (x ∷ xs) zero d = d.1
distinct_remove (x ∷ xs) (suc i) d = (others_remove x.number xs i d.0, distinct_remove xs i d.1)

pub numbers_set : (guards : List Guard) (i : ℕ) (g h : Guard) → slice_get guards i ≡ Some g → h.number ≡ g.number
    → numbers (set guards i h) ≡ numbers guards
numbers_set [] i g h at same = absurd (none-some g at)
numbers_set (x ∷ xs) zero g h at same = ap (λ n. n ∷ numbers xs) (same ∙ ap (λ y. y.number) (sym (same_Some x g at)))
numbers_set (x ∷ xs) (suc i) g h at same = ap (λ ns. x.number ∷ ns) (numbers_set xs i g h at same)

-- where no other guard is held none is while this one is set aside
pub none_beside : (n : ℕ) (guards : List Guard) → list_any is_held (amend (put_aside true) n guards) ≡ is_held_beside n
    guards
none_beside n [] = refl
none_beside n (x ∷ xs) = ap (λ b. is_held (cond (has_number n x) (put_aside true x) x) || b) (none_beside n xs)
    ∙ ap (λ b. b || is_held_beside n xs) (each (has_number n x) x)
  where
    each : (b : Bool) (x : Guard) → is_held (cond b (put_aside true x) x) ≡ (not b && is_held x)
    each true x = refl
    each false x = refl

pub distinct_none : Distinct []
unfolding IsDistinct
distinct_none = tt

-- How many guards there are, by their parties.
use Rattle.std.proofs.Common.{◌≡◌, ◌≢◌, ℕ, zero, suc, ◌+◌, ◌<◌, ◌≤◌, inl, inr, List, [], ◌∷◌, length, Option, Some}
use Rattle.std.proofs.Common.{None, slice_get, refl, sym, ap, subst, arith}
use Rattle.std.proofs.lemmas.Bool.{cases_eq, eq-eqb, ne_eqb, cond-true, cond-false}
use Rattle.lock_api_desk.specs.declared.mode.Mode.{Mode}
use Rattle.lock_api_desk.specs.Guards.{Guard}
use Rattle.mapworld_state.specs.Locks.Seats.{AreHalfSeated, guards_of, is_of, seat_of}
use Rattle.mapworld_state.proofs.LocksFacts.Seating.{each_mode}

abbrev pub weigh : (Guard → ℕ) → List Guard → ℕ
weigh w [] = 0
weigh w (g ∷ gs) = w g + weigh w gs

abbrev pub sum_to : (ℕ → ℕ) → ℕ → ℕ
sum_to f zero = 0
sum_to f (suc n) = sum_to f n + f n

abbrev one : Guard → ℕ
one g = 1

ones : (gs : List Guard) → weigh one gs ≡ length gs
ones [] = refl
ones (g ∷ gs) = omega (arith, ones gs)

pub sum_of_none : (f : ℕ → ℕ) (n : ℕ) → ((t : ℕ) → f t ≡ 0) → sum_to f n ≡ 0
sum_of_none f zero h = refl
sum_of_none f (suc n) h = omega (arith, sum_of_none f n h, h n)

pub sum_same : (f g : ℕ → ℕ) (n : ℕ) → ((t : ℕ) → t < n → g t ≡ f t) → sum_to g n ≡ sum_to f n
sum_same f g zero h = refl
sum_same f g (suc n) h = omega (arith, sum_same f g n (λ t low. h t (omega (arith, low))), h n (omega arith))

at_most : (f : ℕ → ℕ) (n : ℕ) → ((v : ℕ) → f v ≤ 1) → sum_to f n ≤ n
at_most f zero few = omega arith
at_most f (suc n) few = omega (arith, at_most f n few, few n)

-- with x more at one place
sum_more : (f g : ℕ → ℕ) (p x n : ℕ) → p < n → g p ≡ x + f p → ((t : ℕ) → t ≢ p → g t ≡ f t)
    → sum_to g n ≡ x + sum_to f n
sum_more f g p x zero low here others = absurd (omega (arith, low))
sum_more f g p x (suc n) low here others = elim (cases_eq n p) [
  | inl e ↦
      let at : g n ≡ x + f n = subst (λ (k : ℕ). g k ≡ x + f k) (sym e) here in
      omega (arith, at, sum_same f g n (λ t below. others t (λ k. absurd (omega (arith, below, k, e)))))
  | inr ne ↦ omega (arith, others n ne, sum_more f g p x n (omega (arith, low, ne)) here others)
]

pub weigh_parts : (w : Guard → ℕ) (n : ℕ) (gs : List Guard)
    → ((k : ℕ) (g : Guard) → slice_get gs k ≡ Some g → g.party < n)
    → weigh w gs ≡ sum_to (λ t. weigh w (guards_of t gs)) n
weigh_parts w n [] low = sym (sum_of_none (λ t. 0) n (λ t. refl))
weigh_parts w n (g ∷ gs) low =
    omega (
      arith,
      weigh_parts w n gs (λ k x e. low (suc k) x e),
      sum_more (λ t. weigh w (guards_of t gs)) (λ t. weigh w (guards_of t (g ∷ gs))) g.party (w g) n (low 0 g refl)
          (ap (weigh w) (cond-true (is_of g.party g) (g ∷ guards_of g.party gs) (guards_of g.party gs)
          (eq-eqb g.party g.party refl)))
          (λ t ne. ap (weigh w)
          (cond-false (is_of t g) (g ∷ guards_of t gs) (guards_of t gs) (ne_eqb g.party t (λ e. ne (sym e))))),
    )

-- one of the places has nothing, and none has more than one
less_than : (f : ℕ → ℕ) (t n : ℕ) → t < n → f t ≡ 0 → ((v : ℕ) → f v ≤ 1) → sum_to f n < n
less_than f t zero low none few = absurd (omega (arith, low))
less_than f t (suc n) low none few = elim (cases_eq t n) [
  | inl e ↦ (let at : f n ≡ 0 = subst (λ (k : ℕ). f k ≡ 0) e none in omega (arith, at, at_most f n few))
  | inr ne ↦ omega (arith, few n, less_than f t n (omega (arith, low, ne)) none few)
]

few_of : (modes : ℕ → Option Mode) (guards : List Guard) → AreHalfSeated modes guards → (v : ℕ)
    → weigh one (guards_of v guards) ≤ 1
few_of modes guards seats v = elim (seats v) [
  | inl none ↦ omega (arith, ap (weigh one) none)
  | inr seat ↦ by (modes v) seat
]
  where
    by : (o : Option Mode) → guards_of v guards ≡ seat_of v o → weigh one (guards_of v guards) ≤ 1
    by None none = omega (arith, ap (weigh one) none)
    by (Some m) is = omega (arith, ap (weigh one) is)

-- Where a party has none, there is room for its guard.
pub room_for : (modes : ℕ → Option Mode) (guards : List Guard) (n t : ℕ) → AreHalfSeated modes guards
    → ((v : ℕ) (m : Mode) → modes v ≡ Some m → v < n) → t < n → guards_of t guards ≡ [] → length guards < n
room_for modes guards n t seats low t_low none =
    omega (
      arith,
      ones guards,
      weigh_parts one n guards (λ k g e. low g.party g.mode (each_mode modes guards seats k g e)),
      less_than (λ v. weigh one (guards_of v guards)) t n t_low (ap (weigh one) none) (few_of modes guards seats),
    )

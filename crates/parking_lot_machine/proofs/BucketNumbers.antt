-- How many buckets there are once threads are registered one by one.
use Rattle.std.proofs.Common.{◌≡◌, ℕ, zero, suc, ◌+◌, ◌*◌, ◌<◌, ◌≤◌, ◌-◌, ◌⊎◌, inl, inr, Bool, true, false, cond}
use Rattle.std.proofs.Common.{nat_lt, refl}
use Rattle.std.proofs.Common.{sym, ap, ◌∙◌, arith}
use Rattle.std.proofs.lemmas.Bool.{cases_lt, cond-true, cond-false, lt-ltb, le-ltb}
use Rattle.parking_lot_core_model.specs.Buckets.{buckets_for, doubled, threads_with}

-- one doubling more, where it is wanted and where it isn't
doubles_on : (w k : ℕ) → doubled w k < w → doubled w (suc k) ≡ 2 * doubled w k
doubles_on w k h = cond-true (nat_lt (doubled w k) w) (2 * doubled w k) (doubled w k) (lt-ltb (doubled w k) w h)

stays_on : (w k : ℕ) → w ≤ doubled w k → doubled w (suc k) ≡ doubled w k
stays_on w k h = cond-false (nat_lt (doubled w k) w) (2 * doubled w k) (doubled w k) (le-ltb (doubled w k) w h)

more_once : (w k : ℕ) → doubled w k ≤ doubled w (suc k)
more_once w k = elim (cases_lt (doubled w k) w) [
  | inl less ↦ omega (arith, doubles_on w k less)
  | inr fits ↦ omega (arith, stays_on w k fits)
]

-- so often as before, and so many times more
more_times : (w k n : ℕ) → doubled w k ≤ doubled w (n + k)
more_times w k zero = let e : 0 + k ≡ k = omega arith in omega (arith, ap (doubled w) e)
more_times w k (suc n) = let e : suc n + k ≡ suc (n + k) = omega arith in
    omega (arith, ap (doubled w) e, more_once w (n + k), more_times w k n)

-- where more is wanted it is as much, until what is wanted less is there
abbrev AsMuch : ℕ → ℕ → ℕ → Type 0
AsMuch w w' k = (doubled w k ≡ doubled w' k) ⊎ ((w ≤ doubled w k) × (doubled w k ≤ doubled w' k))

as_much : (w w' : ℕ) → w ≤ w' → (k : ℕ) → AsMuch w w' k
as_much w w' le zero = inl refl
as_much w w' le (suc k) = step (as_much w w' le k)
  where
    step : AsMuch w w' k → AsMuch w w' (suc k)
    step (inl e) = elim (cases_lt (doubled w k) w) [
      | inl less ↦
          let less' : doubled w' k < w' = omega (arith, e, less, le) in
          inl (doubles_on w k less ∙ (ap (λ (n : ℕ). 2 * n) e ∙ sym (doubles_on w' k less')))
      | inr fits ↦ inr (
        omega (arith, stays_on w k fits, fits),
        omega (arith, stays_on w k fits, e, more_once w' k),
      )
    ]
    step (inr x) = inr (
      omega (arith, stays_on w k x.0, x.0),
      omega (arith, stays_on w k x.0, x.1, more_once w' k),
    )

least_grows : (w w' k : ℕ) → w ≤ w' → doubled w k ≤ doubled w' k
least_grows w w' k le = elim (as_much w w' le k) [ inl e ↦ omega (arith, e) | inr x ↦ x.1 ]

-- more threads have as many buckets or more
pub buckets_grow : (m n : ℕ) → m ≤ n → buckets_for m ≤ buckets_for n
buckets_grow m n le =
    let e : (n - m) + m ≡ n = omega (arith, le) in
    omega (
      arith,
      least_grows (3 * m) (3 * n) m (omega (arith, le)),
      more_times (3 * n) m (n - m),
      ap (doubled (3 * n)) e,
    )

pub numbers_grow : (paired : Bool) (n : ℕ) → threads_with paired n ≤ threads_with paired (suc n)
numbers_grow true n = omega arith
numbers_grow false n = omega arith

-- where one more is registered there are as many as are wanted
pub grown : (a b : ℕ) → a ≤ b → cond (nat_lt a b) b a ≡ b
grown a b le = elim (cases_lt a b) [
  | inl less ↦ cond-true (nat_lt a b) b a (lt-ltb a b less)
  | inr fits ↦ cond-false (nat_lt a b) b a (le-ltb a b fits) ∙ omega (arith, le, fits)
]

pub none_registered : (paired : Bool) → buckets_for (threads_with paired 0) ≡ 16
none_registered true = refl
none_registered false = refl

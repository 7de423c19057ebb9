-- How many buckets so many threads have, among the powers of two.
use Rattle.std.proofs.Common.{◌≡◌, ◌<◌, ◌≤◌, ◌⊎◌, inl, inr, ℕ, zero, suc, ◌+◌, ◌*◌, ◌^◌, Bool, true, false, cond}
use Rattle.std.proofs.Common.{nat_lt}
use Rattle.std.proofs.Common.{refl, sym, ap, ◌∙◌, subst, arith}
use Rattle.std.proofs.lemmas.Bool.{cases_lt, cond-true, cond-false, le-ltb, lt-ltb}
use Rattle.std.proofs.Math.Nat.{pow-succ'}
use Rattle.std.proofs.Math.Pow.{pow_mono}
use Rattle.parking_lot_core_model.specs.Buckets.{BucketsAreLeast, doubled}
use Rattle.parking_lot_core_model.proofs.Slots.{some_buckets}

-- one doubling more, where it is wanted and where it isn't
doubles_on : (w k : ℕ) → doubled w k < w → doubled w (suc k) ≡ 2 * doubled w k
doubles_on w k h = cond-true (nat_lt (doubled w k) w) (2 * doubled w k) (doubled w k) (lt-ltb (doubled w k) w h)

stays_on : (w k : ℕ) → w ≤ doubled w k → doubled w (suc k) ≡ doubled w k
stays_on w k h = cond-false (nat_lt (doubled w k) w) (2 * doubled w k) (doubled w k) (le-ltb (doubled w k) w h)

power : (w k : ℕ) → (j : ℕ) × (doubled w k ≡ 2 ^ j)
power w zero = (4, refl)
power w (suc k) =
    let (j, is) = power w k in
    elim (cases_lt (doubled w k) w) [
      | inl less ↦ (suc j, doubles_on w k less ∙ (ap (λ (n : ℕ). 2 * n) is ∙ sym (pow-succ' 2 j)))
      | inr fits ↦ (j, stays_on w k fits ∙ is)
    ]

-- it has come to what is wanted, or was doubled each time
room : (w k : ℕ) → (w ≤ doubled w k) ⊎ (16 * (k + 1) ≤ doubled w k)
room w zero = inr (omega arith)
room w (suc k) = elim (cases_lt (doubled w k) w) [
  | inl less ↦ elim (room w k) [
    | inl fits ↦ absurd (omega (arith, less, fits))
    | inr more ↦ inr (omega (arith, doubles_on w k less, more))
  ]
  | inr fits ↦ inl (omega (arith, stays_on w k fits, fits))
]

-- a power of two that is less than another is half of it, or less
half : (a b : ℕ) → 2 ^ a < 2 ^ b → 2 * 2 ^ a ≤ 2 ^ b
half a b less = elim (cases_lt a b) [
  | inl below ↦ subst (λ (n : ℕ). n ≤ 2 ^ b) (pow-succ' 2 a) (pow_mono below)
  | inr above ↦ (let more : 2 ^ b ≤ 2 ^ a = pow_mono above in absurd (omega (arith, less, more)))
]

least : (w j k : ℕ) → 16 ≤ 2 ^ j → w ≤ 2 ^ j → doubled w k ≤ 2 ^ j
least w j zero some fits = some
least w j (suc k) some fits =
    let before : doubled w k ≤ 2 ^ j = least w j k some fits in
    elim (cases_lt (doubled w k) w) [
      | inl less ↦
          let (i, is) = power w k in
          let low : 2 ^ i < 2 ^ j = omega (arith, is, less, fits) in
          omega (arith, doubles_on w k less, is, half i j low)
      | inr enough ↦ omega (arith, stays_on w k enough, before)
    ]

pub buckets_are_least : BucketsAreLeast
buckets_are_least threads = record {
  power = power (3 * threads) threads;
  some = some_buckets (3 * threads) threads;
  room = elim (room (3 * threads) threads) [ inl fits ↦ fits | inr more ↦ omega (arith, more) ];
  least = λ k some fits. least (3 * threads) k threads some fits;
}

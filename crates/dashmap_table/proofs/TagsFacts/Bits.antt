-- The lanes that a number has as its bits.
use Rattle.std.proofs.Common.{◌≡◌, ◌≢◌, ℕ, ◌*◌, ◌/◌, ◌%◌, ◌^◌, ◌<◌, ◌↔◌, bit_and, ap, ◌∙◌, subst, inl, inr, arith, w64}
use Rattle.std.specs.Int.{bit_at, bit_not, trailing_zeros}
use Rattle.std.proofs.Math.Nat.{div-eq_of_lt}
use Rattle.std.proofs.Math.Pow.{pow_mono}
use Rattle.std.proofs.lemmas.Bool.{cases_lt}
use Rattle.std.proofs.lemmas.Nat.{and_le_l}
use Rattle.std.proofs.lemmas.Nat.Bits.{bit_at-zero, bit_at-lt, bit_at-trailing_zeros, bit_at_and, bit_at_clear_same}
use Rattle.std.proofs.lemmas.Nat.Bits.{bit_at_clear_other}

-- a bit that is set is below the number's width
pub bit-within : (n k : ℕ) → n < 2 ^ 64 → bit_at n k ≡ 1 → k < 64
bit-within n k small set = elim (cases_lt k 64) [
  | inl within ↦ within
  | inr over ↦
      let high : n / 2 ^ k ≡ 0 = div-eq_of_lt (omega (arith, small, pow_mono over)) in
      let none : bit_at n k ≡ 0 = ap (λ x. x % 2) high in absurd (omega (arith, set, none))
]

pub none_of_zero : (n k : ℕ) → n ≡ 0 → bit_at n k ≡ 1 → ⊥
none_of_zero n k zero set =
    let none : bit_at n k ≡ 0 = ap (λ x. bit_at x k) zero ∙ bit_at-zero k in omega (arith, set, none)

-- a number without bits is 0
pub zero_of_none : (n : ℕ) → n < 2 ^ 64 → ((k : ℕ) → bit_at n k ≡ 1 → ⊥) → n ≡ 0
zero_of_none n small none = elim (cases_lt 0 n) [
  | inl some ↦ absurd (none (trailing_zeros w64 n) (bit_at-trailing_zeros w64 n some small).1)
  | inr zero ↦ omega (arith, zero)
]

pub lowest : (n : ℕ) → 0 < n → n < 2 ^ 64 → (bit_at n (trailing_zeros w64 n) ≡ 1)
    × ((k : ℕ) → k < trailing_zeros w64 n → bit_at n k ≡ 1 → ⊥)
lowest n some small =
    let is = bit_at-trailing_zeros w64 n some small in
    (is.1, λ k below set. let none = is.2 k below in absurd (omega (arith, set, none)))

abbrev cleared : ℕ → ℕ → ℕ
cleared n k = bit_and n (bit_not w64 (1 * 2 ^ k % 2 ^ 64))

pub without-others : (n k : ℕ) → n < 2 ^ 64 → bit_at n k ≡ 1 → (i : ℕ)
    → (bit_at (cleared n k) i ≡ 1) ↔ ((bit_at n i ≡ 1) × (i ≢ k))
without-others n k small set i =
    let within = bit-within n k small set in (
      λ here.
          let other : i ≢ k = λ same.
          let gone = bit_at_clear_same w64 n k within in
          let also : bit_at (cleared n k) k ≡ 1 = subst (λ j. bit_at (cleared n k) j ≡ 1) same here in
          absurd (omega (arith, gone, also)) in
          let both = bit_at_and n (bit_not w64 (1 * 2 ^ k % 2 ^ 64)) i in
          let small = bit_at-lt n i in
          (omega (arith, both, here, small), other),
      λ h. bit_at_clear_other w64 n k within i (bit-within n i small h.0) h.1 ∙ h.0,
    )

pub without-fewer : (n k : ℕ) → n < 2 ^ 64 → bit_at n k ≡ 1 → cleared n k < n
without-fewer n k small set =
    let less = and_le_l n (bit_not w64 (1 * 2 ^ k % 2 ^ 64)) in
    elim (cases_lt (cleared n k) n) [
      | inl lower ↦ lower
      | inr over ↦
          let same : cleared n k ≡ n = omega (arith, less, over) in
          let gone = bit_at_clear_same w64 n k (bit-within n k small set) in
          let also : bit_at (cleared n k) k ≡ 1 = ap (λ m. bit_at m k) same ∙ set in absurd (omega (arith, gone, also))
    ]

-- Amounts of shards by their exponents, and the division that the shifts of a route are.
use Rattle.std.proofs.Common.{◌≡◌, ℕ, zero, suc, ◌+◌, ◌-◌, ◌*◌, ◌/◌, ◌%◌, ◌^◌, ◌<◌, ◌≤◌, nat_le, nat_eq, IsTrue, ◌↔◌}
use Rattle.std.proofs.Common.{eqb-true, eq-eqb, sym, ap, ◌∙◌, subst, inl, inr, arith, pow-suc, pow_pos, pow_mono}
use Rattle.std.proofs.Common.{mod-lt, eq-or-lt_of_le}
use Rattle.std.specs.Int.{IsNextPowerOfTwo}
use Rattle.std.proofs.lemmas.Bool.{cond-true, cond-false, le-leb, lt-leb, cases_lt}
use Rattle.std.proofs.lemmas.Nat.{one_shl, shr-shr, shl-shr, field_of, shr_below}
use Rattle.dashmap_table.specs.Route.{exponent_up_to, log2, IsShardAmount, route_of, wanted_shards}

exponent_up_to-is : (most k n : ℕ) → k ≤ most → 2 ^ k ≤ n → n < 2 * 2 ^ k → exponent_up_to most n ≡ k
exponent_up_to-is zero k n within low high = omega arith
exponent_up_to-is (suc most) k n within low high = elim (eq-or-lt_of_le within) [
  | inl here ↦
      cond-true (nat_le (2 ^ suc most) n) (suc most) (exponent_up_to most n)
      (le-leb (2 ^ suc most) n (subst (λ j. 2 ^ j ≤ n) here low)) ∙ sym here
  | inr lower ↦
      let next : 2 ^ suc k ≤ 2 ^ suc most = pow_mono lower in
      let twice = pow-suc 2 k in
      cond-false (nat_le (2 ^ suc most) n) (suc most) (exponent_up_to most n) (lt-leb (2 ^ suc most) n (omega arith))
      ∙ exponent_up_to-is most k n (omega arith) low high
]

pub log2-is : (k n : ℕ) → k < 64 → 2 ^ k ≤ n → n < 2 * 2 ^ k → log2 n ≡ k
unfolding log2
log2-is k n within low high = exponent_up_to-is 63 k n (omega arith) low high

-- a power of two within bounds has an exponent within bounds
above_zero : (k n : ℕ) → n ≡ 2 ^ k → 2 ≤ n → 1 ≤ k
above_zero zero n e least = absurd (omega (arith, e))
above_zero (suc k) n e least = omega arith

at_most : (k most n : ℕ) → n ≡ 2 ^ k → n < 2 ^ suc most → k ≤ most
at_most k most n e small = elim (cases_lt most k) [
  | inl above ↦ let over : 2 ^ suc most ≤ 2 ^ k = pow_mono above in absurd (omega (arith, e, small, over))
  | inr le ↦ le
]

-- the exponent of a shard amount is from 1 to 16
pub exponent_within : (n : ℕ) → IsShardAmount n → (1 ≤ log2 n) × (log2 n ≤ 16)
exponent_within n amount =
    (above_zero (log2 n) n amount.0 amount.1, at_most (log2 n) 16 n amount.0 (let most = amount.2 in omega arith))

-- a power of two in range is a shard amount
pub IsShardAmount-from : (n k : ℕ) → n ≡ 2 ^ k → 2 ≤ n → n ≤ 2 ^ 16 → IsShardAmount n
IsShardAmount-from n k e least most =
    let small : k ≤ 16 = at_most k 16 n e (omega arith) in
    let twice : n < 2 * n = omega arith in (
      e ∙ ap (λ j. 2 ^ j)
          (sym (log2-is k n (omega arith) (subst (λ m. m ≤ n) e (omega arith)) (subst (λ m. n < 2 * m) e twice))),
      least,
      most,
    )

-- the test of a number in range by the power of two below it
pub IsShardAmount-tested : (n k : ℕ) → k < 64 → 2 ^ k ≤ n → n < 2 * 2 ^ k → 2 ≤ n → n ≤ 2 ^ 16
    → IsTrue (nat_eq n (1 * 2 ^ k % 2 ^ 64)) ↔ IsShardAmount n
IsShardAmount-tested n k within low high least most = (there, back)
  where
    there : IsTrue (nat_eq n (1 * 2 ^ k % 2 ^ 64)) → IsShardAmount n
    there e = IsShardAmount-from n k (eqb-true n (1 * 2 ^ k % 2 ^ 64) e ∙ one_shl k 64 within) least most

    back : IsShardAmount n → IsTrue (nat_eq n (1 * 2 ^ k % 2 ^ 64))
    back amount =
        eq-eqb n (1 * 2 ^ k % 2 ^ 64)
        (amount.0 ∙ (ap (λ j. 2 ^ j) (log2-is k n within low high) ∙ sym (one_shl k 64 within)))

-- the least power of two above four for each thread
pub IsShardAmount-next : (p n : ℕ) → p ≤ 2 ^ 14 → IsNextPowerOfTwo (wanted_shards p) n → IsShardAmount n
IsShardAmount-next p n few next =
    let k = next.0.0 in
    let is : n ≡ 2 ^ k = next.0.1 in
    let above = next.1 in
    let below = next.2 in
    let small : n < 2 ^ 17 = omega arith in
    let most : 2 ^ k ≤ 2 ^ 16 = pow_mono (at_most k 16 n is small) in
    IsShardAmount-from n k is (omega arith) (omega (arith, is))

-- what the two shifts leave of a hash
pub shifts-are : (hash k : ℕ) → k ≤ 57 → (hash * 2 ^ 7 % 2 ^ 64) / 2 ^ (64 - k) ≡ (hash % 2 ^ 57) / 2 ^ (57 - k)
shifts-are hash k within =
    let split : 64 - k ≡ 7 + (57 - k) = omega arith in
    ap (λ m. (hash * 2 ^ 7 % 2 ^ 64) / 2 ^ m) split
    ∙ (sym (shr-shr (hash * 2 ^ 7 % 2 ^ 64) 7 (57 - k))
    ∙ ap (λ x. x / 2 ^ (57 - k)) (field_of (hash * 2 ^ 7) 57 7 ∙ ap (λ x. x % 2 ^ 57) (shl-shr hash 7)))

-- a route is the number of a shard
pub route_of-below : (hash shards : ℕ) → IsShardAmount shards → route_of hash shards < shards
route_of-below hash shards amount =
    let le = (exponent_within shards amount).1 in
    let split : 57 ≡ log2 shards + (57 - log2 shards) = omega arith in
    subst
    (λ n. route_of hash shards < n)
    (sym amount.0)
    (shr_below (hash % 2 ^ 57) (log2 shards) (57 - log2 shards)
    (subst (λ m. hash % 2 ^ 57 < 2 ^ m) split (mod-lt hash (pow_pos 57))))

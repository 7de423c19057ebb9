-- Default amounts of shards, and the shares of a capacity of 0.
use Rattle.std.proofs.Common.{◌≡◌, ℕ, suc, ◌+◌, ◌-◌, ◌/◌, ◌^◌, ◌<◌, ◌≤◌, ◌↔◌, sym, ap, ◌∙◌, subst, inl, inr, arith}
use Rattle.std.proofs.Common.{pow-suc, pow_mono}
use Rattle.std.specs.Int.{IsNextPowerOfTwo}
use Rattle.std.proofs.Math.Nat.{div-le_self}
use Rattle.std.proofs.lemmas.Bool.{cases_lt}
use Rattle.dashmap_table.specs.Route.{IsShardAmount, HasNoShare, wanted_shards}
use Rattle.dashmap_map.specs.Making.{HasNoDefaultShare}

-- a power of two that isn't below n isn't below another one whose half is
not_above : (n k j : ℕ) → n ≤ 2 ^ k → 2 ^ j / 2 < n → j ≤ k
not_above n k j least half = elim (cases_lt k j) [
  | inl above ↦
      let twice = pow-suc 2 k in
      let next : 2 ^ suc k ≤ 2 ^ j = pow_mono above in
      absurd (omega (arith, twice, next, least, half))
  | inr le ↦ le
]

-- there is one least power of two that isn't below n
pub next_power-one : (n p q : ℕ) → 1 ≤ n → IsNextPowerOfTwo n p → IsNextPowerOfTwo n q → p ≡ q
next_power-one n p q some a b =
    let k = a.0.0 in
    let j = b.0.0 in
    let is : p ≡ 2 ^ k = a.0.1 in
    let js : q ≡ 2 ^ j = b.0.1 in
    let ga : n ≤ 2 ^ k = omega (arith, is, a.1) in
    let gb : n ≤ 2 ^ j = omega (arith, js, b.1) in
    let ha : 2 ^ k / 2 < n = omega (arith, is, a.2, some) in
    let hb : 2 ^ j / 2 < n = omega (arith, js, b.2, some) in
    let one : j ≤ k = not_above n k j ga hb in
    let two : k ≤ j = not_above n j k gb ha in
    let same : k ≡ j = omega (arith, one, two) in
    is ∙ (ap (λ i. 2 ^ i) same ∙ sym js)

-- at the default amount, having no share is having no default share
pub default_share : (Q : Type 0) (capacity parallelism amount : ℕ) → IsNextPowerOfTwo (wanted_shards parallelism) amount
    → IsShardAmount amount
    → Q ↔ (IsShardAmount amount × HasNoShare capacity amount) → Q ↔ HasNoDefaultShare capacity parallelism
default_share Q capacity parallelism amount next is each = (there, back)
  where
    there : Q → HasNoDefaultShare capacity parallelism
    there q = (amount, next, is, (each.0 q).1)

    back : HasNoDefaultShare capacity parallelism → Q
    back h = each.1 (
      is,
      subst (HasNoShare capacity) (next_power-one (wanted_shards parallelism) h.0 amount (omega arith) h.1 next) h.3,
    )

-- threads without a default amount have no shares either
pub default_share-none : (capacity parallelism : ℕ) → 2 ^ 16 < wanted_shards parallelism
    → HasNoDefaultShare capacity parallelism → ⊥
default_share-none capacity parallelism many h =
    let above = h.1.1 in
    let most = h.2.2 in
    omega (arith, above, most, many)

-- a capacity of 0 has a share in any amount
pub share-zero : (amount : ℕ) → IsShardAmount amount → HasNoShare 0 amount → ⊥
share-zero amount is none = elim none [
  | inl wide ↦ let most = is.2 in omega (arith, wide, most)
  | inr much ↦
      let most = is.2 in
      let least : (0 + (amount - 1)) / amount ≤ 0 + (amount - 1) = div-le_self (0 + (amount - 1)) amount in
      omega (arith, much, least, most)
]

pub default_share-zero : (parallelism : ℕ) → HasNoDefaultShare 0 parallelism → ⊥
default_share-zero parallelism h = share-zero h.0 h.2 h.3

-- Buckets of keys: how many there are, and what stands in them.
use Rattle.std.specs.Prelude.{◌≡◌, ℕ, zero, suc, ◌+◌, ◌*◌, ◌/◌, ◌^◌, ◌≤◌, ◌||◌, Bool, false, nat_lt, if◌then◌else◌}
use Rattle.std.specs.Prelude.{List, Option, Some}
use Rattle.std.specs.Prelude.{None, is_some, slice_get}
use Rattle.std.specs.Option.{option_and_then}
use Rattle.parking_lot_core_model.specs.declared.place.Section.{Section}

-- how many threads have so many numbers, where each has one, or two
abbrev pub threads_with : Bool → ℕ → ℕ
threads_with paired numbers = if paired then (numbers + 1) / 2 else numbers

-- 16, doubled so often where it is still less than what is wanted
abbrev pub twice_below : ℕ → ℕ → ℕ
twice_below wanted n = if nat_lt n wanted then 2 * n else n

abbrev pub doubled : ℕ → ℕ → ℕ
doubled wanted zero = 16
doubled wanted (suc times) = twice_below wanted (doubled wanted times)

-- how many buckets so many threads have: the least power of two from 16 on that is three times as many, or more
abbrev pub buckets_for : ℕ → ℕ
buckets_for threads = doubled (3 * threads) threads

-- Of the powers of two from 16 on that are three times as many as the threads, or more, it is the least.
pub record IsLeastFor (threads buckets : ℕ) : Type 0 where
  pub power : (k : ℕ) × (buckets ≡ 2 ^ k)
  pub some : 16 ≤ buckets
  pub room : 3 * threads ≤ buckets
  pub least : (k : ℕ) → 16 ≤ 2 ^ k → 3 * threads ≤ 2 ^ k → buckets ≤ 2 ^ k

abbrev pub BucketsAreLeast : Type 0
BucketsAreLeast = (threads : ℕ) → IsLeastFor threads (buckets_for threads)

-- what stands at an index, where something does
abbrev pub slot : {X : Type 0} → List (Option X) → ℕ → Option X
slot xs i = option_and_then (λ x. x) (slice_get xs i)

-- a section is open in one of so many buckets
abbrev pub any_open : (ℕ → Option Section) → ℕ → Bool
any_open sections zero = false
any_open sections (suc n) = is_some (sections n) || any_open sections n

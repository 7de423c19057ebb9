-- Lists of threads, and what is said of them whatever the roles are.
use Rattle.std.specs.Prelude.{◌≡◌, ℕ, ◌<◌, ◌==◌, List, length, slice_get, Option, Some, None}
use Rattle.std.specs.List.{count_by, sum_by}

-- how often a thread stands in a list
abbrev pub occurs : ℕ → List ℕ → ℕ
occurs u q = count_by (λ x. x == u) q

-- a weight of the role at an index, 0 where there is none
abbrev pub at_index : {R : Type 0} → (R → ℕ) → Option R → ℕ
at_index f None = 0
at_index f (Some r) = f r

-- The list holds the threads whose role weighs 1, each once, and no other.
pub record IsListOf {R : Type 0} (f : R → ℕ) (q : List ℕ) (rs : List R) : Type 0 where
  pub count : length q ≡ sum_by f rs
  pub each : (u : ℕ) → occurs u q ≡ at_index f (slice_get rs u)

-- Whose role says that it was taken by a thread stands in that thread's list of those to wake.
abbrev pub AreNotedBy : {R N : Type 0} → (R → Option (ℕ × N)) → (R → N → List ℕ) → List R → Type 0
AreNotedBy {R} {N} note wakes rs = (u by : ℕ) (r : R) (n : N) → slice_get rs u ≡ Some r → note r ≡ Some (by, n)
    → (s : R) × (slice_get rs by ≡ Some s) × (0 < occurs u (wakes s n))

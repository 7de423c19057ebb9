-- What holds of each shard.
use Rattle.std.proofs.Common.{◌≡◌, ℕ, ◌+◌, ◌<◌, Bool, List, length, slice_index_or, sym, subst, inl, inr, below_more}
use Rattle.std.proofs.Common.{arith}
use Rattle.std.proofs.lemmas.Bool.{cases_lt}
use Rattle.std.proofs.lemmas.List.{get_or_past, get_or_read}
use Rattle.std.proofs.lemmas.Option.{none-some}
use Rattle.dashmap_table.specs.Table.{Table, IsSound}
use Rattle.dashmap_table.specs.Shards.{table_at, no_pairs}

module _ {K V : Type 0} where
  -- what holds of the shards that there are, and of a shard without slots, holds at each number
  pub each_shard : (P : ℕ → Table K V → Type 0) (tables : List (Table K V))
      → ((j : ℕ) → j < length tables → P j (table_at tables j)) → ((j : ℕ) → P j no_pairs) → (j : ℕ)
      → P j (table_at tables j)
  each_shard P tables within past j = elim (cases_lt j (length tables)) [
    | inl here ↦ within j here
    | inr behind ↦ subst (P j) (sym (get_or_past tables j no_pairs behind)) (past j)
  ]

  -- what holds at each number holds of the shard that was read at one of them
  pub at_index : (P : ℕ → Table K V → Type 0) (tables : List (Table K V)) (i : ℕ) (t : Table K V) → i < length tables
      → t ≡ slice_index_or tables i t → ((j : ℕ) → P j (table_at tables j)) → P i t
  at_index P tables i t within here all = subst (P i) (sym (get_or_read tables i t within here no_pairs)) (all i)

  -- one shard more
  pub shards-more : (P : ℕ → Table K V → Type 0) (tables : List (Table K V)) (i : ℕ) (t : Table K V) → i < length tables
      → t ≡ slice_index_or tables i t
      → ((j : ℕ) → j < i → P j (table_at tables j)) → P i t → (j : ℕ) → j < i + 1 → P j (table_at tables j)
  shards-more P tables i t within here below holds =
      below_more (λ j. P j (table_at tables j)) i below
      (subst (P i) (get_or_read tables i t within here no_pairs) holds)

  pub no_pairs-sound : (eq : K → K → Bool) → IsSound {K = K} {V = V} eq no_pairs
  no_pairs-sound eq = record {
    distinct = λ i j d e at_i at_j has. absurd (none-some d at_i);
    fits = omega arith;
    numbered = omega arith;
  }

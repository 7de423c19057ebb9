-- All entries in one order, and what that order is a history of.
use Rattle.std.specs.Prelude.{◌≡◌, ℕ, ◌<◌, ◌≤◌, ◌==◌, ◌⊎◌, Bool, List, IsTrue, filter, flat_map}
use Rattle.std.specs.List.{AllPairs, AllZip}
use Rattle.std.specs.List.Sorted.{IsPermutation}
use Rattle.dashmap_record.specs.declared.history.entry.Entered.{Entered}
use Rattle.dashmap_record.specs.History.Entries.{same_entry}
use Rattle.dashmap_record.specs.History.Replay.{nothing, replies_hold}
use Rattle.dashmap_record.specs.History.Match.{list_at}

module _ {K V : Type 0} where
  -- by stamp, then by shard
  abbrev pub IsBefore : Entered K V → Entered K V → Type 0
  IsBefore d e = (d.stamp < e.stamp) ⊎ ((d.stamp ≡ e.stamp) × (d.shard < e.shard))

  -- the same, or level in both
  abbrev pub IsUpTo : Entered K V → Entered K V → Type 0
  IsUpTo d e = (d.stamp < e.stamp) ⊎ ((d.stamp ≡ e.stamp) × (d.shard ≤ e.shard))

  -- all entries of the histories, one history after another
  abbrev pub flat : List (List (Entered K V)) → List (Entered K V)
  flat histories = flat_map (λ es. es) histories

  -- all entries of the histories, in order of stamp, then of shard
  pub record IsMerge (histories : List (List (Entered K V))) (all : List (Entered K V)) : Type 0 where
    pub same : IsPermutation (flat histories) all
    pub ordered : AllPairs IsBefore all

  -- one legal history of one plain map
  pub record IsLegal (eq : K → K → Bool) (alike : V → V → Bool) (histories logs : List (List (Entered K V)))
      (all : List (Entered K V)) : Type 0 where
    -- one map that takes the calls in this order, from empty, gives these replies
    pub replies : IsTrue (replies_hold eq alike (nothing K V) all)
    -- each shard's calls are in its order
    pub shards : (i : ℕ) → filter (λ e. e.shard == i) all ≡ list_at histories i
    -- each caller's calls are in its order, each once
    pub callers : (i : ℕ) → AllZip (λ d e. IsTrue (same_entry eq alike d e)) (filter (λ e. e.caller == i) all)
        (list_at logs i)

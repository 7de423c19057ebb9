-- A shard and its history: the history's calls, made one after another on a shard without pairs, give its replies and
-- its contents.
use Rattle.std.specs.Prelude.{◌≡◌, ℕ, ◌==◌, Bool, IsTrue, if◌then◌else◌, List, [], ◌∷◌, ⊤}
use Rattle.std.specs.List.{list_all}
use Rattle.std.specs.Option.{option_map}
use Rattle.dashmap_table.specs.Slots.{pair_of, entry_of}
use Rattle.dashmap_table.specs.Table.{Table}
use Rattle.dashmap_record.specs.declared.history.entry.Call.{Call}
use Rattle.dashmap_record.specs.declared.history.entry.Entered.{Entered}
use Rattle.dashmap_record.specs.History.Entries.{key_of}
use Rattle.dashmap_record.specs.History.Replay.{PlainMap, nothing, told, after, replies_hold}
use Rattle.dashmap_record.specs.Notes.{Noted}

-- what each key has under each hash
abbrev pub PlainShard : Type 0 → Type 0 → Type 0
PlainShard K V = ℕ → PlainMap K V

-- the shard without pairs
abbrev pub no_pair : (K V : Type 0) → PlainShard K V
no_pair K V hash = nothing K V

-- a shard and its history
pub record Kept (K V : Type 0) : Type 0 where
  pub table : Table K V
  pub history : Noted K V

module _ {K V : Type 0} (eq : K → K → Bool) where
  -- what a shard has
  abbrev pub found : Table K V → PlainShard K V
  found t hash k = option_map pair_of (entry_of eq t.slots hash k)

  module _ (alike : V → V → Bool) where
    -- the shard after a call on a key of this hash
    abbrev pub after_under : ℕ → Call K V → PlainShard K V → PlainShard K V
    after_under hash call m h = if hash == h then after eq alike call (m h) else m h

    -- the shard after all calls of a history
    abbrev pub replayed : PlainShard K V → List (Entered K V) → PlainShard K V
    replayed m [] = m
    replayed m (e ∷ es) = replayed (after_under e.hash e.call m) es

    -- each reply is what the call answers, one after another
    abbrev pub Replies : PlainShard K V → List (Entered K V) → Type 0
    Replies m [] = ⊤
    Replies m (e ∷ es) = (e.reply ≡ told alike e.call (m e.hash (key_of e.call)))
        × Replies (after_under e.hash e.call m) es

    -- what holds of all shards that record
    pub record IsReplayed (s : Kept K V) : Type 0 where
      pub replies : Replies (no_pair K V) s.history.entries
      pub contents : (hash : ℕ) (k : K) → found s.table hash k ≡ replayed (no_pair K V) s.history.entries hash k

    -- a judge that knows keys and no hashes finds the replies right, wherever the hashes are those of the keys
    abbrev pub HoldsForJudges : List (Entered K V) → Type 0
    HoldsForJudges es = (hash : K → ℕ) → ((j k : K) → IsTrue (eq j k) → hash j ≡ hash k)
        → IsTrue (list_all (λ e. e.hash == hash (key_of e.call)) es) → IsTrue (replies_hold eq alike (nothing K V) es)

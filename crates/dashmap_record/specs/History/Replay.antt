-- One plain map that takes calls one after another.
use Rattle.std.specs.Prelude.{Bool, true, false, ◌&&◌, if◌then◌else◌, List, [], ◌∷◌, Option, None, Some}
use Rattle.dashmap_table.specs.Shards.{put_over}
use Rattle.dashmap_record.specs.declared.history.entry.Call.{Call}
use Rattle.dashmap_record.specs.declared.history.entry.Call.TheVariants.{Insert, Remove, GetCopied, ReplaceIf}
use Rattle.dashmap_record.specs.declared.history.entry.CallReply.{CallReply}
use Rattle.dashmap_record.specs.declared.history.entry.CallReply.TheVariants as reply
use Rattle.dashmap_record.specs.declared.history.entry.Entered.{Entered}
use Rattle.dashmap_record.specs.History.Entries.{key_of, same_reply}

-- a plain map: what each key has
abbrev pub PlainMap : Type 0 → Type 0 → Type 0
PlainMap K V = K → Option (K × V)

-- the map without pairs
abbrev pub nothing : (K V : Type 0) → PlainMap K V
nothing K V q = None

module _ {K V : Type 0} where
  -- the value of a pair that was there
  abbrev pub value_told : Option (K × V) → CallReply K V
  value_told None = reply.None
  value_told (Some p) = reply.Value p.1

  -- the pair that was there
  abbrev pub pair_told : Option (K × V) → CallReply K V
  pair_told None = reply.None
  pair_told (Some p) = reply.Pair p.0 p.1

  module _ (alike : V → V → Bool) where
    -- whether there is a pair with this value
    abbrev pub has_value : V → Option (K × V) → Bool
    has_value seen None = false
    has_value seen (Some p) = alike p.1 seen

    -- what a call answers where its key has this pair, or none
    abbrev pub told : Call K V → Option (K × V) → CallReply K V
    told (Insert _ _) o = value_told o
    told (Remove _) o = pair_told o
    told (GetCopied _) o = value_told o
    told (ReplaceIf _ seen _) o = reply.Flag (has_value seen o)

  module _ (eq : K → K → Bool) where
    -- the map with another value at a key; a stored key stays
    abbrev pub with_value_at : K → V → PlainMap K V → PlainMap K V
    with_value_at k v m q = if eq k q then Some (put_over (m k) k v) else m q

    -- the map without a key's pair
    abbrev pub without : K → PlainMap K V → PlainMap K V
    without k m q = if eq k q then None else m q

    module _ (alike : V → V → Bool) where
      -- the map after a call
      abbrev pub after : Call K V → PlainMap K V → PlainMap K V
      after (Insert k v) m = with_value_at k v m
      after (Remove k) m = without k m
      after (GetCopied _) m = m
      after (ReplaceIf k seen v) m = if has_value alike seen (m k) then with_value_at k v m else m

      -- whether each reply is what the call answers, one after another
      abbrev pub replies_hold : PlainMap K V → List (Entered K V) → Bool
      replies_hold m [] = true
      replies_hold m (e ∷ es) = same_reply eq alike e.reply (told alike e.call (m (key_of e.call)))
          && replies_hold (after e.call m) es

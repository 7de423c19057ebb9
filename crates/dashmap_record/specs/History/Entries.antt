-- Entries: the key of a call, and when two entries are equal.
use Rattle.std.specs.Prelude.{Bool, true, false, ◌&&◌, ◌==◌}
use Rattle.std.specs.Bool.{beq}
use Rattle.dashmap_record.specs.declared.history.entry.Call.{Call}
use Rattle.dashmap_record.specs.declared.history.entry.Call.TheVariants.{Insert, Remove, GetCopied, ReplaceIf}
use Rattle.dashmap_record.specs.declared.history.entry.CallReply.{CallReply}
use Rattle.dashmap_record.specs.declared.history.entry.CallReply.TheVariants as reply
use Rattle.dashmap_record.specs.declared.history.entry.Entered.{Entered}

-- the key that a call is about
abbrev pub key_of : {K V : Type 0} → Call K V → K
key_of (Insert k _) = k
key_of (Remove k) = k
key_of (GetCopied k) = k
key_of (ReplaceIf k _ _) = k

module _ {K V : Type 0} (eq : K → K → Bool) (alike : V → V → Bool) where
  abbrev pub same_call : Call K V → Call K V → Bool
  same_call (Insert j v) (Insert k w) = eq j k && alike v w
  same_call (Remove j) (Remove k) = eq j k
  same_call (GetCopied j) (GetCopied k) = eq j k
  same_call (ReplaceIf j s v) (ReplaceIf k t w) = eq j k && (alike s t && alike v w)
  same_call _ _ = false

  abbrev pub same_reply : CallReply K V → CallReply K V → Bool
  same_reply reply.None reply.None = true
  same_reply (reply.Value v) (reply.Value w) = alike v w
  same_reply (reply.Pair j v) (reply.Pair k w) = eq j k && alike v w
  same_reply (reply.Flag a) (reply.Flag b) = beq a b
  same_reply _ _ = false

  -- part by part
  abbrev pub same_entry : Entered K V → Entered K V → Bool
  same_entry d e =
      (d.caller == e.caller)
      && ((d.stamp == e.stamp)
      && ((d.shard == e.shard) && ((d.hash == e.hash) && (same_call d.call e.call && same_reply d.reply e.reply))))

-- The recorded map and its callers as contracts see them. What lies behind a lock is known to its holder alone.
use Rattle.std.specs.Prelude.{◌≡◌, ℕ, ◌+◌, ◌<◌, ◌==◌, Bool, IsTrue, IfSome, List, [], ◌∷◌, ◌++◌, Option, Some, None, ⊤}
use Rattle.std.specs.List.{list_all}
use Rattle.std.specs.Hash.{HashWrites}
use Rattle.std.specs.declared.hash.BuildHasher as builder
use Rattle.std.specs.declared.hash.Hasher as hasher
use Rattle.dashmap_table.specs.Route.{route_of}
use Rattle.dashmap_table.specs.Shards.{key_hash}
use Rattle.dashmap_record.specs.declared.history.entry.Call.{Call}
use Rattle.dashmap_record.specs.declared.history.entry.CallReply.{CallReply}
use Rattle.dashmap_record.specs.declared.history.entry.CallReply.TheVariants as reply
use Rattle.dashmap_record.specs.declared.history.entry.Entered.{Entered}
use Rattle.dashmap_record.specs.History.Entries.{key_of}
use Rattle.dashmap_record.specs.History.Replay.{told}
use Rattle.dashmap_record.specs.Notes.{Noted, SameNotes, written}

-- a caller: its number and its log
pub record Calling (K V : Type 0) : Type 0 where
  pub number : ℕ
  pub log : Noted K V

pub record RecordedMap (S : Type 0) : Type 0 where
  -- how many shards there are
  pub shards : ℕ
  pub hasher : S

-- the shard that a key is on
abbrev pub shard_of : {K S H : Type 0} → builder.Ghosts S H → hasher.Ghosts H → (K → HashWrites) → RecordedMap S → K → ℕ
shard_of b h input m k = route_of (key_hash b h input m.hasher k) m.shards

module _ {K V : Type 0} where
  -- each entry is of this caller
  abbrev pub IsOwn : ℕ → List (Entered K V) → Type 0
  IsOwn number es = IsTrue (list_all (λ e. e.caller == number) es)

  -- a caller that hasn't called yet
  pub record IsNew (number : ℕ) (c : Calling K V) : Type 0 where
    pub number_is : c.number ≡ number
    pub empty : c.log.entries ≡ []
    pub last : c.log.last ≡ 0

  -- callers that haven't called yet, with the numbers from one on
  abbrev pub AreNew : ℕ → List (Calling K V) → Type 0
  AreNew number [] = ⊤
  AreNew number (c ∷ cs) = IsNew number c × AreNew (number + 1) cs

  -- a caller's log got one entry: the call, its reply, and a stamp above the last one
  pub record Logs (old new : Calling K V) (shard hash : ℕ) (call : Call K V) (reply : CallReply K V) : Type 0 where
    pub number : new.number ≡ old.number
    pub above : old.log.last < new.log.last
    pub entries : new.log.entries ≡ old.log.entries ++ written old.number new.log.last shard hash call reply ∷ []

  -- a caller wrote nothing down
  pub record IsStill (old new : Calling K V) : Type 0 where
    pub number : new.number ≡ old.number
    pub log : SameNotes old.log new.log

  -- what a call answers of the pair that its key has
  abbrev pub IsReply : (K → K → Bool) → (V → V → Bool) → Call K V → CallReply K V → Type 0
  IsReply eq alike call reply = (o : Option (K × V)) × (reply ≡ told alike call o)
      × IfSome o (λ p. IsTrue (eq p.0 (key_of call)))

  -- a value that was there, or none, as it is written down
  abbrev pub value_reply : Option V → CallReply K V
  value_reply None = reply.None
  value_reply (Some v) = reply.Value v

  -- a pair that was there, or none, as it is written down
  abbrev pub pair_reply : Option (K × V) → CallReply K V
  pair_reply None = reply.None
  pair_reply (Some p) = reply.Pair p.0 p.1

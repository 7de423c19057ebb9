-- Notes: entries whose stamps rise, and the last stamp that was given.
use Rattle.std.specs.Prelude.{◌≡◌, ℕ, ◌≤◌, nat_le, IsTrue, List, [], ◌∷◌, ◌++◌, length}
use Rattle.std.specs.List.{list_all}
use Rattle.dashmap_record.specs.declared.history.entry.Call.{Call}
use Rattle.dashmap_record.specs.declared.history.entry.CallReply.{CallReply}
use Rattle.dashmap_record.specs.declared.history.entry.Entered.{Entered}
use Rattle.dashmap_record.specs.History.Match.{rises}

pub record Noted (K V : Type 0) : Type 0 where
  -- the entries, oldest first
  pub entries : List (Entered K V)
  -- the last stamp, or where none was given the number that all are to be above
  pub last : ℕ
  -- for how many entries there is room
  pub room : ℕ

module _ {K V : Type 0} where
  -- no stamp is above the last
  abbrev pub up_to : ℕ → List (Entered K V) → Type 0
  up_to last es = IsTrue (list_all (λ e. nat_le e.stamp last) es)

  -- what holds of all notes
  pub record AreInOrder (n : Noted K V) : Type 0 where
    pub rise : IsTrue (rises n.entries)
    pub below : up_to n.last n.entries

  -- there is room for no more entries
  abbrev pub IsSpent : Noted K V → Type 0
  IsSpent n = n.room ≤ length n.entries

  -- nothing was written down
  pub record SameNotes (old new : Noted K V) : Type 0 where
    pub entries : new.entries ≡ old.entries
    pub last : new.last ≡ old.last

  -- the notes with one entry more
  abbrev pub with_entry : Noted K V → Entered K V → Noted K V
  with_entry n e = record n { entries = n.entries ++ e ∷ []; last = e.stamp }

-- what is written down of a call
abbrev pub written : {K V : Type 0} → ℕ → ℕ → ℕ → ℕ → Call K V → CallReply K V → Entered K V
written caller stamp shard hash call reply =
    record { caller = caller; stamp = stamp; shard = shard; hash = hash; call = call; reply = reply }

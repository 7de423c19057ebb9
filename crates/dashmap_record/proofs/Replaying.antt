-- A history with one entry more, replayed.
use Rattle.std.proofs.Common.{◌≡◌, ℕ, Bool, List, [], ◌∷◌, ◌++◌, refl, sym, ap, ◌∙◌, subst}
use Rattle.std.proofs.Math.Path.{fun_ext}
use Rattle.dashmap_record.specs.declared.history.entry.Entered.{Entered}
use Rattle.dashmap_record.specs.History.Entries.{key_of}
use Rattle.dashmap_record.specs.History.Replay.{told}
use Rattle.dashmap_record.specs.Notes.{Noted, SameNotes, with_entry}
use Rattle.dashmap_record.specs.Replaying.{PlainShard, no_pair, Kept, found, after_under, replayed, Replies, IsReplayed}

module _ {K V : Type 0} (eq : K → K → Bool) (alike : V → V → Bool) where
  replayed-more : (m : PlainShard K V) (es : List (Entered K V)) (e : Entered K V)
      → replayed eq alike m (es ++ e ∷ []) ≡ after_under eq alike e.hash e.call (replayed eq alike m es)
  replayed-more m [] e = refl
  replayed-more m (d ∷ es) e = replayed-more (after_under eq alike d.hash d.call m) es e

  replies-more : (m : PlainShard K V) (es : List (Entered K V)) (e : Entered K V) → Replies eq alike m es
      → e.reply ≡ told alike e.call (replayed eq alike m es e.hash (key_of e.call)) → Replies eq alike m (es ++ e ∷ [])
  replies-more m [] e hold is = (is, tt)
  replies-more m (d ∷ es) e hold is = (hold.0, replies-more (after_under eq alike d.hash d.call m) es e hold.1 is)

  -- the shard after a call that was written down
  pub replayed_on : (s t : Kept K V) (n : Noted K V) (e : Entered K V) → IsReplayed eq alike s → SameNotes s.history n
      → t.history ≡ with_entry n e → e.reply ≡ told alike e.call (found eq s.table e.hash (key_of e.call))
      → ((h : ℕ) (q : K) → found eq t.table h q ≡ after_under eq alike e.hash e.call (found eq s.table) h q)
      → IsReplayed eq alike t
  replayed_on s t n e holds notes added reply after =
      let same : found eq s.table ≡ replayed eq alike (no_pair K V) s.history.entries =
      fun_ext (λ h. fun_ext (λ q. holds.contents h q)) in
      let entries : t.history.entries ≡ s.history.entries ++ e ∷ [] = ap (λ (m : Noted K V). m.entries) added
      ∙ ap (λ l. l ++ e ∷ []) notes.entries in
      record {
        replies =
            subst (λ es. Replies eq alike (no_pair K V) es) (sym entries)
            (replies-more (no_pair K V) s.history.entries e holds.replies
            (reply ∙ ap (λ (m : PlainShard K V). told alike e.call (m e.hash (key_of e.call))) same));
        contents = λ h q.
            after h q
            ∙ (ap (λ (m : PlainShard K V). after_under eq alike e.hash e.call m h q) same
            ∙ (ap (λ (m : PlainShard K V). m h q) (sym (replayed-more (no_pair K V) s.history.entries e))
            ∙ ap (λ es. replayed eq alike (no_pair K V) es h q) (sym entries)));
      }

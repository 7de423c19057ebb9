-- The rest of a history, replayed.
use Rattle.std.proofs.Common.{◌≡◌, ℕ, ◌+◌, ◌<◌, ◌≤◌, Bool, true, false, ◌&&◌, List, length, drop, replicate}
use Rattle.std.proofs.Common.{slice_index_or, None, sym, ap, ◌∙◌, inl, inr, arith}
use Rattle.std.proofs.Math.Path.{fun_ext}
use Rattle.std.specs.Hash.{HashWrites}
use Rattle.std.specs.Option.{option_map}
use Rattle.std.specs.declared.hash.BuildHasher as builder
use Rattle.std.specs.declared.hash.Hasher as hasher
use Rattle.std.proofs.lemmas.Bool.{cases_lt}
use Rattle.std.proofs.lemmas.List.{at_drop_more, at_drop_all, get_or-replicate, get_or_past, length-replicate}
use Rattle.dashmap_table.specs.Slots.{pair_of, entry_of}
use Rattle.dashmap_table.specs.Table.{Table}
use Rattle.dashmap_table.specs.Shards.{Tables, no_pairs, table_at, key_hash, key_shard, pair_at}
use Rattle.dashmap_record.specs.declared.history.entry.Entered.{Entered}
use Rattle.dashmap_record.specs.History.Entries.{key_of, same_reply}
use Rattle.dashmap_record.specs.History.Replay.{PlainMap, told, after, replies_hold}

module _ {K V : Type 0} (eq : K → K → Bool) (alike : V → V → Bool) where
  -- maps that agree at each key replay alike
  pub replies-agree : (m n : PlainMap K V) → ((q : K) → m q ≡ n q) → (es : List (Entered K V))
      → replies_hold eq alike m es ≡ replies_hold eq alike n es
  replies-agree m n agree es = ap (λ (x : PlainMap K V). replies_hold eq alike x es) (fun_ext agree)

  module _ (m : PlainMap K V) (es : List (Entered K V)) (i : ℕ) where
    replies_next : (e : Entered K V) → i < length es → e ≡ slice_index_or es i e
        → replies_hold eq alike m (drop i es) ≡ (same_reply eq alike e.reply (told alike e.call (m (key_of e.call)))
        && replies_hold eq alike (after eq alike e.call m) (drop (i + 1) es))
    replies_next e within here =
        at_drop_more (replies_hold eq alike m) es i e within
        ∙ ap (λ (d : Entered K V). same_reply eq alike d.reply (told alike d.call (m (key_of d.call)))
        && replies_hold eq alike (after eq alike d.call m) (drop (i + 1) es)) (sym here)

    pub replies_on : (e : Entered K V) → i < length es → e ≡ slice_index_or es i e
        → same_reply eq alike e.reply (told alike e.call (m (key_of e.call))) ≡ true
        → replies_hold eq alike m (drop i es) ≡ replies_hold eq alike (after eq alike e.call m) (drop (i + 1) es)
    replies_on e within here holds = replies_next e within here
        ∙ ap (λ b. b && replies_hold eq alike (after eq alike e.call m) (drop (i + 1) es)) holds

    pub replies_no : (e : Entered K V) → i < length es → e ≡ slice_index_or es i e
        → same_reply eq alike e.reply (told alike e.call (m (key_of e.call))) ≡ false
        → replies_hold eq alike m (drop i es) ≡ false
    replies_no e within here other = replies_next e within here
        ∙ ap (λ b. b && replies_hold eq alike (after eq alike e.call m) (drop (i + 1) es)) other

    pub replies_end : length es ≤ i → replies_hold eq alike m (drop i es) ≡ true
    replies_end past = at_drop_all (replies_hold eq alike m) es i past

module _ {K V S H : Type 0} (b : builder.Ghosts S H) (h : hasher.Ghosts H) (input : K → HashWrites) (eq : K → K → Bool)
  where
    -- a key of shards without pairs has none
    pub nothing_there : (n : ℕ) (t : Tables K V S) → t.tables ≡ replicate n no_pairs → (q : K)
        → pair_at b h input eq t q ≡ None
    nothing_there n t empty q =
        ap (λ (u : Table K V). option_map pair_of (entry_of eq u.slots (key_hash b h input t.hasher q) q))
        (ap (λ l. table_at l (key_shard b h input t q)) empty ∙ each (key_shard b h input t q))
      where
        each : (i : ℕ) → table_at (replicate n (no_pairs {K = K} {V = V})) i ≡ no_pairs
        each i = elim (cases_lt i n) [
          | inl within ↦ get_or-replicate n i no_pairs no_pairs within
          | inr past ↦ let long = length-replicate n (no_pairs {K = K} {V = V}) in get_or_past (replicate n no_pairs) i
              no_pairs (omega arith)
        ]

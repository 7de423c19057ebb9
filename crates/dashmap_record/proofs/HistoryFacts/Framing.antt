-- A history over many shards: where each shard's part holds by itself, the whole holds.
use Rattle.std.proofs.Common.{◌≡◌, ℕ, Bool, true, false, cond, nat_eq, List, [], ◌∷◌, Some, None, refl, sym, ap, ◌∙◌}
use Rattle.std.proofs.Common.{inl, inr}
use Rattle.std.specs.List.{filter}
use Rattle.std.proofs.lemmas.Bool.{true≢false, false≢true, and_parts, and_from, cases_Bool, both_ways, cond-true}
use Rattle.std.proofs.lemmas.Bool.{cond-false, eqb-true, eq-eqb}
use Rattle.dashmap_table.specs.Shards.{put_over}
use Rattle.dashmap_record.specs.declared.history.entry.Call.{Call}
use Rattle.dashmap_record.specs.declared.history.entry.Call.TheVariants.{Insert, Remove, GetCopied, ReplaceIf}
use Rattle.dashmap_record.specs.declared.history.entry.Entered.{Entered}
use Rattle.dashmap_record.specs.History.Entries.{key_of, same_reply}
use Rattle.dashmap_record.specs.History.Replay.{PlainMap, has_value, told, with_value_at, after, replies_hold}
use Rattle.dashmap_record.proofs.HistoryFacts.Lists.{Each}

-- the entries of a shard
abbrev pub of_shard : {K V : Type 0} → ℕ → List (Entered K V) → List (Entered K V)
of_shard j es = filter (λ e. nat_eq e.shard j) es

module _ {K V : Type 0} (eq : K → K → Bool) (alike : V → V → Bool) where
  -- maps that agree at a call's key and at q agree at q after the call
  pub after-agrees : (c : Call K V) (m n : PlainMap K V) (q : K) → m (key_of c) ≡ n (key_of c) → m q ≡ n q
      → after eq alike c m q ≡ after eq alike c n q
  after-agrees (Insert k v) m n q at_key at_q = ap (λ o. cond (eq k q) (Some (put_over o k v)) (m q)) at_key
      ∙ ap (λ o. cond (eq k q) (Some (put_over (n k) k v)) o) at_q
  after-agrees (Remove k) m n q at_key at_q = ap (λ o. cond (eq k q) None o) at_q
  after-agrees (GetCopied k) m n q at_key at_q = at_q
  after-agrees (ReplaceIf k seen v) m n q at_key at_q =
      replaced (has_value alike seen (m k)) (has_value alike seen (n k)) (ap (has_value alike seen) at_key)
    where
      replaced : (a b : Bool) → a ≡ b → cond a (with_value_at eq k v m) m q ≡ cond b (with_value_at eq k v n) n q
      replaced true true _ = ap (λ o. cond (eq k q) (Some (put_over o k v)) (m q)) at_key
          ∙ ap (λ o. cond (eq k q) (Some (put_over (n k) k v)) o) at_q
      replaced false false _ = at_q
      replaced true false e = absurd (true≢false e)
      replaced false true e = absurd (false≢true e)

  -- a call leaves a key that isn't equal to its own
  pub after-others : (c : Call K V) (m : PlainMap K V) (q : K) → eq (key_of c) q ≡ false → after eq alike c m q ≡ m q
  after-others (Insert k v) m q apart = cond-false (eq k q) (Some (put_over (m k) k v)) (m q) apart
  after-others (Remove k) m q apart = cond-false (eq k q) None (m q) apart
  after-others (GetCopied k) m q apart = refl
  after-others (ReplaceIf k seen v) m q apart = replaced (has_value alike seen (m k))
    where
      replaced : (a : Bool) → cond a (with_value_at eq k v m) m q ≡ m q
      replaced true = cond-false (eq k q) (Some (put_over (m k) k v)) (m q) apart
      replaced false = refl

  -- each key is of one shard, and equal keys of the same
  module _ (shard : K → ℕ) (respects : (j k : K) → eq j k ≡ true → shard j ≡ shard k) where
    module _ (e : Entered K V) (es : List (Entered K V)) (m : PlainMap K V) (part : ℕ → PlainMap K V)
        (agree : (q : K) → m q ≡ part (shard q) q) (on : shard (key_of e.call) ≡ e.shard) where
      -- the parts after the entry's call
      part_after : ℕ → PlainMap K V
      part_after j = cond (nat_eq e.shard j) (after eq alike e.call (part e.shard)) (part j)

      at_key : m (key_of e.call) ≡ part e.shard (key_of e.call)
      at_key = agree (key_of e.call) ∙ ap (λ j. part j (key_of e.call)) on

      apart : (q : K) → nat_eq e.shard (shard q) ≡ false → eq (key_of e.call) q ≡ false
      apart q other = elim (cases_Bool (eq (key_of e.call) q)) [
        | inl equal ↦ absurd
            (both_ways (nat_eq e.shard (shard q)) other
            (eq-eqb e.shard (shard q) (sym on ∙ respects (key_of e.call) q equal)))
        | inr it ↦ it
      ]

      later : (q : K) → after eq alike e.call m q ≡ part_after (shard q) q
      unfolding part_after
      later q = elim (cases_Bool (nat_eq e.shard (shard q))) [
        | inl same ↦
            after-agrees e.call m (part e.shard) q at_key
            (agree q ∙ ap (λ j. part j q) (sym (eqb-true e.shard (shard q) same)))
            ∙ sym (ap (λ (n : PlainMap K V). n q)
            (cond-true (nat_eq e.shard (shard q)) (after eq alike e.call (part e.shard)) (part (shard q)) same))
        | inr other ↦
            after-others e.call m q (apart q other)
            ∙ (agree q ∙ sym (ap (λ (n : PlainMap K V). n q)
            (cond-false (nat_eq e.shard (shard q)) (after eq alike e.call (part e.shard)) (part (shard q)) other)))
      ]

      module _ (parts : (j : ℕ) → replies_hold eq alike (part j) (of_shard j (e ∷ es)) ≡ true) where
        here : (same_reply eq alike e.reply (told alike e.call (part e.shard (key_of e.call))) ≡ true)
            × (replies_hold eq alike (after eq alike e.call (part e.shard)) (of_shard e.shard es) ≡ true)
        here =
            and_parts (same_reply eq alike e.reply (told alike e.call (part e.shard (key_of e.call))))
            (replies_hold eq alike (after eq alike e.call (part e.shard)) (of_shard e.shard es))
            (ap (replies_hold eq alike (part e.shard))
            (sym (cond-true (nat_eq e.shard e.shard) (e ∷ of_shard e.shard es) (of_shard e.shard es)
            (eq-eqb e.shard e.shard refl))) ∙ parts e.shard)

        rest : (j : ℕ) → replies_hold eq alike (part_after j) (of_shard j es) ≡ true
        unfolding part_after
        rest j = elim (cases_Bool (nat_eq e.shard j)) [
          | inl same ↦
              ap (λ (n : PlainMap K V). replies_hold eq alike n (of_shard j es))
              (cond-true (nat_eq e.shard j) (after eq alike e.call (part e.shard)) (part j) same)
              ∙ (ap (λ i. replies_hold eq alike (after eq alike e.call (part e.shard)) (of_shard i es))
              (sym (eqb-true e.shard j same)) ∙ here.1)
          | inr other ↦
              ap (λ (n : PlainMap K V). replies_hold eq alike n (of_shard j es))
              (cond-false (nat_eq e.shard j) (after eq alike e.call (part e.shard)) (part j) other)
              ∙ (ap (replies_hold eq alike (part j))
              (sym (cond-false (nat_eq e.shard j) (e ∷ of_shard j es) (of_shard j es) other)) ∙ parts j)
        ]

        first : same_reply eq alike e.reply (told alike e.call (m (key_of e.call))) ≡ true
        first = ap (λ o. same_reply eq alike e.reply (told alike e.call o)) at_key ∙ here.0

    pub framed : (es : List (Entered K V)) (m : PlainMap K V) (part : ℕ → PlainMap K V)
        → ((q : K) → m q ≡ part (shard q) q)
        → Each (λ e. shard (key_of e.call) ≡ e.shard) es
        → ((j : ℕ) → replies_hold eq alike (part j) (of_shard j es) ≡ true) → replies_hold eq alike m es ≡ true
    framed [] m part agree on parts = refl
    framed (e ∷ es) m part agree on parts =
        and_from (same_reply eq alike e.reply (told alike e.call (m (key_of e.call))))
        (replies_hold eq alike (after eq alike e.call m) es)
        (first e es m part agree on.0 parts)
        (framed es (after eq alike e.call m) (part_after e es m part agree on.0) (later e es m part agree on.0) on.1
        (rest e es m part agree on.0 parts))

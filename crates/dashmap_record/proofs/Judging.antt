-- A history whose hashes are those of its keys: the judge's plain map gives its replies too.
use Rattle.std.proofs.Common.{◌≡◌, ℕ, nat_eq, Bool, true, false, cond, List, [], ◌∷◌, refl, sym, ap, ◌∙◌, inl, inr}
use Rattle.std.proofs.Common.{eq-eqb}
use Rattle.std.specs.Cmp.{IsEquivalence}
use Rattle.std.specs.List.{list_all}
use Rattle.std.proofs.lemmas.Bool.{cases_Bool, and_parts, and_from, eqb-true, false_from_ne_true, false≢true}
use Rattle.dashmap_record.specs.declared.history.entry.CallReply.{CallReply}
use Rattle.dashmap_record.specs.declared.history.entry.CallReply.TheVariants as reply
use Rattle.dashmap_record.specs.declared.history.entry.Entered.{Entered}
use Rattle.dashmap_record.specs.History.Entries.{key_of, same_reply}
use Rattle.dashmap_record.specs.History.Replay.{PlainMap, nothing, told, after, replies_hold}
use Rattle.dashmap_record.proofs.HistoryFacts.Framing.{after-agrees, after-others}
use Rattle.dashmap_record.specs.Replaying.{PlainShard, no_pair, after_under, Replies, HoldsForJudges}

module _ {K V : Type 0} (eq : K → K → Bool) (alike : V → V → Bool) (keys : IsEquivalence eq)
    (values : IsEquivalence alike) where
  same_reply-refl : (r : CallReply K V) → same_reply eq alike r r ≡ true
  same_reply-refl reply.None = refl
  same_reply-refl (reply.Value v) = values.refl v
  same_reply-refl (reply.Pair k v) = and_from (eq k k) (alike v v) (keys.refl k) (values.refl v)
  same_reply-refl (reply.Flag true) = refl
  same_reply-refl (reply.Flag false) = refl

  module _ (hash : K → ℕ) (respects : (j k : K) → eq j k ≡ true → hash j ≡ hash k) where
    -- a plain map that has what each key has under its hash has it after a call, too
    step : (e : Entered K V) (p : PlainMap K V) (m : PlainShard K V) → e.hash ≡ hash (key_of e.call)
        → ((q : K) → p q ≡ m (hash q) q) → (q : K) → after eq alike e.call p q ≡ after_under eq alike e.hash e.call m
        (hash q) q
    step e p m on agree q = elim (cases_Bool (nat_eq e.hash (hash q))) [
      | inl here ↦
          after-agrees eq alike e.call p (m (hash q)) q
          (agree (key_of e.call) ∙ ap (λ n. m n (key_of e.call)) (sym on ∙ eqb-true e.hash (hash q) here)) (agree q)
          ∙ ap (λ b. cond b (after eq alike e.call (m (hash q))) (m (hash q)) q) (sym here)
      | inr away ↦
          after-others eq alike e.call p q
          (false_from_ne_true (eq (key_of e.call) q)
          (λ same. false≢true (sym away ∙ eq-eqb e.hash (hash q) (on ∙ respects (key_of e.call) q same))))
          ∙ (agree q ∙ ap (λ b. cond b (after eq alike e.call (m (hash q))) (m (hash q)) q) (sym away))
    ]

    replays : (es : List (Entered K V)) (p : PlainMap K V) (m : PlainShard K V) → ((q : K) → p q ≡ m (hash q) q)
        → list_all (λ e. nat_eq e.hash (hash (key_of e.call))) es ≡ true → Replies eq alike m es
        → replies_hold eq alike p es ≡ true
    replays [] p m agree hashed hold = refl
    replays (e ∷ es) p m agree hashed hold =
        let both = and_parts (nat_eq e.hash (hash (key_of e.call)))
        (list_all (λ d. nat_eq d.hash (hash (key_of d.call))) es) hashed in
        let on : e.hash ≡ hash (key_of e.call) = eqb-true e.hash (hash (key_of e.call)) both.0 in
        let at_key : p (key_of e.call) ≡ m e.hash (key_of e.call) = agree (key_of e.call)
        ∙ ap (λ n. m n (key_of e.call)) (sym on) in
        and_from (same_reply eq alike e.reply (told alike e.call (p (key_of e.call))))
        (replies_hold eq alike (after eq alike e.call p) es)
        (ap (λ r. same_reply eq alike r (told alike e.call (p (key_of e.call))))
        (hold.0 ∙ ap (λ o. told alike e.call o) (sym at_key))
        ∙ same_reply-refl (told alike e.call (p (key_of e.call))))
        (replays es (after eq alike e.call p) (after_under eq alike e.hash e.call m) (step e p m on agree) both.1
        hold.1)

  pub judged : (es : List (Entered K V)) → Replies eq alike (no_pair K V) es → HoldsForJudges eq alike es
  judged es hold hash respects hashed = replays hash respects es (nothing K V) (no_pair K V) (λ q. refl) hashed hold

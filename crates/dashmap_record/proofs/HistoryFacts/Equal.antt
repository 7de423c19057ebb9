-- Equal entries: of one stamp, shard and caller, whichever is compared with which.
use Rattle.std.proofs.Common.{◌≡◌, ℕ, ◌&&◌, Bool, true, false, nat_eq, refl, sym, ap, ◌∙◌}
use Rattle.std.specs.Bool.{beq}
use Rattle.std.proofs.lemmas.Bool.{and_parts, eqb-true, eq-eqb}
use Rattle.dashmap_record.specs.declared.history.entry.Call.{Call}
use Rattle.dashmap_record.specs.declared.history.entry.Call.TheVariants.{Insert, Remove, GetCopied, ReplaceIf}
use Rattle.dashmap_record.specs.declared.history.entry.CallReply.{CallReply}
use Rattle.dashmap_record.specs.declared.history.entry.CallReply.TheVariants as reply
use Rattle.dashmap_record.specs.declared.history.entry.Entered.{Entered}
use Rattle.dashmap_record.specs.History.Entries.{same_call, same_reply, same_entry}

-- two tests of which each follows from the other are one
pub either : (a b : Bool) → (a ≡ true → b ≡ true) → (b ≡ true → a ≡ true) → a ≡ b
either true true f g = refl
either true false f g = sym (f refl)
either false true f g = g refl
either false false f g = refl

both : {a b c d : Bool} → a ≡ b → c ≡ d → (a && c) ≡ (b && d)
both {a} {b} {c} {d} e f = ap (λ x. x && c) e ∙ ap (λ x. b && x) f

beq-symm : (a b : Bool) → beq a b ≡ beq b a
beq-symm true true = refl
beq-symm true false = refl
beq-symm false true = refl
beq-symm false false = refl

nat_eq-symm : (a b : ℕ) → nat_eq a b ≡ nat_eq b a
nat_eq-symm a b = either (nat_eq a b) (nat_eq b a) (λ is. eq-eqb b a (sym (eqb-true a b is)))
    (λ is. eq-eqb a b (sym (eqb-true b a is)))

module _ {K V : Type 0} (eq : K → K → Bool) (alike : V → V → Bool) where
  pub same-stamp : (d e : Entered K V) → same_entry eq alike d e ≡ true → d.stamp ≡ e.stamp
  same-stamp d e is = eqb-true d.stamp e.stamp (and_parts _ _ (and_parts _ _ is).1).0

  pub same-shard : (d e : Entered K V) → same_entry eq alike d e ≡ true → d.shard ≡ e.shard
  same-shard d e is = eqb-true d.shard e.shard (and_parts _ _ (and_parts _ _ (and_parts _ _ is).1).1).0

  pub same-caller : (d e : Entered K V) → same_entry eq alike d e ≡ true → d.caller ≡ e.caller
  same-caller d e is = eqb-true d.caller e.caller (and_parts _ _ is).0

  module _ (keys : (j k : K) → eq j k ≡ eq k j) (values : (v w : V) → alike v w ≡ alike w v) where
    call-symm : (c d : Call K V) → same_call eq alike c d ≡ same_call eq alike d c
    call-symm (Insert j v) (Insert k w) = both (keys j k) (values v w)
    call-symm (Insert j v) (Remove k) = refl
    call-symm (Insert j v) (GetCopied k) = refl
    call-symm (Insert j v) (ReplaceIf k t w) = refl
    call-symm (Remove j) (Insert k w) = refl
    call-symm (Remove j) (Remove k) = keys j k
    call-symm (Remove j) (GetCopied k) = refl
    call-symm (Remove j) (ReplaceIf k t w) = refl
    call-symm (GetCopied j) (Insert k w) = refl
    call-symm (GetCopied j) (Remove k) = refl
    call-symm (GetCopied j) (GetCopied k) = keys j k
    call-symm (GetCopied j) (ReplaceIf k t w) = refl
    call-symm (ReplaceIf j s v) (Insert k w) = refl
    call-symm (ReplaceIf j s v) (Remove k) = refl
    call-symm (ReplaceIf j s v) (GetCopied k) = refl
    call-symm (ReplaceIf j s v) (ReplaceIf k t w) = both (keys j k) (both (values s t) (values v w))

    reply-symm : (r q : CallReply K V) → same_reply eq alike r q ≡ same_reply eq alike q r
    reply-symm reply.None reply.None = refl
    reply-symm reply.None (reply.Value w) = refl
    reply-symm reply.None (reply.Pair k w) = refl
    reply-symm reply.None (reply.Flag b) = refl
    reply-symm (reply.Value v) reply.None = refl
    reply-symm (reply.Value v) (reply.Value w) = values v w
    reply-symm (reply.Value v) (reply.Pair k w) = refl
    reply-symm (reply.Value v) (reply.Flag b) = refl
    reply-symm (reply.Pair j v) reply.None = refl
    reply-symm (reply.Pair j v) (reply.Value w) = refl
    reply-symm (reply.Pair j v) (reply.Pair k w) = both (keys j k) (values v w)
    reply-symm (reply.Pair j v) (reply.Flag b) = refl
    reply-symm (reply.Flag a) reply.None = refl
    reply-symm (reply.Flag a) (reply.Value w) = refl
    reply-symm (reply.Flag a) (reply.Pair k w) = refl
    reply-symm (reply.Flag a) (reply.Flag b) = beq-symm a b

    pub same-symm : (d e : Entered K V) → same_entry eq alike d e ≡ same_entry eq alike e d
    same-symm d e =
        both (nat_eq-symm d.caller e.caller)
        (both (nat_eq-symm d.stamp e.stamp) (both (nat_eq-symm d.shard e.shard) (both (nat_eq-symm d.hash e.hash)
        (both (call-symm d.call e.call) (reply-symm d.reply e.reply)))))

-- An entry's guard has the key that its opening was handed, which is the key of the session's block.
use Rattle.std.proofs.Common.{◌≡◌, ℕ, zero, suc, ◌+◌, ◌<◌, List, Option, Some, None, slice_get, refl, ap, sym, ◌∙◌}
use Rattle.std.proofs.Common.{subst, arith}
use Rattle.std.specs.Option.{option_and_then}
use Rattle.std.proofs.lemmas.Option.{none-some, same_Some}
use Rattle.mapworld_calls.specs.Deeds.{Deeds}
use Rattle.mapworld_calls.specs.declared.ask.Ask.{Ask}
use Rattle.mapworld_calls.specs.declared.ask.Ask.TheVariants as ask
use Rattle.mapworld_calls.specs.declared.ask.Begin.TheVariants as begin
use Rattle.mapworld_calls.specs.declared.ask.Held.{Held}
use Rattle.mapworld_calls.specs.declared.ask.Held.TheVariants as held
use Rattle.mapworld_calls.specs.declared.block.Block.{Block}
use Rattle.mapworld_calls.specs.declared.reply.Reply.{Reply}
use Rattle.mapworld_calls.specs.Programs.{keyed_key, opening_key, key_of}
use Rattle.mapworld_calls.specs.Calls as calls
use Rattle.mapworld_calls.specs.Setup.{Setup, ask_at}
use Rattle.mapworld_calls.specs.Replay.{after_ask, reached, block_key}
use Rattle.mapworld_calls.specs.Placed.{IsDoneWithin, WellPlaced}

-- the guard, if it is an entry's, has that key
abbrev pub Handed : {K V : Type 0} → K → calls.At K V → Type 0
Handed key (calls.free o) = Unit {0}
Handed key (calls.shared p) = Unit {0}
Handed key (calls.exclusive p) = Unit {0}
Handed key (calls.occupied k p) = k ≡ key
Handed key (calls.vacant k) = k ≡ key

module _ {K V D T : Type 0} (deeds : Deeds D K V T) (key : K) where
  first-handed : (a : Ask K V D) → key_of a ≡ Some key → (o : Option (K × V))
      → Handed key (calls.after deeds a (calls.free o))
  first-handed (ask.Keyed k) is o = tt
  first-handed (ask.Begin (begin.Get k)) is None = tt
  first-handed (ask.Begin (begin.Get k)) is (Some p) = tt
  first-handed (ask.Begin (begin.GetMut k)) is None = tt
  first-handed (ask.Begin (begin.GetMut k)) is (Some p) = tt
  first-handed (ask.Begin (begin.Entry k)) is None = same_Some k key is
  first-handed (ask.Begin (begin.Entry k)) is (Some p) = same_Some k key is
  first-handed (ask.Begin (begin.TryGet k)) is None = tt
  first-handed (ask.Begin (begin.TryGet k)) is (Some p) = tt
  first-handed (ask.Begin (begin.TryGetMut k)) is None = tt
  first-handed (ask.Begin (begin.TryGetMut k)) is (Some p) = tt
  first-handed (ask.Begin (begin.GetUntil k)) is None = tt
  first-handed (ask.Begin (begin.GetUntil k)) is (Some p) = tt
  first-handed (ask.Begin (begin.GetMutUntil k)) is None = tt
  first-handed (ask.Begin (begin.GetMutUntil k)) is (Some p) = tt
  first-handed (ask.Begin (begin.TryEntry k)) is None = same_Some k key is
  first-handed (ask.Begin (begin.TryEntry k)) is (Some p) = same_Some k key is
  first-handed (ask.Held h) is o = absurd (none-some key is)
  first-handed (ask.Walk f) is o = absurd (none-some key is)

  held-handed : (h : Held V D) (s : calls.At K V) → Handed key s → Handed key (calls.after deeds (ask.Held h) s)
  held-handed h (calls.free o) handed = tt
  held-handed (held.Read d) (calls.shared p) handed = tt
  held-handed (held.Read d) (calls.exclusive p) handed = tt
  held-handed (held.Read d) (calls.occupied k p) handed = handed
  held-handed (held.Read d) (calls.vacant k) handed = handed
  held-handed (held.Write d) (calls.shared p) handed = tt
  held-handed (held.Write d) (calls.exclusive p) handed = tt
  held-handed (held.Write d) (calls.occupied k p) handed = handed
  held-handed (held.Write d) (calls.vacant k) handed = handed
  held-handed held.Downgrade (calls.shared p) handed = tt
  held-handed held.Downgrade (calls.exclusive p) handed = tt
  held-handed held.Downgrade (calls.occupied k p) handed = handed
  held-handed held.Downgrade (calls.vacant k) handed = handed
  held-handed (held.Insert v) (calls.shared p) handed = tt
  held-handed (held.Insert v) (calls.exclusive p) handed = tt
  held-handed (held.Insert v) (calls.occupied k p) handed = handed
  held-handed (held.Insert v) (calls.vacant k) handed = tt
  held-handed held.IntoRef (calls.shared p) handed = tt
  held-handed held.IntoRef (calls.exclusive p) handed = tt
  held-handed held.IntoRef (calls.occupied k p) handed = tt
  held-handed held.IntoRef (calls.vacant k) handed = handed
  held-handed held.Remove (calls.shared p) handed = tt
  held-handed held.Remove (calls.exclusive p) handed = tt
  held-handed held.Remove (calls.occupied k p) handed = tt
  held-handed held.Remove (calls.vacant k) handed = handed
  held-handed held.RemoveEntry (calls.shared p) handed = tt
  held-handed held.RemoveEntry (calls.exclusive p) handed = tt
  held-handed held.RemoveEntry (calls.occupied k p) handed = tt
  held-handed held.RemoveEntry (calls.vacant k) handed = handed
  held-handed (held.ReplaceEntry v) (calls.shared p) handed = tt
  held-handed (held.ReplaceEntry v) (calls.exclusive p) handed = tt
  held-handed (held.ReplaceEntry v) (calls.occupied k p) handed = tt
  held-handed (held.ReplaceEntry v) (calls.vacant k) handed = handed
  held-handed held.IntoKey (calls.shared p) handed = tt
  held-handed held.IntoKey (calls.exclusive p) handed = tt
  held-handed held.IntoKey (calls.occupied k p) handed = tt
  held-handed held.IntoKey (calls.vacant k) handed = tt
  held-handed held.Drop (calls.shared p) handed = tt
  held-handed held.Drop (calls.exclusive p) handed = tt
  held-handed held.Drop (calls.occupied k p) handed = tt
  held-handed held.Drop (calls.vacant k) handed = tt

-- the calls of a block: the first has a key, and all others are of its guard
pub record IsOfBlock {K V D T : Type 0} (w : Setup K V D T) (t c n : ℕ) : Type 0 where
  pub first : Ask K V D
  pub asked : ask_at w t c ≡ Some first
  pub key : K
  pub key_is : key_of first ≡ Some key
  pub others : (m : ℕ) → 0 < m → m < n → (h : Held V D) × (ask_at w t (c + m) ≡ Some (ask.Held h))

module _ {K V D T : Type 0} (w : Setup K V D T) (t c : ℕ) where
  -- an entry's guard has the block's key
  pub reached-handed : (n : ℕ) (b : IsOfBlock w t c n) (o : Option (K × V)) → Handed b.key (reached w t c n o)
  reached-handed zero b o = tt
  reached-handed (suc zero) b o =
      let here : c + 0 ≡ c = omega arith in
      let is : ask_at w t (c + 0) ≡ Some b.first = rw here b.asked in
      subst (λ (a : Option (Ask K V D)). Handed b.key (after_ask w.deeds a (calls.free o))) (sym is)
      (first-handed w.deeds b.key b.first b.key_is o)
  reached-handed (suc (suc n)) b o =
      let front : IsOfBlock w t c (suc n) =
      record {
        first = b.first;
        asked = b.asked;
        key = b.key;
        key_is = b.key_is;
        others = λ i pos lt. b.others i pos (omega (arith, lt));
      } in
      let call = b.others (suc n) (omega arith) (omega arith) in
      subst (λ (a : Option (Ask K V D)). Handed b.key (after_ask w.deeds a (reached w t c (suc n) o))) (sym call.1)
      (held-handed w.deeds b.key call.0 (reached w t c (suc n) o) (reached-handed (suc n) front o))

module _ {K V D T A : Type 0} (w : Setup K V D T) (steps : List ℕ) (started : ℕ → Option ℕ) (bs : List (Block K))
    (replies : List (Reply K V T A)) (well : WellPlaced w steps started bs replies) where
  -- a listed block with a key has done calls of its own alone
  calls-of : (i : ℕ) (b : Block K) (key : K) → block_key w b ≡ Some key → (a : Ask K V D)
      → ask_at w b.thread b.call ≡ Some a → IsDoneWithin w started bs replies i b a
      → IsOfBlock w b.thread b.call b.done.value
  calls-of i b key own (ask.Keyed k) is done =
      record {
        first = ask.Keyed k;
        asked = is;
        key = keyed_key k;
        key_is = refl;
        others = λ m pos lt. absurd (let le = done.0.once in omega (arith, le, pos, lt));
      }
  calls-of i b key own (ask.Begin g) is done =
      record {
        first = ask.Begin g;
        asked = is;
        key = opening_key g;
        key_is = refl;
        others = λ m pos lt. let c =
            done.0.calls m pos lt in (c.held, c.asked);
      }
  calls-of i b key own (ask.Held h) is done = absurd done
  calls-of i b key own (ask.Walk f) is done = absurd (none-some key (sym (ap (option_and_then key_of) is) ∙ own))

  pub of-block : (i : ℕ) (b : Block K) → slice_get bs i ≡ Some b → (key : K) → block_key w b ≡ Some key
      → IsOfBlock w b.thread b.call b.done.value
  of-block i b at key own = let p = well.placed i b at in calls-of i b key own p.ask p.asked p.done

  -- where a block has come to
  pub block-handed : (i : ℕ) (b : Block K) → slice_get bs i ≡ Some b → (key : K) → block_key w b ≡ Some key
      → (o : Option (K × V))
      → Handed key (reached w b.thread b.call b.done.value o)
  block-handed i b at key is o =
      let own = of-block i b at key is in
      let mine : block_key w b ≡ Some own.key = ap (option_and_then key_of) own.asked ∙ own.key_is in
      subst (λ (k : K). Handed k (reached w b.thread b.call b.done.value o)) (same_Some own.key key (sym mine ∙ is))
      (reached-handed w b.thread b.call b.done.value own o)

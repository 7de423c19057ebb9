-- How the list of blocks changes in one step, as the threads see it whose blocks stay.
use Rattle.std.proofs.Common.{◌≡◌, ◌≢◌, ℕ, ◌<◌, inr, ⊎_elim, List, [], ◌∷◌, ◌++◌, Option, Some, None, slice_get}
use Rattle.std.proofs.Common.{slice_set, refl, ap, sym, ◌∙◌, subst}
use Rattle.std.proofs.lemmas.Option.{same_Some}
use Rattle.mapworld_calls.specs.declared.ask.Ask.TheVariants as ask
use Rattle.mapworld_calls.specs.declared.ask.Walk.{Walk}
use Rattle.mapworld_calls.specs.declared.block.Block.{Block}
use Rattle.mapworld_calls.specs.declared.reply.Answer.{Answer}
use Rattle.mapworld_calls.specs.Setup.{Setup, Laws, ask_at}
use Rattle.mapworld_calls.specs.Frame.{IsOn, AreApart, Grows}
use Rattle.mapworld_calls.specs.Replay.{block_key, at_key, frame_of, before, found, IsLastOnShard}
use Rattle.mapworld_calls.specs.Agrees.{IsToldBy, HasNoBlock}
use Rattle.mapworld_calls.specs.Growth.{GoesOn}
use Rattle.mapworld_calls.proofs.Lists.{slice_get-set_other, slice_get-set_cases, slice_get-push_below}
use Rattle.mapworld_calls.proofs.Lists.{slice_get-push_cases}
use Rattle.mapworld_calls.proofs.Frames.{turn-same}
use Rattle.mapworld_calls.proofs.Works.{keeps-to_shard}
use Rattle.mapworld_calls.proofs.Replays.{on-shard}
use Rattle.mapworld_calls.proofs.Kept.{KeepsVisits, Keeps, told-grown, told-push, before-push, visit-shard}

-- a thread's blocks stay, each finds on its shard what it found, and what was told stays told. A block that was the
-- last on its shard stays so unless the step listed another one there: `Foreign` says of a block that it did not
pub record KeepsBlocks {K V D T : Type 0} (A : Type 0) (x : Setup K V D T) (bs bs' : List (Block K)) (u : ℕ)
    (Foreign : Block K → Type 0) : Type 0 where
  pub kept : (i : ℕ) (b : Block K) → slice_get bs i ≡ Some b → b.thread ≡ u → slice_get bs' i ≡ Some b
  pub back : (i : ℕ) (b : Block K) → slice_get bs' i ≡ Some b → b.thread ≡ u → slice_get bs i ≡ Some b
  pub turns : (i : ℕ) (b : Block K) → slice_get bs i ≡ Some b → (q : K) → IsOn (frame_of x) b q
      → before x bs' i q ≡ before x bs i q
  pub told : (c n : ℕ) (a : Answer K V T A) → IsToldBy x bs u c n a → IsToldBy x bs' u c n a
  pub last : (i : ℕ) (b : Block K) → slice_get bs i ≡ Some b → Foreign b → IsLastOnShard x bs i b
      → IsLastOnShard x bs' i b

-- what a step of the thread t leaves of all others
abbrev pub Effect : {K V D T : Type 0} → Type 0 → Setup K V D T → List (Block K) → List (Block K) → ℕ
    → (Block K → Type 0) → Type 0
Effect A x bs bs' t Foreign = (u : ℕ) → u ≢ t → KeepsBlocks A x bs bs' u Foreign

abbrev pub Anyhow : {K : Type 0} → Block K → Type 0
Anyhow b = Unit {0}

module _ {K V D T : Type 0} (A : Type 0) (x : Setup K V D T) where
  pub keeps-same : (bs : List (Block K)) (u : ℕ) (F : Block K → Type 0) → KeepsBlocks A x bs bs u F
  keeps-same bs u F = record {
    kept = λ i b at own. at;
    back = λ i b at own. at;
    turns = λ i b at q on. refl;
    told = λ c n a h. h;
    last = λ i b at f h. h;
  }

  pub effect-push : (bs : List (Block K)) (t : ℕ) (d : Block K) → d.thread ≡ t
      → Effect A x bs (bs ++ d ∷ []) t (λ b. AreApart (frame_of x) b d)
  effect-push bs t d own u ne = record {
    kept = λ i b at own. slice_get-push_below bs i b d at;
    back = λ i b at its. ⊎_elim (λ h. h) (λ h. absurd (ne (sym its ∙ ap (λ z. z.thread) h.1 ∙ own)))
        (slice_get-push_cases bs i b d at);
    turns = λ i b at q on. ap (λ m. m q) (before-push x bs d i b at);
    told = λ c n a h. told-push x bs d u c n a h;
    last = λ i b at apart h. λ j e lt here.
        ⊎_elim (λ old. h j e lt old) (λ new. subst (λ (z : Block K). AreApart (frame_of x) b z) (sym new.1) apart)
        (slice_get-push_cases bs j e d here);
  }

  -- a block that gives way to another of its shard
  pub last-grown : (bs : List (Block K)) (i : ℕ) (b c : Block K) → Grows (frame_of x) bs i b c → (j : ℕ) (e : Block K)
      → IsLastOnShard x bs j e → IsLastOnShard x (slice_set bs i c) j e
  last-grown bs i b c g j e h k d lt here =
      ⊎_elim
      (λ same. λ n hn hd. h i b (subst (λ (z : ℕ). j < z) same.0 lt) g.listed n hn
      (sym g.shard ∙ ap (λ z. (frame_of x).shard z) (sym same.1) ∙ hd))
      (λ old. h k d lt old.1)
      (slice_get-set_cases bs i k b d c g.listed here)

  pub effect-grow : Laws x → (bs : List (Block K)) (t i : ℕ) (b c : Block K) → Grows (frame_of x) bs i b c → GoesOn b c
      → b.thread ≡ t → Effect A x bs (slice_set bs i c) t Anyhow
  effect-grow laws bs t i b c g on own u ne = record {
    kept = λ j e at its.
        let apart : i ≢ j =
        λ same. ne (sym its
        ∙ ap (λ z. z.thread) (same_Some e b (sym at ∙ sym (ap (λ k. slice_get bs k) same) ∙ g.listed)) ∙ own) in
        slice_get-set_other bs i j c apart ∙ at;
    back = λ j e at its.
        ⊎_elim (λ h. absurd (ne (sym its ∙ ap (λ z. z.thread) h.1 ∙ on.thread ∙ own))) (λ h. h.1)
        (slice_get-set_cases bs i j b e c g.listed at);
    turns = λ j e at q its. turn-same (frame_of x) (keeps-to_shard x laws) bs i b c g j e (inr at) q its;
    told = λ k n a h. told-grown x laws bs i b c g on u k n a h;
    last = λ j e at f h. last-grown bs i b c g j e h;
  }

-- what follows for a thread whose blocks stay
module _ {K V D T A : Type 0} (x : Setup K V D T) (bs bs' : List (Block K)) (u : ℕ) (F : Block K → Type 0)
    (k : KeepsBlocks A x bs bs' u F) where
  found-at : (i : ℕ) (b : Block K) → slice_get bs i ≡ Some b → (o : Option K) → block_key x b ≡ o
      → at_key (before x bs' i) o ≡ at_key (before x bs i) o
  found-at i b at None is = refl
  found-at i b at (Some key) is = k.turns i b at key (on-shard x b key is)

  pub finds-kept : (i : ℕ) (b : Block K) → slice_get bs i ≡ Some b → found x bs' i b ≡ found x bs i b
  finds-kept i b at = found-at i b at (block_key x b) refl

  -- a call without a block gets none
  pub none-kept : (c : ℕ) → HasNoBlock bs u c → HasNoBlock bs' u c
  none-kept c none i b at thread call = none i b (k.back i b at thread) thread call

  pub visits-kept : (c : ℕ) (f : Walk D) → ask_at x u c ≡ Some (ask.Walk f) → KeepsVisits x bs bs' u c
  visits-kept c f asked = record {
    listed = λ i b at thread call. k.kept i b at thread;
    finds = λ i b at thread call q here. k.turns i b at q (visit-shard x f b u c asked thread call (x.route q) here);
    all = λ n h i b at thread call. h i b (k.back i b at thread) thread call;
  }

  pub keeps-of : (c : ℕ) → Keeps A x bs bs' u c
  keeps-of c = record {
    told = λ b n a h. k.told b n a h;
    none = λ b le h. none-kept b h;
    visits = λ f asked. visits-kept c f asked;
  }

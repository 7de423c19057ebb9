-- No block tells a refusal, so who is refused has none.
use Rattle.std.proofs.Common.{◌≡◌, ℕ, ◌⊎◌, inl, inr, ⊎_elim, Bool, true, false, if◌then◌else◌, List, Option, Some, None}
use Rattle.std.proofs.Common.{slice_get, option_map, refl, ap, sym, ◌∙◌, subst}
use Rattle.std.proofs.lemmas.Option.{same_Some, none-some}
use Rattle.mapworld_calls.specs.declared.block.Block.{Block}
use Rattle.mapworld_calls.specs.Deeds.{Deeds}
use Rattle.mapworld_calls.specs.declared.ask.Keyed.{Keyed}
use Rattle.mapworld_calls.specs.declared.ask.Keyed.TheVariants as keyed
use Rattle.mapworld_calls.specs.declared.ask.Ask.{Ask}
use Rattle.mapworld_calls.specs.declared.ask.Ask.TheVariants as ask
use Rattle.mapworld_calls.specs.declared.ask.Begin.{Begin}
use Rattle.mapworld_calls.specs.declared.ask.Begin.TheVariants as begin
use Rattle.mapworld_calls.specs.declared.ask.Held.{Held}
use Rattle.mapworld_calls.specs.declared.ask.Held.TheVariants as held
use Rattle.mapworld_calls.specs.declared.ask.Walk.{Walk}
use Rattle.mapworld_calls.specs.declared.ask.Walk.TheVariants as walk
use Rattle.mapworld_calls.specs.declared.reply.Answer.{Answer}
use Rattle.mapworld_calls.specs.declared.reply.Answer.TheVariants as answer
use Rattle.mapworld_calls.specs.Calls.{At, free, shared, exclusive, occupied, vacant, pair_in, keyed_answer}
use Rattle.mapworld_calls.specs.Calls.{opening_answer, held_answer, visit_answer, told}
use Rattle.mapworld_calls.specs.Setup.{Setup, ask_at, session_of}
use Rattle.mapworld_calls.specs.Replay.{Work, one, visit, nothing, block_work, reached, done_keys, told_as, before}
use Rattle.mapworld_calls.specs.Agrees.{Visit, IsToldBy, HasNoBlock, IsWalkAnswer, IsAnsweredInSession, IsAnsweredBy}
use Rattle.mapworld_calls.specs.HistoryLaws.Refusals.{IsRefusedForMemory, RefusedForMemoryHasNoBlock, IsRefusedAsLocked}
use Rattle.mapworld_calls.specs.HistoryLaws.Refusals.{LockedHasNoBlock, NoGuardIsAnswered}

-- whether an answer is a refusal that only a call without a block is given
abbrev pub refuses : {K V T A : Type 0} → Answer K V T A → Bool
refuses answer.NoMemory = true
refuses answer.Locked = true
refuses a = false

module _ {D K V T : Type 0} (A : Type 0) (deeds : Deeds D K V T) where
  if-told : (b : Bool) (x y : Answer K V T A) → refuses x ≡ false → refuses y ≡ false
      → refuses (if b then x else y) ≡ false
  if-told true x y hx hy = hx
  if-told false x y hx hy = hy

  keyed-told : (k : Keyed K V D) (o : Option (K × V)) → refuses (keyed_answer deeds {A = A} k o) ≡ false
  keyed-told (keyed.Insert k v) None = refl
  keyed-told (keyed.Insert k v) (Some p) = refl
  keyed-told (keyed.Remove k) None = refl
  keyed-told (keyed.Remove k) (Some p) = refl
  keyed-told (keyed.RemoveIf k d) None = refl
  keyed-told (keyed.RemoveIf k d) (Some p) = if-told (deeds.keep d p.0 p.1) answer.None (answer.Pair p.0 p.1) refl refl
  keyed-told (keyed.RemoveIfMut k d) None = refl
  keyed-told (keyed.RemoveIfMut k d) (Some p) = if-told (deeds.keep d p.0 p.1) answer.None
      (answer.Pair p.0 (deeds.effect d p.0 p.1)) refl refl
  keyed-told (keyed.Alter k d) o = refl
  keyed-told (keyed.View k d) None = refl
  keyed-told (keyed.View k d) (Some p) = refl
  keyed-told (keyed.ContainsKey k) None = refl
  keyed-told (keyed.ContainsKey k) (Some p) = refl
  keyed-told (keyed.InsertUntil k v) None = refl
  keyed-told (keyed.InsertUntil k v) (Some p) = refl
  keyed-told (keyed.RemoveUntil k) None = refl
  keyed-told (keyed.RemoveUntil k) (Some p) = refl

  opening-told : (b : Begin K) (o : Option (K × V)) → refuses (opening_answer {T = T} {A = A} b o) ≡ false
  opening-told b (Some p) = refl
  opening-told (begin.Entry k) None = refl
  opening-told (begin.TryEntry k) None = refl
  opening-told b None = refl

  held-told : (h : Held V D) (s : At K V) → refuses (held_answer {A = A} deeds h s) ≡ false
  held-told h (free o) = refl
  held-told (held.Read d) (shared p) = refl
  held-told (held.Read d) (exclusive p) = refl
  held-told (held.Read d) (occupied k p) = refl
  held-told (held.Write d) (exclusive p) = refl
  held-told (held.Write d) (occupied k p) = refl
  held-told held.Downgrade (exclusive p) = refl
  held-told (held.Insert v) (occupied k p) = refl
  held-told (held.Insert v) (vacant k) = refl
  held-told held.IntoRef (occupied k p) = refl
  held-told held.Remove (occupied k p) = refl
  held-told held.RemoveEntry (occupied k p) = refl
  held-told (held.ReplaceEntry v) (occupied k p) = refl
  held-told held.IntoKey (occupied k p) = refl
  held-told held.IntoKey (vacant k) = refl
  held-told held.Drop s = refl
  held-told h s = refl

  visit-told : (f : Walk D) (o : Option (K × V)) → refuses (visit_answer deeds {A = A} f o) ≡ false
  visit-told f None = refl
  visit-told (walk.Iter d stop) (Some p) = refl
  visit-told (walk.IterMut d stop) (Some p) = refl
  visit-told f (Some p) = refl

  told-told : (a : Ask K V D) (s : At K V) → refuses (told {A = A} deeds a s) ≡ false
  told-told (ask.Keyed k) s = keyed-told k (pair_in s)
  told-told (ask.Begin b) s = opening-told b (pair_in s)
  told-told (ask.Held h) s = held-told h s
  told-told (ask.Walk f) s = visit-told f (pair_in s)

mapped-told : {X K V T A : Type 0} (g : X → Answer K V T A) (o : Option X) (a : Answer K V T A)
    → ((x : X) → refuses (g x) ≡ false) → option_map g o ≡ Some a → refuses a ≡ false
mapped-told g None a none is = absurd (none-some a is)
mapped-told g (Some x) a none is = ap refuses (sym (same_Some (g x) a is)) ∙ none x

module _ {K V D T A : Type 0} (w : Setup K V D T) (bs : List (Block K)) where
  works-told : (x : Work K D) (b : Block K) (n : ℕ) (m : K → Option (K × V)) (a : Answer K V T A)
      → told_as w x b n m ≡ Some a → refuses a ≡ false
  works-told (one k) b n m a is =
      mapped-told (λ x. told w.deeds x (reached w b.thread b.call n (m k))) (ask_at w b.thread _) a
      (λ x. told-told A w.deeds x (reached w b.thread b.call n (m k))) is
  works-told (visit f) b n m a is = mapped-told (λ k. visit_answer w.deeds f (m k)) (slice_get (done_keys w b) n) a
      (λ k. visit-told A w.deeds f (m k)) is
  works-told nothing b n m a is = absurd (none-some a is)

  block-told : (t c n : ℕ) (a : Answer K V T A) → IsToldBy w bs t c n a → refuses a ≡ false
  block-told t c n a h = works-told (block_work w h.block) h.block n (before w bs h.place) a h.told

  walk-told : (f : Walk D) (vs : List (Visit K)) (a : Answer K V T A) → IsWalkAnswer w bs f vs a → refuses a ≡ false
  walk-told (walk.Iter d stop) vs a is = rw is.is refl
  walk-told (walk.IterMut d stop) vs a is = rw is.is refl
  walk-told walk.Len vs a is = rw is refl
  walk-told walk.IsEmpty vs a is = rw is refl
  walk-told walk.Capacity vs a is = rw is.2 refl
  walk-told (walk.Retain d) vs a is = rw is refl
  walk-told (walk.AlterAll d) vs a is = rw is refl
  walk-told walk.Clear vs a is = rw is refl
  walk-told walk.ShrinkToFit vs a is = rw is refl

  session-told : (t c : ℕ) (s : Option ℕ) (a : Answer K V T A) → IsAnsweredInSession w bs t c s a → refuses a ≡ false
  session-told t c None a is = rw is refl
  session-told t c (Some o) a is = ⊎_elim (λ told. block-told t o _ a told) (λ none. rw none.0 refl) is

  never : (a : Answer K V T A) → refuses a ≡ false → refuses a ≡ true → ⊥
  never a tells refused = cc

  memory-told : (t c : ℕ) (x : Ask K V D) (a : Answer K V T A) → a ≡ answer.NoMemory → IsAnsweredBy w bs t c x a
      → IsRefusedForMemory w bs t c x
  memory-told t c (ask.Keyed k) a is h =
      ⊎_elim
      (λ told. absurd (never a (block-told t c 0 a told) (ap refuses is)))
      (λ none. ⊎_elim (λ memory. (memory.1, none.1)) (λ locked. absurd (let other = locked.0 in cc)) none.0)
      h
  memory-told t c (ask.Begin b) a is h =
      ⊎_elim
      (λ told. absurd (never a (block-told t c 0 a told) (ap refuses is)))
      (λ none. ⊎_elim (λ memory. (memory.1, none.1)) (λ locked. absurd (let other = locked.0 in cc)) none.0)
      h
  memory-told t c (ask.Held g) a is h = never a (session-told t c (session_of w t c) a h) (ap refuses is)
  memory-told t c (ask.Walk f) a is h =
      ⊎_elim (λ told. absurd (never a (walk-told f told.visits a told.answered) (ap refuses is))) (λ refused. refused.1)
      h

  locked-told : (t c : ℕ) (x : Ask K V D) (a : Answer K V T A) → ask_at w t c ≡ Some x → a ≡ answer.Locked
      → IsAnsweredBy w bs t c x a → IsRefusedAsLocked w bs t c
  locked-told t c (ask.Keyed k) a asked is h =
      ⊎_elim
      (λ told. absurd (never a (block-told t c 0 a told) (ap refuses is)))
      (λ none. ⊎_elim
      (λ memory. absurd (let other = memory.0 in cc))
      (λ locked. record { ask = ask.Keyed k; asked = asked; may = locked.1; none = none.1 })
      none.0)
      h
  locked-told t c (ask.Begin b) a asked is h =
      ⊎_elim
      (λ told. absurd (never a (block-told t c 0 a told) (ap refuses is)))
      (λ none. ⊎_elim
      (λ memory. absurd (let other = memory.0 in cc))
      (λ locked. record { ask = ask.Begin b; asked = asked; may = locked.1; none = none.1 })
      none.0)
      h
  locked-told t c (ask.Held g) a asked is h = absurd (never a (session-told t c (session_of w t c) a h) (ap refuses is))
  locked-told t c (ask.Walk f) a asked is h =
      ⊎_elim (λ told. absurd (never a (walk-told f told.visits a told.answered) (ap refuses is)))
      (λ refused. absurd (let other = refused.0 in cc)) h

  guardless : (t c : ℕ) (s : Option ℕ) (a : Answer K V T A) → (s ≡ None) ⊎ ((o : ℕ) × (s ≡ Some o) × HasNoBlock bs t o)
      → IsAnsweredInSession w bs t c s a → a ≡ answer.NoGuard
  guardless t c None a none h = h
  guardless t c (Some o) a (inl none) h = absurd (none-some o (sym none))
  guardless t c (Some o) a (inr none) h =
      ⊎_elim
      (λ told. absurd (none.2 told.place told.block told.listed told.thread (told.call ∙ same_Some o none.0 none.1)))
      (λ refused. refused.0)
      h

pub refused-has_no_block : {K V D T A : Type 0} → RefusedForMemoryHasNoBlock K V D T A
refused-has_no_block w bs pairs replies agrees i r at is a asked =
    let h = agrees.replies_are i r at in
    memory-told w bs r.thread r.call a r.answer is
    (subst (λ (x : Ask _ _ _). IsAnsweredBy w bs r.thread r.call x r.answer) (same_Some h.ask a (sym h.asked ∙ asked))
    h.answered)

pub locked-has_no_block : {K V D T A : Type 0} → LockedHasNoBlock K V D T A
locked-has_no_block w bs pairs replies agrees i r at is =
    let h = agrees.replies_are i r at in
    locked-told w bs r.thread r.call h.ask r.answer h.asked is h.answered

pub no-guard_answered : {K V D T A : Type 0} → NoGuardIsAnswered K V D T A
no-guard_answered w bs pairs replies agrees i r at g asked none =
    let h = agrees.replies_are i r at in
    guardless w bs r.thread r.call (session_of w r.thread r.call) r.answer none
    (subst (λ (x : Ask _ _ _). IsAnsweredBy w bs r.thread r.call x r.answer)
    (same_Some h.ask (ask.Held g) (sym h.asked ∙ asked)) h.answered)

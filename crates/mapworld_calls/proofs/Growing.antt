-- One step of a list of blocks: what it changes, and that the agreement of contents and replies is kept.
use Rattle.std.proofs.Common.{◌≡◌, ℕ, ◌≤◌, ◌==◌, inl, inr, ⊎_elim, true, false, if◌then◌else◌, filter, List, [], ◌∷◌}
use Rattle.std.proofs.Common.{◌++◌, length, Option, Some, None, slice_get, slice_set, refl, ap, sym, ◌∙◌, subst, arith}
use Rattle.std.specs.Prelude.{option_and_then}
use Rattle.std.specs.List.{list_any}
use Rattle.std.proofs.lemmas.Bool.{cases_Bool}
use Rattle.std.proofs.lemmas.Option.{none-some}
use Rattle.mapworld_calls.specs.declared.block.Block.{Block}
use Rattle.mapworld_calls.specs.Pairs.{pair_of, AreDistinct}
use Rattle.mapworld_calls.specs.declared.ask.Ask.{Ask}
use Rattle.mapworld_calls.specs.declared.ask.Ask.TheVariants as ask
use Rattle.mapworld_calls.specs.declared.ask.Walk.{Walk}
use Rattle.mapworld_calls.specs.Calls.{pair_in, told, after, visit_answer, visit_leaves}
use Rattle.mapworld_calls.specs.Programs.{opening_before}
use Rattle.mapworld_calls.specs.Setup.{Setup, Laws, ask_at, session_of}
use Rattle.mapworld_calls.specs.Frame.{IsQuiet, IsLastOnShard, Grows}
use Rattle.mapworld_calls.specs.Replay.{Work, one, visit, nothing, work_of, reached, block_work, done_keys, shard_by}
use Rattle.mapworld_calls.specs.Replay.{works_on, left_by, left, told_as, told_by, frame_of, contents, before}
use Rattle.mapworld_calls.specs.declared.reply.Reply.{Reply}
use Rattle.mapworld_calls.specs.Agrees.{IsToldBy, IsAnswered, Agrees}
use Rattle.mapworld_calls.specs.Growth.{GoesOn, state_of, Calls, Visits, Ends, IsUnfinished, IsOfLaterCall, IsPut}
use Rattle.mapworld_calls.proofs.Lists.{slice_get-set_same, slice_get-push_cases}
use Rattle.mapworld_calls.proofs.Folds.{take-set_above}
use Rattle.mapworld_calls.proofs.Frames.{contents-push, contents-alike, contents-last}
use Rattle.mapworld_calls.proofs.Works.{keeps-to_shard, left-worked, left-idle}
use Rattle.mapworld_calls.proofs.Replays.{before-same}
use Rattle.mapworld_calls.proofs.Kept.{Keeps, answered-kept, work-grown, shard-grown, keeps-grown, keeps-push}
use Rattle.mapworld_calls.proofs.Visiting.{visit-quiet, visit-told, left-added, left-kept}
use Rattle.mapworld_calls.proofs.Programs.{opening_below}

session-in : {K V D : Type 0} (o : Option (List (Ask K V D))) (c i : ℕ)
    → option_and_then (λ program. opening_before program c) o ≡ Some i → i ≤ c
session-in None c i e = absurd (none-some i e)
session-in (Some program) c i e = let below = opening_below program c i e in omega arith

module _ {K V D T : Type 0} (w : Setup K V D T) where
  -- a session's opening stands before its calls
  session-below : (t c i : ℕ) → session_of w t c ≡ Some i → i ≤ c
  session-below t c i e = session-in (slice_get w.programs t) c i e

  -- the agreement is kept where the contents agree and each answer is kept
  agrees-by : {A : Type 0} (bs bs' : List (Block K)) (pairs pairs' : List (K × V)) (replies : List (Reply K V T A))
      → AreDistinct w.eq pairs' → ((q : K) → pair_of w.eq pairs' q ≡ contents w bs' q)
      → ((i : ℕ) (r : Reply K V T A) → slice_get replies i ≡ Some r → Keeps A w bs bs' r.thread r.call)
      → Agrees w bs pairs replies → Agrees w bs' pairs' replies
  agrees-by bs bs' pairs pairs' replies distinct same keeps h =
      record {
        distinct = distinct;
        contents_are = same;
        replies_are = λ i r at.
            answered-kept w bs bs' r.thread r.call r.answer (keeps i r at) (λ b e. session-below r.thread r.call b e)
            (h.replies_are i r at);
      }

  pub new-agrees : {A : Type 0} (bs : List (Block K)) (b : Block K) (pairs pairs' : List (K × V))
      (replies : List (Reply K V T A)) → IsOfLaterCall replies b → AreDistinct w.eq pairs'
      → ((q : K) → pair_of w.eq pairs' q ≡ left w b q (pair_of w.eq pairs q)) → Agrees w bs pairs replies
      → Agrees w (bs ++ b ∷ []) pairs' replies
  new-agrees bs b pairs pairs' replies later distinct same h =
      agrees-by bs (bs ++ b ∷ []) pairs pairs' replies distinct
      (λ q. same q ∙ ap (λ o. left w b q o) (h.contents_are q) ∙ sym (contents-push (frame_of w) bs b q))
      (λ i r at. keeps-push w bs b r.thread r.call (later i r at)) h

  pub reply-agrees : {A : Type 0} (bs : List (Block K)) (pairs : List (K × V)) (replies : List (Reply K V T A))
      (r : Reply K V T A) → IsAnswered w bs r.thread r.call r.answer → Agrees w bs pairs replies
      → Agrees w bs pairs (replies ++ r ∷ [])
  reply-agrees {A} bs pairs replies r told h =
      record {
        distinct = h.distinct;
        contents_are = h.contents_are;
        replies_are = λ i s at.
            elim (slice_get-push_cases replies i s r at) [
              | inl old ↦ h.replies_are i s old
              | inr new ↦ subst (λ (x : Reply K V T A). IsAnswered w bs x.thread x.call x.answer) (sym new.1) told
            ];
      }

module _ {K V D T : Type 0} (w : Setup K V D T) (laws : Laws w) (bs : List (Block K)) (i : ℕ) (b c : Block K)
    (listed : slice_get bs i ≡ Some b) (on : GoesOn b c) where
  quiet-agrees : {A : Type 0} (pairs : List (K × V)) (replies : List (Reply K V T A)) → IsQuiet (frame_of w) bs i b c
      → IsUnfinished w replies b → Agrees w bs pairs replies → Agrees w (slice_set bs i c) pairs replies
  quiet-agrees pairs replies quiet unfinished h =
      let g : Grows (frame_of w) bs i b c = record { listed = listed; shard = shard-grown w b c on; way = inl quiet } in
      agrees-by w bs (slice_set bs i c) pairs pairs replies h.distinct
      (λ q. h.contents_are q ∙ sym (contents-alike (frame_of w) (keeps-to_shard w laws) bs i b c g q (quiet q)))
      (λ j r at. keeps-grown w laws bs i b c g on r.thread r.call (unfinished j r at)) h

  -- the last block on its shard, by the keys that it changes
  last-agrees : {A : Type 0} (pairs pairs' : List (K × V)) (replies : List (Reply K V T A)) (k : K) (o : Option (K × V))
      → IsLastOnShard (frame_of w) bs i b → IsUnfinished w replies b
      → shard_by w (block_work w b) b ≡ Some (w.route k)
      → ((q : K) → w.eq k q ≡ true → left w c q (before w bs i q) ≡ o)
      → ((q : K) → w.eq k q ≡ false → left w c q (before w bs i q) ≡ left w b q (before w bs i q))
      → Agrees w bs pairs replies → IsPut w pairs pairs' k o → Agrees w (slice_set bs i c) pairs' replies
  last-agrees pairs pairs' replies k o last unfinished shard own other h put =
      let g : Grows (frame_of w) bs i b c = record { listed = listed; shard = shard-grown w b c on; way = inr last } in
      agrees-by w bs (slice_set bs i c) pairs pairs' replies put.distinct
      (λ q. put.put q ∙ ⊎_elim
      (λ e. rw e (sym (contents-last (frame_of w) (keeps-to_shard w laws) bs i b c g last q
      (shard ∙ ap Some (laws.routes k q e)) ∙ own q e)))
      (λ e. rw e (h.contents_are q
      ∙ sym (contents-alike (frame_of w) (keeps-to_shard w laws) bs i b c g q (other q e))))
      (cases_Bool (w.eq k q)))
      (λ j r at. keeps-grown w laws bs i b c g on r.thread r.call (unfinished j r at)) h

module _ {K V D T : Type 0} (w : Setup K V D T) (laws : Laws w) (bs : List (Block K)) (i : ℕ) (b c : Block K) (k : K)
    (a : Ask K V D) (s : Calls w bs i b c k a) where
  on : GoesOn b c
  on = s.same

  reached-next : (o : Option (K × V)) → reached w c.thread c.call c.done.value o ≡ after w.deeds a
      (reached w b.thread b.call b.done.value o)
  reached-next o = rw (s.same.thread, s.same.call, s.counted) (rw s.asked refl)

  works-own : (d : Block K) (q : K) → block_work w d ≡ one k → works_on w (block_work w d) d q ≡ w.eq k q
  works-own d q key = ap (λ x. works_on w x d q) key

  key-grown : block_work w c ≡ one k
  key-grown = work-grown w b c s.same ∙ s.key

  left-next : (q : K) → w.eq k q ≡ true → left w c q (before w bs i q) ≡ pair_in (after w.deeds a (state_of w bs i b k))
  left-next q e =
      left-worked w laws c q (before w bs i q) (works-own c q key-grown ∙ e)
      ∙ ap (λ x. left_by w x c (before w bs i q)) key-grown
      ∙ ap pair_in (reached-next (before w bs i q))
      ∙ ap (λ o. pair_in (after w.deeds a (reached w b.thread b.call b.done.value o)))
      (sym (before-same w laws bs i k q e))

  left-now : (q : K) → w.eq k q ≡ true → left w b q (before w bs i q) ≡ pair_in (state_of w bs i b k)
  left-now q e =
      left-worked w laws b q (before w bs i q) (works-own b q s.key ∙ e)
      ∙ ap (λ x. left_by w x b (before w bs i q)) s.key
      ∙ ap (λ o. pair_in (reached w b.thread b.call b.done.value o)) (sym (before-same w laws bs i k q e))

  left-elsewhere : (q : K) → w.eq k q ≡ false → left w c q (before w bs i q) ≡ left w b q (before w bs i q)
  left-elsewhere q e =
      left-idle w laws c q (before w bs i q) (works-own c q key-grown ∙ e)
      ∙ sym (left-idle w laws b q (before w bs i q) (works-own b q s.key ∙ e))

  call-quiet : pair_in (after w.deeds a (state_of w bs i b k)) ≡ pair_in (state_of w bs i b k)
      → IsQuiet (frame_of w) bs i b c
  call-quiet same q = ⊎_elim (λ e. left-next q e ∙ same ∙ sym (left-now q e)) (λ e. left-elsewhere q e)
      (cases_Bool (w.eq k q))

  not-walk : (f : Walk D) → one k ≡ visit f → ⊥
  not-walk f e = cc

  call-unfinished : {A : Type 0} (replies : List (Reply K V T A)) → IsUnfinished w replies b
  call-unfinished replies j r at f asked thread call =
      let is : ask_at w b.thread b.call ≡ Some (ask.Walk f) = ap (λ n. ask_at w n b.call) thread
      ∙ ap (λ n. ask_at w r.thread n) call ∙ asked in
      not-walk f (sym s.key ∙ ap (λ o. work_of o) is)

  call-told : {A : Type 0} → IsToldBy {A = A} w (slice_set bs i c) b.thread b.call b.done.value
      (told w.deeds a (state_of w bs i b k))
  call-told =
      let counted = s.counted in
      record {
        place = i;
        block = c;
        listed = slice_get-set_same bs i b c s.listed;
        thread = s.same.thread;
        call = s.same.call;
        done = omega arith;
        told = ap (λ xs. told_by w b.done.value c (contents w xs)) (take-set_above bs i i c (omega arith))
            ∙ ap (λ x. told_as w x c b.done.value (before w bs i)) key-grown
            ∙ rw (s.same.thread, s.same.call) (rw s.asked refl);
      }

  pub quiet-call_agrees : {A : Type 0} → pair_in (after w.deeds a (state_of w bs i b k)) ≡ pair_in (state_of w bs i b k)
      → (pairs : List (K × V)) (replies : List (Reply K V T A)) → Agrees w bs pairs replies
      → Agrees w (slice_set bs i c) pairs replies × IsToldBy {A = A} w (slice_set bs i c) b.thread b.call b.done.value
      (told w.deeds a (state_of w bs i b k))
  quiet-call_agrees same pairs replies h = (
    quiet-agrees w laws bs i b c s.listed s.same pairs replies (call-quiet same) (call-unfinished replies) h,
    call-told,
  )

  pub last-call_agrees : {A : Type 0} → IsLastOnShard (frame_of w) bs i b
      → (pairs pairs' : List (K × V)) (replies : List (Reply K V T A)) → Agrees w bs pairs replies
      → IsPut w pairs pairs' k (pair_in (after w.deeds a (state_of w bs i b k)))
      → Agrees w (slice_set bs i c) pairs' replies × IsToldBy {A = A} w (slice_set bs i c) b.thread b.call b.done.value
      (told w.deeds a (state_of w bs i b k))
  last-call_agrees last pairs pairs' replies h put = (
    last-agrees w laws bs i b c s.listed s.same pairs pairs' replies k
        (pair_in (after w.deeds a (state_of w bs i b k))) last (call-unfinished replies)
        (ap (λ x. shard_by w x b) s.key) left-next left-elsewhere h put,
    call-told,
  )

module _ {K V D T : Type 0} (w : Setup K V D T) (laws : Laws w) (bs : List (Block K)) (i : ℕ) (b c : Block K)
    (f : Walk D) (k : K) (s : Visits w bs i b c f k) where
  pub quiet-visit_agrees : {A : Type 0} → visit_leaves w.deeds f (before w bs i k) ≡ before w bs i k
      → (pairs : List (K × V)) (replies : List (Reply K V T A)) → IsUnfinished w replies b → Agrees w bs pairs replies
      → Agrees w (slice_set bs i c) pairs replies
      × (told_by w {A = A} (length (done_keys w b)) c (before w (slice_set bs i c) i) ≡ Some
      (visit_answer w.deeds f (before w bs i k)))
  quiet-visit_agrees same pairs replies unfinished h = (
    quiet-agrees w laws bs i b c s.listed s.same pairs replies (visit-quiet w laws bs i b c f k s same) unfinished h,
    visit-told w laws bs i b c f k s,
  )

  pub last-visit_agrees : {A : Type 0} → IsLastOnShard (frame_of w) bs i b
      → (pairs pairs' : List (K × V)) (replies : List (Reply K V T A)) → IsUnfinished w replies b
      → Agrees w bs pairs replies
      → IsPut w pairs pairs' k (visit_leaves w.deeds f (before w bs i k))
      → Agrees w (slice_set bs i c) pairs' replies
      × (told_by w {A = A} (length (done_keys w b)) c (before w (slice_set bs i c) i) ≡ Some
      (visit_answer w.deeds f (before w bs i k)))
  last-visit_agrees last pairs pairs' replies unfinished h put = (
    last-agrees w laws bs i b c s.listed s.same pairs pairs' replies k (visit_leaves w.deeds f (before w bs i k))
        last unfinished (ap (λ x. shard_by w x b) s.walk ∙ ap Some (sym s.on)) (left-added w laws bs i b c f k s)
        (left-kept w laws bs i b c f k s) h put,
    visit-told w laws bs i b c f k s,
  )

module _ {K V D T : Type 0} (w : Setup K V D T) (laws : Laws w) (bs : List (Block K)) (i : ℕ) (b c : Block K)
    (s : Ends bs i b c) where
  works-ended : (x : Work K D) (q : K) → works_on w x c q ≡ works_on w x b q
  works-ended (one k) q = refl
  works-ended (visit f) q =
      ap (λ v. list_any (λ k. w.eq k q) (filter (λ k. w.route k == v) c.visited.items)) s.same.visit
      ∙ ap (λ ks. list_any (λ k. w.eq k q) (filter (λ k. w.route k == b.visit) ks)) s.visited
  works-ended nothing q = refl

  left-by_ended : (x : Work K D) (o : Option (K × V)) → left_by w x c o ≡ left_by w x b o
  left-by_ended (one k) o = rw (s.same.thread, s.same.call, s.counted) refl
  left-by_ended (visit f) o = refl
  left-by_ended nothing o = refl

  pub end-quiet : IsQuiet (frame_of w) bs i b c
  end-quiet q =
      let o = before w bs i q in
      ap (λ x. if works_on w x c q then left_by w x c o else o) (work-grown w b c s.same)
      ∙ ap (λ z. if z then left_by w (block_work w b) c o else o) (works-ended (block_work w b) q)
      ∙ ap (λ p. if works_on w (block_work w b) b q then p else o) (left-by_ended (block_work w b) o)

  -- an end is a growth that changes nothing
  pub end-grows : Grows (frame_of w) bs i b c
  end-grows = record { listed = s.listed; shard = shard-grown w b c s.same; way = inl end-quiet }

  pub end-agrees : {A : Type 0} (pairs : List (K × V)) (replies : List (Reply K V T A)) → IsUnfinished w replies b
      → Agrees w bs pairs replies → Agrees w (slice_set bs i c) pairs replies
  end-agrees pairs replies unfinished h = quiet-agrees w laws bs i b c s.listed s.same pairs replies end-quiet
      unfinished h

-- A visit does one more key, and what it has done stays within its walk.
use Rattle.std.proofs.Common.{◌≡◌, ℕ, suc, ◌+◌, ◌<◌, ◌≤◌, ◌==◌, ◌&&◌, ◌⊎◌, inl, inr, ⊎_elim, Bool, true, false}
use Rattle.std.proofs.Common.{if◌then◌else◌, IsSome, IsTrue, filter, option_map, List, [], ◌∷◌, ◌++◌, length}
use Rattle.std.proofs.Common.{length-append, Option, Some, None, slice_get, slice_set, take, refl, ap, sym, ◌∙◌, subst}
use Rattle.std.proofs.Common.{arith, eq-eqb}
use Rattle.std.specs.List.{list_any}
use Rattle.std.proofs.lemmas.Bool.{false≢true, cases_Bool}
use Rattle.mapworld_calls.specs.declared.block.Block.{Block}
use Rattle.mapworld_calls.specs.declared.ask.Walk.{Walk}
use Rattle.mapworld_calls.specs.Programs.{stop_of}
use Rattle.mapworld_calls.specs.Calls.{visit_answer, visit_leaves}
use Rattle.mapworld_calls.specs.Setup.{Setup, Laws}
use Rattle.mapworld_calls.specs.Frame.{IsOn, IsQuiet, IsLastOnShard, Grows}
use Rattle.mapworld_calls.specs.Growth.{Visits}
use Rattle.mapworld_calls.specs.Replay.{visit, block_work, done_keys, shard_by, works_on, left_by, left, told_as}
use Rattle.mapworld_calls.specs.Replay.{told_by, frame_of, contents, before, found}
use Rattle.mapworld_calls.specs.Agrees.{IsBelow, IsAtMost}
use Rattle.mapworld_calls.specs.Placed.{done_by_walk, IsVisitDone, IsVisitedBefore}
use Rattle.mapworld_calls.proofs.Lists.{slice_get-set_other, slice_get-push_at, slice_get-push_cases, sum_by-set}
use Rattle.mapworld_calls.proofs.Folds.{slice_set-itself, take-set_above, take-set_below, slice_get-take}
use Rattle.mapworld_calls.proofs.Frames.{contents-alike, contents-last}
use Rattle.mapworld_calls.proofs.Works.{keeps-to_shard, left-worked, left-idle}
use Rattle.mapworld_calls.proofs.Replays.{contents-same, before-same}
use Rattle.mapworld_calls.proofs.Kept.{work-grown, shard-grown, filter-append}
use Rattle.mapworld_calls.proofs.Grown.{found-same}

any-added : {X : Type 0} (t : X → Bool) (k : X) (xs : List X) → t k ≡ true → list_any t (xs ++ k ∷ []) ≡ true
any-added t k [] e = rw e refl
any-added t k (x ∷ xs) e = ⊎_elim (λ h. rw h refl) (λ h. rw h (any-added t k xs e)) (cases_Bool (t x))

any-same : {X : Type 0} (t : X → Bool) (k : X) (xs : List X) → t k ≡ false → list_any t (xs ++ k ∷ []) ≡ list_any t xs
any-same t k [] e = rw e refl
any-same t k (x ∷ xs) e = ⊎_elim (λ h. rw h refl) (λ h. rw h (any-same t k xs e)) (cases_Bool (t x))

filter-one : {X : Type 0} (p : X → Bool) (k : X) → p k ≡ true → filter p (k ∷ []) ≡ k ∷ []
filter-one p k e = rw e refl

module _ {K V D T : Type 0} (w : Setup K V D T) (laws : Laws w) (bs : List (Block K)) (i : ℕ) (b c : Block K)
    (f : Walk D) (k : K) (s : Visits w bs i b c f k) where
  pub keys-added : done_keys w c ≡ done_keys w b ++ k ∷ []
  keys-added =
      let at = s.on in
      ap (λ v. filter (λ q. w.route q == v) c.visited.items) s.same.visit
      ∙ ap (λ ks. filter (λ q. w.route q == b.visit) ks) s.added
      ∙ filter-append (λ q. w.route q == b.visit) b.visited.items (k ∷ [])
      ∙ ap (λ ks. done_keys w b ++ ks) (filter-one (λ q. w.route q == b.visit) k (grind (arith, at)))

  pub walk-grown : block_work w c ≡ visit f
  walk-grown = work-grown w b c s.same ∙ s.walk

  works-added : (q : K) → w.eq k q ≡ true → works_on w (block_work w c) c q ≡ true
  works-added q e =
      ap (λ x. works_on w x c q) walk-grown ∙ ap (λ ks. list_any (λ a. w.eq a q) ks) keys-added
      ∙ any-added (λ a. w.eq a q) k (done_keys w b) e

  works-kept : (q : K) → w.eq k q ≡ false → works_on w (block_work w c) c q ≡ works_on w (block_work w b) b q
  works-kept q e =
      ap (λ x. works_on w x c q) walk-grown
      ∙ ap (λ ks. list_any (λ a. w.eq a q) ks) keys-added
      ∙ any-same (λ a. w.eq a q) k (done_keys w b) e
      ∙ sym (ap (λ x. works_on w x b q) s.walk)

  pub left-added : (q : K) → w.eq k q ≡ true → left w c q (before w bs i q) ≡ visit_leaves w.deeds f (before w bs i k)
  left-added q e =
      left-worked w laws c q (before w bs i q) (works-added q e)
      ∙ ap (λ x. left_by w x c (before w bs i q)) walk-grown
      ∙ ap (λ o. visit_leaves w.deeds f o) (sym (before-same w laws bs i k q e))

  left-by_kept : (q : K) (o : Option (K × V)) → left_by w (block_work w c) c o ≡ left_by w (block_work w b) b o
  left-by_kept q o = ap (λ x. left_by w x c o) walk-grown ∙ sym (ap (λ x. left_by w x b o) s.walk)

  pub left-kept : (q : K) → w.eq k q ≡ false → left w c q (before w bs i q) ≡ left w b q (before w bs i q)
  left-kept q e = ⊎_elim yes no (cases_Bool (works_on w (block_work w b) b q))
    where
      yes : works_on w (block_work w b) b q ≡ true → left w c q (before w bs i q) ≡ left w b q (before w bs i q)
      yes h =
          left-worked w laws c q (before w bs i q) (works-kept q e ∙ h) ∙ left-by_kept q (before w bs i q)
          ∙ sym (left-worked w laws b q (before w bs i q) h)

      no : works_on w (block_work w b) b q ≡ false → left w c q (before w bs i q) ≡ left w b q (before w bs i q)
      no h = left-idle w laws c q (before w bs i q) (works-kept q e ∙ h)
          ∙ sym (left-idle w laws b q (before w bs i q) h)

  -- a block of a visit that leaves the pair as it is, where it had done the key and where it hadn't
  left-was : visit_leaves w.deeds f (before w bs i k) ≡ before w bs i k → (q : K) → w.eq k q ≡ true
      → left w b q (before w bs i q) ≡ before w bs i k
  left-was same q e = ⊎_elim yes no (cases_Bool (works_on w (block_work w b) b q))
    where
      at : before w bs i q ≡ before w bs i k
      at = sym (before-same w laws bs i k q e)

      yes : works_on w (block_work w b) b q ≡ true → left w b q (before w bs i q) ≡ before w bs i k
      yes h =
          left-worked w laws b q (before w bs i q) h
          ∙ ap (λ x. left_by w x b (before w bs i q)) s.walk
          ∙ ap (λ o. visit_leaves w.deeds f o) at
          ∙ same

      no : works_on w (block_work w b) b q ≡ false → left w b q (before w bs i q) ≡ before w bs i k
      no h = left-idle w laws b q (before w bs i q) h ∙ at

  pub visit-quiet : visit_leaves w.deeds f (before w bs i k) ≡ before w bs i k → IsQuiet (frame_of w) bs i b c
  visit-quiet same q = ⊎_elim (λ e. left-added q e ∙ same ∙ sym (left-was same q e)) (λ e. left-kept q e)
      (cases_Bool (w.eq k q))

  pub visit-told : {A : Type 0} → told_by w {A = A} (length (done_keys w b)) c (before w (slice_set bs i c) i) ≡ Some
      (visit_answer w.deeds f (before w bs i k))
  visit-told =
      ap (λ xs. told_by w (length (done_keys w b)) c (contents w xs)) (take-set_above bs i i c (omega arith))
      ∙ ap (λ x. told_as w x c (length (done_keys w b)) (before w bs i)) walk-grown
      ∙ ap (λ ks. option_map (λ q. visit_answer w.deeds f (before w bs i q)) (slice_get ks (length (done_keys w b))))
      keys-added
      ∙ ap (λ o. option_map (λ q. visit_answer w.deeds f (before w bs i q)) o) (slice_get-push_at (done_keys w b) k)

  -- the key is on the visit's shard
  pub key-on : (q : K) → w.eq k q ≡ true → IsOn (frame_of w) b q
  key-on q e = ap (λ x. shard_by w x b) s.walk ∙ ap Some (sym s.on ∙ laws.routes k q e)

  -- the growth of a block of a plain map
  pub visit-grows : (visit_leaves w.deeds f (before w bs i k) ≡ before w bs i k) ⊎ IsLastOnShard (frame_of w) bs i b
      → Grows (frame_of w) bs i b c
  visit-grows way =
      record {
        listed = s.listed;
        shard = shard-grown w b c s.same;
        way = ⊎_elim (λ same. inl (visit-quiet same))
            (λ last. inr last) way;
      }

  -- what the visit leaves at the key, where it is the last on its shard
  pub visited-own : IsLastOnShard (frame_of w) bs i b → (q : K) → w.eq k q ≡ true
      → contents w (slice_set bs i c) q ≡ visit_leaves w.deeds f (before w bs i k)
  visited-own last q e =
      contents-last (frame_of w) (keeps-to_shard w laws) bs i b c (visit-grows (inr last)) last q (key-on q e)
      ∙ left-added q e

  -- a key that it hadn't done had what the visit found
  pub visited-were : IsLastOnShard (frame_of w) bs i b → list_any (λ j. w.eq j k) (done_keys w b) ≡ false → (q : K)
      → w.eq k q ≡ true → contents w bs q ≡ before w bs i k
  visited-were last fresh q e =
      contents-same w laws bs q k (laws.equivalence.symm q k ∙ e)
      ∙ ap (λ xs. contents w xs k) (sym (slice_set-itself bs i b s.listed))
      ∙ contents-last (frame_of w) (keeps-to_shard w laws) bs i b b
      (record { listed = s.listed; shard = refl; way = inr last }) last k (key-on k (laws.equivalence.refl k))
      ∙ left-idle w laws b k (before w bs i k) (ap (λ x. works_on w x b k) s.walk ∙ fresh)

  -- all other keys have what they had
  pub visited-other : (visit_leaves w.deeds f (before w bs i k) ≡ before w bs i k) ⊎ IsLastOnShard (frame_of w) bs i b
      → (q : K) → w.eq k q ≡ false → contents w (slice_set bs i c) q ≡ contents w bs q
  visited-other way q e = contents-alike (frame_of w) (keeps-to_shard w laws) bs i b c (visit-grows way) q
      (left-kept q e)

  -- where the visit leaves the pair as it is, all keys have what they had
  pub visited-quiet : visit_leaves w.deeds f (before w bs i k) ≡ before w bs i k → (q : K)
      → contents w (slice_set bs i c) q ≡ contents w bs q
  visited-quiet same q = contents-alike (frame_of w) (keeps-to_shard w laws) bs i b c (visit-grows (inl same)) q
      (visit-quiet same q)

  -- what any block with a key found stays
  pub visited-found : (visit_leaves w.deeds f (before w bs i k) ≡ before w bs i k) ⊎ IsLastOnShard (frame_of w) bs i b
      → (j : ℕ) (d : Block K) → (j ≤ i) ⊎ (slice_get bs j ≡ Some d)
      → found w (slice_set bs i c) j d ≡ found w bs j d
  visited-found way j d listed = found-same w laws bs i b c (visit-grows way) j d listed

-- below a number of items, one more is at most that number
pub one-more : (stop : Option ℕ) (n : ℕ) → IsBelow stop n → IsAtMost stop (n + 1)
one-more None n below = tt
one-more (Some stop) n below = omega (arith, below)

-- a block of the call counts all the keys that it has done
counts-all : {K V D T : Type 0} (w : Setup K V D T) (d : Block K) (t x : ℕ) → d.thread ≡ t → d.call ≡ x
    → (if (d.thread == t) && (d.call == x) then length (done_keys w d) else 0) ≡ length (done_keys w d)
counts-all w d t x own call = rw (eq-eqb d.thread t own, eq-eqb d.call x call) refl

module _ {K V D T : Type 0} (w : Setup K V D T) (laws : Laws w) (bs : List (Block K)) (i : ℕ) (b c : Block K)
    (f : Walk D) (k : K) (s : Visits w bs i b c f k)
    (fresh : (n : ℕ) (j : K) → slice_get b.visited.items n ≡ Some j → w.eq j k ≡ false) where
  -- a key that the visit has done now it had done before, or it is the new one
  done-cases : (n : ℕ) (q : K) → slice_get c.visited.items n ≡ Some q → (slice_get b.visited.items n ≡ Some q)
      ⊎ ((n ≡ length b.visited.items) × (q ≡ k))
  done-cases n q at = slice_get-push_cases b.visited.items n q k (ap (λ ks. slice_get ks n) (sym s.added) ∙ at)

  done-once : ((m n : ℕ) (j l : K) → slice_get b.visited.items m ≡ Some j → slice_get b.visited.items n ≡ Some l
      → IsTrue (w.eq j l) → m ≡ n)
      → (m n : ℕ) (j l : K) → slice_get c.visited.items m ≡ Some j → slice_get c.visited.items n ≡ Some l
      → IsTrue (w.eq j l) → m ≡ n
  done-once once m n j l hm hn e =
      ⊎_elim
      (λ first. ⊎_elim
      (λ second. once m n j l first second e)
      (λ new. absurd (false≢true (sym (fresh m j first) ∙ (ap (λ q. w.eq j q) (sym new.1) ∙ e))))
      (done-cases n l hn))
      (λ new. ⊎_elim
      (λ second. absurd (false≢true
      (sym (fresh n l second) ∙ (laws.equivalence.symm l k ∙ (ap (λ q. w.eq q l) (sym new.1) ∙ e)))))
      (λ both. new.0 ∙ sym both.0)
      (done-cases n l hn))
      (done-cases m j hm)

  -- earlier blocks found what they found
  same-before : (j : ℕ) → j ≤ i → (q : K) → before w (slice_set bs i c) j q ≡ before w bs j q
  same-before j le q = ap (λ ds. contents w ds q) (take-set_above bs i j c le)

  -- the walk has done one pair more
  counts-more : done_by_walk w (take (suc i) (slice_set bs i c)) c.thread c.call ≡ done_by_walk w (take (suc i) bs)
      b.thread b.call + 1
  counts-more =
      let lt : i < suc i = omega arith in
      let sums = sum_by-set (λ d. if (d.thread == c.thread) && (d.call == c.call) then length (done_keys w d) else 0)
      (take (suc i) bs) i b c (slice_get-take bs i (suc i) b lt s.listed) in
      let was = counts-all w b c.thread c.call (sym s.same.thread) (sym s.same.call) in
      let is = counts-all w c c.thread c.call refl refl in
      let longer : length (done_keys w c) ≡ length (done_keys w b) + 1 = ap length (keys-added w laws bs i b c f k s)
      ∙ simp length-append refl in
      let own : done_by_walk w (take (suc i) bs) c.thread c.call ≡ done_by_walk w (take (suc i) bs) b.thread b.call =
      rw (s.same.thread, s.same.call) refl in
      ap (λ ds. done_by_walk w ds c.thread c.call) (take-set_below bs i (suc i) c lt)
      ∙ omega (arith, sums, was, is, longer, own)

  turn-kept : (n : ℕ) → IsVisitedBefore w bs i b n → IsVisitedBefore w (slice_set bs i c) i c n
  turn-kept n v =
      let earlier = v.earlier in
      record {
        place = v.place;
        block = v.block;
        listed = slice_get-set_other bs i v.place c (λ e. absurd (omega (arith, e, earlier))) ∙ v.listed;
        earlier = v.earlier;
        thread = v.thread ∙ sym s.same.thread;
        call = v.call ∙ sym s.same.call;
        visit = v.visit;
        whole = λ q route there. v.whole q route
            (subst (λ (o : Option (K × V)). IsSome o) (same-before v.place (omega (arith, earlier)) q) there);
      }

  pub visit-stays_done : IsSome (before w bs i k)
      → IsBelow (stop_of f) (done_by_walk w (take (suc i) bs) b.thread b.call) → IsVisitDone w bs i b f
      → IsVisitDone w (slice_set bs i c) i c f
  visit-stays_done there goes_on h =
      let visit = s.same.visit in
      record {
        within = rw visit h.within;
        routed = λ n q at. ⊎_elim (λ old. h.routed n q old ∙ sym visit) (λ new. ap w.route new.1 ∙ s.on ∙ sym visit)
            (done-cases n q at);
        once = done-once h.once;
        there = λ n q at. subst (λ (o : Option (K × V)). IsSome o) (sym (same-before i (omega arith) q))
            (⊎_elim (λ old. h.there n q old) (λ new. subst (λ (j : K). IsSome (before w bs i j)) (sym new.1) there)
            (done-cases n q at));
        in_turn = λ n same. turn-kept n (h.in_turn n (sym visit ∙ same));
        begins =
            subst (λ (n : ℕ). IsBelow (stop_of f) n)
            (sym (ap (λ ds. done_by_walk w ds c.thread c.call) (take-set_above bs i i c (omega arith))
            ∙ rw (s.same.thread, s.same.call) refl)) h.begins;
        stops = subst (λ (n : ℕ). IsAtMost (stop_of f) n) (sym counts-more)
            (one-more (stop_of f) (done_by_walk w (take (suc i) bs) b.thread b.call) goes_on);
      }

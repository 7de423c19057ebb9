-- A block that has done more while later blocks stand behind it, and a block that is added.
use Rattle.std.proofs.Common.{◌≡◌, ℕ, ◌≤◌, ◌⊎◌, inl, inr, ⊎_elim, ◌==◌, true, false, if◌then◌else◌, List, [], ◌∷◌, ◌++◌}
use Rattle.std.proofs.Common.{append-nil, length, filter, Option, Some, None, slice_get, slice_set, refl, ap, sym, ◌∙◌}
use Rattle.std.specs.List.{list_any}
use Rattle.std.proofs.lemmas.Bool.{cases_Bool}
use Rattle.std.proofs.lemmas.List.{take-append-le}
use Rattle.std.proofs.lemmas.Option.{none-some}
use Rattle.std.proofs.Math.Seq.{take-append_seam}
use Rattle.mapworld_calls.specs.declared.block.Block.{Block}
use Rattle.mapworld_calls.specs.Calls.{pair_in, visit_leaves}
use Rattle.mapworld_calls.specs.Setup.{Setup, Laws, ask_at}
use Rattle.mapworld_calls.specs.Frame as frame
use Rattle.mapworld_calls.specs.Replay.{Work, one, visit, nothing, reached, block_work, block_key, done_keys, works_on}
use Rattle.mapworld_calls.specs.Replay.{left_by, left, frame_of, contents, before, at_key, found, IsLastOnShard}
use Rattle.mapworld_calls.specs.Growth.{GoesOn}
use Rattle.mapworld_calls.proofs.Folds.{slice_set-itself}
use Rattle.mapworld_calls.proofs.Frames.{turn-same, contents-alike, contents-last}
use Rattle.mapworld_calls.proofs.Works.{keeps-to_shard}
use Rattle.mapworld_calls.proofs.Kept.{work-grown, shard-grown}
use Rattle.mapworld_calls.proofs.Replays.{work-key, on-shard, found-is, left-touched, left-untouched, before-same}

-- what c has done leaves the key's pair as what b has done
abbrev pub IsQuiet : {K V D T : Type 0} → Setup K V D T → Block K → ℕ → Option (K × V) → Type 0
IsQuiet w b n o = pair_in (reached w b.thread b.call n o) ≡ pair_in (reached w b.thread b.call b.done.value o)

-- the block at a place gives way to one of the same call that has done more calls: nothing changes by it, or it is the
-- last on its shard
pub record Grows {K V D T : Type 0} (w : Setup K V D T) (bs : List (Block K)) (i : ℕ) (b c : Block K) : Type 0 where
  pub listed : slice_get bs i ≡ Some b
  pub thread : c.thread ≡ b.thread
  pub call : c.call ≡ b.call
  pub visit : c.visit ≡ b.visit
  pub visited : c.visited.items ≡ b.visited.items
  pub done : b.done.value ≤ c.done.value
  pub settled : IsQuiet w b c.done.value (found w bs i b) ⊎ IsLastOnShard w bs i b

module _ {K V D T : Type 0} (w : Setup K V D T) (laws : Laws w) (bs : List (Block K)) (i : ℕ) (b c : Block K)
    (g : frame.Grows (frame_of w) bs i b c) where
  found-at : (j : ℕ) (d : Block K) → (j ≤ i) ⊎ (slice_get bs j ≡ Some d) → (o : Option K) → block_key w d ≡ o
      → at_key (before w (slice_set bs i c) j) o ≡ at_key (before w bs j) o
  found-at j d listed None is = refl
  found-at j d listed (Some key) is = turn-same (frame_of w) (keeps-to_shard w laws) bs i b c g j d listed key
      (on-shard w d key is)

  -- what any block of the list found stays, whatever kind the other block is of
  pub found-same : (j : ℕ) (d : Block K) → (j ≤ i) ⊎ (slice_get bs j ≡ Some d) → found w (slice_set bs i c) j d ≡ found
      w bs j d
  found-same j d listed = found-at j d listed (block_key w d) refl

module _ {K V D T : Type 0} (w : Setup K V D T) (laws : Laws w) (bs : List (Block K)) (i : ℕ) (b c : Block K)
    (g : Grows w bs i b c) where
  pub goes-on : GoesOn b c
  goes-on =
      record {
        thread = g.thread;
        call = g.call;
        visit = g.visit;
        done = g.done;
        more = [];
        visited = g.visited ∙ sym (append-nil b.visited.items);
      }

  pub block_key-grown : block_key w c ≡ block_key w b
  block_key-grown = rw (g.thread, g.call)

  pub reached-grown : (n : ℕ) (o : Option (K × V)) → reached w c.thread c.call n o ≡ reached w b.thread b.call n o
  reached-grown n o = rw (g.thread, g.call)

  keys-same : done_keys w c ≡ done_keys w b
  keys-same =
      ap (λ v. filter (λ k. w.route k == v) c.visited.items) g.visit ∙ ap (λ ks. filter (λ k. w.route k == b.visit) ks)
      g.visited

  left-quiet : (key : K) → block_key w b ≡ Some key → IsQuiet w b c.done.value (found w bs i b)
      → frame.IsQuiet (frame_of w) bs i b c
  left-quiet key is quiet q = ⊎_elim yes no (cases_Bool (w.eq key q))
    where
      yes : w.eq key q ≡ true → left w c q (before w bs i q) ≡ left w b q (before w bs i q)
      yes e =
          let at : before w bs i q ≡ found w bs i b = sym (before-same w laws bs i key q e)
          ∙ sym (found-is w b key is bs i) in
          left-touched w c key (block_key-grown ∙ is) q (before w bs i q) e
          ∙ ap pair_in (reached-grown c.done.value (before w bs i q))
          ∙ ap (λ o. pair_in (reached w b.thread b.call c.done.value o)) at
          ∙ quiet
          ∙ sym (ap (λ o. pair_in (reached w b.thread b.call b.done.value o)) at)
          ∙ sym (left-touched w b key is q (before w bs i q) e)

      no : w.eq key q ≡ false → left w c q (before w bs i q) ≡ left w b q (before w bs i q)
      no e = left-untouched w c key (block_key-grown ∙ is) q (before w bs i q) e
          ∙ sym (left-untouched w b key is q (before w bs i q) e)

  -- a block of no key has done nothing more
  left-keyless : (x : Work K D) → block_work w b ≡ x → ((key : K) → x ≡ one key → ⊥)
      → frame.IsQuiet (frame_of w) bs i b c
  left-keyless (one key) is none q = absurd (none key refl)
  left-keyless (visit f) is none q =
      let o = before w bs i q in
      ap (λ x. if works_on w x c q then left_by w x c o else o) (work-grown w b c goes-on ∙ is)
      ∙ ap (λ ks. if list_any (λ k. w.eq k q) ks then visit_leaves w.deeds f o else o) keys-same
      ∙ sym (ap (λ x. if works_on w x b q then left_by w x b o else o) is)
  left-keyless nothing is none q =
      let o = before w bs i q in
      ap (λ x. if works_on w x c q then left_by w x c o else o) (work-grown w b c goes-on ∙ is)
      ∙ sym (ap (λ x. if works_on w x b q then left_by w x b o else o) is)

  quiet-way : (o : Option K) → block_key w b ≡ o → IsQuiet w b c.done.value (found w bs i b)
      → frame.IsQuiet (frame_of w) bs i b c
  quiet-way None is quiet = left-keyless (block_work w b) refl
      (λ key e. none-some key (sym is ∙ work-key (ask_at w b.thread b.call) key e))
  quiet-way (Some key) is quiet = left-quiet key is quiet

  -- the growth of a block of a plain map
  pub frame-grows : frame.Grows (frame_of w) bs i b c
  frame-grows =
      record {
        listed = g.listed;
        shard = shard-grown w b c goes-on;
        way = ⊎_elim (λ quiet. inl (quiet-way (block_key w b) refl quiet)) (λ last. inr last) g.settled;
      }

  -- what any block of the list found stays
  pub found-grown : (j : ℕ) (d : Block K) → (j ≤ i) ⊎ (slice_get bs j ≡ Some d) → found w (slice_set bs i c) j d ≡ found
      w bs j d
  found-grown j d listed = found-same w laws bs i b c frame-grows j d listed

  pub contents-quiet : IsQuiet w b c.done.value (found w bs i b) → (q : K) → contents w (slice_set bs i c) q ≡ contents
      w bs q
  contents-quiet quiet q =
      contents-alike (frame_of w) (keeps-to_shard w laws) bs i b c frame-grows q
      (quiet-way (block_key w b) refl quiet q)

  pub contents-other : (key : K) → block_key w b ≡ Some key → (q : K) → w.eq key q ≡ false
      → contents w (slice_set bs i c) q ≡ contents w bs q
  contents-other key is q e =
      contents-alike (frame_of w) (keeps-to_shard w laws) bs i b c frame-grows q
      (left-untouched w c key (block_key-grown ∙ is) q (before w bs i q) e
      ∙ sym (left-untouched w b key is q (before w bs i q) e))

  -- the last block on a shard decides what its key has
  last-left : (d : Block K) → frame.Grows (frame_of w) bs i b d → block_key w d ≡ block_key w b → IsLastOnShard w bs i b
      → (key : K) → block_key w b ≡ Some key → (q : K) → w.eq key q ≡ true
      → contents w (slice_set bs i d) q ≡ pair_in (reached w d.thread d.call d.done.value (found w bs i b))
  last-left d grows same last key is q e =
      contents-last (frame_of w) (keeps-to_shard w laws) bs i b d grows last q
      (on-shard w b key is ∙ ap Some (laws.routes key q e))
      ∙ left-touched w d key (same ∙ is) q (before w bs i q) e
      ∙ ap (λ o. pair_in (reached w d.thread d.call d.done.value o))
      (sym (before-same w laws bs i key q e) ∙ sym (found-is w b key is bs i))

  pub contents-own : IsLastOnShard w bs i b → (key : K) → block_key w b ≡ Some key → (q : K) → w.eq key q ≡ true
      → contents w (slice_set bs i c) q ≡ pair_in (reached w b.thread b.call c.done.value (found w bs i b))
  contents-own last key is q e =
      last-left c frame-grows block_key-grown last key is q e ∙ ap pair_in (reached-grown c.done.value (found w bs i b))

  pub contents-were : IsLastOnShard w bs i b → (key : K) → block_key w b ≡ Some key → (q : K) → w.eq key q ≡ true
      → contents w bs q ≡ pair_in (reached w b.thread b.call b.done.value (found w bs i b))
  contents-were last key is q e =
      ap (λ xs. contents w xs q) (sym (slice_set-itself bs i b g.listed))
      ∙ last-left b (record { listed = g.listed; shard = refl; way = inr last }) refl last key is q e

module _ {K V D T : Type 0} (w : Setup K V D T) where
  -- a new block changes nothing of what stands before it
  pub found-push : (bs : List (Block K)) (b : Block K) (j : ℕ) (d : Block K) → j ≤ length bs
      → found w (bs ++ b ∷ []) j d ≡ found w bs j d
  found-push bs b j d le = rw (take-append-le j bs (b ∷ []) le)

  pub found-new : (bs : List (Block K)) (b d : Block K) → found w (bs ++ b ∷ []) (length bs) d ≡ at_key (contents w bs)
      (block_key w d)
  found-new bs b d = rw (take-append_seam bs (b ∷ []))

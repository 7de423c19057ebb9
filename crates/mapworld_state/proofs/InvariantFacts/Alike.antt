-- Blocks that show the ends of one call: nothing else of them is another.
use Rattle.std.proofs.Common.{◌≡◌, ℕ, zero, suc, ◌+◌, ◌⊎◌, inl, inr, ◌==◌, ◌&&◌, if◌then◌else◌, List, [], ◌∷◌, length}
use Rattle.std.proofs.Common.{take, fold, filter, Option, Some, slice_get, slice_set, refl, ap, sym, ◌∙◌, subst}
use Rattle.std.specs.List.{list_any}
use Rattle.std.proofs.lemmas.Option.{none-some, same_Some}
use Rattle.mapworld_calls.specs.declared.block.Block.{Block}
use Rattle.mapworld_calls.specs.Setup.{Setup}
use Rattle.mapworld_calls.specs.Replay.{Work, one, visit, nothing, block_work, block_key, done_keys, shard_by, frame_of}
use Rattle.mapworld_calls.specs.Replay.{works_on, left_by, left, told_as, told_by, contents, before}
use Rattle.mapworld_calls.specs.Placed.{done_by_walk}

-- the block c is b, or shows the end of the call n of the thread t
pub record Shows {K : Type 0} (t n end : ℕ) (b c : Block K) : Type 0 where
  pub thread : c.thread ≡ b.thread
  pub call : c.call ≡ b.call
  pub visit : c.visit ≡ b.visit
  pub start : c.start ≡ b.start
  pub position : c.position ≡ b.position
  pub done : c.done.value ≡ b.done.value
  pub visited : c.visited.items ≡ b.visited.items
  pub ended : ((b.thread ≡ t) × (b.call ≡ n) × (c.end ≡ Some end)) ⊎ (c ≡ b)

-- and so at each place
abbrev pub AreAlike : {K : Type 0} → ℕ → ℕ → ℕ → List (Block K) → List (Block K) → Type 0
AreAlike t n end [] [] = Unit {0}
AreAlike t n end (b ∷ bs) (c ∷ cs) = Shows t n end b c × AreAlike t n end bs cs
AreAlike t n end bs cs = ⊥

module _ {K : Type 0} (t n end : ℕ) where
  pub shows-same : (b : Block K) → Shows t n end b b
  shows-same b = record {
    thread = refl;
    call = refl;
    visit = refl;
    start = refl;
    position = refl;
    done = refl;
    visited = refl;
    ended = inr refl;
  }

  shows-then : (b c d : Block K) → Shows t n end b c → Shows t n end c d → Shows t n end b d
  shows-then b c d f g = record {
    thread = g.thread ∙ f.thread;
    call = g.call ∙ f.call;
    visit = g.visit ∙ f.visit;
    start = g.start ∙ f.start;
    position = g.position ∙ f.position;
    done = g.done ∙ f.done;
    visited = g.visited ∙ f.visited;
    ended = elim g.ended [
      | inl last ↦ inl (sym f.thread ∙ last.0, sym f.call ∙ last.1, last.2)
      | inr same ↦ elim f.ended [
        | inl first ↦ inl (first.0, first.1, ap (λ z. z.end) same ∙ first.2)
        | inr too ↦ inr (same ∙ too)
      ]
    ];
  }

  pub alike-same : (bs : List (Block K)) → AreAlike t n end bs bs
  alike-same [] = tt
  alike-same (b ∷ bs) = (shows-same b, alike-same bs)

  pub alike-then : (bs cs ds : List (Block K)) → AreAlike t n end bs cs → AreAlike t n end cs ds
      → AreAlike t n end bs ds
  alike-then [] [] [] f g = tt
  alike-then (b ∷ bs) (c ∷ cs) (d ∷ ds) f g = (shows-then b c d f.0 g.0, alike-then bs cs ds f.1 g.1)
  alike-then [] [] (d ∷ ds) f g = absurd g
  alike-then [] (c ∷ cs) ds f g = absurd f
  alike-then (b ∷ bs) [] ds f g = absurd f
  alike-then (b ∷ bs) (c ∷ cs) [] f g = absurd g

  pub alike-set : (bs : List (Block K)) (i : ℕ) (b c : Block K) → slice_get bs i ≡ Some b → Shows t n end b c
      → AreAlike t n end bs (slice_set bs i c)
  alike-set [] i b c at h = absurd (none-some b at)
  alike-set (d ∷ bs) zero b c at h =
      (subst (λ (z : Block K). Shows t n end z c) (sym (same_Some d b at)) h, alike-same bs)
  alike-set (d ∷ bs) (suc i) b c at h = (shows-same d, alike-set bs i b c at h)

  alike-take : (m : ℕ) (bs cs : List (Block K)) → AreAlike t n end bs cs → AreAlike t n end (take m bs) (take m cs)
  alike-take zero bs cs h = tt
  alike-take (suc m) [] [] h = tt
  alike-take (suc m) (b ∷ bs) (c ∷ cs) h = (h.0, alike-take m bs cs h.1)
  alike-take (suc m) [] (c ∷ cs) h = absurd h
  alike-take (suc m) (b ∷ bs) [] h = absurd h

  -- what a block was, and what it is
  pub alike-was : (bs cs : List (Block K)) → AreAlike t n end bs cs → (i : ℕ) (c : Block K) → slice_get cs i ≡ Some c
      → (b : Block K) × (slice_get bs i ≡ Some b) × Shows t n end b c
  alike-was [] [] h i c at = absurd (none-some c at)
  alike-was (b ∷ bs) (d ∷ cs) h zero c at = (b, refl, subst (λ (z : Block K). Shows t n end b z) (same_Some d c at) h.0)
  alike-was (b ∷ bs) (d ∷ cs) h (suc i) c at = alike-was bs cs h.1 i c at
  alike-was [] (d ∷ cs) h i c at = absurd h
  alike-was (b ∷ bs) [] h i c at = absurd h

  pub alike-comes : (bs cs : List (Block K)) → AreAlike t n end bs cs → (i : ℕ) (b : Block K) → slice_get bs i ≡ Some b
      → (c : Block K) × (slice_get cs i ≡ Some c) × Shows t n end b c
  alike-comes [] [] h i b at = absurd (none-some b at)
  alike-comes (d ∷ bs) (c ∷ cs) h zero b at =
      (c, refl, subst (λ (z : Block K). Shows t n end z c) (same_Some d b at) h.0)
  alike-comes (d ∷ bs) (c ∷ cs) h (suc i) b at = alike-comes bs cs h.1 i b at
  alike-comes [] (c ∷ cs) h i b at = absurd h
  alike-comes (d ∷ bs) [] h i b at = absurd h

-- two blocks of one call, and one visit, work on the same, on one shard
module _ {K V D T : Type 0} (x : Setup K V D T) (b c : Block K) (thread : c.thread ≡ b.thread) (call : c.call ≡ b.call)
  where
    pub same-key : block_key x c ≡ block_key x b
    same-key = rw (thread, call) refl

    pub same-work : block_work x c ≡ block_work x b
    same-work = rw (thread, call) refl

    pub same-shard : c.visit ≡ b.visit → (frame_of x).shard c ≡ (frame_of x).shard b
    same-shard visit_is = ap (λ k. shard_by x k c) same-work ∙ by-work (block_work x b)
      where
        by-work : (k : Work K D) → shard_by x k c ≡ shard_by x k b
        by-work (one k) = refl
        by-work (visit f) = ap Some visit_is
        by-work nothing = refl

-- blocks that show other ends do the same
module _ {K V D T : Type 0} (x : Setup K V D T) (t n end : ℕ) where
  module _ (b c : Block K) (h : Shows t n end b c) where
    work-alike : block_work x c ≡ block_work x b
    work-alike = same-work x b c h.thread h.call

    pub keys-alike : done_keys x c ≡ done_keys x b
    keys-alike = ap (λ v. filter (λ k. x.route k == v) c.visited.items) h.visit
        ∙ ap (λ ks. filter (λ k. x.route k == b.visit) ks) h.visited

    pub shard-alike : (frame_of x).shard c ≡ (frame_of x).shard b
    shard-alike = same-shard x b c h.thread h.call h.visit

    works-alike : (k : Work K D) (q : K) → works_on x k c q ≡ works_on x k b q
    works-alike (one k) q = refl
    works-alike (visit f) q = ap (λ ks. list_any (λ k. x.eq k q) ks) keys-alike
    works-alike nothing q = refl

    leaves-alike : (k : Work K D) (o : Option (K × V)) → left_by x k c o ≡ left_by x k b o
    leaves-alike (one k) o = rw (h.thread, h.call, h.done) refl
    leaves-alike (visit f) o = refl
    leaves-alike nothing o = refl

    pub left-alike : (q : K) (o : Option (K × V)) → left x c q o ≡ left x b q o
    left-alike q o =
        ap (λ k. if works_on x k c q then left_by x k c o else o) work-alike
        ∙ ap (λ z. if z then left_by x (block_work x b) c o else o) (works-alike (block_work x b) q)
        ∙ ap (λ z. if works_on x (block_work x b) b q then z else o) (leaves-alike (block_work x b) o)

    says-alike : {A : Type 0} (k : Work K D) (m : ℕ) (has : K → Option (K × V)) → told_as x {A = A} k c m has ≡ told_as
        x k b m has
    says-alike (one k) m has = rw (h.thread, h.call) refl
    says-alike (visit f) m has = rw keys-alike refl
    says-alike nothing m has = refl

    pub tells-alike : {A : Type 0} (m : ℕ) (has : K → Option (K × V)) → told_by x {A = A} m c has ≡ told_by x m b has
    tells-alike m has = ap (λ k. told_as x k c m has) work-alike ∙ says-alike (block_work x b) m has

  fold-alike : (bs cs : List (Block K)) → AreAlike t n end bs cs → (q : K) (o : Option (K × V))
      → fold (λ o b. left x b q o) o cs ≡ fold (λ o b. left x b q o) o bs
  fold-alike [] [] h q o = refl
  fold-alike (b ∷ bs) (c ∷ cs) h q o = ap (λ z. fold (λ o b. left x b q o) z cs) (left-alike b c h.0 q o)
      ∙ fold-alike bs cs h.1 q (left x b q o)
  fold-alike [] (c ∷ cs) h q o = absurd h
  fold-alike (b ∷ bs) [] h q o = absurd h

  module _ (bs cs : List (Block K)) (h : AreAlike t n end bs cs) where
    pub contents-alike : (q : K) → contents x cs q ≡ contents x bs q
    contents-alike q = fold-alike bs cs h q _

    pub before-alike : (i : ℕ) (q : K) → before x cs i q ≡ before x bs i q
    before-alike i q = fold-alike (take i bs) (take i cs) (alike-take t n end i bs cs h) q _

  abbrev counted : ℕ → ℕ → Block K → ℕ
  counted u m d = if (d.thread == u) && (d.call == m) then length (done_keys x d) else 0

  counted-alike : (b c : Block K) → Shows t n end b c → (u m : ℕ) → counted u m c ≡ counted u m b
  counted-alike b c h u m =
      ap (λ ks. if (c.thread == u) && (c.call == m) then length ks else 0) (keys-alike b c h)
      ∙ ap (λ y. if (y == u) && (c.call == m) then length (done_keys x b) else 0) h.thread
      ∙ ap (λ y. if (b.thread == u) && (y == m) then length (done_keys x b) else 0) h.call

  sum-alike : (bs cs : List (Block K)) → AreAlike t n end bs cs → (u m k : ℕ)
      → fold (λ l d. l + counted u m d) k cs ≡ fold (λ l d. l + counted u m d) k bs
  sum-alike [] [] h u m k = refl
  sum-alike (b ∷ bs) (c ∷ cs) h u m k =
      ap (λ l. fold (λ l d. l + counted u m d) (k + l) cs) (counted-alike b c h.0 u m)
      ∙ sum-alike bs cs h.1 u m (k + counted u m b)
  sum-alike [] (c ∷ cs) h u m k = absurd h
  sum-alike (b ∷ bs) [] h u m k = absurd h

  -- a walk's pairs that are done by the blocks before a place
  pub counts-alike : (bs cs : List (Block K)) → AreAlike t n end bs cs → (i u m : ℕ)
      → done_by_walk x (take i cs) u m ≡ done_by_walk x (take i bs) u m
  counts-alike bs cs h i u m = sum-alike (take i bs) (take i cs) (alike-take t n end i bs cs h) u m 0

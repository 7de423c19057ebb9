-- The visits of a walk do each key at most once, and each pair that is left alone.
use Rattle.std.proofs.Common.{◌≡◌, ℕ, zero, suc, ◌+◌, ◌-◌, ◌<◌, ◌≤◌, ◌==◌, ◌⊎◌, ⊎_elim, true, List, [], ◌∷◌, ◌++◌}
use Rattle.std.proofs.Common.{length, take, Option, Some, None, is_some, slice_get, IsSome, refl, ap, sym, ◌∙◌, subst}
use Rattle.std.proofs.Common.{arith, eq-eqb}
use Rattle.std.specs.List.{flat_map}
use Rattle.std.proofs.lemmas.Bool.{cases_eq}
use Rattle.std.proofs.lemmas.Option.{same_Some, none-some, slice_get_within, slice_get_cases, get_or_from_slice_get}
use Rattle.std.proofs.lemmas.List.{take_more, take_all}
use Rattle.mapworld_calls.specs.declared.reply.Reply.{Reply}
use Rattle.mapworld_calls.specs.declared.block.Block.{Block}
use Rattle.mapworld_calls.specs.declared.ask.Ask.{Ask}
use Rattle.mapworld_calls.specs.declared.ask.Ask.TheVariants as ask
use Rattle.mapworld_calls.specs.declared.ask.Walk.{Walk}
use Rattle.mapworld_calls.specs.declared.ask.Walk.TheVariants as walk
use Rattle.mapworld_calls.specs.declared.reply.Answer.TheVariants as answer
use Rattle.mapworld_calls.specs.Deeds.{Deeds}
use Rattle.mapworld_calls.specs.Calls.{visit_reads}
use Rattle.mapworld_calls.specs.Setup.{Setup, Laws, ask_at}
use Rattle.mapworld_calls.specs.Replay.{work_of, done_keys, shard_by, left, frame_of, contents, before}
use Rattle.mapworld_calls.specs.Agrees.{Visit, IsVisitOf, IsVisited, IsWalked, IsRefusedWalk, AreWhole, number_of}
use Rattle.mapworld_calls.specs.Agrees.{reads_of, IsAnsweredBy}
use Rattle.mapworld_calls.specs.Placed.{IsVisitDone}
use Rattle.mapworld_calls.proofs.Frames.{contents-push}
use Rattle.mapworld_calls.proofs.Folds.{slice_get-from_take}
use Rattle.mapworld_calls.proofs.Works.{filter-passes, keeps-to_shard}
use Rattle.mapworld_calls.proofs.Replays.{before-same}
use Rattle.mapworld_calls.specs.HistoryLaws.Worlds.{IsWorld, IsBlockOf, StandsBetween, IsLeftAlone}
use Rattle.mapworld_calls.specs.HistoryLaws.Walks.{keys_given, AreOnce, deed_read, IsGiven, GivesEachOnce}
use Rattle.mapworld_calls.specs.HistoryLaws.Walks.{WalksGiveEachOnce, VisitsGiveEachOnce}
use Rattle.mapworld_calls.proofs.HistoryLawsFacts.Blocks.{own-ask, own-done, visits-rise, one-place}
use Rattle.mapworld_calls.proofs.HistoryLawsFacts.Joined.{joined-at, joined-cases, length-alike, length-singles}
use Rattle.mapworld_calls.proofs.HistoryLawsFacts.Joined.{length_of_take, any-at, filter-all}

module _ {K V D T : Type 0} (w : Setup K V D T) where
  -- what a key has behind the block at a place
  pub before-next : (bs : List (Block K)) (i : ℕ) (b : Block K) (q : K) → slice_get bs i ≡ Some b
      → before w bs (suc i) q ≡ left w b q (before w bs i q)
  before-next bs i b q at =
      let next : suc i ≡ i + 1 = omega arith in
      ap (λ n. before w bs n q) next
      ∙ ap (λ xs. contents w xs q)
      (take_more bs i b (slice_get_within bs i b at)
      ∙ ap (λ x. take i bs ++ x ∷ []) (get_or_from_slice_get bs i b b at))
      ∙ contents-push (frame_of w) (take i bs) b q

  pub before-past : (bs : List (Block K)) (i : ℕ) (q : K) → length bs ≤ i → before w bs (suc i) q ≡ before w bs i q
  before-past bs i q past =
      ap (λ xs. contents w xs q) (take_all (suc i) bs (omega (arith, past)) ∙ sym (take_all i bs past))

  -- a key that a visit has done is of its shard
  pub done-route : (b : Block K) (n : ℕ) (k : K) → slice_get (done_keys w b) n ≡ Some k → w.route k ≡ b.visit
  done-route b n k at =
      let on : (w.route k == b.visit) ≡ true = filter-passes (λ k. w.route k == b.visit) b.visited.items n k at in
      grind (arith, on)

  -- and all keys of a visit are done
  pub done-all : (bs : List (Block K)) (i : ℕ) (b : Block K) (f : Walk D) → IsVisitDone w bs i b f
      → done_keys w b ≡ b.visited.items
  done-all bs i b f done = filter-all (λ k. w.route k == b.visit) b.visited.items
      (λ n k at. eq-eqb (w.route k) b.visit (done.routed n k at))

module _ {D K V T : Type 0} (deeds : Deeds D K V T) where
  -- a walk that reads reads each pair once, by its deed
  reads-one : (g : Walk D) (d : D) → deed_read g ≡ Some d → (o : Option (K × V)) → IsSome o
      → length (visit_reads deeds g o) ≡ 1
  reads-one g d is None there = absurd cc
  reads-one (walk.Iter e stop) d is (Some p) there = refl
  reads-one (walk.IterMut e stop) d is (Some p) there = refl
  reads-one g d is (Some p) there = absurd (none-some d is)

  reads-by : (g : Walk D) (d : D) → deed_read g ≡ Some d → (p : K × V) → slice_get (visit_reads deeds g (Some p)) 0
      ≡ Some (deeds.answer d p.0 p.1)
  reads-by (walk.Iter e stop) d is p = ap (λ x. Some (deeds.answer x p.0 p.1)) (same_Some e d is)
  reads-by (walk.IterMut e stop) d is p = ap (λ x. Some (deeds.answer x p.0 p.1)) (same_Some e d is)
  reads-by g d is p = absurd (none-some d is)

module _ {K V D T A : Type 0} (w : Setup K V D T) (laws : Laws w) (bs : List (Block K)) (replies : List (Reply K V T A))
    (world : IsWorld w bs replies) (t c : ℕ) (f : Walk D) (asked : ask_at w t c ≡ Some (ask.Walk f)) where
  pub of-visit : (n : ℕ) (v : Visit K) → IsVisitOf bs t c n v → IsBlockOf bs v.place v.block t c
  of-visit n v is = record { listed = is.listed; thread = is.thread; call = is.call }

  pub visit-done : (i : ℕ) (b : Block K) → IsBlockOf bs i b t c → IsVisitDone w bs i b f
  visit-done i b of = (own-done w bs t c (ask.Walk f) asked replies world i b of).0

  -- the keys of a visit are once each
  done-once : (i : ℕ) (b : Block K) → IsBlockOf bs i b t c → AreOnce w.eq (done_keys w b)
  done-once i b of =
      let done = visit-done i b of in
      subst (λ (ks : List K). AreOnce w.eq ks) (sym (done-all w bs i b f done)) done.once

  -- and have a pair at its turn
  pub done-there : (i : ℕ) (b : Block K) → IsBlockOf bs i b t c → (n : ℕ) (k : K) → slice_get (done_keys w b) n ≡ Some k
      → IsSome (before w bs i k)
  done-there i b of n k at =
      let done = visit-done i b of in
      done.there n k (ap (λ ks. slice_get ks n) (sym (done-all w bs i b f done)) ∙ at)

  module _ (vs : List (Visit K)) (visited : IsVisited w bs t c f vs) where
    -- the keys that all visits have done are once each
    pub given-once : AreOnce w.eq (keys_given w vs)
    given-once m n j k hm hn e =
        let a = joined-cases (λ v. done_keys w v.block) vs m j hm in
        let b = joined-cases (λ v. done_keys w v.block) vs n k hn in
        let va = visited.are a.piece a.whole a.at in
        let vb = visited.are b.piece b.whole b.at in
        let pieces : a.piece ≡ b.piece =
        sym va.visit ∙ sym (done-route w a.whole.block a.inner j a.inside) ∙ laws.routes j k e
        ∙ done-route w b.whole.block b.inner k b.inside ∙ vb.visit in
        let wholes : b.whole ≡ a.whole =
        same_Some b.whole a.whole (sym b.at ∙ ap (λ x. slice_get vs x) (sym pieces) ∙ a.at) in
        let inners : a.inner ≡ b.inner =
        done-once a.whole.place a.whole.block (of-visit a.piece a.whole va) a.inner b.inner j k a.inside
        (ap (λ (v : Visit K). slice_get (done_keys w v.block) b.inner) (sym wholes) ∙ b.inside) e in
        a.place
        ∙ ap (λ x. length (flat_map (λ v. done_keys w v.block) (take x vs)) + a.inner) pieces
        ∙ ap (λ x. length (flat_map (λ v. done_keys w v.block) (take b.piece vs)) + x) inners
        ∙ sym b.place

  -- a key that no other block changes has at each place what it had first, up to the visit of its own shard
  stays : (first last : ℕ) (q : K) → IsLeftAlone w bs t c first last q → (j : ℕ) → j ≤ suc last
      → ((i : ℕ) (b : Block K) → IsBlockOf bs i b t c → i < j → b.visit ≡ w.route q → ⊥)
      → (m : ℕ) → first + m ≤ j → before w bs (first + m) q ≡ before w bs first q
  stays first last q alone j within others zero le = let none : first + 0 ≡ first = omega arith in
      ap (λ n. before w bs n q) none
  stays first last q alone j within others (suc m) le =
      let next : first + suc m ≡ suc (first + m) = omega arith in
      ap (λ n. before w bs n q) next ∙ step ∙ stays first last q alone j within others m (omega arith)
    where
      own : (b : Block K) → IsBlockOf bs (first + m) b t c → left w b q (before w bs (first + m) q) ≡ before w bs
          (first + m) q
      own b of =
          keeps-to_shard w laws b q (before w bs (first + m) q)
          (λ on. others (first + m) b of (omega arith)
          (same_Some b.visit (w.route q)
          (sym (ap (λ o. shard_by w (work_of o) b) (own-ask w bs t c (ask.Walk f) asked (first + m) b of)) ∙ on)))

      idle : (b : Block K) → slice_get bs (first + m) ≡ Some b → left w b q (before w bs (first + m) q) ≡ before w bs
          (first + m) q
      idle b at =
          ⊎_elim
          (λ thread. ⊎_elim
          (λ call. own b (record { listed = at; thread = thread; call = call }))
          (λ other. alone (first + m) b at (omega arith) (omega arith) (λ th ca. other ca))
          (cases_eq b.call c))
          (λ other. alone (first + m) b at (omega arith) (omega arith) (λ th ca. other th))
          (cases_eq b.thread t)

      step : before w bs (suc (first + m)) q ≡ before w bs (first + m) q
      step =
          ⊎_elim
          (λ there. before-next w bs (first + m) there.0 q there.2 ∙ idle there.0 there.2)
          (λ past. before-past w bs (first + m) q past.0)
          (slice_get_cases bs (first + m)).1

  -- so that visit finds what the key had first
  pub found-first : (first last : ℕ) → StandsBetween bs t c first last → (q : K) → IsLeftAlone w bs t c first last q
      → (i : ℕ) (b : Block K) → IsBlockOf bs i b t c → b.visit ≡ w.route q
      → before w bs i q ≡ before w bs first q
  found-first first last stands q alone i b of on =
      let from = (stands i b of).0 in
      let until = (stands i b of).1 in
      let place : first + (i - first) ≡ i = omega (arith, from) in
      ap (λ n. before w bs n q) (sym place)
      ∙ stays first last q alone i (omega (arith, until))
      (λ x d its lt same. let rise = visits-rise w bs replies world t c x i d b its of lt in
      omega (arith, rise, same, on))
      (i - first) (omega (arith, from))

  -- what the walk reads at a key that it visits, and of a visit
  abbrev pub read_at : Visit K → K → List T
  read_at v k = visit_reads w.deeds f (before w bs v.place k)

  abbrev pub read_by : Visit K → List T
  read_by v = flat_map (read_at v) (done_keys w v.block)

  module _ (vs : List (Visit K)) (visited : IsVisited w bs t c f vs) where
    read-one : (d : D) → deed_read f ≡ Some d → (n : ℕ) (v : Visit K) → slice_get vs n ≡ Some v → (m : ℕ) (k : K)
        → slice_get (done_keys w v.block) m ≡ Some k → length (read_at v k) ≡ 1
    read-one d is n v at m k inside =
        reads-one w.deeds f d is (before w bs v.place k)
        (done-there v.place v.block (of-visit n v (visited.are n v at)) m k inside)

    read-each : (d : D) → deed_read f ≡ Some d → (n : ℕ) (v : Visit K) → slice_get vs n ≡ Some v
        → length (read_by v) ≡ length (done_keys w v.block)
    read-each d is n v at = length-singles (read_at v) (done_keys w v.block) (read-one d is n v at)

    pub reads-as_many : (d : D) → deed_read f ≡ Some d → length (reads_of w bs f vs) ≡ length (keys_given w vs)
    reads-as_many d is = length-alike (λ v. done_keys w v.block) read_by vs (read-each d is)

    -- what was read of a key that a visit has done stands where the key does
    read-inside : (d : D) → deed_read f ≡ Some d → (n m : ℕ) (v : Visit K) (k : K) (p : K × V) → slice_get vs n ≡ Some v
        → slice_get (done_keys w v.block) m ≡ Some k → before w bs v.place k ≡ Some p
        → slice_get (read_by v) m ≡ Some (w.deeds.answer d p.0 p.1)
    read-inside d is n m v k p at inside there =
        let front : length (flat_map (read_at v) (take m (done_keys w v.block))) + 0 ≡ m =
        let singles = length-singles (read_at v) (take m (done_keys w v.block))
        (λ j q here. read-one d is n v at j q (slice_get-from_take (done_keys w v.block) j m q here)) in
        let short = length_of_take (done_keys w v.block) m k inside in
        omega (arith, singles, short) in
        ap (λ x. slice_get (read_by v) x) (sym front)
        ∙ joined-at (read_at v) (done_keys w v.block) m 0 k (w.deeds.answer d p.0 p.1) inside
        (ap (λ o. slice_get (visit_reads w.deeds f o) 0) there ∙ reads-by w.deeds f d is p)

    -- a key that a visit has done was given, with the pair that it had there
    pub given-at : (n m : ℕ) (v : Visit K) (k q : K) (p : K × V) → slice_get vs n ≡ Some v
        → slice_get (done_keys w v.block) m ≡ Some k → w.eq k q ≡ true → before w bs v.place q ≡ Some p
        → IsGiven w bs f vs q p
    given-at n m v k q p at inside same there =
        record {
          place = length (flat_map (λ v. done_keys w v.block) (take n vs)) + m;
          key = k;
          listed = joined-at (λ v. done_keys w v.block) vs n m v k at inside;
          same = same;
          read = λ d is.
              ap (λ x. slice_get (reads_of w bs f vs) (x + m))
              (sym (length-alike (λ v. done_keys w v.block) read_by (take n vs)
              (λ j u here. read-each d is j u (slice_get-from_take vs j n u here))))
              ∙ joined-at read_by vs n m v (w.deeds.answer d p.0 p.1) at
              (read-inside d is n m v k p at inside (before-same w laws bs v.place k q same ∙ there));
        }

    -- a walk that visits its shard to the end gives a pair that is left alone
    pub given-alone : AreWhole w bs vs → (first last : ℕ) → StandsBetween bs t c first last → (q : K) (p : K × V)
        → w.route q < length vs → before w bs first q ≡ Some p → IsLeftAlone w bs t c first last q
        → IsGiven w bs f vs q p
    given-alone whole first last stands q p within had alone = ⊎_elim (λ there. found there.0 there.2)
        (λ past. let le = past.0 in absurd (omega (arith, le, within))) (slice_get_cases vs (w.route q)).1
      where
        found : (v : Visit K) → slice_get vs (w.route q) ≡ Some v → IsGiven w bs f vs q p
        found v at =
            let is = visited.are (w.route q) v at in
            let now : before w bs v.place q ≡ Some p = found-first first last stands q alone v.place v.block
            (of-visit (w.route q) v is) is.visit ∙ had in
            let key = any-at (λ k. w.eq k q) (done_keys w v.block)
            (whole (w.route q) v at q (sym is.visit) (ap is_some now)) in
            given-at (w.route q) key.0 v key.1 q p at key.2 key.3 now

pub visits-once : {K V D T A : Type 0} → VisitsGiveEachOnce K V D T A
visits-once {K} w laws bs replies world t c f asked i j m n b d p q first second hp hq e =
    let visits : b.visit ≡ d.visit = sym (done-route w b m p hp) ∙ laws.routes p q e ∙ done-route w d n q hq in
    let places : i ≡ j = one-place w bs replies world t c i j b d first second visits in
    let blocks : d ≡ b = same_Some d b (sym second.listed ∙ ap (λ x. slice_get bs x) (sym places) ∙ first.listed) in (
      places,
      done-once w laws bs replies world t c f asked i b first m n p q hp
          (ap (λ (x : Block K). slice_get (done_keys w x) n) (sym blocks) ∙ hq) e,
    )

-- an answered walk that wasn't refused has ended
pub walked : {K V D T A : Type 0} (w : Setup K V D T) (bs : List (Block K)) (replies : List (Reply K V T A))
    → IsWorld w bs replies → (i : ℕ) (r : Reply K V T A) → slice_get replies i ≡ Some r → (f : Walk D)
    → ask_at w r.thread r.call ≡ Some (ask.Walk f) → IsWalked w bs r.thread r.call f r.answer
    ⊎ ((r.answer ≡ answer.NoMemory) × IsRefusedWalk w bs r.thread r.call f)
walked w bs replies world i r at f asked =
    let h = world.agrees.replies_are i r at in
    subst (λ (a : Ask _ _ _). IsAnsweredBy w bs r.thread r.call a r.answer)
    (same_Some h.ask (ask.Walk f) (sym h.asked ∙ asked)) h.answered

pub walks-once : {K V D T A : Type 0} → WalksGiveEachOnce K V D T A
walks-once {K} {V} {D} {T} w laws bs replies world i r at answered f asked =
    ⊎_elim gave (λ refused. absurd (answered refused.0)) (walked w bs replies world i r at f asked)
  where
    gave : IsWalked w bs r.thread r.call f r.answer → GivesEachOnce w bs r.thread r.call f r.answer
    gave h =
        record {
          visits = h.visits;
          visited = h.visited;
          answered = h.answered;
          at_most_once = given-once w laws bs replies world r.thread r.call f asked h.visits h.visited;
          as_many = reads-as_many w laws bs replies world r.thread r.call f asked h.visits h.visited;
          all = λ routed whole first last stands q p had alone.
              ⊎_elim
              (λ end. let all_shards = end.0 in
              let within = routed q in
              given-alone w laws bs replies world r.thread r.call f asked h.visits h.visited end.1 first last stands q p
              (omega (arith, all_shards, within)) had alone)
              (λ stopped. absurd (none-some (number_of w h.visits) (sym whole ∙ stopped)))
              h.ended;
        }

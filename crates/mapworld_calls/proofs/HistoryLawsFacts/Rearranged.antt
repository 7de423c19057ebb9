-- Blocks that stand in another order, where each finds on its shard what it found: the replies are those of the new
-- order too.
use Rattle.std.proofs.Common.{◌≡◌, ℕ, suc, ◌≤◌, ◌+◌, ◌==◌, inl, inr, IsSome, List, [], ◌∷◌, ◌++◌, length, map, flat_map}
use Rattle.std.proofs.Common.{take, Option, Some, None, slice_get, refl, ap, sym, ◌∙◌, subst, arith}
use Rattle.std.proofs.lemmas.List.{length-map, take-map}
use Rattle.std.proofs.lemmas.List.Sums.{sum_by-cons}
use Rattle.mapworld_calls.specs.declared.reply.Reply.{Reply}
use Rattle.mapworld_calls.specs.Programs.{stop_of, saturated}
use Rattle.mapworld_calls.specs.declared.block.Block.{Block}
use Rattle.mapworld_calls.specs.declared.ask.Ask.{Ask}
use Rattle.mapworld_calls.specs.declared.ask.Ask.TheVariants as ask
use Rattle.mapworld_calls.specs.declared.ask.Walk.{Walk}
use Rattle.mapworld_calls.specs.declared.ask.Walk.TheVariants as walk
use Rattle.mapworld_calls.specs.declared.reply.Answer.{Answer}
use Rattle.mapworld_calls.specs.declared.reply.Answer.TheVariants as answer
use Rattle.mapworld_calls.specs.Calls.{visit_reads}
use Rattle.mapworld_calls.specs.Setup.{Setup, Laws, ask_at, session_of}
use Rattle.mapworld_calls.specs.Frame.{IsOn}
use Rattle.mapworld_calls.specs.Replay.{done_keys, told_by, frame_of, contents, before}
use Rattle.mapworld_calls.specs.Agrees.{IsToldBy, HasNoBlock, Visit, IsVisitOf, IsVisited, IsBelow, IsAtMost, IsWhole}
use Rattle.mapworld_calls.specs.Agrees.{AreWhole, number_of, reads_of, AreCapacities, IsWalkAnswer, IsWalked}
use Rattle.mapworld_calls.specs.Agrees.{IsRefusedWalk, IsAnsweredInSession, IsAnsweredBy, Agrees}
use Rattle.mapworld_calls.proofs.Frames.{contents-swapped}
use Rattle.mapworld_calls.proofs.Kept.{flat_map-same, read-kept, visit-shard}
use Rattle.mapworld_calls.proofs.Works.{keeps-to_shard, looks-at_shard}
use Rattle.mapworld_calls.specs.HistoryLaws.Shards.{swapped, OtherShardsCommute}
use Rattle.mapworld_calls.proofs.HistoryLawsFacts.Joined.{mapped-cases}
use Rattle.mapworld_calls.proofs.HistoryLawsFacts.Walks.{done-route}
use Rattle.mapworld_calls.proofs.HistoryLawsFacts.Swapped.{swapped-listed, swapped-finds}

-- the same blocks at other places
pub record Rearranged {K V D T : Type 0} (w : Setup K V D T) (bs bs' : List (Block K)) (to : ℕ → ℕ) : Type 0 where
  pub listed : (i : ℕ) (d : Block K) → slice_get bs i ≡ Some d → slice_get bs' (to i) ≡ Some d
  pub back : (j : ℕ) (d : Block K) → slice_get bs' j ≡ Some d → (i : ℕ) × (slice_get bs i ≡ Some d)
  pub finds : (i : ℕ) (d : Block K) → slice_get bs i ≡ Some d → (q : K) → IsOn (frame_of w) d q
      → before w bs' (to i) q ≡ before w bs i q
  pub contents_stay : (q : K) → contents w bs' q ≡ contents w bs q

module _ {K V D T : Type 0} (w : Setup K V D T) (laws : Laws w) (bs bs' : List (Block K)) (to : ℕ → ℕ)
    (re : Rearranged w bs bs' to) where
  pub tells : {A : Type 0} (i m : ℕ) (d : Block K) → slice_get bs i ≡ Some d
      → told_by w {A = A} m d (before w bs' (to i)) ≡ told_by w m d (before w bs i)
  tells i m d at = looks-at_shard w laws m d (before w bs' (to i)) (before w bs i) (re.finds i d at)

  told-moved : {A : Type 0} (t c n : ℕ) (a : Answer K V T A) → IsToldBy w bs t c n a → IsToldBy w bs' t c n a
  told-moved t c n a h =
      record {
        place = to h.place;
        block = h.block;
        listed = re.listed h.place h.block h.listed;
        thread = h.thread;
        call = h.call;
        done = h.done;
        told = tells h.place n h.block h.listed ∙ h.told;
      }

  none-moved : (t c : ℕ) → HasNoBlock bs t c → HasNoBlock bs' t c
  none-moved t c none j d at thread call = let r = re.back j d at in none r.0 d r.1 thread call

  abbrev pub moved : Visit K → Visit K
  moved v = record { place = to v.place; block = v.block }

  number-moved : (vs : List (Visit K)) → number_of w (map moved vs) ≡ number_of w vs
  number-moved [] = refl
  number-moved (v ∷ vs) =
      sum_by-cons (λ (v : Visit K). length (done_keys w v.block)) (moved v) (map moved vs)
      ∙ ap (λ n. length (done_keys w v.block) + n) (number-moved vs)
      ∙ sym (sum_by-cons (λ (v : Visit K). length (done_keys w v.block)) v vs)

  capacities-moved : (vs : List (Visit K)) (ns : List ℕ) → AreCapacities w vs ns → AreCapacities w (map moved vs) ns
  capacities-moved vs ns h =
      record {
        each = h.each ∙ sym (length-map vs moved);
        hold = λ i n v hn hv.
            let x = mapped-cases moved vs i v hv in
            subst (λ (y : Visit K). length (done_keys w y.block) ≤ n) x.2 (h.hold i n x.0 hn x.1);
      }

  module _ (t c : ℕ) (f : Walk D) (asked : ask_at w t c ≡ Some (ask.Walk f)) where
    -- a visit finds at its new place what it found
    visit-finds : (n : ℕ) (v : Visit K) → IsVisitOf bs t c n v → (q : K) → w.route q ≡ v.block.visit
        → before w bs' (to v.place) q ≡ before w bs v.place q
    visit-finds n v is q on = re.finds v.place v.block is.listed q
        (visit-shard w f v.block t c asked is.thread is.call (w.route q) on)

    visit-moved : (n : ℕ) (v : Visit K) → IsVisitOf bs t c n v → IsVisitOf bs' t c n (moved v)
    visit-moved n v is =
        record { listed = re.listed v.place v.block is.listed; thread = is.thread; call = is.call; visit = is.visit }

    whole-moved : (n : ℕ) (v : Visit K) → IsVisitOf bs t c n v → IsWhole w bs v.place v.block
        → IsWhole w bs' (to v.place) v.block
    whole-moved n v is whole q on there =
        whole q on (subst (λ (o : Option (K × V)). IsSome o) (visit-finds n v is q on) there)

    reads-moved : (vs : List (Visit K)) (m : ℕ)
        → ((n : ℕ) (v : Visit K) → slice_get vs n ≡ Some v → IsVisitOf bs t c (m + n) v)
        → reads_of w bs' f (map moved vs) ≡ reads_of w bs f vs
    reads-moved [] m are = refl
    reads-moved (v ∷ vs) m are =
        ap (λ ys. ys ++ reads_of w bs' f (map moved vs))
        (flat_map-same (λ k. visit_reads w.deeds f (before w bs' (to v.place) k))
        (λ k. visit_reads w.deeds f (before w bs v.place k)) (done_keys w v.block)
        (λ n k at. ap (λ o. visit_reads w.deeds f o)
        (visit-finds (m + 0) v (are 0 v refl) k (done-route w v.block n k at))))
        ∙ ap (λ ys. flat_map (λ k. visit_reads w.deeds f (before w bs v.place k)) (done_keys w v.block) ++ ys)
        (reads-moved vs (suc m)
        (λ n x at. let next : m + suc n ≡ suc m + n = omega arith in subst (λ (i : ℕ). IsVisitOf bs t c i x) next
        (are (suc n) x at)))

    module _ (vs : List (Visit K)) (visited : IsVisited w bs t c f vs) where
      all-reads : reads_of w bs' f (map moved vs) ≡ reads_of w bs f vs
      all-reads = reads-moved vs 0
          (λ n x at. let same : n ≡ 0 + n = omega arith in subst (λ (i : ℕ). IsVisitOf bs t c i x) same
          (visited.are n x at))

      each-whole : (n : ℕ) (v x : Visit K) → slice_get vs n ≡ Some v → moved v ≡ x → IsWhole w bs v.place v.block
          → IsWhole w bs' x.place x.block
      each-whole n v x at is whole = subst (λ (y : Visit K). IsWhole w bs' y.place y.block) is
          (whole-moved n v (visited.are n v at) whole)

      visited-moved : IsVisited w bs' t c f (map moved vs)
      visited-moved =
          let long : length (map moved vs) ≡ length vs = length-map vs moved in
          record {
            are = λ n v at. let x = mapped-cases moved vs n v at in subst (λ (y : Visit K). IsVisitOf bs' t c n y) x.2
                (visit-moved n x.0 (visited.are n x.0 x.1));
            goes_on = λ n lt.
                subst (λ (m : ℕ). IsBelow (stop_of f) m)
                (sym (ap (λ (xs : List (Visit K)). number_of w xs) (take-map moved n vs)
                ∙ number-moved (take n vs)))
                (visited.goes_on n (omega (arith, lt, long)));
            whole = λ n v at lt. let x = mapped-cases moved vs n v at in
                each-whole n x.0 v x.1 x.2 (visited.whole n x.0 x.1 (omega (arith, lt, long)));
            within = subst (λ (m : ℕ). IsAtMost (stop_of f) m) (sym (number-moved vs)) visited.within;
            all = λ j d at thread call. let r = re.back j d at in let lt = visited.all r.0 d r.1 thread call in
                omega (arith, lt, long);
          }

      all-moved : AreWhole w bs vs → AreWhole w bs' (map moved vs)
      all-moved whole n v at = let x = mapped-cases moved vs n v at in each-whole n x.0 v x.1 x.2 (whole n x.0 x.1)

    walk-answer : {A : Type 0} (g : Walk D) (vs : List (Visit K)) (a : Answer K V T A)
        → reads_of w bs' g (map moved vs) ≡ reads_of w bs g vs → IsWalkAnswer w bs g vs a
        → IsWalkAnswer w bs' g (map moved vs) a
    walk-answer (walk.Iter d s) vs a same h = read-kept (reads_of w bs (walk.Iter d s) vs)
        (reads_of w bs' (walk.Iter d s) (map moved vs)) a same h
    walk-answer (walk.IterMut d s) vs a same h = read-kept (reads_of w bs (walk.IterMut d s) vs)
        (reads_of w bs' (walk.IterMut d s) (map moved vs)) a same h
    walk-answer (walk.Retain d) vs a same h = h
    walk-answer (walk.AlterAll d) vs a same h = h
    walk-answer walk.Clear vs a same h = h
    walk-answer walk.Len vs a same h = h ∙ ap (λ n. answer.Count (saturated n)) (sym (number-moved vs))
    walk-answer walk.IsEmpty vs a same h = h ∙ ap (λ n. answer.Flag (n == 0)) (sym (number-moved vs))
    walk-answer walk.Capacity vs a same h = (h.0, capacities-moved vs h.0 h.1, h.2)
    walk-answer walk.ShrinkToFit vs a same h = h

    walked-moved : {A : Type 0} (a : Answer K V T A) → IsWalked w bs t c f a → IsWalked w bs' t c f a
    walked-moved a h =
        record {
          visits = map moved h.visits;
          visited = visited-moved h.visits h.visited;
          ended = elim h.ended [
            | inl whole ↦ inl (length-map h.visits moved ∙ whole.0, all-moved h.visits h.visited whole.1)
            | inr stop ↦ inr (stop ∙ ap Some (sym (number-moved h.visits)))
          ];
          answered = walk-answer f h.visits a (all-reads h.visits h.visited) h.answered;
        }

    refused-moved : IsRefusedWalk w bs t c f → IsRefusedWalk w bs' t c f
    refused-moved h =
        let long : length (map moved h.visits) ≡ length h.visits = length-map h.visits moved in
        let less = h.left_over in
        record {
          grows = h.grows;
          visits = map moved h.visits;
          visited = visited-moved h.visits h.visited;
          ended = all-moved h.visits h.visited h.ended;
          left_over = omega (arith, long, less);
          goes_on = subst (λ (m : ℕ). IsBelow (stop_of f) m) (sym (number-moved h.visits)) h.goes_on;
        }

  session-moved : {A : Type 0} (t c : ℕ) (s : Option ℕ) (a : Answer K V T A) → IsAnsweredInSession w bs t c s a
      → IsAnsweredInSession w bs' t c s a
  session-moved t c None a h = h
  session-moved t c (Some o) a h =
      elim h [ inl told ↦ inl (told-moved t o _ a told) | inr none ↦ inr (none.0, none-moved t o none.1) ]

  answer-moved : {A : Type 0} (t c : ℕ) (x : Ask K V D) (a : Answer K V T A) → ask_at w t c ≡ Some x
      → IsAnsweredBy w bs t c x a → IsAnsweredBy w bs' t c x a
  answer-moved t c (ask.Keyed k) a asked h =
      elim h [ inl told ↦ inl (told-moved t c 0 a told) | inr none ↦ inr (none.0, none-moved t c none.1) ]
  answer-moved t c (ask.Begin b) a asked h =
      elim h [ inl told ↦ inl (told-moved t c 0 a told) | inr none ↦ inr (none.0, none-moved t c none.1) ]
  answer-moved t c (ask.Held g) a asked h = session-moved t c (session_of w t c) a h
  answer-moved t c (ask.Walk f) a asked h =
      elim h [
        | inl gave ↦ inl (walked-moved t c f asked a gave)
        | inr none ↦ inr
            (none.0, refused-moved t c f asked none.1)
      ]

  pub agrees-moved : {A : Type 0} (pairs : List (K × V)) (replies : List (Reply K V T A)) → Agrees w bs pairs replies
      → Agrees w bs' pairs replies
  agrees-moved pairs replies h =
      record {
        distinct = h.distinct;
        contents_are = λ q. h.contents_are q ∙ sym (re.contents_stay q);
        replies_are = λ i r at.
            let is = h.replies_are i r at in
            record {
              ask = is.ask;
              asked = is.asked;
              answered = answer-moved r.thread r.call is.ask r.answer is.asked
                  is.answered;
            };
      }

pub other-shards_commute : {K V D T A : Type 0} → OtherShardsCommute K V D T A
other-shards_commute w laws front b c later apart =
    let f = frame_of w in
    let re : Rearranged w (front ++ b ∷ c ∷ later) (front ++ c ∷ b ∷ later) (swapped (length front)) =
    record {
      listed = swapped-listed front b c later;
      back = λ j d at. (swapped (length front) j, swapped-listed front c b later j d at);
      finds = λ i d at q on. swapped-finds f (keeps-to_shard w laws) b c apart later q front (f.opening q) i d at on;
      contents_stay = λ q. sym (contents-swapped f (keeps-to_shard w laws) front later b c apart q);
    } in
    record {
      listed = re.listed;
      tell = tells w laws (front ++ b ∷ c ∷ later) (front ++ c ∷ b ∷ later) (swapped (length front)) re;
      contents_stay = re.contents_stay;
      replies_stay = agrees-moved w laws (front ++ b ∷ c ∷ later) (front ++ c ∷ b ∷ later) (swapped (length front)) re;
    }

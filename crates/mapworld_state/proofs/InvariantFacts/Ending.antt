-- What blocks that show the ends of a call leave: all that was told stays told.
use Rattle.std.proofs.Common.{◌≡◌, ℕ, zero, suc, ◌+◌, ◌-◌, ◌⊎◌, ◌==◌, inl, inr, ⊎_elim, IsSome, Bool, List, [], ◌∷◌}
use Rattle.std.proofs.Common.{◌++◌, length, flat_map, fold, take, Option, Some, None, slice_get, slice_set, MatchBool}
use Rattle.std.proofs.Common.{refl, ap, sym, ◌∙◌, subst, arith}
use Rattle.std.proofs.lemmas.Bool.{cases_Bool, eqb-true, eqb-false}
use Rattle.std.proofs.lemmas.Option.{same_Some, none-some}
use Rattle.mapworld_calls.specs.declared.ask.Ask.{Ask}
use Rattle.mapworld_calls.specs.declared.ask.Ask.TheVariants as ask
use Rattle.mapworld_calls.specs.declared.ask.Walk.{Walk}
use Rattle.mapworld_calls.specs.declared.ask.Walk.TheVariants as walk
use Rattle.mapworld_calls.specs.declared.block.Block.{Block}
use Rattle.mapworld_calls.specs.declared.reply.Answer.{Answer}
use Rattle.mapworld_calls.specs.Calls.{visit_reads}
use Rattle.mapworld_calls.specs.Programs.{stop_of}
use Rattle.mapworld_calls.specs.Setup.{Setup, Laws, session_of}
use Rattle.mapworld_calls.specs.Replay.{block_key, at_key, done_keys, before, found, IsLastOnShard}
use Rattle.mapworld_calls.specs.Agrees.{IsToldBy, HasNoBlock, IsAnsweredInSession, Visit, IsWhole, AreWhole}
use Rattle.mapworld_calls.specs.Agrees.{AreCapacities, IsBelow, IsAtMost, IsVisited, number_of, reads_of, IsWalkAnswer}
use Rattle.mapworld_calls.specs.Agrees.{IsWalked, IsRefusedWalk, IsAnsweredBy}
use Rattle.mapworld_calls.proofs.Lists.{slice_get-set_same, slice_get-set_cases}
use Rattle.mapworld_calls.proofs.Works.{looks-at_shard}
use Rattle.mapworld_state.specs.Moves.{EndsAt, EndsBlock, EndsVisits, EndsCall}
use Rattle.mapworld_state.specs.Places.{Place}
use Rattle.mapworld_state.specs.Sound.{IsIn, OwnsBlocks, HasOwnBlock, HasOwnVisits}
use Rattle.mapworld_state.proofs.InvariantFacts.Alike.{Shows, AreAlike, shows-same, alike-same, alike-then, alike-set}
use Rattle.mapworld_state.proofs.InvariantFacts.Alike.{alike-was, alike-comes, keys-alike, shard-alike, tells-alike}
use Rattle.mapworld_state.proofs.InvariantFacts.Alike.{before-alike}
use Rattle.mapworld_state.proofs.InvariantFacts.Effects.{Effect, Anyhow}

module _ {K V D T : Type 0} (A : Type 0) (x : Setup K V D T) (laws : Laws x) (t n end : ℕ) (bs bs' : List (Block K))
    (h : AreAlike t n end bs bs') where
  told-alike : (u c m : ℕ) (a : Answer K V T A) → IsToldBy x bs u c m a → IsToldBy x bs' u c m a
  told-alike u c m a g =
      let d = alike-comes t n end bs bs' h g.place g.block g.listed in
      record {
        place = g.place;
        block = d.0;
        listed = d.1;
        thread = d.2.thread ∙ g.thread;
        call = d.2.call ∙ g.call;
        done = rw d.2.done g.done;
        told = tells-alike x t n end g.block d.0 d.2 m (before x bs' g.place)
            ∙ looks-at_shard x laws {A = A} m g.block (before x bs' g.place) (before x bs g.place)
            (λ q on. before-alike x t n end bs bs' h g.place q)
            ∙ g.told;
      }

  pub none-alike : (u c : ℕ) → HasNoBlock bs u c → HasNoBlock bs' u c
  none-alike u c none i d at thread call =
      let o = alike-was t n end bs bs' h i d at in
      none i o.0 o.1 (sym o.2.thread ∙ thread) (sym o.2.call ∙ call)

  pub last-alike : (j : ℕ) (e : Block K) → IsLastOnShard x bs j e → IsLastOnShard x bs' j e
  last-alike j e last k d lt here s he hd =
      let o = alike-was t n end bs bs' h k d here in
      last k o.0 lt o.1 s he (sym (shard-alike x t n end o.0 d o.2) ∙ hd)

  -- the blocks of other threads are what they were
  pub effect-alike : Effect A x bs bs' t Anyhow
  effect-alike u ne = record {
    kept = λ i b at own.
        let d = alike-comes t n end bs bs' h i b at in
        elim d.2.ended [
          | inl its ↦ absurd (ne (sym own ∙ its.0))
          | inr same ↦ d.1 ∙ ap (λ z. Some z) same
        ];
    back = λ i d at own.
        let o = alike-was t n end bs bs' h i d at in
        elim o.2.ended [
          | inl its ↦ absurd (ne (sym own ∙ o.2.thread ∙ its.0))
          | inr same ↦ o.1 ∙ ap (λ z. Some z) (sym same)
        ];
    turns = λ i b at q on. before-alike x t n end bs bs' h i q;
    told = λ c m a g. told-alike u c m a g;
    last = λ i b at f g. last-alike i b g;
  }

  -- what a block has found
  pub found-alike : (i : ℕ) (b c : Block K) → Shows t n end b c → found x bs' i c ≡ found x bs i b
  found-alike i b c same = ap (λ k. at_key (before x bs' i) k)
      (let e : block_key x c ≡ block_key x b = rw (same.thread, same.call) refl in e) ∙ at-key (block_key x b)
    where
      at-key : (o : Option K) → at_key (before x bs' i) o ≡ at_key (before x bs i) o
      at-key None = refl
      at-key (Some k) = before-alike x t n end bs bs' h i k

  -- the same visits, with their blocks
  abbrev Again : Visit K → Visit K → Type 0
  Again v u = (u.place ≡ v.place) × Shows t n end v.block u.block × (slice_get bs' u.place ≡ Some u.block)

  abbrev AreAgain : List (Visit K) → List (Visit K) → Type 0
  AreAgain [] [] = Unit {0}
  AreAgain (v ∷ vs) (u ∷ us) = Again v u × AreAgain vs us
  AreAgain vs us = ⊥

  visits-again : (vs : List (Visit K))
      → ((m : ℕ) (v : Visit K) → slice_get vs m ≡ Some v → slice_get bs v.place ≡ Some v.block) → (us : List (Visit K))
      × AreAgain vs us
  visits-again [] listed = ([], tt)
  visits-again (v ∷ vs) listed =
      let d = alike-comes t n end bs bs' h v.place v.block (listed zero v refl) in
      let rest = visits-again vs (λ m u at. listed (suc m) u at) in
      (record { place = v.place; block = d.0 } ∷ rest.0, ((refl, d.2, d.1), rest.1))

  again-was : (vs us : List (Visit K)) → AreAgain vs us → (m : ℕ) (u : Visit K) → slice_get us m ≡ Some u
      → (v : Visit K) × (slice_get vs m ≡ Some v) × Again v u
  again-was [] [] g m u at = absurd (none-some u at)
  again-was (v ∷ vs) (y ∷ us) g zero u at = (v, refl, subst (λ (z : Visit K). Again v z) (same_Some y u at) g.0)
  again-was (v ∷ vs) (y ∷ us) g (suc m) u at = again-was vs us g.1 m u at
  again-was [] (y ∷ us) g m u at = absurd g
  again-was (v ∷ vs) [] g m u at = absurd g

  again-length : (vs us : List (Visit K)) → AreAgain vs us → length us ≡ length vs
  again-length [] [] g = refl
  again-length (v ∷ vs) (u ∷ us) g = ap suc (again-length vs us g.1)
  again-length [] (u ∷ us) g = absurd g
  again-length (v ∷ vs) [] g = absurd g

  again-take : (m : ℕ) (vs us : List (Visit K)) → AreAgain vs us → AreAgain (take m vs) (take m us)
  again-take zero vs us g = tt
  again-take (suc m) [] [] g = tt
  again-take (suc m) (v ∷ vs) (u ∷ us) g = (g.0, again-take m vs us g.1)
  again-take (suc m) [] (u ∷ us) g = absurd g
  again-take (suc m) (v ∷ vs) [] g = absurd g

  again-sum : (vs us : List (Visit K)) → AreAgain vs us → (k : ℕ) → fold (λ l v. l + length (done_keys x v.block)) k us
      ≡ fold (λ l v. l + length (done_keys x v.block)) k vs
  again-sum [] [] g k = refl
  again-sum (v ∷ vs) (u ∷ us) g k =
      ap (λ ks. fold (λ l v. l + length (done_keys x v.block)) (k + length ks) us)
      (keys-alike x t n end v.block u.block g.0.1)
      ∙ again-sum vs us g.1 (k + length (done_keys x v.block))
  again-sum [] (u ∷ us) g k = absurd g
  again-sum (v ∷ vs) [] g k = absurd g

  again-number : (vs us : List (Visit K)) → AreAgain vs us → number_of x us ≡ number_of x vs
  again-number vs us g = again-sum vs us g 0

  reads-at : (f : Walk D) (i : ℕ) (ks : List K) → flat_map (λ k. visit_reads x.deeds f (before x bs' i k)) ks ≡ flat_map
      (λ k. visit_reads x.deeds f (before x bs i k)) ks
  reads-at f i [] = refl
  reads-at f i (k ∷ ks) =
      ap (λ o. visit_reads x.deeds f o ++ flat_map (λ k. visit_reads x.deeds f (before x bs' i k)) ks)
      (before-alike x t n end bs bs' h i k)
      ∙ ap (λ zs. visit_reads x.deeds f (before x bs i k) ++ zs) (reads-at f i ks)

  again-reads : (f : Walk D) (vs us : List (Visit K)) → AreAgain vs us → reads_of x bs' f us ≡ reads_of x bs f vs
  again-reads f [] [] g = refl
  again-reads f (v ∷ vs) (u ∷ us) g =
      ap (λ zs. zs ++ reads_of x bs' f us)
      (ap (λ i. flat_map (λ k. visit_reads x.deeds f (before x bs' i k)) (done_keys x u.block)) g.0.0
      ∙ ap (λ ks. flat_map (λ k. visit_reads x.deeds f (before x bs' v.place k)) ks)
      (keys-alike x t n end v.block u.block g.0.1)
      ∙ reads-at f v.place (done_keys x v.block))
      ∙ ap (λ zs. flat_map (λ k. visit_reads x.deeds f (before x bs v.place k)) (done_keys x v.block) ++ zs)
      (again-reads f vs us g.1)
  again-reads f [] (u ∷ us) g = absurd g
  again-reads f (v ∷ vs) [] g = absurd g

  whole-again : (v u : Visit K) → Again v u → IsWhole x bs v.place v.block → IsWhole x bs' u.place u.block
  whole-again v u g w q on there =
      rw (keys-alike x t n end v.block u.block g.1)
      (w q (on ∙ g.1.visit)
      (subst (λ (o : Option (K × V)). IsSome o)
      (ap (λ i. before x bs' i q) g.0 ∙ before-alike x t n end bs bs' h v.place q) there))

  module _ (u c : ℕ) (f : Walk D) (vs us : List (Visit K)) (g : AreAgain vs us) (v : IsVisited x bs u c f vs) where
    visited-again : IsVisited x bs' u c f us
    visited-again =
        let size = again-length vs us g in
        record {
          are = λ m z at.
              let o = again-was vs us g m z at in
              let is = v.are m o.0 o.1 in
              record {
                listed = o.2.2;
                thread = o.2.1.thread ∙ is.thread;
                call = o.2.1.call ∙ is.call;
                visit = o.2.1.visit ∙ is.visit;
              };
          goes_on = λ m lt. subst (λ (k : ℕ). IsBelow (stop_of f) k)
              (sym (again-number (take m vs) (take m us) (again-take m vs us g))) (v.goes_on m (rw (sym size) lt));
          whole = λ m z at lt. let o = again-was vs us g m z at in
              whole-again o.0 z o.2 (v.whole m o.0 o.1 (rw (sym size) lt));
          within = subst (λ (k : ℕ). IsAtMost (stop_of f) k) (sym (again-number vs us g)) v.within;
          all = λ i d at thread call.
              let o = alike-was t n end bs bs' h i d at in
              rw (size, o.2.visit) (v.all i o.0 o.1 (sym o.2.thread ∙ thread) (sym o.2.call ∙ call));
        }

    all-again : AreWhole x bs vs → AreWhole x bs' us
    all-again whole m z at = let o = again-was vs us g m z at in whole-again o.0 z o.2 (whole m o.0 o.1)

    capacities-again : (ns : List ℕ) → AreCapacities x vs ns → AreCapacities x us ns
    capacities-again ns caps = record {
      each = caps.each ∙ sym (again-length vs us g);
      hold = λ i m z hm hz. let o = again-was vs us g i z hz in rw (keys-alike x t n end o.0.block z.block o.2.1)
          (caps.hold i m o.0 hm o.1);
    }

  answer-again : (f : Walk D) (vs us : List (Visit K)) → AreAgain vs us → (u c : ℕ) → IsVisited x bs u c f vs
      → (a : Answer K V T A) → IsWalkAnswer x bs f vs a → IsWalkAnswer x bs' f us a
  answer-again (walk.Iter d s) vs us g u c v a e =
      record { list = e.list; has = e.has ∙ sym (again-reads (walk.Iter d s) vs us g); is = e.is }
  answer-again (walk.IterMut d s) vs us g u c v a e =
      record { list = e.list; has = e.has ∙ sym (again-reads (walk.IterMut d s) vs us g); is = e.is }
  answer-again (walk.Retain d) vs us g u c v a e = e
  answer-again (walk.AlterAll d) vs us g u c v a e = e
  answer-again walk.Clear vs us g u c v a e = e
  answer-again walk.Len vs us g u c v a e = rw (again-number vs us g) e
  answer-again walk.IsEmpty vs us g u c v a e = rw (again-number vs us g) e
  answer-again walk.Capacity vs us g u c v a e = (e.0, capacities-again u c walk.Capacity vs us g v e.0 e.1, e.2)
  answer-again walk.ShrinkToFit vs us g u c v a e = e

  walked-again : (u c : ℕ) (f : Walk D) (a : Answer K V T A) → IsWalked x bs u c f a → IsWalked x bs' u c f a
  walked-again u c f a w =
      let again = visits-again w.visits (λ m v at. (w.visited.are m v at).listed) in
      record {
        visits = again.0;
        visited = visited-again u c f w.visits again.0 again.1 w.visited;
        ended = elim w.ended [
          | inl whole ↦ inl (
            again-length w.visits again.0 again.1 ∙ whole.0,
            all-again u c f w.visits again.0 again.1 w.visited
                whole.1,
          )
          | inr stop ↦ inr (stop ∙ ap (λ k. Some k) (sym (again-number w.visits again.0 again.1)))
        ];
        answered = answer-again f w.visits again.0 again.1 u c w.visited a w.answered;
      }

  refused-again : (u c : ℕ) (f : Walk D) → IsRefusedWalk x bs u c f → IsRefusedWalk x bs' u c f
  refused-again u c f w =
      let again = visits-again w.visits (λ m v at. (w.visited.are m v at).listed) in
      record {
        grows = w.grows;
        visits = again.0;
        visited = visited-again u c f w.visits again.0 again.1 w.visited;
        ended = all-again u c f w.visits again.0 again.1 w.visited w.ended;
        left_over = rw (again-length w.visits again.0 again.1) w.left_over;
        goes_on = subst (λ (k : ℕ). IsBelow (stop_of f) k) (sym (again-number w.visits again.0 again.1)) w.goes_on;
      }

  in_session-alike : (u c : ℕ) (o : Option ℕ) (a : Answer K V T A) → IsAnsweredInSession x bs u c o a
      → IsAnsweredInSession x bs' u c o a
  in_session-alike u c None a g = g
  in_session-alike u c (Some b) a g =
      elim g [ inl told ↦ inl (told-alike u b (c - b) a told) | inr none ↦ inr (none.0, none-alike u b none.1) ]

  -- what a call was answered by
  pub answered-alike : (u c : ℕ) (a : Ask K V D) (r : Answer K V T A) → IsAnsweredBy x bs u c a r
      → IsAnsweredBy x bs' u c a r
  answered-alike u c (ask.Keyed k) r g =
      elim g [ inl told ↦ inl (told-alike u c 0 r told) | inr none ↦ inr (none.0, none-alike u c none.1) ]
  answered-alike u c (ask.Begin b) r g =
      elim g [ inl told ↦ inl (told-alike u c 0 r told) | inr none ↦ inr (none.0, none-alike u c none.1) ]
  answered-alike u c (ask.Held d) r g = in_session-alike u c (session_of x u c) r g
  answered-alike u c (ask.Walk f) r g =
      elim g [
        | inl walked ↦ inl (walked-again u c f r walked)
        | inr refused ↦ inr
            (refused.0, refused-again u c f refused.1)
      ]

-- an answer ends the block of its call, or all visits of its walk
module _ {K : Type 0} (t n end : ℕ) where
  shows-end : (b c : Block K) → b.thread ≡ t → b.call ≡ n → EndsAt end b c → Shows t n end b c
  shows-end b c thread call e = record {
    thread = e.thread;
    call = e.call;
    visit = e.visit;
    start = e.start;
    position = e.position;
    done = e.done;
    visited = e.visited;
    ended = inl (thread, call, e.end);
  }

  abbrev AreOf : List (Block K) → List ℕ → Type 0
  AreOf bs visits = (i : ℕ) (b : Block K) → IsIn i visits → slice_get bs i ≡ Some b → (b.thread ≡ t) × (b.call ≡ n)

  still-of : (bs : List (Block K)) (i : ℕ) (visits : List ℕ) (b c : Block K) → slice_get bs i ≡ Some b → EndsAt end b c
      → AreOf bs (i ∷ visits) → AreOf (slice_set bs i c) visits
  still-of bs i visits b c at e own j d in_ here =
      elim (slice_get-set_cases bs i j b d c at here) [
        | inl same ↦
            let was = own i b (0, refl) at in
            (ap (λ z. z.thread) same.1 ∙ e.thread ∙ was.0, ap (λ z. z.call) same.1 ∙ e.call ∙ was.1)
        | inr other ↦ own j d (suc in_.0, in_.1) other.1
      ]

  visits-alike : (visits : List ℕ) (bs bs' : List (Block K)) → AreOf bs visits → EndsVisits bs visits end bs'
      → AreAlike t n end bs bs'
  visits-alike [] bs bs' own h = rw h (alike-same t n end bs)
  visits-alike (i ∷ visits) bs bs' own h =
      let b = h.0 in let c = h.1 in
      let was = own i b (0, refl) h.2 in
      alike-then t n end bs (slice_set bs i c) bs' (alike-set t n end bs i b c h.2 (shows-end b c was.0 was.1 h.3))
      (visits-alike visits (slice_set bs i c) bs' (still-of bs i visits b c h.2 h.3 own) h.4)

  visits-end : (visits : List ℕ) (bs bs' : List (Block K)) → AreOf bs visits → EndsVisits bs visits end bs' → (j : ℕ)
      → IsIn j visits → (d : Block K) → slice_get bs' j ≡ Some d → d.end ≡ Some end
  visits-end [] bs bs' own h j in_ d at = absurd (none-some j in_.1)
  visits-end (i ∷ visits) bs bs' own h j in_ d at =
      let rest-own = still-of bs i visits h.0 h.1 h.2 h.3 own in
      by-index in_.0 in_.1 (λ k e. visits-end visits (slice_set bs i h.1) bs' rest-own h.4 j (k, e) d at)
    where
      -- what shows its end goes on showing it
      first : j ≡ i → d.end ≡ Some end
      first same =
          let o = alike-was t n end (slice_set bs i h.1) bs'
          (visits-alike visits (slice_set bs i h.1) bs' (still-of bs i visits h.0 h.1 h.2 h.3 own) h.4) j d at in
          let its : o.0 ≡ h.1 =
          same_Some o.0 h.1
          (sym o.1 ∙ ap (λ k. slice_get (slice_set bs i h.1) k) same ∙ slice_get-set_same bs i h.0 h.1 h.2) in
          elim o.2.ended [ inl now ↦ now.2 | inr is ↦ ap (λ z. z.end) (is ∙ its) ∙ h.3.end ]

      by-index : (k : ℕ) → slice_get (i ∷ visits) k ≡ Some j
          → ((l : ℕ) → slice_get visits l ≡ Some j → d.end ≡ Some end) → d.end ≡ Some end
      by-index zero e later = first (sym (same_Some i j e))
      by-index (suc k) e later = later k e

module _ {K V D T A : Type 0} (x : Setup K V D T) (bs bs' : List (Block K)) (t : ℕ) (p : Place K V D T A)
    (own : HasOwnBlock bs t p) (visits : HasOwnVisits x bs t p) (owns : OwnsBlocks bs t p) (end : ℕ) where
  -- the blocks behind an answer are alike, and those of its call show its end
  abbrev pub Ended : Type 0
  Ended = AreAlike t p.next end bs bs'
      × ((i : ℕ) (c : Block K) → slice_get bs' i ≡ Some c → c.thread ≡ t → c.call ≡ p.next → c.end ≡ Some end)

  -- a block of the call is the place's own
  own-of : AreAlike t p.next end bs bs' → (i : ℕ) (c : Block K) → slice_get bs' i ≡ Some c → c.thread ≡ t
      → c.call ≡ p.next → (p.block ≡ Some i) ⊎ IsIn i p.visits
  own-of alike i c at thread call =
      let o = alike-was t p.next end bs bs' alike i c at in
      elim (owns i o.0 o.1 (sym o.2.thread ∙ thread)) [
        | inl below ↦ let is = o.2.call in absurd (omega (arith, below, is, call))
        | inr mine ↦ mine.1
      ]

  thread-of : (i : ℕ) (b : Block K) → p.block ≡ Some i → slice_get bs i ≡ Some b → b.thread ≡ t
  thread-of i b mine at = let o = own i mine in ap (λ z. z.thread) (same_Some b o.0 (sym at ∙ o.1)) ∙ o.2

  ended-block : (o : Option ℕ) → p.block ≡ o → p.visits ≡ [] → EndsBlock bs o p.next end bs' → Ended
  ended-block None none empty h =
      let alike : AreAlike t p.next end bs bs' = rw h (alike-same t p.next end bs) in (
        alike,
        λ i c at thread call. elim (own-of alike i c at thread call) [
          | inl mine ↦ absurd (none-some i (sym none ∙ mine))
          | inr in_ ↦ absurd (none-some i (sym (ap (λ (z : List ℕ). slice_get z in_.0) empty) ∙ in_.1))
        ],
      )
  ended-block (Some i) mine empty h = ⊎_elim
      (λ yes_.
      let e : EndsAt end h.0 h.1 = subst (λ (z : Bool). MatchBool z (EndsAt end h.0 h.1) (h.1 ≡ h.0)) yes_ h.3 in
      by (shows-end t p.next end h.0 h.1 (thread-of i h.0 mine h.2) (eqb-true h.0.call p.next yes_) e) (λ call. e.end))
      (λ no_.
      let e : h.1 ≡ h.0 = subst (λ (z : Bool). MatchBool z (EndsAt end h.0 h.1) (h.1 ≡ h.0)) no_ h.3 in
      by (subst (λ (z : Block K). Shows t p.next end h.0 z) (sym e) (shows-same t p.next end h.0))
      (λ call. absurd (eqb-false h.0.call p.next no_ (ap (λ z. z.call) (sym e) ∙ call))))
      (cases_Bool (h.0.call == p.next))
    where
      by : Shows t p.next end h.0 h.1 → (h.1.call ≡ p.next → h.1.end ≡ Some end) → Ended
      by shows ends =
          let alike : AreAlike t p.next end bs bs' = rw h.4 (alike-set t p.next end bs i h.0 h.1 h.2 shows) in (
            alike,
            λ j c at thread call. elim (own-of alike j c at thread call) [
              | inl its ↦
                  let same : j ≡ i = same_Some j i (sym its ∙ mine) in
                  let is : c ≡ h.1 =
                  same_Some c h.1
                  (sym at ∙ ap (λ z. slice_get z j) h.4 ∙ ap (λ k. slice_get (slice_set bs i h.1) k) same
                  ∙ slice_get-set_same bs i h.0 h.1 h.2) in
                  ap (λ z. z.end) is ∙ ends (ap (λ z. z.call) (sym is) ∙ call)
              | inr in_ ↦ absurd (none-some j (sym (ap (λ (z : List ℕ). slice_get z in_.0) empty) ∙ in_.1))
            ],
          )

  are : (j : ℕ) (b : Block K) → IsIn j p.visits → slice_get bs j ≡ Some b → (b.thread ≡ t) × (b.call ≡ p.next)
  are j b in_ at =
      let v = visits.are j in_ in
      let same : b ≡ v.block = same_Some b v.block (sym at ∙ v.listed) in
      (ap (λ z. z.thread) same ∙ v.thread, ap (λ z. z.call) same ∙ v.call)

  ended-visits : EndsVisits bs p.visits end bs' → (i : ℕ) → IsIn i p.visits → Ended
  ended-visits h i some =
      let alike = visits-alike t p.next end p.visits bs bs' are h in (
        alike,
        λ j c at thread call. elim (own-of alike j c at thread call) [
          | inl mine ↦ absurd (none-some j (sym (visits.are i some).apart ∙ mine))
          | inr in_ ↦ visits-end t p.next end p.visits bs bs' are h j in_ c at
        ],
      )

  pub ended-call : EndsCall bs p.block p.visits p.next end bs' → Ended
  ended-call h = by p.visits refl h
    where
      by : (vs : List ℕ) → p.visits ≡ vs → EndsCall bs p.block vs p.next end bs' → Ended
      by [] empty h = ended-block p.block refl empty h
      by (i ∷ vs) is h = ended-visits (subst (λ (z : List ℕ). EndsVisits bs z end bs') (sym is) h) i
          (0, ap (λ (z : List ℕ). slice_get z 0) is)

-- Blocks stay well placed when one of them goes on.
use Rattle.std.proofs.Common.{◌≡◌, ◌≢◌, ℕ, suc, ◌<◌, ◌≤◌, ◌==◌, ◌&&◌, ◌⊎◌, inl, inr, ⊎_elim, Bool, true, false}
use Rattle.std.proofs.Common.{if◌then◌else◌, IsSome, List, [], ◌∷◌, ◌++◌, length, Option, Some, slice_get, slice_set}
use Rattle.std.proofs.Common.{take, refl, ap, sym, ◌∙◌, subst, arith}
use Rattle.std.proofs.lemmas.Bool.{cases_lt}
use Rattle.std.proofs.lemmas.List.{take-append-le}
use Rattle.std.proofs.lemmas.Option.{same_Some, slice_get_within}
use Rattle.mapworld_calls.specs.declared.block.Block.{Block}
use Rattle.mapworld_calls.specs.declared.ask.Ask.{Ask}
use Rattle.mapworld_calls.specs.declared.ask.Ask.TheVariants as ask
use Rattle.mapworld_calls.specs.declared.ask.Walk.{Walk}
use Rattle.mapworld_calls.specs.Setup.{Setup, Laws, ask_at}
use Rattle.mapworld_calls.specs.Frame.{Grows}
use Rattle.mapworld_calls.specs.Replay.{done_keys, frame_of}
use Rattle.mapworld_calls.specs.declared.reply.Reply.{Reply}
use Rattle.mapworld_calls.specs.Programs.{stop_of}
use Rattle.mapworld_calls.specs.Agrees.{IsBelow, IsAtMost}
use Rattle.mapworld_calls.specs.Placed.{IsShownAnswered, IsShownStarted, done_by_walk, IsVisitDone, IsDoneWithin}
use Rattle.mapworld_calls.specs.Placed.{IsPlaced, IsEarlier, WellPlaced, StaysListed}
use Rattle.mapworld_calls.proofs.Lists.{slice_get-set_other, slice_get-set_cases, slice_get-push_below}
use Rattle.mapworld_calls.proofs.Lists.{slice_get-push_cases, sum_by-set}
use Rattle.mapworld_calls.proofs.Folds.{take-set_above, take-set_below, slice_get-take}
use Rattle.mapworld_calls.proofs.Frames.{turn-same}
use Rattle.mapworld_calls.proofs.Works.{keeps-to_shard}
use Rattle.mapworld_calls.proofs.Kept.{visit-shard, before-push}

both-false : (p q : Bool) → (p ≡ true → q ≡ true → ⊥) → (p && q) ≡ false
both-false true true un = absurd (un refl refl)
both-false true false un = refl
both-false false true un = refl
both-false false false un = refl

-- a block that isn't of the call counts as nothing of it
counts-nothing : {K V D T : Type 0} (w : Setup K V D T) (d : Block K) (t c : ℕ) → (d.thread ≡ t → d.call ≡ c → ⊥)
    → (if (d.thread == t) && (d.call == c) then length (done_keys w d) else 0) ≡ 0
counts-nothing w d t c other =
    ap (λ x. if x then length (done_keys w d) else 0)
    (both-false (d.thread == t) (d.call == c) (λ h e. other (grind (arith, h)) (grind (arith, e))))

module _ {K V D T A : Type 0} (w : Setup K V D T) (laws : Laws w) (steps : List ℕ) (started : ℕ → Option ℕ)
    (replies : List (Reply K V T A)) (bs : List (Block K)) (i : ℕ) (b c : Block K)
    (g : Grows (frame_of w) bs i b c) (on : StaysListed b c) (end : c.end ≡ b.end)
    (alone : (j : ℕ) (d : Block K) → i < j → slice_get bs j ≡ Some d → d.thread ≡ b.thread → d.call ≡ b.call → ⊥) where
  counts-same : (j t x : ℕ) → (j ≤ i) ⊎ (b.thread ≡ t → b.call ≡ x → ⊥) → done_by_walk w (take j (slice_set bs i c)) t x
      ≡ done_by_walk w (take j bs) t x
  counts-same j t x other = ⊎_elim within (λ le. ap (λ ds. done_by_walk w ds t x) (take-set_above bs i j c le))
      (cases_lt i j)
    where
      within : i < j → done_by_walk w (take j (slice_set bs i c)) t x ≡ done_by_walk w (take j bs) t x
      within lt =
          let no : b.thread ≡ t → b.call ≡ x → ⊥ = λ p q. ⊎_elim (λ le. absurd (omega arith)) (λ h. h p q) other in
          let sums = sum_by-set (λ d. if (d.thread == t) && (d.call == x) then length (done_keys w d) else 0)
          (take j bs) i b c (slice_get-take bs i j b lt g.listed) in
          let was = counts-nothing w b t x no in
          let is = counts-nothing w c t x (λ p q. no (sym on.thread ∙ p) (sym on.call ∙ q)) in
          ap (λ ds. done_by_walk w ds t x) (take-set_below bs i j c lt) ∙ omega (arith, sums, was, is)

  visit-placed : (j : ℕ) (d : Block K) (f : Walk D) → i ≢ j → slice_get bs j ≡ Some d
      → ask_at w d.thread d.call ≡ Some (ask.Walk f) → IsVisitDone w bs j d f → IsVisitDone w (slice_set bs i c) j d f
  visit-placed j d f ne at asked h =
      let apart : (n : ℕ) → n ≤ suc j → (n ≤ i) ⊎ (b.thread ≡ d.thread → b.call ≡ d.call → ⊥) = λ n le. ⊎_elim
      (λ lt. inr (λ p q. alone j d lt at (sym p) (sym q)))
      (λ ge. inl (omega (arith, ne)))
      (cases_lt i j) in
      record {
        within = h.within;
        routed = h.routed;
        once = h.once;
        there = λ n k here.
            subst (λ (o : Option (K × V)). IsSome o)
            (sym (turn-same (frame_of w) (keeps-to_shard w laws) bs i b c g j d (inr at) k
            (visit-shard w f d d.thread d.call asked refl refl (w.route k) (h.routed n k here))))
            (h.there n k here);
        in_turn = λ n same.
            let v = h.in_turn n same in
            let earlier = v.earlier in
            let other : i ≢ v.place = λ e.
            let is : v.block ≡ b = same_Some v.block b (sym v.listed ∙ ap (λ m. slice_get bs m) (sym e) ∙ g.listed) in
            alone j d (omega (arith, e)) at (sym v.thread ∙ ap (λ z. z.thread) is) (sym v.call ∙ ap (λ z. z.call) is) in
            record {
              place = v.place;
              block = v.block;
              listed = slice_get-set_other bs i v.place c other ∙ v.listed;
              earlier = v.earlier;
              thread = v.thread;
              call = v.call;
              visit = v.visit;
              whole = λ q route there.
                  v.whole q route
                  (subst (λ (o : Option (K × V)). IsSome o)
                  (turn-same (frame_of w) (keeps-to_shard w laws) bs i b c g v.place v.block (inr v.listed) q
                  (visit-shard w f v.block d.thread d.call asked v.thread v.call (w.route q) route))
                  there);
            };
        begins = subst (λ (n : ℕ). IsBelow (stop_of f) n) (sym (counts-same j d.thread d.call (apart j (omega arith))))
            h.begins;
        stops = subst (λ (n : ℕ). IsAtMost (stop_of f) n)
            (sym (counts-same (suc j) d.thread d.call (apart (suc j) (omega arith)))) h.stops;
      }

  done-placed : (j : ℕ) (d : Block K) (a : Ask K V D) → i ≢ j → slice_get bs j ≡ Some d
      → ask_at w d.thread d.call ≡ Some a → IsDoneWithin w started bs replies j d a
      → IsDoneWithin w started (slice_set bs i c) replies j d a
  done-placed j d (ask.Keyed k) ne at asked h = h
  done-placed j d (ask.Begin o) ne at asked h = h
  done-placed j d (ask.Held o) ne at asked h = h
  done-placed j d (ask.Walk f) ne at asked h = (visit-placed j d f ne at asked h.0, h.1)

  other-placed : (j : ℕ) (d : Block K) → i ≢ j → slice_get bs j ≡ Some d → IsPlaced w steps started bs replies j d
      → IsPlaced w steps started (slice_set bs i c) replies j d
  other-placed j d ne at h =
      record {
        ask = h.ask;
        asked = h.asked;
        done = done-placed j d h.ask ne at h.asked h.done;
        start = h.start;
        position = h.position;
        order = h.order;
        shown = h.shown;
      }

  shown-answered : IsShownAnswered replies b → IsShownAnswered replies c
  shown-answered h =
      record {
        place = h.place;
        reply = h.reply;
        listed = h.listed;
        thread = h.thread ∙ sym on.thread;
        call = h.call ∙ sym on.call;
        start = on.start ∙ h.start;
        end = end ∙ h.end;
        before = subst (λ (p : ℕ). p < h.reply.end) (sym on.position) h.before;
      }

  shown-started : IsShownStarted started replies b → IsShownStarted started replies c
  shown-started h =
      record {
        call = rw (on.thread, on.call) h.call;
        start = rw (on.thread, on.start) h.start;
        end = end ∙ h.end;
      }

  own-placed : IsPlaced w steps started bs replies i b
      → ((a : Ask K V D) → ask_at w b.thread b.call ≡ Some a → IsDoneWithin w started (slice_set bs i c) replies i c a)
      → IsPlaced w steps started (slice_set bs i c) replies i c
  own-placed h done =
      record {
        ask = h.ask;
        asked = rw (on.thread, on.call) h.asked;
        done = done h.ask h.asked;
        start = rw (on.thread, on.start) h.start;
        position = rw (on.thread, on.position) h.position;
        order = rw (on.start, on.position) h.order;
        shown = elim h.shown [ inl a ↦ inl (shown-answered a) | inr s ↦ inr (shown-started s) ];
      }

  as-was : (j : ℕ) (d : Block K) → slice_get (slice_set bs i c) j ≡ Some d → (e : Block K) × (slice_get bs j ≡ Some e)
      × (d.position ≡ e.position) × (d.thread ≡ e.thread) × (d.call ≡ e.call) × (d.visit ≡ e.visit)
  as-was j d at =
      elim (slice_get-set_cases bs i j b d c g.listed at) [
        | inl own ↦ (
          b,
          ap (λ n. slice_get bs n) own.0 ∙ g.listed,
          ap (λ z. z.position) own.1 ∙ on.position,
          ap (λ z. z.thread) own.1 ∙ on.thread,
          ap (λ z. z.call) own.1 ∙ on.call,
          ap (λ z. z.visit) own.1 ∙ on.visit,
        )
        | inr other ↦ (d, other.1, refl, refl, refl, refl)
      ]

  earlier-as_was : (d e d' e' : Block K) → d.call ≡ d'.call → d.visit ≡ d'.visit → e.call ≡ e'.call → e.visit ≡ e'.visit
      → IsEarlier d' e' → IsEarlier d e
  earlier-as_was d e d' e' p q r s h = rw (p, q, r, s) h

  -- one block goes on, and all stay well placed
  pub well-placed_grown : WellPlaced w steps started bs replies
      → ((a : Ask K V D) → ask_at w b.thread b.call ≡ Some a → IsDoneWithin w started (slice_set bs i c) replies i c a)
      → WellPlaced w steps started (slice_set bs i c) replies
  well-placed_grown h done =
      record {
        placed = λ j d at.
            elim (slice_get-set_cases bs i j b d c g.listed at) [
              | inl own ↦
                  subst (λ (n : ℕ). IsPlaced w steps started (slice_set bs i c) replies n d) (sym own.0)
                  (subst (λ (x : Block K). IsPlaced w steps started (slice_set bs i c) replies i x) (sym own.1)
                  (own-placed (h.placed i b g.listed) done))
              | inr other ↦ other-placed j d (λ e. other.0 (sym e)) other.1 (h.placed j d other.1)
            ];
        rising = λ j k d e hd he lt.
            let x = as-was j d hd in
            let y = as-was k e he in
            let old = h.rising j k x.0 y.0 x.1 y.1 lt in
            let p = x.2 in
            let q = y.2 in
            omega arith;
        own_order = λ j k d e hd he lt thread.
            let x = as-was j d hd in
            let y = as-was k e he in
            earlier-as_was d e x.0 y.0 x.4 x.5 y.4 y.5 (h.own_order j k x.0 y.0 x.1 y.1 lt (sym x.3 ∙ thread ∙ y.3));
        timed = h.timed;
        ends_rise = h.ends_rise;
        in_turn = h.in_turn;
      }

module _ {K V D T A : Type 0} (w : Setup K V D T) (steps : List ℕ) (started : ℕ → Option ℕ)
    (replies : List (Reply K V T A)) (bs : List (Block K)) (x : Block K) where
  visit-pushed : (j : ℕ) (d : Block K) (f : Walk D) → slice_get bs j ≡ Some d → IsVisitDone w bs j d f
      → IsVisitDone w (bs ++ x ∷ []) j d f
  visit-pushed j d f at h =
      let within : j < length bs = slice_get_within bs j d at in
      record {
        within = h.within;
        routed = h.routed;
        once = h.once;
        there = λ n k here. subst (λ (m : K → Option (K × V)). IsSome (m k)) (sym (before-push w bs x j d at))
            (h.there n k here);
        in_turn = λ n same.
            let v = h.in_turn n same in
            record {
              place = v.place;
              block = v.block;
              listed = slice_get-push_below bs v.place v.block x v.listed;
              earlier = v.earlier;
              thread = v.thread;
              call = v.call;
              visit = v.visit;
              whole = λ q route there.
                  v.whole q route (subst (λ (m : K → Option (K × V)). IsSome (m q))
                  (before-push w bs x v.place v.block v.listed) there);
            };
        begins = subst (λ (ds : List (Block K)). IsBelow (stop_of f) (done_by_walk w ds d.thread d.call))
            (sym (take-append-le j bs (x ∷ []) (omega arith))) h.begins;
        stops = subst (λ (ds : List (Block K)). IsAtMost (stop_of f) (done_by_walk w ds d.thread d.call))
            (sym (take-append-le (suc j) bs (x ∷ []) within)) h.stops;
      }

  done-pushed : (j : ℕ) (d : Block K) (a : Ask K V D) → slice_get bs j ≡ Some d → IsDoneWithin w started bs replies j d
      a → IsDoneWithin w started (bs ++ x ∷ []) replies j d a
  done-pushed j d (ask.Keyed k) at h = h
  done-pushed j d (ask.Begin o) at h = h
  done-pushed j d (ask.Held o) at h = h
  done-pushed j d (ask.Walk f) at h = (visit-pushed j d f at h.0, h.1)

  placed-pushed : (j : ℕ) (d : Block K) → slice_get bs j ≡ Some d → IsPlaced w steps started bs replies j d
      → IsPlaced w steps started (bs ++ x ∷ []) replies j d
  placed-pushed j d at h =
      record {
        ask = h.ask;
        asked = h.asked;
        done = done-pushed j d h.ask at h.done;
        start = h.start;
        position = h.position;
        order = h.order;
        shown = h.shown;
      }

  -- of two blocks the later one may be the new one
  two-cases : (j k : ℕ) (d e : Block K) → slice_get (bs ++ x ∷ []) j ≡ Some d → slice_get (bs ++ x ∷ []) k ≡ Some e
      → j < k → (slice_get bs j ≡ Some d) × ((slice_get bs k ≡ Some e) ⊎ (e ≡ x))
  two-cases j k d e hd he lt =
      elim (slice_get-push_cases bs k e x he) [
        | inl old ↦
            let bound : k < length bs = slice_get_within bs k e old in
            elim (slice_get-push_cases bs j d x hd)
            [ inl was ↦ (was, inl old) | inr new ↦ let here = new.0 in absurd (omega arith) ]
        | inr new ↦
            let at = new.0 in
            elim (slice_get-push_cases bs j d x hd)
            [ inl was ↦ (was, inr new.1) | inr same ↦ let here = same.0 in absurd (omega arith) ]
      ]

  -- a block is added, and all stay well placed
  pub well-placed_pushed : WellPlaced w steps started bs replies → IsPlaced w steps started (bs ++ x ∷ []) replies
      (length bs) x
      → ((i : ℕ) (b : Block K) → slice_get bs i ≡ Some b → b.position < x.position)
      → ((i : ℕ) (b : Block K) → slice_get bs i ≡ Some b → b.thread ≡ x.thread → IsEarlier b x)
      → WellPlaced w steps started (bs ++ x ∷ []) replies
  well-placed_pushed h placed later order =
      record {
        placed = λ j d at.
            elim (slice_get-push_cases bs j d x at) [
              | inl old ↦ placed-pushed j d old (h.placed j d old)
              | inr new ↦
                  subst (λ (n : ℕ). IsPlaced w steps started (bs ++ x ∷ []) replies n d) (sym new.0)
                  (subst (λ (y : Block K). IsPlaced w steps started (bs ++ x ∷ []) replies (length bs) y) (sym new.1)
                  placed)
            ];
        rising = λ j k d e hd he lt.
            let both = two-cases j k d e hd he lt in
            elim both.1 [
              | inl old ↦ h.rising j k d e both.0 old lt
              | inr new ↦ subst
                  (λ (y : Block K). d.position < y.position) (sym new) (later j d both.0)
            ];
        own_order = λ j k d e hd he lt thread.
            let both = two-cases j k d e hd he lt in
            elim both.1 [
              | inl old ↦ h.own_order j k d e both.0 old lt thread
              | inr new ↦ subst (λ (y : Block K). IsEarlier d y) (sym new)
                  (order j d both.0 (thread ∙ ap (λ z. z.thread) new))
            ];
        timed = h.timed;
        ends_rise = h.ends_rise;
        in_turn = h.in_turn;
      }

-- Blocks stay well placed as steps, replies and blocks are added.
use Rattle.std.proofs.Common.{◌≡◌, ◌≢◌, ℕ, suc, ◌+◌, ◌-◌, ◌<◌, ◌⊎◌, inl, inr, ⊎_elim, Bool, true, false, List, [], ◌∷◌}
use Rattle.std.proofs.Common.{◌++◌, length, take, Option, Some, None, IsSome, slice_get, slice_set, count_by, cond}
use Rattle.std.proofs.Common.{◌==◌, refl, ap, sym, ◌∙◌, subst, arith}
use Rattle.std.proofs.lemmas.Bool.{cases_eq, eq-eqb, ne_eqb}
use Rattle.std.proofs.lemmas.Option.{none-some, same_Some, slice_get_within, get_or_from_slice_get}
use Rattle.std.proofs.lemmas.List.Sums.{count_by_more_yes, sum_by-take-le}
use Rattle.std.proofs.lemmas.List.{take-append-le}
use Rattle.std.proofs.Math.Seq.{take-append_seam}
use Rattle.std.specs.Option.{option_and_then}
use Rattle.mapworld_calls.specs.declared.ask.Ask.{Ask}
use Rattle.mapworld_calls.specs.declared.ask.Ask.TheVariants as ask
use Rattle.mapworld_calls.specs.declared.ask.Walk.{Walk}
use Rattle.mapworld_calls.specs.declared.block.Block.{Block}
use Rattle.mapworld_calls.specs.declared.reply.Reply.{Reply}
use Rattle.mapworld_calls.specs.Programs.{key_of, stop_of}
use Rattle.mapworld_calls.specs.Setup.{Setup, Laws, ask_at}
use Rattle.mapworld_calls.specs.Frame.{Grows}
use Rattle.mapworld_calls.specs.Replay.{block_key, frame_of}
use Rattle.mapworld_calls.specs.Agrees.{IsWhole, IsBelow, IsAtMost}
use Rattle.mapworld_calls.specs.Laws.{IsLastOfCall}
use Rattle.mapworld_calls.specs.Placed.{IsStepOf, answered_of, HasStarted, IsShownAnswered, IsShownStarted}
use Rattle.mapworld_calls.specs.Placed.{IsSessionDone, done_by_walk, IsVisitedBefore, IsVisitDone, IsDoneWithin}
use Rattle.mapworld_calls.specs.Placed.{IsPlaced, IsTimed, IsEarlier, WellPlaced, StaysListed}
use Rattle.mapworld_calls.proofs.Lists.{slice_get-push_below, slice_get-push_at, slice_get-push_cases, count_by-push}
use Rattle.mapworld_calls.proofs.Placing.{well-placed_grown, well-placed_pushed}
use Rattle.mapworld_state.proofs.InvariantFacts.Alike.{Shows, AreAlike, alike-was, alike-comes, keys-alike}
use Rattle.mapworld_state.proofs.InvariantFacts.Alike.{before-alike, counts-alike}
use Rattle.mapworld_state.proofs.InvariantFacts.Others.{IsStepOf-push}

IsSome-of : {X : Type 0} (o : Option X) → IsSome o → (y : X) × (o ≡ Some y)
IsSome-of None h = absurd cc
IsSome-of (Some y) h = (y, refl)

pub IsStepOf-below : (steps : List ℕ) (t n : ℕ) → IsStepOf steps t n → n < length steps + 1
IsStepOf-below steps t n h = let lt : n - 1 < length steps = slice_get_within steps (n - 1) t h.1 in let pos = h.0 in
    omega arith

pub IsStepOf-next : (steps : List ℕ) (t : ℕ) → IsStepOf (steps ++ t ∷ []) t (length steps + 1)
IsStepOf-next steps t =
    (omega arith, let same : length steps + 1 - 1 ≡ length steps = omega arith in rw same (slice_get-push_at steps t))

module _ {K V D T A : Type 0} (x : Setup K V D T) (steps : List ℕ) (s : ℕ) (started started' : ℕ → Option ℕ)
    (replies replies' : List (Reply K V T A)) where
  -- what has started stays so
  abbrev pub StaysStarted : Type 0
  StaysStarted = (t c : ℕ) → HasStarted started replies t c → HasStarted started' replies' t c

  pub session-done : (b c : Block K) → StaysStarted → c.thread ≡ b.thread → c.call ≡ b.call
      → c.done.value ≡ b.done.value → IsSessionDone x started replies b → IsSessionDone x started' replies' c
  session-done b c mono thread call done h = record {
    opened = rw done h.opened;
    calls = λ n pos lt.
        let o = h.calls n pos (subst (λ (m : ℕ). n < m) done lt) in
        record {
          held = o.held;
          asked = rw (thread, call) o.asked;
          session = rw (thread, call) o.session;
          begun = rw (thread, call) (mono b.thread (b.call + n) o.begun);
        };
  }

  done-kept : (bs : List (Block K)) (i : ℕ) (b : Block K) (a : Ask K V D) → StaysStarted
      → IsDoneWithin x started bs replies i b a → IsDoneWithin x started' bs replies' i b a
  done-kept bs i b (ask.Keyed k) mono h = h
  done-kept bs i b (ask.Begin g) mono h = (session-done b b mono refl refl refl h.0, h.1, h.2)
  done-kept bs i b (ask.Held g) mono h = h
  done-kept bs i b (ask.Walk f) mono h = h

  placed-kept : (bs : List (Block K)) (i : ℕ) (b : Block K) → StaysStarted → IsShownAnswered replies' b
      ⊎ IsShownStarted started' replies' b → IsPlaced x steps started bs replies i b
      → IsPlaced x (steps ++ s ∷ []) started' bs replies' i b
  placed-kept bs i b mono shown h = record {
    ask = h.ask;
    asked = h.asked;
    done = done-kept bs i b h.ask mono h.done;
    start = IsStepOf-push steps s b.thread b.start h.start;
    position = IsStepOf-push steps s b.thread b.position h.position;
    order = h.order;
    shown = shown;
  }

  pub timed-kept : (r : Reply K V T A) → IsTimed steps r → IsTimed (steps ++ s ∷ []) r
  timed-kept r h = record {
    start = IsStepOf-push steps s r.thread r.start h.start;
    end = IsStepOf-push steps s r.thread r.end h.end;
    order = h.order;
  }

-- a step that adds no reply, behind which a call that had started still has
module _ {K V D T A : Type 0} (x : Setup K V D T) (steps : List ℕ) (s : ℕ) (started started' : ℕ → Option ℕ)
    (bs : List (Block K)) (replies : List (Reply K V T A))
    (stays : (t n : ℕ) → started t ≡ Some n → started' t ≡ Some n) where
  mono : StaysStarted x steps s started started' replies replies
  mono t c h = elim h [
    | inl old ↦ inl old
    | inr now ↦ inr (now.0, let o = IsSome-of (started t) now.1 in rw (stays t o.0 o.1) refl)
  ]

  shown-kept : (b : Block K) → IsShownAnswered replies b ⊎ IsShownStarted started replies b → IsShownAnswered replies b
      ⊎ IsShownStarted started' replies b
  shown-kept b h = elim h [
    | inl old ↦ inl old
    | inr now ↦ inr
        (record { call = now.call; start = stays b.thread b.start now.start; end = now.end })
  ]

  pub placed-same : WellPlaced x steps started bs replies → WellPlaced x (steps ++ s ∷ []) started' bs replies
  placed-same h = record {
    placed = λ i b at. let p = h.placed i b at in placed-kept x steps s started started' replies replies bs i b mono
        (shown-kept b p.shown) p;
    rising = h.rising;
    own_order = h.own_order;
    timed = λ i r at. timed-kept x steps s started started' replies replies r (h.timed i r at);
    ends_rise = h.ends_rise;
    in_turn = h.in_turn;
  }

  -- without a step
  pub placed-silent : WellPlaced x steps started bs replies → WellPlaced x steps started' bs replies
  placed-silent h = record {
    placed = λ i b at.
        let p = h.placed i b at in
        record {
          ask = p.ask;
          asked = p.asked;
          done = done-kept x steps s started started' replies replies bs i b p.ask mono p.done;
          start = p.start;
          position = p.position;
          order = p.order;
          shown = shown-kept b p.shown;
        };
    rising = h.rising;
    own_order = h.own_order;
    timed = h.timed;
    ends_rise = h.ends_rise;
    in_turn = h.in_turn;
  }

  -- one block, the last one of its call, has done more
  pub placed-grown : Laws x → (i : ℕ) (b c : Block K) → Grows (frame_of x) bs i b c → StaysListed b c → c.end ≡ b.end
      → IsLastOfCall bs i b
      → ((a : Ask K V D) → ask_at x b.thread b.call ≡ Some a → IsDoneWithin x started bs replies i b a
      → IsDoneWithin x started' (slice_set bs i c) replies i c a)
      → WellPlaced x steps started bs replies → WellPlaced x (steps ++ s ∷ []) started' (slice_set bs i c) replies
  placed-grown laws i b c g on end alone done h =
      well-placed_grown x laws (steps ++ s ∷ []) started' replies bs i b c g on end alone (placed-same h) (λ a asked.
      let p = h.placed i b g.listed in
      done a asked (subst (λ (z : Ask K V D). IsDoneWithin x started bs replies i b z)
      (same_Some p.ask a (sym p.asked ∙ asked)) p.done))

  -- one block is added, at this step
  pub placed-push : (d : Block K) → IsPlaced x (steps ++ s ∷ []) started' (bs ++ d ∷ []) replies (length bs) d
      → d.position ≡ length steps + 1
      → ((i : ℕ) (b : Block K) → slice_get bs i ≡ Some b → b.thread ≡ d.thread → IsEarlier b d)
      → WellPlaced x steps started bs replies → WellPlaced x (steps ++ s ∷ []) started' (bs ++ d ∷ []) replies
  placed-push d new position later h =
      well-placed_pushed x (steps ++ s ∷ []) started' replies bs d (placed-same h) new
      (λ i b at. let p = h.placed i b at in rw position (IsStepOf-below steps b.thread b.position p.position)) later

-- a block with a key is the only one of its call
module _ {K V D T A : Type 0} (x : Setup K V D T) (steps : List ℕ) (started : ℕ → Option ℕ) (bs : List (Block K))
    (replies : List (Reply K V T A)) (h : WellPlaced x steps started bs replies) where
  first-visit : (i : ℕ) (b : Block K) (a : Ask K V D) (key : K) → key_of a ≡ Some key
      → IsDoneWithin x started bs replies i b a → b.visit ≡ 0
  first-visit i b (ask.Keyed k) key is done = done.1
  first-visit i b (ask.Begin g) key is done = done.1
  first-visit i b (ask.Held g) key is done = absurd done
  first-visit i b (ask.Walk f) key is done = absurd (none-some key is)

  key-visit : (i : ℕ) (b : Block K) (key : K) → block_key x b ≡ Some key → slice_get bs i ≡ Some b → b.visit ≡ 0
  key-visit i b key is at = let p = h.placed i b at in
      first-visit i b p.ask key (sym (ap (option_and_then key_of) p.asked) ∙ is) p.done

  pub key-alone : (i : ℕ) (b : Block K) (key : K) → block_key x b ≡ Some key → slice_get bs i ≡ Some b
      → IsLastOfCall bs i b
  key-alone i b key is at j d lt here thread call =
      let first = key-visit i b key is at in
      let too = key-visit j d key (let same : block_key x d ≡ block_key x b = rw (thread, call) refl in same ∙ is) here
      in
      ⊎_elim (λ less. omega (arith, less, call)) (λ both. let less = both.1 in omega (arith, first, too, less))
      (h.own_order i j b d at here lt (sym thread))

pub count_by-before : {X : Type 0} (xs : List X) (p : X → Bool) (j : ℕ) (q : X) → slice_get xs j ≡ Some q → p q ≡ true
    → count_by p (take j xs) < count_by p xs
count_by-before xs p j q at passes =
    let lt : j < length xs = slice_get_within xs j q at in
    let more = count_by_more_yes p xs j q lt (ap p (get_or_from_slice_get xs j q q at) ∙ passes) in
    let le = sum_by-take-le (λ z. cond (p z) 1 0) xs (j + 1) in
    omega (arith, more, le)

module _ {K V T A : Type 0} (replies : List (Reply K V T A)) (r : Reply K V T A) where
  pub answered_of-other : (t : ℕ) → r.thread ≢ t → answered_of (replies ++ r ∷ []) t ≡ answered_of replies t
  answered_of-other t ne =
      let e : (r.thread == t) ≡ false = ne_eqb r.thread t ne in
      count_by-push (λ z. z.thread == t) replies r ∙ rw e (omega arith)

  pub answered_of-own : answered_of (replies ++ r ∷ []) r.thread ≡ answered_of replies r.thread + 1
  answered_of-own =
      let e : (r.thread == r.thread) ≡ true = eq-eqb r.thread r.thread refl in
      count_by-push (λ z. z.thread == r.thread) replies r ∙ rw e

-- an answer: one reply is added, of the thread's call that had started, and the blocks of that call, if it has any,
-- show its end
module _ {K V D T A : Type 0} (x : Setup K V D T) (steps : List ℕ) (started started' : ℕ → Option ℕ)
    (bs bs' : List (Block K)) (replies : List (Reply K V T A)) (r : Reply K V T A)
    (others : (t : ℕ) → t ≢ r.thread → started' t ≡ started t)
    (begun : started r.thread ≡ Some r.start)
    (start_is : IsStepOf steps r.thread r.start)
    (number : r.end ≡ length steps + 1)
    (turn : r.call ≡ answered_of replies r.thread)
    -- each block stands where it stood; those of the answered call show its end, and all others stay
    (alike : AreAlike r.thread r.call r.end bs bs')
    (all : (i : ℕ) (c : Block K) → slice_get bs' i ≡ Some c → c.thread ≡ r.thread → c.call ≡ r.call
    → c.end ≡ Some r.end)
    (whole : (i : ℕ) (b : Block K) (k : _) → slice_get bs i ≡ Some b → b.thread ≡ r.thread → b.call ≡ r.call
    → ask_at x b.thread b.call ≡ Some (ask.Keyed k) → b.done.value ≡ 1)
    (h : WellPlaced x steps started bs replies) where
  abbrev pub Shown : Block K → Block K → Type 0
  Shown b c = Shows r.thread r.call r.end b c

  was : (i : ℕ) (c : Block K) → slice_get bs' i ≡ Some c → (b : Block K) × (slice_get bs i ≡ Some b) × Shown b c
  was i c at = alike-was r.thread r.call r.end bs bs' alike i c at

  count-other : (t : ℕ) → t ≢ r.thread → answered_of (replies ++ r ∷ []) t ≡ answered_of replies t
  count-other t ne = answered_of-other replies r t (λ e. ne (sym e))

  mono-own : (c : ℕ) → HasStarted started replies r.thread c → HasStarted started' (replies ++ r ∷ []) r.thread c
  mono-own c g =
      let more = answered_of-own replies r in
      inl (elim g [ inl old ↦ omega (arith, more) | inr now ↦ let e = now.0 in omega (arith, more) ])

  mono-answer : StaysStarted x steps r.thread started started' replies (replies ++ r ∷ [])
  mono-answer t c g = ⊎_elim
      (λ own. subst (λ (u : ℕ). HasStarted started' (replies ++ r ∷ []) u c) (sym own)
      (mono-own c (subst (λ (u : ℕ). HasStarted started replies u c) own g)))
      (λ ne. elim g [
        | inl old ↦ inl (rw (count-other t ne) old)
        | inr now ↦ inr
            (rw (count-other t ne) now.0, rw (others t ne) now.1)
      ])
      (cases_eq t r.thread)

  -- the answered call's block is shown by the new reply
  shown-new : (i : ℕ) (b c : Block K) → slice_get bs i ≡ Some b → Shown b c → b.thread ≡ r.thread → b.call ≡ r.call
      → c.end ≡ Some r.end → IsShownAnswered (replies ++ r ∷ []) c
  shown-new i b c at same thread call end =
      let p = h.placed i b at in
      let below = IsStepOf-below steps b.thread b.position p.position in
      record {
        place = length replies;
        reply = r;
        listed = slice_get-push_at replies r;
        thread = sym thread ∙ sym same.thread;
        call = sym call ∙ sym same.call;
        start = same.start ∙ elim p.shown as (λ z. b.start ≡ r.start) [
          | inl old ↦ absurd (let lt = in-turn-below old.place old.reply old.listed (old.thread ∙ thread) in let e =
              old.call ∙ call ∙ turn in omega arith)
          | inr now ↦ same_Some b.start r.start (sym now.start ∙ ap started thread ∙ begun)
        ];
        end = end;
        before = rw (same.position, number) below;
      }
    where
      in-turn-below : (j : ℕ) (q : Reply K V T A) → slice_get replies j ≡ Some q → q.thread ≡ r.thread
          → q.call < answered_of replies r.thread
      in-turn-below j q at own =
          rw (h.in_turn j q at, own)
          (count_by-before replies (λ z. z.thread == r.thread) j q at (eq-eqb q.thread r.thread own))

  shown-before : (b : Block K) → IsShownAnswered replies b → IsShownAnswered (replies ++ r ∷ []) b
  shown-before b old = record {
    place = old.place;
    reply = old.reply;
    listed = slice_get-push_below replies old.place old.reply r old.listed;
    thread = old.thread;
    call = old.call;
    start = old.start;
    end = old.end;
    before = old.before;
  }

  -- and any other by what showed it
  shown-other : (b : Block K) → (b.thread ≡ r.thread → b.call ≡ r.call → ⊥) → IsShownAnswered replies b
      ⊎ IsShownStarted started replies b
      → IsShownAnswered (replies ++ r ∷ []) b ⊎ IsShownStarted started' (replies ++ r ∷ []) b
  shown-other b apart shown = elim shown [
    | inl old ↦ inl (shown-before b old)
    | inr now ↦
        let ne : b.thread ≢ r.thread = λ same. apart same (now.call ∙ ap (answered_of replies) same ∙ sym turn) in
        inr (record {
          call = now.call ∙ sym (count-other b.thread ne);
          start = others b.thread ne ∙ now.start;
          end = now.end;
        })
  ]

  shown-answer : (i : ℕ) (c : Block K) → slice_get bs' i ≡ Some c → IsShownAnswered (replies ++ r ∷ []) c
      ⊎ IsShownStarted started' (replies ++ r ∷ []) c
  shown-answer i c at =
      let o = was i c at in
      ⊎_elim
      (λ own. inl (shown-new i o.0 c o.1 o.2 own.0 own.1 own.2))
      (λ same. ⊎_elim
      (λ own. inl (shown-new i o.0 c o.1 o.2 own.0 own.1 (all i c at (o.2.thread ∙ own.0) (o.2.call ∙ own.1))))
      (λ (apart : o.0.thread ≡ r.thread → o.0.call ≡ r.call → ⊥).
      subst (λ (z : Block K). IsShownAnswered (replies ++ r ∷ []) z ⊎ IsShownStarted started' (replies ++ r ∷ []) z)
      (sym same) (shown-other o.0 apart (h.placed i o.0 o.1).shown))
      (own-or-not o.0))
      o.2.ended
    where
      own-or-not : (b : Block K) → ((b.thread ≡ r.thread) × (b.call ≡ r.call))
          ⊎ (b.thread ≡ r.thread → b.call ≡ r.call → ⊥)
      own-or-not b = ⊎_elim
          (λ thread. ⊎_elim (λ call. inl (thread, call)) (λ ne. inr (λ u c. ne c)) (cases_eq b.call r.call))
          (λ ne. inr (λ u c. ne u))
          (cases_eq b.thread r.thread)

  whole-alike : (i j : ℕ) (b c : Block K) → Shown b c → IsWhole x bs j b → IsWhole x bs' j c
  whole-alike i j b c same w q on there =
      rw (keys-alike x r.thread r.call r.end b c same)
      (w q (on ∙ same.visit)
      (subst (λ (o : Option (K × V)). IsSome o) (before-alike x r.thread r.call r.end bs bs' alike j q) there))

  before-answer : (i : ℕ) (b c : Block K) → Shown b c → (m : ℕ) → IsVisitedBefore x bs i b m
      → IsVisitedBefore x bs' i c m
  before-answer i b c same m v =
      let n = alike-comes r.thread r.call r.end bs bs' alike v.place v.block v.listed in
      record {
        place = v.place;
        block = n.0;
        listed = n.1;
        earlier = v.earlier;
        thread = n.2.thread ∙ v.thread ∙ sym same.thread;
        call = n.2.call ∙ v.call ∙ sym same.call;
        visit = n.2.visit ∙ v.visit;
        whole = whole-alike i v.place v.block n.0 n.2 v.whole;
      }

  visit-answer : (i : ℕ) (b c : Block K) (f : Walk D) → Shown b c → IsVisitDone x bs i b f → IsVisitDone x bs' i c f
  visit-answer i b c f same g =
      let counts = λ (m : ℕ). counts-alike x r.thread r.call r.end bs bs' alike m c.thread c.call
      ∙ (let e : done_by_walk x (take m bs) c.thread c.call ≡ done_by_walk x (take m bs) b.thread b.call =
      rw (same.thread, same.call) refl in e) in
      let at = λ (m : ℕ) (k : K) (here : slice_get c.visited.items m ≡ Some k).
      (let e : slice_get b.visited.items m ≡ Some k = ap (λ ks. slice_get ks m) (sym same.visited) ∙ here in e) in
      record {
        within = rw same.visit g.within;
        routed = λ m k here. g.routed m k (at m k here) ∙ sym same.visit;
        once = λ m l j k hj hk e. g.once m l j k (at m j hj) (at l k hk) e;
        there = λ m k here. subst (λ (o : Option (K × V)). IsSome o)
            (sym (before-alike x r.thread r.call r.end bs bs' alike i k)) (g.there m k (at m k here));
        in_turn = λ m is. before-answer i b c same m (g.in_turn m (sym same.visit ∙ is));
        begins = subst (λ (m : ℕ). IsBelow (stop_of f) m) (sym (counts i)) g.begins;
        stops = subst (λ (m : ℕ). IsAtMost (stop_of f) m) (sym (counts (suc i))) g.stops;
      }

  -- what a block has done is within its call
  done-answer : (i : ℕ) (b c : Block K) → slice_get bs i ≡ Some b → Shown b c → (a : Ask K V D)
      → ask_at x b.thread b.call ≡ Some a → IsDoneWithin x started bs replies i b a
      → IsDoneWithin x started' bs' (replies ++ r ∷ []) i c a
  done-answer i b c at same (ask.Keyed k) asked g = (
    record {
      once = rw same.done g.0.once;
      whole = λ e. same.done
          ∙ elim same.ended [
            | inl own ↦ whole i b k at own.0 own.1 asked
            | inr is ↦ g.0.whole
                (subst (λ (z : Block K). IsSome z.end) is e)
          ];
    },
    same.visit ∙ g.1,
    same.visited ∙ g.2,
  )
  done-answer i b c at same (ask.Begin q) asked g = (
    session-done x steps r.thread started started' replies (replies ++ r ∷ []) b c mono-answer same.thread same.call
        same.done g.0,
    same.visit ∙ g.1,
    same.visited ∙ g.2,
  )
  done-answer i b c at same (ask.Held q) asked g = g
  done-answer i b c at same (ask.Walk f) asked g = (visit-answer i b c f same g.0, same.done ∙ g.1)

  placed-one : (i : ℕ) (b c : Block K) → slice_get bs i ≡ Some b → Shown b c → IsShownAnswered (replies ++ r ∷ []) c
      ⊎ IsShownStarted started' (replies ++ r ∷ []) c → IsPlaced x steps started bs replies i b
      → IsPlaced x (steps ++ r.thread ∷ []) started' bs' (replies ++ r ∷ []) i c
  placed-one i b c at same shown p = record {
    ask = p.ask;
    asked = rw (same.thread, same.call) p.asked;
    done = done-answer i b c at same p.ask p.asked p.done;
    start = rw (same.thread, same.start) (IsStepOf-push steps r.thread b.thread b.start p.start);
    position = rw (same.thread, same.position) (IsStepOf-push steps r.thread b.thread b.position p.position);
    order = rw (same.start, same.position) p.order;
    shown = shown;
  }

  earlier-answer : (b c d e : Block K) → Shown b d → Shown c e → IsEarlier b c → IsEarlier d e
  earlier-answer b c d e f g h = rw (f.call, g.call, f.visit, g.visit) h

  pub placed-answer : WellPlaced x (steps ++ r.thread ∷ []) started' bs' (replies ++ r ∷ [])
  placed-answer = record {
    placed = λ i c at. let o = was i c at in placed-one i o.0 c o.1 o.2 (shown-answer i c at) (h.placed i o.0 o.1);
    rising = λ i j b c hb hc lt. let ob = was i b hb in let oc = was j c hc in
        later ob.0 oc.0 b c ob.2 oc.2 (h.rising i j ob.0 oc.0 ob.1 oc.1 lt);
    own_order = λ i j b c hb hc lt thread.
        let ob = was i b hb in let oc = was j c hc in
        earlier-answer ob.0 oc.0 b c ob.2 oc.2
        (h.own_order i j ob.0 oc.0 ob.1 oc.1 lt (sym ob.2.thread ∙ thread ∙ oc.2.thread));
    timed = λ i q at. ⊎_elim
        (λ old. timed-kept x steps r.thread started started' replies (replies ++ r ∷ []) q (h.timed i q old))
        (λ new. subst (λ (z : Reply K V T A). IsTimed (steps ++ r.thread ∷ []) z) (sym new.1) timed-new)
        (slice_get-push_cases replies i q r at);
    ends_rise = λ i j q s hq hs lt. ⊎_elim
        (λ old. ⊎_elim (λ older. h.ends_rise i j q s older old lt)
        (λ own. let within : j < length replies = slice_get_within replies j s old in let here = own.0 in
        absurd (omega arith)) (slice_get-push_cases replies i q r hq))
        (λ own. ⊎_elim
        (λ older. let p = h.timed i q older in let below = IsStepOf-below steps q.thread q.end p.end in
        rw (own.1, number) below)
        (λ both. let hi = both.0 in let hj = own.0 in absurd (omega arith))
        (slice_get-push_cases replies i q r hq))
        (slice_get-push_cases replies j s r hs);
    in_turn = λ i q at. ⊎_elim
        (λ old. let lt : i < length replies = slice_get_within replies i q old in
        rw (take-append-le i replies (r ∷ []) (omega arith)) (h.in_turn i q old))
        (λ new. rw (new.0, take-append_seam replies (r ∷ []), new.1) turn)
        (slice_get-push_cases replies i q r at);
  }
    where
      later : (b c d e : Block K) → Shown b d → Shown c e → b.position < c.position → d.position < e.position
      later b c d e f g lt = rw (f.position, g.position) lt

      timed-new : IsTimed (steps ++ r.thread ∷ []) r
      timed-new = record {
        start = IsStepOf-push steps r.thread r.thread r.start start_is;
        end = rw number (IsStepOf-next steps r.thread);
        order = let lt = IsStepOf-below steps r.thread r.start start_is in rw number lt;
      }

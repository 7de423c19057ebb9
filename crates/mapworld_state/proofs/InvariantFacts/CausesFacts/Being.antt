-- On which shard a call of a thread is, by where the thread stands in a sound world.
use Rattle.std.proofs.Common.{◌≡◌, ℕ, zero, suc, ◌+◌, ◌-◌, ◌<◌, ◌≤◌, inl, inr, Bool, true, false, cond, ◌==◌, List, []}
use Rattle.std.proofs.Common.{◌∷◌, length, take, count_by, Option, Some, None, option_and_then, slice_get, IsTrue, refl}
use Rattle.std.proofs.Common.{sym, ap, ◌∙◌, subst, arith}
use Rattle.std.proofs.lemmas.Bool.{eqb-true, false≢true}
use Rattle.std.proofs.lemmas.List.{length-map}
use Rattle.std.proofs.lemmas.List.Sums.{sum_by-cons}
use Rattle.std.proofs.lemmas.Option.{none-some, same_Some, slice_get_cases, slice_get_within}
use Rattle.mapworld_calls.specs.declared.ask.Ask.{Ask}
use Rattle.mapworld_calls.specs.declared.ask.Ask.TheVariants as ask
use Rattle.mapworld_calls.specs.declared.ask.Begin.{Begin}
use Rattle.mapworld_calls.specs.declared.ask.Held.{Held}
use Rattle.mapworld_calls.specs.declared.ask.Walk.{Walk}
use Rattle.mapworld_calls.specs.declared.reply.Reply.{Reply}
use Rattle.mapworld_calls.specs.Programs.{opening_key}
use Rattle.mapworld_calls.specs.Setup.{Setup, ask_at, session_of}
use Rattle.mapworld_calls.specs.Calls.{At, free, shared, exclusive, occupied, vacant, held_leaves, is_free}
use Rattle.mapworld_calls.specs.Replay.{after_ask, before, found, reached}
use Rattle.mapworld_calls.specs.Placed.{answered_of, IsStepOf}
use Rattle.mapworld_calls.specs.Shards.{IsBeforeAnswer, IsOnShard, StartedAt}
use Rattle.mapworld_calls.proofs.Replays.{found-is}
use Rattle.mapworld_state.specs.declared.step.Step.{Step}
use Rattle.mapworld_state.specs.declared.holds.Hold.{Hold}
use Rattle.mapworld_state.specs.declared.holds.Mode.{Mode}
use Rattle.mapworld_state.specs.declared.holds.Mode.TheVariants.{Exclusive}
use Rattle.mapworld_state.specs.declared.place.Guard.{Guard}
use Rattle.mapworld_state.specs.declared.place.Guard.TheVariants as guard
use Rattle.mapworld_state.specs.declared.place.Way.{Way}
use Rattle.mapworld_state.specs.declared.place.Way.TheVariants as way
use Rattle.mapworld_state.specs.declared.place.Phase.TheVariants as phase
use Rattle.mapworld_state.specs.declared.place.Request.{Request}
use Rattle.mapworld_state.specs.declared.place.Request.TheVariants as request
use Rattle.mapworld_state.specs.Places.{Place}
use Rattle.mapworld_state.specs.Moves.{ask_of, lent, request_key, way_mode}
use Rattle.mapworld_state.specs.Sound.{GuardIs, HasSession, HoldsByGuard, HoldsShard, IsInCall, IsReady, Sound, Stands}
use Rattle.mapworld_state.specs.State.{State, next_step, started_of, threads_of}
use Rattle.mapworld_state.proofs.HoldsTable.{none-there}
use Rattle.mapworld_state.proofs.InvariantFacts.Building.{claim-at, reply-below, walks-at}
use Rattle.mapworld_state.proofs.InvariantFacts.Growing.{session-of-guard}
use Rattle.mapworld_state.proofs.InvariantFacts.Others.{opening-key_of, session-opens}
use Rattle.mapworld_state.specs.Invariant.Causes.Causes.{IsOnNow}
use Rattle.mapworld_state.proofs.InvariantFacts.CausesFacts.Sessions.{one-block, one-place, opened}

-- of one hold each has its shard
pub one-hold : (holds : List Hold) (i : ℕ) (h hold : Hold) → holds ≡ hold ∷ [] → slice_get holds i ≡ Some h
    → h.shard ≡ hold.shard
one-hold holds i h hold is at = by i (ap (λ z. slice_get z i) (sym is) ∙ at)
  where
    by : (i : ℕ) → slice_get (hold ∷ []) i ≡ Some h → h.shard ≡ hold.shard
    by zero e = ap (λ z. z.shard) (sym (same_Some hold h e))
    by (suc i) e = absurd (none-some h e)

-- the c-th of those that pass
record Nth {X : Type 0} (p : X → Bool) (xs : List X) (c : ℕ) : Type 0 where
  place : ℕ
  item : X
  listed : slice_get xs place ≡ Some item
  passes : p item ≡ true
  number : count_by p (take place xs) ≡ c

-- one more in front
counts-one : {X : Type 0} (p : X → Bool) (y : X) (ys : List X) (b : Bool) → p y ≡ b
    → count_by p (y ∷ ys) ≡ cond b 1 0 + count_by p ys
counts-one p y ys b e = sum_by-cons (λ z. cond (p z) 1 0) y ys ∙ ap (λ z. cond z 1 0 + count_by p ys) e

nth-passing : {X : Type 0} (p : X → Bool) (xs : List X) (c : ℕ) → c < count_by p xs → Nth p xs c
nth-passing p [] c lt = absurd (omega (arith, lt))
nth-passing p (y ∷ ys) c lt = by (λ d le. nth-passing p ys d le) (p y) refl c lt
  where
    later : (b : Bool) → p y ≡ b → (c : ℕ) → Nth p ys c → Nth p (y ∷ ys) (cond b 1 0 + c)
    later b e c n = record {
      place = suc n.place;
      item = n.item;
      listed = n.listed;
      passes = n.passes;
      number = counts-one p y (take n.place ys) b e ∙ ap (λ z. cond b 1 0 + z) n.number;
    }

    by : ((d : ℕ) → d < count_by p ys → Nth p ys d) → (b : Bool) → p y ≡ b → (c : ℕ) → c < count_by p (y ∷ ys)
        → Nth p (y ∷ ys) c
    by more false e c lt = let n : 0 + c ≡ c = omega arith in
        subst (Nth p (y ∷ ys)) n (later false e c (more c (omega (arith, lt, counts-one p y ys false e))))
    by more true e zero lt = record { place = 0; item = y; listed = refl; passes = e; number = refl }
    by more true e (suc c) lt = let n : 1 + c ≡ suc c = omega arith in
        subst (Nth p (y ∷ ys)) n (later true e c (more c (omega (arith, lt, counts-one p y ys true e))))

-- the number of a step that was made is below the next one's
module _ {K V S D T A : Type 0} (x : Setup K V D T) (w : State K V S D T A) (sound : Sound x w) where
  pub step-low : (t n : ℕ) → IsStepOf (threads_of w) t n → n < next_step w
  step-low t n h =
      let lt : n - 1 < length (threads_of w) = slice_get_within (threads_of w) (n - 1) t h.1 in
      omega (arith, lt, h.0, length-map w.steps (λ (q : Step). q.thread))

  -- nothing is past the answer of a call that isn't answered
  pub unanswered : (t c p : ℕ) → answered_of w.replies t ≤ c → IsBeforeAnswer w.replies t c p
  unanswered t c p le i r at thread call =
      let lt = reply-below x (threads_of w) (started_of w) w.blocks w.replies sound.placed i r at in
      absurd (omega (arith, lt, call, le, ap (answered_of w.replies) thread))

  module _ (t : ℕ) (p : Place K V D T A) (at : slice_get w.places t ≡ Some p) where
    abbrev st : Stands x (threads_of w) w.blocks w.replies w.tables t p
    st = sound.stands t p at

    -- it is in a call that has started
    shown : (a : Ask K V D) → (call : IsInCall x (threads_of w) t p a) → StartedAt (started_of w) w.replies t p.next
        call.start
    shown a call = inr (st.answered, ap (λ o. option_and_then (λ (q : Place K V D T A). q.started) o) at ∙ call.started)

    low : (c : ℕ) → p.next ≤ c → answered_of w.replies t ≤ c
    low c le = omega (arith, le, st.answered)

    asks-on : (q : ℕ) → next_step w ≤ q → (r : Request K V D) → IsInCall x (threads_of w) t p (ask_of r)
        → p.shard ≡ x.route (request_key r) → IsOnShard x (started_of w) w.blocks w.replies t p.shard q
    asks-on q le (request.Keyed k) call shard = record {
      call = p.next;
      ask = ask.Keyed k;
      asked = call.asked;
      start = call.start;
      shown = shown (ask.Keyed k) call;
      begun = (let lt = step-low t call.start call.begun in omega (arith, lt, le));
      on = (sym shard, unanswered t p.next q (low p.next (omega arith)));
    }
    asks-on q le (request.Begin g) call shard = record {
      call = p.next;
      ask = ask.Begin g;
      asked = call.asked;
      start = call.start;
      shown = shown (ask.Begin g) call;
      begun = (let lt = step-low t call.start call.begun in omega (arith, lt, le));
      on = (
        sym shard,
        record {
          refused = λ none. unanswered t p.next q (low p.next (omega arith));
          guarded = λ i n b there thread callee done now_free. unanswered t (p.next + n) q
              (low (p.next + n) (omega arith));
        },
      );
    }

    -- one that waits for its shard
    pub waits-on : (r : Request K V D) → p.phase ≡ phase.Admit r → IsOnNow x w t p.shard
    waits-on r is q le = let claim = claim-at x (threads_of w) w.blocks w.replies w.tables t p (phase.Admit r) is st in
        asks-on q le r claim.0 claim.1.shard

    -- and a walk that does
    pub reaches-on : (f : Walk D) → p.phase ≡ phase.Reach f → IsOnNow x w t p.shard
    reaches-on f is q le =
        let claim = claim-at x (threads_of w) w.blocks w.replies w.tables t p (phase.Reach f) is st in
        let v = walks-at x (threads_of w) w.blocks w.replies w.tables t p (phase.Reach f) is st in
        record {
          call = p.next;
          ask = ask.Walk f;
          asked = claim.0.asked;
          start = claim.0.start;
          shown = shown (ask.Walk f) claim.0;
          begun = (let lt = step-low t claim.0.start claim.0.begun in omega (arith, lt, le));
          on = record {
            within = v.left;
            begun = λ n e. elim (slice_get_cases v.so_far.visits n).1 [
              | inl here ↦
                  let u = v.so_far.visited.are n here.0 here.2 in
                  let b = here.0.block in
                  let lt = step-low b.thread b.position (sound.placed.placed here.0.place b u.listed).position in
                  record {
                    place = here.0.place;
                    block = b;
                    listed = u.listed;
                    thread = u.thread;
                    call = u.call;
                    visit = u.visit;
                    reached = omega (arith, lt, le);
                  }
              | inr beyond ↦ absurd (omega (arith, beyond.0, v.number, e))
            ];
            goes_on = λ i b there thread call visit. let lt = v.so_far.visited.all i b there thread call in
                absurd (omega (arith, lt, visit, v.number));
            unanswered = unanswered t p.next q (low p.next (omega arith));
          };
        }

    -- BETWEEN TWO CALLS

    -- each call below the next one has its reply
    replied : (c : ℕ) → c < p.next → (n : ℕ) × (r : Reply K V T A) × (slice_get w.replies n ≡ Some r) × (r.thread ≡ t)
        × (r.call ≡ c)
    replied c lt =
        let o = nth-passing (λ r. r.thread == t) w.replies c (omega (arith, lt, st.answered)) in
        let own : o.item.thread ≡ t = eqb-true o.item.thread t o.passes in (
          o.place,
          o.item,
          o.listed,
          own,
          sound.placed.in_turn o.place o.item o.listed
              ∙ ap (answered_of (take o.place w.replies)) own ∙ o.number,
        )

    module _ (c i : ℕ) (inside : session_of x t p.next ≡ Some c)
        (session : HasSession x w.blocks w.tables t p p.next c i) (g : Guard K) (guarded : p.guard ≡ Some g) where
      abbrev o : Option (K × V)
      o = found x w.blocks i session.block

      held-there : is_free (reached x t c (p.next - c) o) ≡ false
      held-there = by g (subst (λ (z : Option (Guard K)). GuardIs w.tables p z (reached x t c (p.next - c) o)) guarded
          session.guard)
        where
          lent-held : (kind : Way K) (pair : K × V) → is_free (lent kind pair) ≡ false
          lent-held way.Shared pair = refl
          lent-held way.Exclusive pair = refl
          lent-held (way.Occupied k) pair = refl

          by : (g : Guard K) → GuardIs w.tables p (Some g) (reached x t c (p.next - c) o)
              → is_free (reached x t c (p.next - c) o) ≡ false
          by (guard.Pair kind) h = ap is_free h.1 ∙ lent-held kind h.0
          by (guard.Vacant key) h = ap is_free h.0

      opening : (f : Begin K) × (ask_at x t c ≡ Some (ask.Begin f))
      opening = session-opens x t p.next c inside

      -- all calls of the session behind its opening are on the guard
      on-guard : (n : ℕ) → 0 < n → n < p.next - c → (h : Held V D) × (ask_at x t (c + n) ≡ Some (ask.Held h))
      on-guard n some lt =
          let d = (opened x w t c opening.0 opening.1 i session.block sound session.listed session.thread
          session.call).0.calls n some (omega (arith, lt, session.done)) in (
            d.held,
            sym (ap (λ z. ask_at x z (session.block.call + n)) session.thread
                ∙ ap (λ z. ask_at x t (z + n)) session.call) ∙ d.asked,
          )

      -- one that is free stays free
      stays-free : (n d : ℕ) → 0 < n → n + d ≤ p.next - c → is_free (reached x t c n o) ≡ true
          → is_free (reached x t c (n + d) o) ≡ true
      stays-free n zero some le free_ = let same : n + 0 ≡ n = omega arith in ap (λ m. is_free (reached x t c m o)) same
          ∙ free_
      stays-free n (suc d) some le free_ =
          let before_ = stays-free n d some (omega (arith, le)) free_ in
          let a = on-guard (n + d) (omega (arith, some)) (omega (arith, le)) in
          let same : n + suc d ≡ suc (n + d) = omega arith in
          ap (λ m. is_free (reached x t c m o)) same
          ∙ ap (λ z. is_free (after_ask x.deeds z (reached x t c (n + d) o))) a.1
          ∙ none-left a.0 (reached x t c (n + d) o) before_
        where
          none-left : (h : Held V D) (at : At K V) → is_free at ≡ true → is_free (held_leaves x.deeds h at) ≡ true
          none-left h (free pair) e = refl
          none-left h (shared pair) e = absurd (false≢true e)
          none-left h (exclusive pair) e = absurd (false≢true e)
          none-left h (occupied k pair) e = absurd (false≢true e)
          none-left h (vacant k) e = absurd (false≢true e)

      -- so none of the session's calls has ended its guard
      none-free : (n : ℕ) → suc n ≤ p.next - c → IsTrue (is_free (reached x t c (suc n) o)) → ⊥
      none-free n le free_ =
          let there : is_free (reached x t c (suc n + (p.next - c - suc n)) o) ≡ true =
          stays-free (suc n) (p.next - c - suc n) (omega arith) (omega (arith, le)) (is-true _ free_) in
          let same : p.next - c ≡ suc n + (p.next - c - suc n) = omega (arith, le) in
          absurd (false≢true (sym held-there ∙ ap (λ m. is_free (reached x t c m o)) same ∙ there))
        where
          is-true : (b : Bool) → IsTrue b → b ≡ true
          is-true true h = refl
          is-true false h = absurd (false≢true h)

      pub in-session-on : IsOnNow x w t p.shard
      in-session-on q le =
          let r = replied c session.below in
          let timed = sound.placed.timed r.0 r.1 r.2 in
          let lt = step-low r.1.thread r.1.end timed.end in
          let key = opening-key_of x session.block t c opening.0 session.thread session.call opening.1 in
          record {
            call = c;
            ask = ask.Begin opening.0;
            asked = opening.1;
            start = r.1.start;
            shown = inl (record { place = r.0; reply = r.1; listed = r.2; thread = r.3; call = r.4; start = refl });
            begun = (let before_ = timed.order in omega (arith, lt, before_, le));
            on = (
              sym (session.settled.here (opening_key opening.0) key),
              record {
                refused = λ none. absurd (none i session.block session.listed session.thread session.call);
                guarded = λ j n b there thread callee lt now_free.
                    let same : b ≡ session.block = one-block x w t c opening.0 opening.1 sound j i b session.block there
                    session.listed thread callee session.thread session.call in
                    let place : j ≡ i = one-place x w t c opening.0 opening.1 sound j i b session.block there
                    session.listed thread callee session.thread session.call in
                    absurd (none-free n (omega (arith, lt, ap (λ z. z.done.value) same, session.done))
                    (subst (λ (z : Option (K × V)). IsTrue (is_free (reached x t c (suc n) z)))
                    (ap (λ m. before x w.blocks m (opening_key opening.0)) place
                    ∙ sym (found-is x session.block (opening_key opening.0) key w.blocks i)) now_free));
              },
            );
          }

    -- one that rests with a guard
    pub rests-on : p.phase ≡ phase.Rest → (i : ℕ) (h : Hold) → slice_get p.holds i ≡ Some h → IsOnNow x w t h.shard
        × (h.shard ≡ p.shard)
    rests-on is i h at-hold = by p.guard refl
      where
        claim : (p.started ≡ None) × HoldsByGuard p × IsReady x w.blocks w.tables t p p.next p.block
        claim = claim-at x (threads_of w) w.blocks w.replies w.tables t p phase.Rest is st

        by : (o : Option (Guard K)) → p.guard ≡ o → IsOnNow x w t h.shard × (h.shard ≡ p.shard)
        by None none = absurd (none-there p.holds i h (claim.1 none) at-hold)
        by (Some g) guarded =
            let e = session-of-guard x w.blocks w.tables t p p.next g (session_of x t p.next) p.block guarded claim.2 in
            let here = guard-holds g (reached x t e.0 (p.next - e.0) (found x w.blocks e.1 e.4.block))
            (subst (λ (z : Option (Guard K)). GuardIs w.tables p z
            (reached x t e.0 (p.next - e.0) (found x w.blocks e.1 e.4.block))) guarded e.4.guard) in
            let same : h.shard ≡ p.shard = one-hold p.holds i h here.1.hold here.1.has at-hold ∙ here.1.shard in
            (subst (IsOnNow x w t) (sym same) (in-session-on e.0 e.1 e.2 e.4 g guarded), same)
          where
            guard-holds : (g : Guard K) (a : At K V) → GuardIs w.tables p (Some g) a → (mode : Mode) × HoldsShard p mode
            guard-holds (guard.Pair kind) a h = (way_mode kind, h.2)
            guard-holds (guard.Vacant key) a h = (Exclusive, h.1)

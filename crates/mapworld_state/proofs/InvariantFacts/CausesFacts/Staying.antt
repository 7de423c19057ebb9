-- What is on a shard at a step stays so, whatever comes later.
use Rattle.std.proofs.Common.{◌≡◌, ◌≢◌, ℕ, suc, ◌+◌, ◌-◌, ◌<◌, ◌≤◌, ◌⊎◌, inl, inr, List, [], ◌∷◌, ◌++◌, length, Option}
use Rattle.std.proofs.Common.{Some, None, slice_get, IsTrue, sym, ap, ◌∙◌, subst, arith, length-append}
use Rattle.std.proofs.lemmas.Bool.{cases_eq, cases_lt}
use Rattle.std.proofs.lemmas.List.{length-map}
use Rattle.std.proofs.lemmas.Option.{none-some, same_Some, slice_get_within}
use Rattle.mapworld_calls.specs.declared.ask.Ask.{Ask}
use Rattle.mapworld_calls.specs.declared.ask.Ask.TheVariants as ask
use Rattle.mapworld_calls.specs.declared.ask.Begin.{Begin}
use Rattle.mapworld_calls.specs.declared.block.Block.{Block}
use Rattle.mapworld_calls.specs.declared.reply.Reply.{Reply}
use Rattle.mapworld_calls.specs.Programs.{opening_key}
use Rattle.mapworld_calls.specs.Setup.{Setup, ask_at, session_of}
use Rattle.mapworld_calls.specs.Calls.{is_free}
use Rattle.mapworld_calls.specs.Replay.{before, reached}
use Rattle.mapworld_calls.specs.Agrees.{HasNoBlock, IsAnsweredInSession, IsAnsweredBy}
use Rattle.mapworld_calls.specs.Placed.{answered_of, StaysListed}
use Rattle.mapworld_calls.specs.Shards.{IsBeforeAnswer, IsOnBy, IsReplied, IsSessionOn, IsVisitedAt, IsWalkOn}
use Rattle.mapworld_calls.specs.Shards.{StartedAt}
use Rattle.mapworld_calls.proofs.Lists.{slice_get-push_at, slice_get-push_below, slice_get-push_cases}
use Rattle.mapworld_calls.proofs.Replays.{on-shard}
use Rattle.mapworld_state.specs.declared.step.Step.{Step}
use Rattle.mapworld_state.specs.State.{State, next_step, started_of, threads_of}
use Rattle.mapworld_state.specs.Sound.{Sound}
use Rattle.mapworld_state.proofs.InvariantFacts.Adding.{Step-adds}
use Rattle.mapworld_state.proofs.InvariantFacts.Building.{Goes, reply-below}
use Rattle.mapworld_state.proofs.InvariantFacts.Others.{opening-key_of}
use Rattle.mapworld_state.proofs.InvariantFacts.Timing.{answered_of-other}
use Rattle.mapworld_state.specs.Invariant.Causes.Causes.{IsOnAt}
use Rattle.mapworld_state.proofs.InvariantFacts.CausesFacts.Sessions.{one-block, opened}
use Rattle.mapworld_state.proofs.InvariantFacts.CausesFacts.Shapes.{IsAnswer, IsNew, Shape, StaysOpen, shard_of}

module _ {K V S D T A : Type 0} (x : Setup K V D T) (w : State K V S D T A) (s : Step) (w' : State K V S D T A)
    (sound : Sound x w) (goes : Goes x s.thread w w') (shape : Shape w w' s) (adds : Step-adds w w' s) where
  -- the reply of a call that was answered is still there
  replied-on : (u c n : ℕ) → IsReplied w.replies u c n → IsReplied w'.replies u c n
  replied-on u c n r =
      record {
        place = r.place;
        reply = r.reply;
        listed = by shape.own;
        thread = r.thread;
        call = r.call;
        start = r.start;
      }
    where
      by : StaysOpen w w' s ⊎ IsAnswer w w' s → slice_get w'.replies r.place ≡ Some r.reply
      by (inl still) = ap (λ z. slice_get z r.place) still.replies ∙ r.listed
      by (inr last) = ap (λ z. slice_get z r.place) last.replies ∙ slice_get-push_below w.replies r.place r.reply
          last.reply r.listed

  started-on : (u c n : ℕ) → StartedAt (started_of w) w.replies u c n → StartedAt (started_of w') w'.replies u c n
  started-on u c n (inl r) = inl (replied-on u c n r)
  started-on u c n (inr (now, begun)) = elim (cases_eq u s.thread) [
    | inl own ↦ by own shape.own
    | inr ne ↦ inr (now ∙ others ne shape.own, shape.others u ne ∙ begun)
  ]
    where
      by : u ≡ s.thread → StaysOpen w w' s ⊎ IsAnswer w w' s → StartedAt (started_of w') w'.replies u c n
      by own (inl still) =
          inr (
            now ∙ ap (λ z. answered_of z u) (sym still.replies),
            ap (started_of w') own
                ∙ still.own n (ap (started_of w) (sym own) ∙ begun),
          )
      by own (inr last) = inl (record {
        place = length w.replies;
        reply = last.reply;
        listed = ap (λ z. slice_get z (length w.replies)) last.replies ∙ slice_get-push_at w.replies last.reply;
        thread = last.thread ∙ sym own;
        call = last.call ∙ ap (answered_of w.replies) (sym own) ∙ sym now;
        start = same_Some last.reply.start n (sym last.start ∙ ap (started_of w) (sym own) ∙ begun);
      })

      others : u ≢ s.thread → StaysOpen w w' s ⊎ IsAnswer w w' s → answered_of w.replies u ≡ answered_of w'.replies u
      others ne (inl still) = ap (λ z. answered_of z u) (sym still.replies)
      others ne (inr last) =
          sym (ap (λ z. answered_of z u) last.replies ∙ answered_of-other w.replies last.reply u
          (λ e. ne (sym e ∙ last.thread)))

  -- The step is in time for what it may end: it isn't past the next one, or the thread is another, or nothing is
  -- answered and the shard isn't one that a visit leaves behind.
  abbrev pub IsInTime : ℕ → ℕ → ℕ → Type 0
  IsInTime u shard p = (p ≤ next_step w) ⊎ ((u ≢ s.thread) ⊎ (StaysOpen w w' s × (shard + 2 ≢ shard_of w s.thread)))

  -- a reply is an old one, or one that isn't too early
  replies-back : (u shard p : ℕ) → IsInTime u shard p → (i : ℕ) (r : Reply K V T A) → slice_get w'.replies i ≡ Some r
      → r.thread ≡ u → (slice_get w.replies i ≡ Some r) ⊎ (p ≤ r.end)
  replies-back u shard p time i r at thread = by shape.own
    where
      in-time : (last : IsAnswer w w' s) → r ≡ last.reply → IsInTime u shard p → p ≤ r.end
      in-time last same (inl le) = subst (λ (n : ℕ). p ≤ n) (sym (ap (λ z. z.end) same ∙ last.end)) le
      in-time last same (inr (inl ne)) = absurd (ne (sym thread ∙ ap (λ z. z.thread) same ∙ last.thread))
      in-time last same (inr (inr (still, apart))) =
          absurd (grown w.replies last.reply (sym last.replies ∙ still.replies))
        where
          grown : (rs : List (Reply K V T A)) (q : Reply K V T A) → rs ++ q ∷ [] ≡ rs → ⊥
          grown rs q e = let n = ap (λ z. length z) e in absurd (longer rs q (sym n))
            where
              longer : (rs : List (Reply K V T A)) (q : Reply K V T A) → length rs ≡ length (rs ++ q ∷ []) → ⊥
              longer [] q e = omega (arith, e)
              longer (r ∷ rs) q e = longer rs q (omega (arith, e))

      by : StaysOpen w w' s ⊎ IsAnswer w w' s → (slice_get w.replies i ≡ Some r) ⊎ (p ≤ r.end)
      by (inl still) = inl (ap (λ z. slice_get z i) (sym still.replies) ∙ at)
      by (inr last) = elim (slice_get-push_cases w.replies i r last.reply
          (ap (λ z. slice_get z i) (sym last.replies) ∙ at)) [
            | inl old ↦ inl old
            | inr new ↦ inr (in-time last new.1 time)
          ]

  before-on : (u c shard p : ℕ) → IsInTime u shard p → IsBeforeAnswer w.replies u c p → IsBeforeAnswer w'.replies u c p
  before-on u c shard p time h i r at thread call = elim (replies-back u shard p time i r at thread) [
    | inl old ↦ h i r old thread call
    | inr late ↦ late
  ]

  -- BLOCKS

  -- a block that was listed, and what it was
  record Was (i : ℕ) (b' : Block K) : Type 0 where
    block : Block K
    listed : slice_get w.blocks i ≡ Some block
    stays : StaysListed block b'

  block-back : (i : ℕ) (b' : Block K) → slice_get w'.blocks i ≡ Some b' → Was i b' ⊎ IsNew w w' s b'
  block-back i b' at = elim (shape.new i b' at) [
    | inl was ↦
        let now = adds.blocks i was.0 was.1 in
        inl (record {
          block = was.0;
          listed = was.1;
          stays = subst (λ (z : Block K). StaysListed was.0 z)
              (same_Some now.block b' (sym now.listed ∙ at)) now.stays;
        })
    | inr new ↦ inr new
  ]

  visited-on : (u c n p : ℕ) → IsVisitedAt w.blocks u c n p → IsVisitedAt w'.blocks u c n p
  visited-on u c n p v =
      let now = adds.blocks v.place v.block v.listed in
      record {
        place = v.place;
        block = now.block;
        listed = now.listed;
        thread = now.stays.thread ∙ v.thread;
        call = now.stays.call ∙ v.call;
        visit = now.stays.visit ∙ v.visit;
        reached = subst (λ (m : ℕ). m ≤ p) (sym now.stays.position) v.reached;
      }

  walk-on : (u c shard p : ℕ) → IsInTime u shard p → IsWalkOn x w.blocks w.replies u c shard p
      → IsWalkOn x w'.blocks w'.replies u c shard p
  walk-on u c shard p time h = record {
    within = h.within;
    begun = λ n e. visited-on u c n p (h.begun n e);
    goes_on = λ i b' at thread call visit. elim (block-back i b' at) [
      | inl was ↦ subst (λ (m : ℕ). p ≤ m) (sym was.stays.position)
          (h.goes_on i was.block was.listed (sym was.stays.thread ∙ thread) (sym was.stays.call ∙ call)
          (sym was.stays.visit ∙ visit))
      | inr new ↦ late b' thread visit new time
    ];
    unanswered = before-on u c shard p time h.unanswered;
  }
    where
      late : (b' : Block K) → b'.thread ≡ u → b'.visit ≡ shard + 2 → IsNew w w' s b' → IsInTime u shard p
          → p ≤ b'.position
      late b' thread visit new (inl le) = subst (λ (m : ℕ). p ≤ m) (sym new.position) le
      late b' thread visit new (inr (inl ne)) = absurd (ne (sym thread ∙ new.thread))
      late b' thread visit new (inr (inr (still, apart))) = elim new.visit [
        | inl none ↦ absurd (omega (arith, none, visit))
        | inr here ↦ absurd (apart (sym visit ∙ here))
      ]

  -- SESSIONS

  none-back : (u c : ℕ) → HasNoBlock w'.blocks u c → HasNoBlock w.blocks u c
  none-back u c none i b at thread call =
      let now = adds.blocks i b at in
      none i now.block now.listed (now.stays.thread ∙ thread) (now.stays.call ∙ call)

  module _ (u c : ℕ) (g : Begin K) (asked : ask_at x u c ≡ Some (ask.Begin g)) where
    -- no step is past the end of this thread's calls that come behind its answers
    none-late : (v : State K V S D T A) → Sound x v → (m p : ℕ) → answered_of v.replies u ≤ m
        → IsBeforeAnswer v.replies u m p
    none-late v there m p le i r at thread call =
        let lt = reply-below x (threads_of v) (started_of v) v.blocks v.replies there.placed i r at in
        absurd (omega (arith, lt, call, le, ap (answered_of v.replies) thread))

    -- what the block had not done yet wasn't answered
    undone : (shard p n i : ℕ) (b b' : Block K) → IsInTime u shard p → slice_get w.blocks i ≡ Some b
        → slice_get w'.blocks i ≡ Some b' → StaysListed b b' → b.thread ≡ u → b.call ≡ c
        → b.done.value ≤ n → n < b'.done.value → IsBeforeAnswer w'.replies u (c + n) p
    undone shard p n i b b' time was now stays thread call le lt j r at rt rc =
        elim (replies-back u shard p time j r at rt) [
          | inl old ↦ absurd
              (by (sound.replies j r old).ask (sound.replies j r old).asked (sound.replies j r old).answered)
          | inr late ↦ late
        ]
      where
        some : 0 < n
        some = let first = (opened x w u c g asked i b sound was thread call).0.opened in omega (arith, first, le)

        its : (a : Ask K V D) → ask_at x r.thread r.call ≡ Some a → (h : _) → ask_at x u (c + n) ≡ Some (ask.Held h)
            → a ≡ ask.Held h
        its a e h is = same_Some a (ask.Held h) (sym e ∙ ap (λ t. ask_at x t r.call) rt ∙ ap (ask_at x u) rc ∙ is)

        there : ask_at x b'.thread (b'.call + n) ≡ ask_at x u (c + n)
        there = ap (λ t. ask_at x t (b'.call + n)) (stays.thread ∙ thread)
            ∙ ap (λ m. ask_at x u (m + n)) (stays.call ∙ call)

        inside : session_of x u (c + n) ≡ Some c
        inside =
            let o = (opened x w' u c g asked i b' goes.sound now (stays.thread ∙ thread) (stays.call ∙ call)).0.calls n
            some lt in
            sym (ap (λ t. session_of x t (b'.call + n)) (stays.thread ∙ thread)
            ∙ ap (λ m. session_of x u (m + n)) (stays.call ∙ call)) ∙ o.session ∙ ap Some (stays.call ∙ call)

        in-session : (o : Option ℕ) → o ≡ Some c → IsAnsweredInSession x w.blocks u (c + n) o r.answer → ⊥
        in-session None e h = none-some c e
        in-session (Some d) e h = elim h [
          | inl told ↦
              let same : told.block ≡ b = one-block x w u c g asked sound told.place i told.block b told.listed was
              told.thread (told.call ∙ same_Some d c e) thread call in
              let done = told.done in
              absurd (omega (arith, ap (λ z. z.done.value) same, done, le, same_Some d c e))
          | inr none ↦ none.1 i b was thread (call ∙ sym (same_Some d c e))
        ]

        held : (a : Ask K V D) → IsAnsweredBy x w.blocks r.thread r.call a r.answer → (h : _) → a ≡ ask.Held h → ⊥
        held (ask.Held k) ans h e =
            in-session (session_of x u (c + n)) inside
            (subst (λ (z : ℕ). IsAnsweredInSession x w.blocks u z (session_of x u z) r.answer) rc
            (subst (λ (z : ℕ). IsAnsweredInSession x w.blocks z r.call (session_of x z r.call) r.answer) rt ans))
        held (ask.Keyed k) ans h e = absurd cc
        held (ask.Begin k) ans h e = absurd cc
        held (ask.Walk k) ans h e = absurd cc

        by : (a : Ask K V D) → ask_at x r.thread r.call ≡ Some a → IsAnsweredBy x w.blocks r.thread r.call a r.answer
            → ⊥
        by a e ans =
            let o = (opened x w' u c g asked i b' goes.sound now (stays.thread ∙ thread) (stays.call ∙ call)).0.calls n
            some lt in
            held a ans o.held (its a e o.held (sym there ∙ o.asked))

    -- a block that is listed at this step is of a call that isn't answered
    new-open : (i : ℕ) (b' : Block K) → slice_get w'.blocks i ≡ Some b' → IsNew w w' s b'
        → b'.call ≡ answered_of w'.replies b'.thread
    new-open i b' at new = elim (goes.sound.placed.placed i b' at).shown [
      | inl old ↦
          let end = (goes.sound.placed.timed old.place old.reply old.listed).end in
          let le : old.reply.end - 1 < length (threads_of w') = slice_get_within (threads_of w') (old.reply.end - 1)
          old.reply.thread end.1 in
          let count : length (threads_of w') ≡ length w.steps + 1 = length-map w'.steps (λ (q : Step). q.thread)
          ∙ ap length shape.steps ∙ length-append w.steps (s ∷ []) in
          absurd (omega (arith, old.before, new.position, end.0, le, count))
      | inr open_ ↦ open_.call
    ]

    session-on : (shard p : ℕ) → IsInTime u shard p → IsSessionOn x w.blocks w.replies u c (opening_key g) p
        → IsSessionOn x w'.blocks w'.replies u c (opening_key g) p
    session-on shard p time h = record {
      refused = λ none. before-on u c shard p time (h.refused (none-back u c none));
      guarded = λ i n b' at thread call lt free. elim (block-back i b' at) [
        | inl was ↦
            let b-thread = sym was.stays.thread ∙ thread in
            let b-call = sym was.stays.call ∙ call in
            let same : before x w'.blocks i (opening_key g) ≡ before x w.blocks i (opening_key g) =
            goes.turns i was.block was.listed (opening_key g)
            (on-shard x was.block (opening_key g) (opening-key_of x was.block u c g b-thread b-call asked)) in
            elim (cases_lt n was.block.done.value) [
              | inl early ↦ before-on u (c + n) shard p time
                  (h.guarded i n was.block was.listed b-thread b-call early
                  (subst (λ (o : Option (K × V)). IsTrue (is_free (reached x u c (suc n) o))) same free))
              | inr late ↦ undone shard p n i was.block b' time was.listed at was.stays b-thread b-call late lt
            ]
        | inr new ↦
            let now = new-open i b' at new in
            none-late w' goes.sound (c + n) p (omega (arith, now, call, ap (answered_of w'.replies) thread))
      ];
    }

  -- what is on a shard stays so
  pub on-kept : (u shard p : ℕ) → IsInTime u shard p → IsOnAt x w u shard p → IsOnAt x w' u shard p
  on-kept u shard p time h = record {
    call = h.call;
    ask = h.ask;
    asked = h.asked;
    start = h.start;
    shown = started-on u h.call h.start h.shown;
    begun = h.begun;
    on = by h.ask h.asked h.on;
  }
    where
      by : (a : Ask K V D) → ask_at x u h.call ≡ Some a → IsOnBy x w.blocks w.replies u h.call a shard p
          → IsOnBy x w'.blocks w'.replies u h.call a shard p
      by (ask.Keyed k) asked on = (on.0, before-on u h.call shard p time on.1)
      by (ask.Begin g) asked on = (on.0, session-on u h.call g asked shard p time on.1)
      by (ask.Walk f) asked on = walk-on u h.call shard p time on
      by (ask.Held k) asked on = on

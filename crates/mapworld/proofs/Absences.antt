-- A call on a key that was refused for memory had a moment at which the key was absent.
use Rattle.std.proofs.Common.{◌≡◌, ℕ, ◌+◌, ◌≤◌, ◌⊎◌, inl, inr, Bool, true, false, IsTrue, List, [], ◌∷◌, ◌++◌, length}
use Rattle.std.proofs.Common.{Some, slice_get, refl, sym, ap, ◌∙◌, subst, arith, length-append}
use Rattle.std.specs.Cmp.{IsEquivalence}
use Rattle.std.specs.Hash.{HashWrites}
use Rattle.std.specs.declared.hash.BuildHasher as builder
use Rattle.std.specs.declared.hash.Hasher as hasher
use Rattle.std.proofs.lemmas.Bool.{cases_eq, false≢true}
use Rattle.std.proofs.lemmas.Option.{none-some, same_Some}
use Rattle.parking_lot_machine.specs.SoundLaws.{Always, OwnersAgree, StepsAreCases}
use Rattle.mapworld_calls.specs.declared.ask.Ask.{Ask}
use Rattle.mapworld_calls.specs.declared.deed.Deed as deed
use Rattle.mapworld_calls.specs.declared.reply.Answer.TheVariants as answer
use Rattle.mapworld_calls.specs.declared.reply.Reply.{Reply}
use Rattle.mapworld_calls.specs.Pairs.{pair_of}
use Rattle.mapworld_calls.specs.Programs.{key_of}
use Rattle.mapworld_calls.specs.Setup.{Setup, ask_at}
use Rattle.mapworld_calls.proofs.Lists.{slice_get-push_cases, slice_get-set_same}
use Rattle.mapworld_state.specs.declared.place.Growth.{Growth}
use Rattle.mapworld_state.specs.declared.place.Growth.TheVariants as growth
use Rattle.mapworld_state.specs.declared.place.Phase.TheVariants as phase
use Rattle.mapworld_state.specs.declared.step.Step.{Step}
use Rattle.mapworld_state.specs.Locks.Footprints.{StepsTouchOneLock}
use Rattle.mapworld_state.specs.Moves.{ask_of, growth_key, request_of}
use Rattle.mapworld_state.specs.Places.{Place}
use Rattle.mapworld_state.specs.Running.{may_step}
use Rattle.mapworld_state.specs.State.{State, next_step, pairs_of, threads_of}
use Rattle.mapworld_state.specs.Steps.{Answers, Concludes, IsRefusedGrowth, IsStep, Replies, owed, locked, idle}
use Rattle.mapworld_state.specs.World.{setup_of}
use Rattle.mapworld_state.proofs.InvariantFacts.Adding.{step-adds}
use Rattle.mapworld_state.proofs.InvariantFacts.Building.{claim-at}
use Rattle.mapworld_state.proofs.InvariantFacts.CausesFacts.Being.{step-low}
use Rattle.mapworld.proofs.ProgressFacts.Draining.{setup-fixed}
use Rattle.mapworld.specs.Reachable.{IsReachable, LeadsTo}
use Rattle.mapworld.specs.ReachableLaws.{WasAbsent}
use Rattle.mapworld.specs.ReachableLaws as laws
use Rattle.mapworld.proofs.Footprints.{step_footprint}
use Rattle.mapworld.proofs.Growths.{of_new_key}
use Rattle.mapworld.proofs.Keeping.{IsKept}
use Rattle.mapworld.proofs.Reached.{leads-on, leads-step, own-laws, reachable-fixed, reachable-kept, reachable-on}
use Rattle.mapworld.proofs.Refusing.{Tells, Why, before, grown, is_refusal, keyless, refuses, step-tells}

key_grown : {K V : Type 0} (D : Type 0) (c : Growth K V) → key_of (ask_of {D = D} (request_of c)) ≡ Some (growth_key c)
key_grown D (growth.Insert k v) = refl
key_grown D (growth.InsertUntil k v) = refl
key_grown D (growth.Entry k) = refl
key_grown D (growth.TryEntry k) = refl

module _ {K V S H D T A : Type 0} (d : deed.Ghosts D K V T) (b : builder.Ghosts S H) (h : hasher.Ghosts H)
    (eq : K → K → Bool) (writes : K → HashWrites) (lawful : IsEquivalence eq)
    (respects : (j k : K) → IsTrue (eq j k) → writes j ≡ writes k)
    (cases : StepsAreCases) (agree : Always OwnersAgree) (touch : StepsTouchOneLock) where
  abbrev own : State K V S D T A → Setup K V D T
  own w = setup_of d b h eq writes w

  abbrev Absent : State K V S D T A → K → ℕ → ℕ → Type 0
  Absent w key from until = WasAbsent A d b h eq writes w key from until

  -- such calls that are to be answered, and that are
  pub record HasAbsences (w : State K V S D T A) : Type 0 where
    pub calls : (t : ℕ) (p : Place K V D T A) (a : Ask K V D) (key : K) (start : ℕ) → slice_get w.places t ≡ Some p
        → refuses p.phase ≡ true → ask_at (own w) t p.next ≡ Some a → key_of a ≡ Some key → p.started ≡ Some start
        → Absent w key start (next_step w)
    pub replies : (i : ℕ) (r : Reply K V T A) (a : Ask K V D) (key : K) → slice_get w.replies i ≡ Some r
        → r.answer ≡ answer.NoMemory → ask_at (own w) r.thread r.call ≡ Some a → key_of a ≡ Some key
        → Absent w key r.start r.end

  module _ (w : State K V S D T A) (s : Step) (w' : State K V S D T A) (r : IsReachable d b h eq writes w)
      (moves : may_step w s ≡ true) (step : IsStep (own w) w s w') where
    kept : IsKept (own w) w
    kept = reachable-kept d b h eq writes lawful respects cases agree w r

    one_more : length w'.steps ≡ length w.steps + 1
    one_more = ap length (step-adds (own w) w s w' kept.sound step).steps ∙ length-append w.steps (s ∷ [])

    same-own : own w' ≡ own w
    same-own = setup-fixed d b h eq writes w w' (step-adds (own w) w s w' kept.sound step).fixed

    asked-before : (t c : ℕ) (a : Ask K V D) → ask_at (own w') t c ≡ Some a → ask_at (own w) t c ≡ Some a
    asked-before t c a is = ap (λ y. ask_at y t c) (sym same-own) ∙ is

    -- a moment is one of the world's past still
    later : (key : K) (from until until' : ℕ) → until ≤ until' → Absent w key from until → Absent w' key from until'
    later key from until until' le m = record {
      moment = m.moment;
      reached = m.reached;
      schedule = m.schedule ++ s ∷ [];
      leads = leads-on (own m.moment) m.moment m.schedule w (s ∷ []) w' m.leads
          (subst (λ y. LeadsTo y w (s ∷ []) w') (setup-fixed d b h eq writes m.moment w
          (reachable-fixed d b h eq writes lawful respects cases agree m.moment m.schedule w m.reached m.leads))
          (leads-step (own w) w s w' moves step));
      behind = m.behind;
      before = (let lt = m.before in omega (arith, lt, le));
      absent = m.absent;
    }

    -- the moment of a growth that is refused
    now-absent : (g : IsRefusedGrowth (own w) w s w') (a : Ask K V D) (key : K) (start : ℕ)
        → ask_at (own w) s.thread g.place.next ≡ Some a → key_of a ≡ Some key → g.place.started ≡ Some start
        → Absent w' key start (next_step w')
    now-absent g a key start asked is begun =
        let claim = claim-at (own w) (threads_of w) w.blocks w.replies w.tables s.thread g.place (phase.Grow g.call)
        g.before (kept.sound.stands s.thread g.place g.stands) in
        let ask_is : a ≡ ask_of (request_of g.call) = same_Some a (ask_of (request_of g.call))
        (sym asked ∙ claim.0.asked) in
        let key_is : growth_key g.call ≡ key = same_Some (growth_key g.call) key
        (sym (key_grown D g.call) ∙ (ap key_of (sym ask_is) ∙ is)) in
        let start_is : start ≡ claim.0.start = same_Some start claim.0.start (sym begun ∙ claim.0.started) in
        let low = step-low (own w) w kept.sound s.thread claim.0.start claim.0.begun in
        record {
          moment = w;
          reached = r;
          schedule = s ∷ [];
          leads = leads-step (own w) w s w' moves step;
          behind = omega (arith, low, start_is);
          before = omega (arith, one_more);
          absent = ap (pair_of eq (pairs_of w)) (sym key_is)
              ∙ of_new_key (own w) (own-laws d b h eq writes lawful respects w) w s.thread kept.sound g.place g.call
              g.table g.stands g.before g.held g.absent;
        }

    module _ (past : HasAbsences w) where
      tell : Tells (own w) w s w'
      tell = step-tells (own w) w s w' kept.sound step

      own-call : (p : Place K V D T A) → Why (own w) w s w' p → (a : Ask K V D) (key : K) (start : ℕ)
          → ask_at (own w) s.thread p.next ≡ Some a → key_of a ≡ Some key → p.started ≡ Some start
          → Absent w' key start (next_step w')
      own-call p (before q at on next started) a key start asked is begun =
          later key start (next_step w) (next_step w') (omega (arith, one_more))
          (past.calls s.thread q a key start at on (ap (ask_at (own w) s.thread) (sym next) ∙ asked) is
          (sym started ∙ begun))
      own-call p (grown g next started) a key start asked is begun = now-absent g a key start
          (ap (ask_at (own w) s.thread) (sym next) ∙ asked) is (sym started ∙ begun)
      own-call p (keyless o at none) a key start asked is begun = absurd
          (none-some key (sym none ∙ (ap key_of (same_Some o a (sym at ∙ asked)) ∙ is)))

      calls-on : (t : ℕ) (p : Place K V D T A) (a : Ask K V D) (key : K) (start : ℕ) → slice_get w'.places t ≡ Some p
          → refuses p.phase ≡ true → ask_at (own w') t p.next ≡ Some a → key_of a ≡ Some key → p.started ≡ Some start
          → Absent w' key start (next_step w')
      calls-on t p a key start at on asked is begun = elim (cases_eq t s.thread) [
        | inl here ↦
            let same : tell.now ≡ p = same_Some tell.now p
            (sym tell.there ∙ (ap (slice_get w'.places) (sym here) ∙ at)) in
            own-call p (subst (λ q. refuses q.phase ≡ true → Why (own w) w s w' q) same tell.why on) a key start
            (ap (λ u. ask_at (own w) u p.next) (sym here) ∙ asked-before t p.next a asked) is begun
        | inr ne ↦
            let print = step_footprint (own w) (own-laws d b h eq writes lawful respects w) w s w' kept.sound touch
            kept.locks step in
            later key start (next_step w) (next_step w') (omega (arith, one_more))
            (past.calls t p a key start (sym (print.places t ne) ∙ at) on (asked-before t p.next a asked) is
            begun)
      ]

      -- what ends with an answer leaves steps and replies as they are
      concluded : (mid : State K V S D T A) → (mid ≡ w) ⊎ Concludes w s.thread mid → (mid.replies ≡ w.replies)
          × (mid.steps ≡ w.steps)
      concluded mid (inl same) = (ap (λ z. z.replies) same, ap (λ z. z.steps) same)
      concluded mid (inr (owed e)) = (ap (λ z. z.replies) e.after, ap (λ z. z.steps) e.after)
      concluded mid (inr (locked e)) = (ap (λ z. z.replies) e.after, ap (λ z. z.steps) e.after)
      concluded mid (inr (idle e)) = (ap (λ z. z.replies) e.after, ap (λ z. z.steps) e.after)

      -- a place that tells another answer
      other : {X : Type 0} (mid : State K V S D T A) (new : Place K V D T A)
          → slice_get mid.places s.thread ≡ Some new → refuses new.phase ≡ false → (a : Answers (own w) mid s w')
          → a.answer ≡ answer.NoMemory → X
      other mid new at off a is =
          let same : new ≡ a.place = same_Some new a.place (sym at ∙ a.stands) in
          absurd (false≢true (sym off ∙ (ap (λ (q : Place K V D T A). refuses q.phase) same
          ∙ (ap refuses a.before ∙ ap is_refusal is))))

      -- the place that a refused call's answer begins at
      answered : (mid : State K V S D T A) → (mid ≡ w) ⊎ Concludes w s.thread mid → (a : Answers (own w) mid s w')
          → a.answer ≡ answer.NoMemory → slice_get w.places s.thread ≡ Some a.place
      answered mid (inl same) a is = ap (λ (z : State K V S D T A). slice_get z.places s.thread) (sym same) ∙ a.stands
      answered mid (inr (owed e)) a is = ap (λ (z : State K V S D T A). slice_get z.places s.thread) (sym e.after)
          ∙ a.stands
      answered mid (inr (locked e)) a is =
          other mid _ (ap (λ (z : State K V S D T A). slice_get z.places s.thread) e.after
          ∙ slice_get-set_same w.places s.thread e.place
          (record (e.place) { phase = phase.Answer answer.Locked }) e.stands) refl a is
      answered mid (inr (idle e)) a is =
          other mid _ (ap (λ (z : State K V S D T A). slice_get z.places s.thread) e.after
          ∙ slice_get-set_same w.places s.thread e.place (record (e.place) { phase = phase.Answer e.answer })
          e.stands) (ap is_refusal e.told.is) a is

      old-reply : (i : ℕ) (q : Reply K V T A) (a : Ask K V D) (key : K) → slice_get w.replies i ≡ Some q
          → q.answer ≡ answer.NoMemory → ask_at (own w') q.thread q.call ≡ Some a → key_of a ≡ Some key
          → Absent w' key q.start q.end
      old-reply i q a key at short asked is = later key q.start q.end q.end (omega arith)
          (past.replies i q a key at short (asked-before q.thread q.call a asked) is)

      replies-on : (w'.replies ≡ w.replies) ⊎ Replies (own w) w s w'
          → (i : ℕ) (q : Reply K V T A) (a : Ask K V D) (key : K) → slice_get w'.replies i ≡ Some q
          → q.answer ≡ answer.NoMemory → ask_at (own w') q.thread q.call ≡ Some a → key_of a ≡ Some key
          → Absent w' key q.start q.end
      replies-on (inl same) i q a key at short asked is = old-reply i q a key
          (ap (λ z. slice_get z i) (sym same) ∙ at) short asked is
      replies-on (inr f) i q a key at short asked is =
          let o = f.answers in
          let new : Reply K V T A = record {
            thread = s.thread;
            call = o.place.next;
            start = o.start;
            end = next_step
                f.mid;
            answer = o.answer;
          } in
          elim (slice_get-push_cases f.mid.replies i q new
          (ap (λ z. slice_get z i) (sym (ap (λ z. z.replies) o.after)) ∙ at)) [
            | inl old ↦ old-reply i q a key (ap (λ z. slice_get z i) (sym (concluded f.mid f.leaves).0) ∙ old) short
                asked is
            | inr last ↦
                let to : q ≡ new = last.1 in
                let short' : o.answer ≡ answer.NoMemory = sym (ap (λ (z : Reply K V T A). z.answer) to) ∙ short in
                let asked' : ask_at (own w) s.thread o.place.next ≡ Some a =
                asked-before s.thread o.place.next a (sym (ap
                (λ (z : Reply K V T A). ask_at (own w') z.thread z.call) to) ∙ asked) in
                subst (λ (z : Reply K V T A). Absent w' key z.start z.end) (sym to)
                (later key o.start (next_step w) (next_step f.mid)
                (omega (arith, ap length (concluded f.mid f.leaves).1))
                (past.calls s.thread o.place a key o.start (answered f.mid f.leaves o short')
                (ap refuses o.before ∙ ap is_refusal short') asked' is o.begun))
          ]

      pub absences-on : HasAbsences w'
      absences-on = record { calls = calls-on; replies = replies-on tell.closes }

  absences-along : (w : State K V S D T A) (ss : List Step) (w' : State K V S D T A) → IsReachable d b h eq writes w
      → HasAbsences w → LeadsTo (own w) w ss w' → HasAbsences w'
  absences-along w [] w' r past same = subst HasAbsences (sym same) past
  absences-along w (s ∷ ss) w' r past (mid, moves, step, rest) =
      absences-along mid ss w' (reachable-on d b h eq writes lawful respects cases agree w (s ∷ []) mid r
      (leads-step (own w) w s mid moves step)) (absences-on w s mid r moves step past)
      (subst (λ y. LeadsTo y mid ss w') (sym (same-own w s mid r moves step)) rest)

  pub were_absent : laws.RefusedKeysWereAbsent A d b h eq writes
  were_absent w i q a key r at short asked is =
      let new = r.initial.new in
      let first : IsReachable d b h eq writes r.first = record
      { first = r.first; schedule = []; initial = r.initial; leads = refl } in
      let none : HasAbsences r.first = record {
        calls = λ t p a key start at on asked is begun. absurd
            (false≢true (ap (λ (q : Place K V D T A). refuses q.phase) (sym (new.places.each t p at)) ∙ on));
        replies = λ i q a key at short asked is. absurd (none-some q (ap (λ z. slice_get z i) (sym new.replies) ∙ at));
      } in
      (absences-along r.first r.schedule w first none r.leads).replies i q a key at short asked is

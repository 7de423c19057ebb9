-- A try that is told that it is locked has a cause.
use Rattle.std.proofs.Common.{◌≡◌, ℕ, ◌+◌, ◌≤◌, ◌⊎◌, inl, inr, Bool, true, false, List, [], ◌∷◌, ◌++◌, length, Some}
use Rattle.std.proofs.Common.{slice_get, refl, sym, ap, ◌∙◌, subst, arith}
use Rattle.std.specs.Option.{option_map}
use Rattle.std.proofs.lemmas.Bool.{false≢true}
use Rattle.std.proofs.lemmas.Option.{same_Some}
use Rattle.parking_lot_protocol.specs.declared.act.CoreAnswer.{CoreAnswer}
use Rattle.parking_lot_protocol.specs.declared.act.CoreAnswer.TheVariants.{Refused}
use Rattle.parking_lot_protocol.specs.declared.rw_phase.AfterWake.{AfterWake}
use Rattle.parking_lot_protocol.specs.declared.rw_phase.Outcome.{Outcome}
use Rattle.parking_lot_protocol.specs.declared.rw_phase.RwPhase.{RwPhase}
use Rattle.parking_lot_protocol.specs.RwTable.{act_of}
use Rattle.parking_lot_machine_calls.specs.declared.open_call.Call.{Call}
use Rattle.parking_lot_machine_calls.specs.declared.seat.Core.{Core}
use Rattle.parking_lot_machine.specs.Machines.{end_of}
use Rattle.parking_lot_machine_calls.specs.Stances.{core_act, has_begun, rw_begun}
use Rattle.mapworld_state.specs.Holds.{at_desk, tries_so, has_deadline_so}
use Rattle.mapworld_calls.specs.declared.ask.Begin.{Begin}
use Rattle.mapworld_calls.specs.declared.reply.Reply.{Reply}
use Rattle.mapworld_calls.specs.declared.reply.Answer.{Answer}
use Rattle.mapworld_calls.specs.declared.reply.Answer.TheVariants as answer
use Rattle.mapworld_calls.specs.Programs.{opening_key, is_try}
use Rattle.mapworld_calls.specs.Setup.{Setup, ask_at}
use Rattle.mapworld_calls.specs.Shards.{HasCause, IsOnShard}
use Rattle.mapworld_calls.proofs.Lists.{slice_get-set_same}
use Rattle.mapworld_state.specs.Locks.Aims.{Gets}
use Rattle.mapworld_state.specs.Locks.Fits.{is_plain}
use Rattle.mapworld_state.specs.Locks.Fits.{LocksFit}
use Rattle.mapworld_state.specs.Locks.Stands.{stand_in, stand_of}
use Rattle.mapworld_state.specs.declared.place.Phase.{Phase}
use Rattle.mapworld_state.specs.declared.place.Phase.TheVariants as phase
use Rattle.mapworld_state.specs.declared.place.Request.{Request}
use Rattle.mapworld_state.specs.declared.place.Request.TheVariants as request
use Rattle.mapworld_state.specs.declared.step.Step.{Step}
use Rattle.mapworld_state.specs.Held.{IsWanting, StandsBefore}
use Rattle.mapworld_state.specs.Moves.{ask_of, mode_of, opening_manner, request_key, request_manner}
use Rattle.mapworld_state.specs.declared.holds.Manner.{Manner}
use Rattle.mapworld_state.specs.declared.holds.Manner.TheVariants.{Waits, Tries, UntilDeadline}
use Rattle.mapworld_calls.specs.declared.ask.Ask.{Ask}
use Rattle.mapworld_calls.specs.declared.ask.Ask.TheVariants as ask
use Rattle.mapworld_calls.specs.declared.ask.Begin.TheVariants as begin
use Rattle.mapworld_state.specs.Places.{Place}
use Rattle.mapworld_state.specs.Sound.{Sound}
use Rattle.mapworld_state.specs.State.{State, next_step, started_of, threads_of}
use Rattle.mapworld_state.specs.Steps.{Answers, Concludes, owed, locked, idle, IsLocked}
use Rattle.mapworld_state.proofs.InvariantFacts.Adding.{Step-adds}
use Rattle.mapworld_state.proofs.InvariantFacts.Building.{Goes, claim-at}
use Rattle.mapworld_state.specs.Invariant.Causes.Causes.{HasCauses, HasMet, IsTold, has_seen, has_seen_in, is_locked}
use Rattle.mapworld_state.proofs.InvariantFacts.CausesFacts.Shapes.{Shape}
use Rattle.mapworld_state.proofs.InvariantFacts.CausesFacts.Staying.{on-kept}
use Rattle.std.proofs.Common.{◌≢◌, Option}
use Rattle.parking_lot_machine_calls.specs.Kinds.{AsMutex, manner_of}
use Rattle.parking_lot_machine_calls.specs.CallKinds.{IsOfKind}
use Rattle.parking_lot_machine_calls.specs.declared.calls.LockKind.{LockKind}
use Rattle.mapworld_state.proofs.LocksFacts.Ending.{not_mutex}
use Rattle.parking_lot_machine.specs.Rows.{state}
use Rattle.parking_lot_machine.specs.RowFits.{IsPrepared, rw_keeps}
use Rattle.parking_lot_machine_calls.specs.Kinds.{recursive_in}
use Rattle.mapworld_calls.specs.Deadlines.{HasMissed}
use Rattle.mapworld_calls.specs.Programs.{has_deadline}
use Rattle.mapworld_calls.specs.declared.ask.Keyed.TheVariants as keyed
use Rattle.mapworld_state.specs.State.{deadlines_of}
use Rattle.mapworld_state.specs.Invariant.Causes.Causes.{HasExpired, may_fail_at}
use Rattle.mapworld_state.proofs.InvariantFacts.CausesFacts.Going.{deadline-on}
use Rattle.mapworld_state.proofs.LocksFacts.Ending.{core_over}
use Rattle.parking_lot_machine.specs.CallLaws.Stages.{Over}
use Rattle.parking_lot_machine_calls.specs.declared.seat.Hold.{Hold}

-- a call that was to get a lock and is refused has seen a word that isn't 0
refused-seen : (o : Option LockKind) (recursive : Bool) (n : ℕ) (k : Core) → is_plain false k ≡ true
    → manner_of o ≢ Some AsMutex → IsOfKind o k → IsPrepared recursive n k → has_begun k ≡ true
    → end_of (core_act k) ≡ Some Refused → has_seen k ≡ true
refused-seen o recursive n (Core.Mutex c) so rw of_kind ready begun end = absurd (rw of_kind)
refused-seen o recursive n (Core.Late c) so rw of_kind ready begun end = absurd (rw of_kind)
refused-seen o recursive n (Core.LateRw p) so rw of_kind ready begun end = absurd cc
refused-seen o recursive n (Core.Upgrade c) so rw of_kind ready begun end = absurd cc
refused-seen o recursive n (Core.Rw c) so rw of_kind ready begun end = by c.phase ready.1 begun end
  where
    by : (p : RwPhase) → rw_keeps recursive n p → rw_begun p ≡ true → end_of (act_of p) ≡ Some Refused
        → has_seen_in p ≡ true
    by (RwPhase.Refuses want) keeps h e = refl
    by (RwPhase.Finishes AfterWake.FreedShared) keeps h e = absurd cc
    by (RwPhase.Finishes AfterWake.FreedExclusive) keeps h e = absurd cc
    by (RwPhase.Finishes AfterWake.Downgraded) keeps h e = absurd cc
    by (RwPhase.Finishes AfterWake.AgainShared) keeps h e = absurd cc
    by (RwPhase.Finishes AfterWake.AgainExclusive) keeps h e = absurd cc
    by (RwPhase.Ends Outcome.Shared) keeps h e = absurd cc
    by (RwPhase.Ends Outcome.Exclusive) keeps h e = absurd cc
    by (RwPhase.Ends Outcome.Downgraded) keeps h e = absurd cc
    by (RwPhase.Ends Outcome.FreedShared) keeps h e = absurd cc
    by (RwPhase.Ends Outcome.FreedExclusive) keeps h e = absurd cc
    by RwPhase.Invalid keeps h e = absurd keeps
    by p keeps h e = absurd cc

-- a try has no deadline
tries-untimed : (m : Manner) → tries_so m ≡ true → has_deadline_so m ≡ false
tries-untimed Waits tries = refl
tries-untimed Tries tries = refl
tries-untimed UntilDeadline tries = absurd (false≢true tries)

opening-tries : {K : Type 0} (b : Begin K) → tries_so (opening_manner b) ≡ is_try b
opening-tries (begin.Get k) = refl
opening-tries (begin.GetMut k) = refl
opening-tries (begin.Entry k) = refl
opening-tries (begin.TryGet k) = refl
opening-tries (begin.TryGetMut k) = refl
opening-tries (begin.TryEntry k) = refl
opening-tries (begin.GetUntil k) = refl
opening-tries (begin.GetMutUntil k) = refl

-- the request of an opening
request-is : {K V D : Type 0} (r : Request K V D) (b : Begin K) → ask_of r ≡ ask.Begin b → r ≡ request.Begin b
request-is (request.Begin g) b e = cc
request-is (request.Keyed k) b e = absurd cc

-- what is answered without its lock fails
unowned-fails : (a : CoreAnswer) (h : Hold) → a ≢ CoreAnswer.Owned → may_fail_at (Over a h) ≡ true
unowned-fails CoreAnswer.Owned h unowned = absurd (unowned refl)
unowned-fails CoreAnswer.Refused h unowned = refl
unowned-fails CoreAnswer.Released h unowned = refl

-- a request has a deadline where its ask has one
request-timed : {K V D : Type 0} (r : Request K V D) → has_deadline_so (request_manner r) ≡ has_deadline (ask_of r)
request-timed (request.Keyed (keyed.Insert k v)) = refl
request-timed (request.Keyed (keyed.Remove k)) = refl
request-timed (request.Keyed (keyed.RemoveIf k d)) = refl
request-timed (request.Keyed (keyed.RemoveIfMut k d)) = refl
request-timed (request.Keyed (keyed.Alter k d)) = refl
request-timed (request.Keyed (keyed.View k d)) = refl
request-timed (request.Keyed (keyed.ContainsKey k)) = refl
request-timed (request.Keyed (keyed.InsertUntil k v)) = refl
request-timed (request.Keyed (keyed.RemoveUntil k)) = refl
request-timed (request.Begin (begin.Get k)) = refl
request-timed (request.Begin (begin.GetMut k)) = refl
request-timed (request.Begin (begin.Entry k)) = refl
request-timed (request.Begin (begin.TryGet k)) = refl
request-timed (request.Begin (begin.TryGetMut k)) = refl
request-timed (request.Begin (begin.TryEntry k)) = refl
request-timed (request.Begin (begin.GetUntil k)) = refl
request-timed (request.Begin (begin.GetMutUntil k)) = refl

-- so a try that is told that its shard is locked has met another's call
module _ {K V S D T A : Type 0} (x : Setup K V D T) (w : State K V S D T A) (sound : Sound x w) (fit : LocksFit w.locks)
    (causes : HasCauses x w) (t : ℕ) (v : State K V S D T A) (e : IsLocked w t v) where
  wants : IsWanting e.place (mode_of e.request) (request_manner e.request) (stand_in w.locks t)
  wants = subst (λ (g : Phase K V D T A). StandsBefore e.place g (stand_in w.locks t)) e.before
      (sound.holds.stands t e.place e.stands)

  abbrev c : Call
  c = e.ends.steps.call

  is-stand : stand_of c ≡ record {
    shard = e.place.shard;
    aim = Gets (at_desk (mode_of e.request));
    trying = tries_so (request_manner e.request);
    timed = has_deadline_so (request_manner e.request);
  }
  is-stand = same_Some (stand_of c) _ (sym (ap (option_map stand_of) e.ends.steps.here) ∙ wants.is)

  module _ (tries : tries_so (request_manner e.request) ≡ true) where
    untimed : (stand_of c).timed ≡ false
    untimed = ap (λ z. z.timed) is-stand ∙ tries-untimed (request_manner e.request) tries

    refused : e.ended ≡ Refused
    refused =
        let same = same_Some e.ends.stand _ (sym e.ends.stood ∙ wants.is) in
        elim (e.ends.settled (at_desk (mode_of e.request)) (ap (λ z. z.aim) same)
        (ap (λ z. z.timed) same ∙ tries-untimed (request_manner e.request) tries))
        [ inl owned ↦ absurd (e.unowned owned) | inr is ↦ is ]

    pub met : HasMet x w t e.place
    met = causes.met t e.place c e.stands e.ends.steps.here
        (refused-seen (slice_get (state w.locks.rows).kinds c.lock) (recursive_in (state w.locks.rows).kinds c.lock)
        c.others c.core
        (subst (λ b. is_plain b c.core ≡ true) untimed (fit.plain.cores t c e.ends.steps.here))
        (not_mutex (state w.locks.rows) c.lock fit.plain.kinds) (fit.fits.rules.kinds t c e.ends.steps.here)
        (fit.fits.rules.prepared t c e.ends.steps.here)
        (fit.fits.rules.begun t c e.ends.steps.here).begun (sym e.ends.steps.answers ∙ ap (λ z. Some z) refused))

  -- and one that has a deadline, and gave up, is past it
  pub expired : has_deadline_so (request_manner e.request) ≡ true → HasExpired x w t e.place
  expired timed =
      causes.late t e.place e.stands c e.ends.steps.here (ap (λ z. z.timed) is-stand ∙ timed)
      (ap may_fail_at (core_over (state w.locks.rows) t c e.ended fit.fits fit.plain e.ends.steps.here
      e.ends.steps.answers) ∙ unowned-fails e.ended _ e.unowned)

-- THE ANSWER

-- of what it was told at a step each thread's place tells still
told-at : {K V D T A : Type 0} (f : Phase K V D T A) (a : Answer K V T A) → f ≡ phase.Answer a → IsTold f
    → is_locked a ≡ false
told-at f a is told = subst IsTold is told

last-of : {X : Type 0} (xs : List X) (y z : X) → xs ++ y ∷ [] ≡ xs ++ z ∷ [] → y ≡ z
last-of [] y z e = cc
last-of (x ∷ xs) y z e = last-of xs y z (let same : x ∷ (xs ++ y ∷ []) ≡ x ∷ (xs ++ z ∷ []) = e in cc)

module _ {K V S D T A : Type 0} (x : Setup K V D T) (w : State K V S D T A) (s : Step) (w' : State K V S D T A)
    (sound : Sound x w) (fit : LocksFit w.locks) (goes : Goes x s.thread w w') (shape : Shape w w' s)
    (adds : Step-adds w w' s)
    (causes : HasCauses x w) where
  abbrev t : ℕ
  t = s.thread

  -- a cause stays one
  pub cause-on : (r : Reply K V T A) → r.end ≤ next_step w → HasCause x (started_of w) w.blocks w.replies r
      → HasCause x (started_of w') w'.blocks w'.replies r
  cause-on r le h = record {
    opening = h.opening;
    asked = h.asked;
    step = h.step;
    from = h.from;
    until = h.until;
    other = h.other;
    another = h.another;
    on = on-kept x w s w' sound goes shape adds h.other (x.route (opening_key h.opening)) h.step
        (inl (let u = h.until in omega (arith, u, le))) h.on;
  }

  module _ (v : State K V S D T A) (a : Answers x v s w') (p : Place K V D T A) (at : slice_get w.places t ≡ Some p)
    where
      -- the answer of a place that stood before it
      unlocked : p.phase ≡ phase.Answer a.answer → is_locked a.answer ≡ false
      unlocked is = told-at p.phase a.answer is (causes.untold t p at)

  -- the reply of a try that was told so
  locked-cause : (v : State K V S D T A) (e : IsLocked w t v) (a : Answers x v s w') (steps : v.steps ≡ w.steps)
      (b : Begin K) → ask_at x t a.place.next ≡ Some (ask.Begin b) → is_try b ≡ true
      → HasCause x (started_of w') w'.blocks w'.replies
      (record { thread = t; call = a.place.next; start = a.start; end = next_step v; answer = a.answer })
  locked-cause v e a steps b asked tries =
      let claim = claim-at x (threads_of w) w.blocks w.replies w.tables t e.place (phase.Admit e.request) e.before
      (sound.stands t e.place e.stands) in
      let now : Place K V D T A = record (e.place) { phase = phase.Answer answer.Locked } in
      let here : a.place ≡ now =
      same_Some a.place now
      (sym a.stands ∙ ap (λ z. slice_get z.places t) e.after ∙ slice_get-set_same w.places t e.place now e.stands)
      in
      let its : ask_of e.request ≡ ask.Begin b =
      same_Some (ask_of e.request) (ask.Begin b) (sym (ap (λ z. ask_at x t z.next) here ∙ claim.0.asked) ∙ asked) in
      let is : e.request ≡ request.Begin b = request-is e.request b its in
      let m = met x w sound fit causes t v e
      (ap (λ (z : Request K V D). tries_so (request_manner z)) is ∙ opening-tries b ∙ tries) in
      let begun : a.start ≡ m.start = same_Some a.start m.start (sym a.begun ∙ ap (λ z. z.started) here ∙ m.started) in
      let end : next_step v ≡ next_step w = ap (λ z. length z + 1) steps in
      record {
        opening = b;
        asked = asked;
        step = m.step;
        from = (let le = m.from in omega (arith, le, begun));
        until = (let le = m.until in omega (arith, le, end));
        other = m.other;
        another = m.another;
        on = subst (λ (n : ℕ). IsOnShard x (started_of w') w'.blocks w'.replies m.other n m.step)
            (claim.1.shard ∙ ap (λ (z : Request K V D). x.route (request_key z)) is)
            (on-kept x w s w' sound goes shape adds m.other e.place.shard m.step (inl m.until) m.on);
      }

  -- the reply of a call with a deadline that was told so
  locked-missed : (v : State K V S D T A) (e : IsLocked w t v) (a : Answers x v s w') (steps : v.steps ≡ w.steps)
      (k : Ask K V D) → ask_at x t a.place.next ≡ Some k → has_deadline k ≡ true
      → HasMissed {K = K} {V = V} {T = T} {A = A} (deadlines_of w')
      (record { thread = t; call = a.place.next; start = a.start; end = next_step v; answer = a.answer })
  locked-missed v e a steps k asked timed =
      let claim = claim-at x (threads_of w) w.blocks w.replies w.tables t e.place (phase.Admit e.request) e.before
      (sound.stands t e.place e.stands) in
      let now : Place K V D T A = record (e.place) { phase = phase.Answer answer.Locked } in
      let here : a.place ≡ now =
      same_Some a.place now
      (sym a.stands ∙ ap (λ z. slice_get z.places t) e.after ∙ slice_get-set_same w.places t e.place now e.stands)
      in
      let its : ask_of e.request ≡ k =
      same_Some (ask_of e.request) k (sym (ap (λ z. ask_at x t z.next) here ∙ claim.0.asked) ∙ asked) in
      let m = expired x w sound fit causes t v e (request-timed e.request ∙ ap has_deadline its ∙ timed) in
      let begun : a.start ≡ m.start = same_Some a.start m.start (sym a.begun ∙ ap (λ z. z.started) here ∙ m.started) in
      let end : next_step v ≡ next_step w = ap (λ z. length z + 1) steps in
      record {
        step = m.step;
        from = (let lt = m.from in omega (arith, lt, begun));
        until = (let lt = m.until in omega (arith, lt, end));
        is = deadline-on w s w' shape t m.step m.is;
      }

  -- what is answered so is a call that could not have its shard
  is-locked : (v : State K V S D T A) → (v ≡ w) ⊎ Concludes w t v → (a : Answers x v s w') → is_locked a.answer ≡ true
      → IsLocked w t v
  is-locked v (inl same) a locked_ =
      absurd (false≢true (sym (unlocked v a a.place (sym (ap (λ z. slice_get z.places t) same) ∙ a.stands) a.before)
      ∙ locked_))
  is-locked v (inr (owed e)) a locked_ =
      absurd (false≢true (sym (unlocked v a a.place (sym (ap (λ z. slice_get z.places t) e.after) ∙ a.stands) a.before)
      ∙ locked_))
  is-locked v (inr (locked e)) a locked_ = e
  is-locked v (inr (idle e)) a locked_ =
      let now : Place K V D T A = record (e.place) { phase = phase.Answer e.answer } in
      let here : a.place ≡ now =
      same_Some a.place now
      (sym a.stands ∙ ap (λ z. slice_get z.places t) e.after ∙ slice_get-set_same w.places t e.place now e.stands)
      in
      let is : phase.Answer a.answer ≡ phase.Answer e.answer = sym a.before ∙ ap (λ z. z.phase) here in
      let same : a.answer ≡ e.answer = cc in
      absurd (false≢true (sym (ap is_locked (same ∙ e.told.is)) ∙ locked_))

  pub answer-cause : (v : State K V S D T A) → (v ≡ w) ⊎ Concludes w t v → (a : Answers x v s w')
      → is_locked a.answer ≡ true → (b : Begin K) → ask_at x t a.place.next ≡ Some (ask.Begin b) → is_try b ≡ true
      → HasCause x (started_of w') w'.blocks w'.replies
      (record { thread = t; call = a.place.next; start = a.start; end = next_step v; answer = a.answer })
  answer-cause v h a locked_ b asked tries =
      let e = is-locked v h a locked_ in locked-cause v e a (ap (λ z. z.steps) e.after) b asked tries

  pub answer-missed : (v : State K V S D T A) → (v ≡ w) ⊎ Concludes w t v → (a : Answers x v s w')
      → is_locked a.answer ≡ true → (k : Ask K V D) → ask_at x t a.place.next ≡ Some k → has_deadline k ≡ true
      → HasMissed {K = K} {V = V} {T = T} {A = A} (deadlines_of w')
      (record { thread = t; call = a.place.next; start = a.start; end = next_step v; answer = a.answer })
  answer-missed v h a locked_ k asked timed =
      let e = is-locked v h a locked_ in locked-missed v e a (ap (λ z. z.steps) e.after) k asked timed

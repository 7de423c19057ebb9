-- Every step keeps causes.
use Rattle.std.proofs.Common.{◌≡◌, ◌≢◌, ℕ, ◌≤◌, ◌⊎◌, inl, inr, true, [], ◌∷◌, ◌++◌, length, Option, Some, None}
use Rattle.std.proofs.Common.{slice_get, refl, sym, ap, ◌∙◌, subst, arith, length-append}
use Rattle.std.specs.Option.{option_map}
use Rattle.std.proofs.lemmas.Bool.{cases_eq, false≢true}
use Rattle.std.proofs.lemmas.Option.{none-some, same_Some}
use Rattle.parking_lot_machine_calls.specs.declared.open_call.Call.{Call}
use Rattle.parking_lot_machine.specs.Rows.{call_at, state}
use Rattle.mapworld_calls.specs.declared.reply.Reply.{Reply}
use Rattle.mapworld_calls.specs.declared.reply.Answer.TheVariants as answer
use Rattle.mapworld_calls.specs.Setup.{Setup, Laws}
use Rattle.mapworld_calls.specs.Shards.{HasCause, LockedHaveCauses}
use Rattle.mapworld_calls.proofs.Lists.{slice_get-push_cases}
use Rattle.mapworld_state.specs.Locks.Fits.{LocksFit}
use Rattle.mapworld_state.specs.Locks.Stands.{stand_in, stand_of}
use Rattle.mapworld_state.specs.declared.place.Phase.TheVariants as phase
use Rattle.mapworld_state.proofs.HoldsTable.{none-there}
use Rattle.mapworld_state.specs.declared.step.Step.{Step}
use Rattle.mapworld_state.specs.Places.{Place}
use Rattle.mapworld_state.specs.Sound.{Sound}
use Rattle.mapworld_state.specs.State.{State, next_step, started_of}
use Rattle.mapworld_state.specs.Steps.{Answers, Concludes, IsStep}
use Rattle.mapworld_state.proofs.InvariantFacts.Adding.{Step-adds, step-adds}
use Rattle.mapworld_state.proofs.InvariantFacts.Building.{Goes}
use Rattle.mapworld_state.proofs.InvariantFacts.Sounds.{step-goes}
use Rattle.mapworld_state.specs.Invariant.Causes.Causes.{HasCauses, HasMet, IsSite, IsSited, IsTold, has_seen}
use Rattle.mapworld_state.specs.Invariant.Causes.Causes.{is_locked}
use Rattle.mapworld_state.proofs.InvariantFacts.CausesFacts.Being.{step-low}
use Rattle.mapworld_state.proofs.InvariantFacts.CausesFacts.Between.{between-concludes}
use Rattle.mapworld_state.proofs.InvariantFacts.CausesFacts.Causing.{answer-cause, cause-on}
use Rattle.mapworld_state.proofs.InvariantFacts.CausesFacts.EachStep.{own-step}
use Rattle.mapworld_state.proofs.InvariantFacts.CausesFacts.Going.{Own, met-on}
use Rattle.mapworld_state.proofs.InvariantFacts.CausesFacts.Looking.{sees}
use Rattle.mapworld_state.proofs.InvariantFacts.CausesFacts.Shapes.{Shape, shape}
use Rattle.mapworld_state.proofs.InvariantFacts.CausesFacts.Staying.{on-kept}
use Rattle.mapworld_calls.specs.declared.ask.Begin.{Begin}
use Rattle.mapworld_calls.specs.declared.ask.Ask.TheVariants as ask
use Rattle.mapworld_calls.specs.Setup.{ask_at}
use Rattle.mapworld_calls.specs.Programs.{is_try}
use Rattle.std.proofs.Common.{IsTrue}
use Rattle.mapworld_calls.specs.declared.ask.Ask.{Ask}
use Rattle.mapworld_calls.specs.Programs.{has_deadline}
use Rattle.mapworld_calls.specs.Deadlines.{HasMissed, LockedHaveDeadlines}
use Rattle.mapworld_state.specs.State.{deadlines_of}
use Rattle.mapworld_state.specs.Locks.Stands.{Stand}
use Rattle.mapworld_state.specs.Invariant.Causes.Causes.{FailsLate, HasExpired}
use Rattle.mapworld_state.proofs.InvariantFacts.CausesFacts.Causing.{answer-missed}
use Rattle.mapworld_state.proofs.InvariantFacts.CausesFacts.Going.{deadline-on, expired-on}
use Rattle.mapworld_state.proofs.InvariantFacts.CausesFacts.Locking.{fails}

module _ {K V S D T A : Type 0} (x : Setup K V D T) (w : State K V S D T A) (s : Step) (w' : State K V S D T A)
    (sound : Sound x w) (fit : LocksFit w.locks) (goes : Goes x s.thread w w') (shape : Shape w w' s)
    (adds : Step-adds w w' s)
    (causes : HasCauses x w) (own : Own x w s w') where
  abbrev t : ℕ
  t = s.thread

  later : next_step w ≤ next_step w'
  later = omega (arith, ap (λ z. length z) shape.steps, length-append w.steps (s ∷ []))

  sited : (u : ℕ) (p : Place K V D T A) (shard : ℕ) → slice_get w'.places u ≡ Some p → IsSite w'.locks u p.holds shard
      → IsSited x w' u p shard
  sited u p shard at site = elim (cases_eq u t) [
    | inl same ↦
        let is : own.now ≡ p = same_Some own.now p (sym own.there ∙ ap (slice_get w'.places) (sym same) ∙ at) in
        subst (λ (n : ℕ). IsSited x w' n p shard) (sym same)
        (subst (λ (q : Place K V D T A). IsSited x w' t q shard) is
        (own.sites shard (subst (λ (q : Place K V D T A). IsSite w'.locks t q.holds shard) (sym is)
        (subst (λ (n : ℕ). IsSite w'.locks n p.holds shard) same site))))
    | inr ne ↦
        let was = causes.sited u p shard (sym (own.others u ne) ∙ at) (before ne site) in
        record {
          on = λ q le. on-kept x w s w' sound goes shape adds u shard q (inr (inl ne))
              (was.on q (omega (arith, le, later)));
          near = was.near;
        }
  ]
    where
      before : u ≢ t → IsSite w'.locks u p.holds shard → IsSite w.locks u p.holds shard
      before ne (inl hold) = inl hold
      before ne (inr (stand, is, at)) = inr (stand, sym (own.locks.stands u ne) ∙ is, at)

  met : (u : ℕ) (p : Place K V D T A) (c : Call) → slice_get w'.places u ≡ Some p
      → call_at (state w'.locks.rows) u ≡ Some c → has_seen c.core ≡ true → HasMet x w' u p
  met u p c at here seen = elim (cases_eq u t) [
    | inl same ↦
        let is : own.now ≡ p = same_Some own.now p (sym own.there ∙ ap (slice_get w'.places) (sym same) ∙ at) in
        subst (λ (n : ℕ). HasMet x w' n p) (sym same)
        (subst (λ (q : Place K V D T A). HasMet x w' t q) is
        (own.met (ap (λ n. sees (call_at (state w'.locks.rows) n)) (sym same) ∙ ap sees here ∙ seen)))
    | inr ne ↦ met-on x w s w' sound goes shape adds u p
        (before (call_at (state w.locks.rows) u) refl (sym (own.others u ne) ∙ at)
        (own.locks.sees u ne (ap sees here ∙ seen)))
  ]
    where
      before : (o : Option Call) → call_at (state w.locks.rows) u ≡ o → slice_get w.places u ≡ Some p
          → sees (call_at (state w.locks.rows) u) ≡ true → HasMet x w u p
      before None e was h = absurd (false≢true (sym (ap sees e) ∙ h))
      before (Some d) e was h = causes.met u p d was e (sym (ap sees e) ∙ h)

  untold : (u : ℕ) (p : Place K V D T A) → slice_get w'.places u ≡ Some p → IsTold p.phase
  untold u p at = elim (cases_eq u t) [
    | inl same ↦ subst (λ (q : Place K V D T A). IsTold q.phase)
        (same_Some own.now p (sym own.there ∙ ap (slice_get w'.places) (sym same) ∙ at)) own.told
    | inr ne ↦ causes.untold u p (sym (own.others u ne) ∙ at)
  ]

  old-cause : (i : ℕ) (r : Reply K V T A) → slice_get w.replies i ≡ Some r → r.answer ≡ answer.Locked
      → (b : Begin K) → ask_at x r.thread r.call ≡ Some (ask.Begin b) → IsTrue (is_try b)
      → HasCause x (started_of w') w'.blocks w'.replies r
  old-cause i r at is b asked tries =
      let lt = step-low x w sound r.thread r.end (sound.placed.timed i r at).end in
      cause-on x w s w' sound fit goes shape adds causes r (omega (arith, lt)) (causes.locked i r at is b asked tries)

  locked-by : (w'.replies ≡ w.replies) ⊎ ((v : State K V S D T A) × ((v ≡ w) ⊎ Concludes w t v) × Answers x v s w')
      → LockedHaveCauses x (started_of w') w'.blocks w'.replies
  locked-by (inl same) i r at is b asked tries = old-cause i r (ap (λ z. slice_get z i) (sym same) ∙ at) is b asked
      tries
  locked-by (inr (v, h, a)) i r at is b asked tries =
      elim (slice_get-push_cases w.replies i r new
      (ap (λ z. slice_get z i) (sym (ap (λ z. z.replies) a.after ∙ ap (λ z. z ++ new ∷ []) replies)) ∙ at)) [
        | inl old ↦ old-cause i r old is b asked tries
        | inr last ↦ subst (λ (q : Reply K V T A). HasCause x (started_of w') w'.blocks w'.replies q) (sym last.1)
            (answer-cause x w s w' sound fit goes shape adds causes v h a
            (sym (ap (λ q. is_locked q.answer) last.1) ∙ ap is_locked is) b
            (ap (λ q. ask_at x q.thread q.call) (sym last.1) ∙ asked) tries)
      ]
    where
      new : Reply K V T A
      new = record { thread = t; call = a.place.next; start = a.start; end = next_step v; answer = a.answer }

      replies : v.replies ≡ w.replies
      replies = elim h [ inl same ↦ ap (λ z. z.replies) same | inr c ↦ (between-concludes x w t sound v c).2.replies ]

  late : (u : ℕ) (p : Place K V D T A) → slice_get w'.places u ≡ Some p → FailsLate x w' w'.locks u p
  late u p at c here timed f = elim (cases_eq u t) [
    | inl same ↦
        let is : own.now ≡ p = same_Some own.now p (sym own.there ∙ ap (slice_get w'.places) (sym same) ∙ at) in
        subst (λ (n : ℕ). HasExpired x w' n p) (sym same)
        (subst (λ (q : Place K V D T A). HasExpired x w' t q) is
        (own.late c (ap (call_at (state w'.locks.rows)) (sym same) ∙ here) timed f))
    | inr ne ↦ expired-on x w s w' shape u p
        (before ne (call_at (state w.locks.rows) u) refl (own.locks.fails fit u ne (ap fails here ∙ f)))
  ]
    where
      before : u ≢ t → (o : Option Call) → call_at (state w.locks.rows) u ≡ o
          → fails (call_at (state w.locks.rows) u) ≡ true → HasExpired x w u p
      before ne None e h = absurd (false≢true (sym (ap fails e) ∙ h))
      before ne (Some d) e h =
          let same : stand_of d ≡ stand_of c = same_Some (stand_of d) (stand_of c)
          (sym (ap (option_map stand_of) e) ∙ sym (own.locks.stands u ne) ∙ ap (option_map stand_of) here) in
          causes.late u p (sym (own.others u ne) ∙ at) d e (ap (λ (z : Stand). z.timed) same ∙ timed)
          (sym (ap fails e) ∙ h)

  old-missed : (i : ℕ) (r : Reply K V T A) → slice_get w.replies i ≡ Some r → r.answer ≡ answer.Locked
      → (k : Ask K V D) → ask_at x r.thread r.call ≡ Some k → IsTrue (has_deadline k) → HasMissed (deadlines_of w') r
  old-missed i r at is k asked timed =
      let m = causes.missed i r at is k asked timed in
      record { step = m.step; from = m.from; until = m.until; is = deadline-on w s w' shape r.thread m.step m.is }

  missed-by : (w'.replies ≡ w.replies) ⊎ ((v : State K V S D T A) × ((v ≡ w) ⊎ Concludes w t v) × Answers x v s w')
      → LockedHaveDeadlines x (deadlines_of w') w'.replies
  missed-by (inl same) i r at is k asked timed = old-missed i r (ap (λ z. slice_get z i) (sym same) ∙ at) is k asked
      timed
  missed-by (inr (v, h, a)) i r at is k asked timed =
      elim (slice_get-push_cases w.replies i r new
      (ap (λ z. slice_get z i) (sym (ap (λ z. z.replies) a.after ∙ ap (λ z. z ++ new ∷ []) replies)) ∙ at)) [
        | inl old ↦ old-missed i r old is k asked timed
        | inr last ↦ subst (λ (q : Reply K V T A). HasMissed (deadlines_of w') q) (sym last.1)
            (answer-missed x w s w' sound fit goes shape adds causes v h a
            (sym (ap (λ q. is_locked q.answer) last.1) ∙ ap is_locked is) k
            (ap (λ q. ask_at x q.thread q.call) (sym last.1) ∙ asked) timed)
      ]
    where
      new : Reply K V T A
      new = record { thread = t; call = a.place.next; start = a.start; end = next_step v; answer = a.answer }

      replies : v.replies ≡ w.replies
      replies = elim h [ inl same ↦ ap (λ z. z.replies) same | inr c ↦ (between-concludes x w t sound v c).2.replies ]

  kept : HasCauses x w'
  kept = record {
    sited = sited;
    met = met;
    untold = untold;
    locked = locked-by own.closes;
    late = late;
    missed = missed-by own.closes;
  }

pub causes-step : {K V S D T A : Type 0} (x : Setup K V D T) → Laws x
    → (w : State K V S D T A) (s : Step) (w' : State K V S D T A) → Sound x w → LocksFit w.locks
    → length w.places ≡ length w.locks.rows.calls → HasCauses x w → IsStep x w s w' → HasCauses x w'
causes-step x laws w s w' sound fit threads causes step =
    let goes = step-goes x laws w s w' sound step in
    let is = shape x w s w' sound step in
    let adds = step-adds x w s w' sound step in
    kept x w s w' sound fit goes is adds causes (own-step x w s w' sound goes is adds causes fit threads step)

-- where nobody has done anything no thread holds or waits for a shard
pub causes-new : {K V S D T A : Type 0} (x : Setup K V D T) (w : State K V S D T A)
    → ((u : ℕ) (p : Place K V D T A) → slice_get w.places u ≡ Some p → (p.phase ≡ phase.Rest) × (p.holds ≡ []))
    → ((u : ℕ) → stand_in w.locks u ≡ None) → w.replies ≡ [] → HasCauses x w
causes-new x w rests out none = record {
  sited = λ u p shard at site. elim site [
    | inl hold ↦ absurd (none-there p.holds hold.0 hold.1 (rests u p at).1 hold.2)
    | inr stand ↦ absurd (none-some stand.0 (sym (out u) ∙ stand.1))
  ];
  met = λ u p c at here seen. absurd (none-some (stand_of c) (sym (out u) ∙ ap (option_map stand_of) here));
  untold = λ u p at. subst IsTold (sym (rests u p at).0) tt;
  locked = λ i r at is b asked tries. absurd (none-there w.replies i r none at);
  late = λ u p at c here timed f. absurd (none-some (stand_of c) (sym (out u) ∙ ap (option_map stand_of) here));
  missed = λ i r at is k asked timed. absurd (none-there w.replies i r none at);
}

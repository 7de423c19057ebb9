-- A thread's call goes on, whatever the schedule, until it is answered; then the thread is in no call.
use Rattle.std.proofs.Common.{◌≡◌, ◌≢◌, ◌⊎◌, inl, inr, ℕ, ◌<◌, ◌==◌, Bool, true, false, cond, ◌||◌, nat_lt, is_some}
use Rattle.std.proofs.Common.{List, [], ◌∷◌, length, Option, Some, None, slice_get, slice_set, refl, sym, ap, ◌∙◌}
use Rattle.std.proofs.Common.{subst, arith}
use Rattle.std.specs.List.{list_any}
use Rattle.std.specs.Option.{option_and_then, option_map, unwrap_or}
use Rattle.std.proofs.lemmas.Bool.{eq-eqb, eqb-true, ltb-true}
use Rattle.std.proofs.lemmas.List.{length-set}
use Rattle.std.proofs.lemmas.Option.{none-some, same_Some}
use Rattle.parking_lot_machine_sides.specs.declared.condvar.calls.CondvarReply.{CondvarReply}
use Rattle.parking_lot_machine_sides.specs.Once.Onces.{Onces}
use Rattle.parking_lot_machine_sides.specs.Once.Onces as onces
use Rattle.parking_lot_machine_sides.specs.declared.once.open_call.OpenCall.{OpenCall}
use Rattle.parking_lot_rules.proofs.Indexed.{get-set_other}
use Rattle.parking_lot_machine_waits.specs.declared.ended.Ended.{Ended}
use Rattle.parking_lot_machine_waits.specs.declared.seat.Seat.{Seat}
use Rattle.parking_lot_machine_waits.specs.Joint.{Joint, nowhere, seat_at}
use Rattle.parking_lot_machine_waits.specs.JointMoves as joint
use Rattle.parking_lot_machine_waits.specs.JointSides.{is_busy, lock_call}
use Rattle.parking_lot_machine_waits.specs.JointSteps.{IsGoneAt, IsLateAt, freed}
use Rattle.parking_lot_machine_waits.proofs.LeavingTurns.{steps_leave}
use Rattle.parking_lot_world.specs.declared.calls.Asked.{Asked}
use Rattle.parking_lot_world.specs.declared.calls.LockAnswer.{LockAnswer}
use Rattle.parking_lot_world.specs.declared.fault.WorldRefusal.{WorldRefusal}
use Rattle.parking_lot_world.specs.declared.step.WorldStep.{WorldStep}
use Rattle.parking_lot_world.specs.declared.step.WorldStep.TheVariants as step
use Rattle.parking_lot_world.specs.WorldAnswers.{answer_at, begins_for, is_late_for}
use Rattle.parking_lot_world.specs.WorldCalls.{asked, of_ended, of_reply, said, step_thread}
use Rattle.parking_lot_world.specs.Worlds.{IsAsked, IsFit, IsGone, IsLate, IsMade, Ran, Shown, is_in_once, may_ask}
use Rattle.parking_lot_world.specs.Worlds.{may_go, may_make, noted, refusal}
use Rattle.parking_lot_world.proofs.Busy.{expires_busy, goes_busy}
use Rattle.parking_lot_world.proofs.OncesKept as of_onces
use Rattle.parking_lot_world.proofs.Whole.{ask_lock_there, ask_variable_there, both_ways, waits_go}

-- LISTS

pub elsewhere : {X : Type 0} (xs : List (Option X)) (t u : ℕ) (o : Option X) → t ≢ u
    → option_and_then (λ y. y) (slice_get (slice_set xs u o) t) ≡ option_and_then (λ y. y) (slice_get xs t)
elsewhere xs t u o ne = ap (option_and_then (λ y. y)) (get-set_other xs u t o (λ e. ne (sym e)))

-- the answer of another stays
pub noted_elsewhere : (t u : ℕ) (o : Option LockAnswer) (answers : List (Option LockAnswer)) → t ≢ u
    → option_and_then (λ a. a) (slice_get (noted u o answers) t) ≡ option_and_then (λ a. a) (slice_get answers t)
noted_elsewhere t u None answers ne = refl
noted_elsewhere t u (Some a) answers ne = elsewhere answers t u (Some a) ne

pub noted_count : (u : ℕ) (o : Option LockAnswer) (answers : List (Option LockAnswer))
    → length (noted u o answers) ≡ length answers
noted_count u None answers = refl
noted_count u (Some a) answers = length-set answers u (Some a)

-- A CALL OF THREAD t, AND WHICH ANSWERS FIT IT

module _ (t : ℕ) (fits_call : Bool → LockAnswer → Bool) where
  -- it is answered, and its thread is in no call
  pub record IsOver (w : Shown) (late : Bool) : Type 0 where
    pub idle : is_busy w.waits t ≡ false
    pub out : onces.call_at w.onces t ≡ None
    pub answer : LockAnswer
    pub answered : answer_at w t ≡ Some answer
    pub fits : fits_call late answer ≡ true

  -- THE SEATS OF OTHERS

  pub record SeatsStay (w x : Shown) : Type 0 where
    pub count : length x.waits.seats ≡ length w.waits.seats
    pub seat : seat_at x.waits t ≡ seat_at w.waits t

  pub seats_same : (w x : Shown) → x.waits.seats ≡ w.waits.seats → SeatsStay w x
  seats_same w x e =
      record {
        count = ap (λ (ss : List Seat). length ss) e;
        seat = ap (λ (ss : List Seat). unwrap_or (slice_get ss t) nowhere) e;
      }

  pub seats_set : (w x : Shown) (u : ℕ) (s : Seat) → t ≢ u → x.waits.seats ≡ slice_set w.waits.seats u s → SeatsStay w x
  seats_set w x u s ne e = record {
    count = ap (λ (ss : List Seat). length ss) e ∙ length-set w.waits.seats u s;
    seat = ap (λ (ss : List Seat). unwrap_or (slice_get ss t) nowhere) e ∙ ap (λ (o : Option Seat). unwrap_or o nowhere)
        (get-set_other w.waits.seats u t s (λ e. ne (sym e)));
  }

  pub seats_freed : (w x : Shown) (u : ℕ) (reply : Option CondvarReply) → t ≢ u
      → x.waits.seats ≡ freed u reply w.waits.seats → SeatsStay w x
  seats_freed w x u None ne e = seats_same w x e
  seats_freed w x u (Some r) ne e = seats_set w x u nowhere ne e

  pub seats_gone : (w x : Shown) (u : ℕ) (at : Option ℕ) (fair : Bool) (end : Option Ended) → t ≢ u
      → IsGoneAt at u fair end w.waits x.waits → SeatsStay w x
  seats_gone w x u None fair end ne (a, z, ends) = seats_same w x z.seats
  seats_gone w x u (Some v) fair end ne (reply, z, ends) = seats_freed w x u reply ne z.seats

  pub seats_late : (w x : Shown) (u : ℕ) (at : Option ℕ) → IsLateAt at u w.waits x.waits → SeatsStay w x
  seats_late w x u None (late, vars, seats) = seats_same w x seats
  seats_late w x u (Some v) (hears, same, seats) = seats_same w x seats

  -- A CALL THAT IS OVER

  -- no call of its own has begun
  no_more : (b d : Bool) → (d ≡ true → b ≡ true) → b ≡ false → d ≡ false
  no_more b true from e = both_ways b (from refl) e
  no_more b false from e = refl

  keep : (w x : Shown) (late : Bool) → IsOver w late → (is_busy x.waits t ≡ true → is_busy w.waits t ≡ true)
      → onces.call_at x.onces t ≡ None → answer_at x t ≡ answer_at w t → IsOver x late
  keep w x late m from out same =
      record {
        idle = no_more (is_busy w.waits t) (is_busy x.waits t) from m.idle;
        out = out;
        answer = m.answer;
        answered = same ∙ m.answered;
        fits = m.fits;
      }

  module _ (w x : Shown) (fit : IsFit w) (late : Bool) (u : ℕ) (ne : t ≢ u) where
    -- another's call at a once is its own
    once_out : (b : Option ℕ) → of_onces.Kept b w.onces x.onces → onces.call_at w.onces t ≡ None
        → onces.call_at x.onces t ≡ None
    once_out b kept none = go (onces.call_at x.onces t) refl
      where
        go : (o : Option OpenCall) → onces.call_at x.onces t ≡ o → onces.call_at x.onces t ≡ None
        go None e = e
        go (Some d) e = (let was = kept.calls.from t d e in absurd (none-some was.call (sym none ∙ was.is)))

    pub still_out : x.onces ≡ w.onces → onces.call_at w.onces t ≡ None → onces.call_at x.onces t ≡ None
    still_out e none = ap (λ (o : Onces). onces.call_at o t) e ∙ none

    pub same_busy : x.waits ≡ w.waits → is_busy x.waits t ≡ true → is_busy w.waits t ≡ true
    same_busy e is = ap (λ (j : Joint). is_busy j t) (sym e) ∙ is

    -- another begins a call
    asked_over : (l : ℕ) (call : Asked) → may_ask w u l call ≡ true → IsAsked u l call w x
        → answer_at x t ≡ answer_at w t → IsOver w late → IsOver x late
    asked_over l (Asked.OfLock d) may (begun, same) answers m =
        keep w x late m ((steps_leave.asks u l d w.waits x.waits fit.tied fit.parts (ask_lock_there w u l d may)
        begun).busy t ne) (still_out same m.out) answers
    asked_over l (Asked.OfVariable d) may (begun, same) answers m =
        keep w x late m ((steps_leave.calls u l d w.waits x.waits fit.tied fit.parts (ask_variable_there w u l d may)
        begun).busy t ne) (still_out same m.out) answers
    asked_over l (Asked.OfOnce d) may (begun, same) answers m = keep w x late m (same_busy same)
        (ap (λ (o : Onces). onces.call_at o t) begun.became ∙ elsewhere w.onces.calls t u _ ne ∙ m.out) answers

    -- makes a step
    gone_over : (fair b : Bool) → is_in_once w u ≡ b → may_go w u ≡ true → IsGone b u fair w x
        → answer_at x t ≡ answer_at w t → IsOver w late → IsOver x late
    gone_over fair false is may (end, gone, same, told) answers m =
        keep w x late m ((steps_leave.steps u fair end w.waits x.waits fit.tied fit.parts (waits_go w u is may)
        gone).busy t ne) (still_out same m.out) answers
    gone_over fair true is may (reply, made, same, told) answers m = keep w x late m (same_busy same)
        (once_out _ (of_onces.stepped_kept w.onces x.onces u reply made) m.out) answers

    -- or its deadline comes
    late_over : joint.may_expire w.waits u ≡ true → IsLate u w x → IsOver w late → IsOver x late
    late_over may (came, same, answers) m =
        keep w x late m ((steps_leave.deadlines u w.waits x.waits fit.tied fit.parts may came).busy t ne)
        (still_out same m.out) (ap (λ xs. option_and_then (λ a. a) (slice_get xs t)) answers)

  -- the thread itself makes no step
  goes_no_more : {X : Type 0} (w : Shown) (late b : Bool) → is_in_once w t ≡ b → may_go w t ≡ true → IsOver w late → X
  goes_no_more w late true is may m = both_ways (is_in_once w t) is (ap (λ (o : Option OpenCall). is_some o) m.out)
  goes_no_more w late false is may m = both_ways (is_busy w.waits t) (goes_busy w.waits t (waits_go w t is may)) m.idle

  -- STEPS

  pub allowed : (w : Shown) (s : WorldStep) → refusal w s ≡ None → (step_thread s < length w.answers)
      × (may_make w s ≡ true)
  allowed w s ok = go (nat_lt (step_thread s) (length w.answers)) refl (may_make w s) refl
    where
      refusal_by : Bool → Bool → Option WorldRefusal
      refusal_by a b = cond a (cond b None (Some WorldRefusal.CannotMove)) (Some WorldRefusal.NoSuchThread)

      go : (a : Bool) → nat_lt (step_thread s) (length w.answers) ≡ a → (b : Bool) → may_make w s ≡ b
          → (step_thread s < length w.answers) × (may_make w s ≡ true)
      go true e true f = (ltb-true (step_thread s) (length w.answers) e, f)
      go true e false f =
          absurd (none-some WorldRefusal.CannotMove
          (sym ok ∙ ap (λ a. refusal_by a (may_make w s)) e ∙ ap (refusal_by true) f))
      go false e b f = absurd (none-some WorldRefusal.NoSuchThread (sym ok ∙ ap (λ a. refusal_by a (may_make w s)) e))

  pub not_it : (u : ℕ) → (u == t) ≡ false → t ≢ u
  not_it u e same = both_ways (u == t) (eq-eqb u t (sym same)) e

  pub or_not : (late : Bool) → (late || false) ≡ late
  or_not true = refl
  or_not false = refl

  pub or_so : (late : Bool) → (late || true) ≡ true
  or_so true = refl
  or_so false = refl

  pub answers_count : (w x : Shown) (s : WorldStep) → IsMade s w x → length x.answers ≡ length w.answers
  answers_count w x (step.Begin u l call) (begun, answers, kinds) = ap (λ xs. length xs) answers
      ∙ length-set w.answers u None
  answers_count w x (step.Go u fair) (gone, kinds) = by (is_in_once w u) gone
    where
      by : (b : Bool) → IsGone b u fair w x → length x.answers ≡ length w.answers
      by false (end, z, same, answers) = ap (λ xs. length xs) answers
          ∙ noted_count u (option_map (of_ended (lock_call w.waits u)) end) w.answers
      by true (reply, z, same, answers) = ap (λ xs. length xs) answers ∙ noted_count u (option_map of_reply reply)
          w.answers
  answers_count w x (step.Deadline u) ((late, same, answers), kinds) = ap (λ xs. length xs) answers

  gone_answers : (w x : Shown) (u : ℕ) (fair b : Bool) → t ≢ u → IsGone b u fair w x → answer_at x t ≡ answer_at w t
  gone_answers w x u fair false ne (end, z, same, answers) = ap (λ xs. option_and_then (λ a. a) (slice_get xs t))
      answers ∙ noted_elsewhere t u (option_map (of_ended (lock_call w.waits u)) end) w.answers ne
  gone_answers w x u fair true ne (reply, z, same, answers) = ap (λ xs. option_and_then (λ a. a) (slice_get xs t))
      answers ∙ noted_elsewhere t u (option_map of_reply reply) w.answers ne

  pub answer_gone : (w x : Shown) (u : ℕ) (fair : Bool) → t ≢ u → IsGone (is_in_once w u) u fair w x
      → answer_at x t ≡ answer_at w t
  answer_gone w x u fair ne gone = gone_answers w x u fair (is_in_once w u) ne gone

  over_goes : (w x : Shown) (late : Bool) (u : ℕ) (fair : Bool) → IsFit w → may_go w u ≡ true
      → IsGone (is_in_once w u) u fair w x → IsOver w late → (b : Bool) → (u == t) ≡ b → IsOver x late
  over_goes w x late u fair fit may gone m true e = goes_no_more w late (is_in_once w t) refl
      (subst (λ n. may_go w n ≡ true) (eqb-true u t e) may) m
  over_goes w x late u fair fit may gone m false e =
      (let ne = not_it u e in gone_over w x fit late u ne fair (is_in_once w u) refl may gone
      (answer_gone w x u fair ne gone) m)

  over_lates : (w x : Shown) (late : Bool) (u : ℕ) → IsFit w → joint.may_expire w.waits u ≡ true → IsLate u w x
      → IsOver w late → (b : Bool) → (u == t) ≡ b → IsOver x (late || b)
  over_lates w x late u fit may came m true e =
      both_ways (is_busy w.waits t)
      (expires_busy w.waits t (subst (λ n. joint.may_expire w.waits n ≡ true) (eqb-true u t e) may)) m.idle
  over_lates w x late u fit may came m false e = subst (IsOver x) (sym (or_not late))
      (late_over w x fit late u (not_it u e) may came m)

  over_step : (w x : Shown) (late : Bool) (s : WorldStep) → IsFit w → may_make w s ≡ true → IsMade s w x
      → begins_for t s ≡ false → IsOver w late → IsOver x (late || is_late_for t s)
  over_step w x late (step.Begin u l call) fit may (begun, answers, kinds) begins m =
      let ne = not_it u begins in
      subst (IsOver x) (sym (or_not late))
      (asked_over w x fit late u ne l (asked call) may begun
      (ap (λ xs. option_and_then (λ a. a) (slice_get xs t)) answers ∙ elsewhere w.answers t u None ne) m)
  over_step w x late (step.Go u fair) fit may (gone, kinds) begins m = subst (IsOver x) (sym (or_not late))
      (over_goes w x late u fair fit may gone m (u == t) refl)
  over_step w x late (step.Deadline u) fit may (came, kinds) begins m = over_lates w x late u fit may came m (u == t)
      refl

  -- A WHOLE RUN

  -- what keeps a call that isn't answered yet
  abbrev pub Goes : (Shown → Bool → Type 0) → Type 0
  Goes In =
      (w x : Shown) (late : Bool) (s : WorldStep) → IsFit w → IsFit x → t < length w.answers
      → step_thread s < length w.answers → may_make w s ≡ true → IsMade s w x → begins_for t s ≡ false
      → In w late → In x (late || is_late_for t s) ⊎ IsOver x (late || is_late_for t s)

  module _ (In : Shown → Bool → Type 0) (goes : Goes In)
      (unanswered : (w : Shown) (late : Bool) → In w late → answer_at w t ≡ None) where
    record Follows (w : Shown) (late : Bool) : Type 0 where
      low : t < length w.answers
      call : In w late ⊎ IsOver w late

    one_step : (w x : Shown) (late : Bool) (s : WorldStep) → IsFit w → IsFit x → refusal w s ≡ None → IsMade s w x
        → begins_for t s ≡ false → Follows w late → Follows x (late || is_late_for t s)
    one_step w x late s fit fits ok made begins f =
        record { low = omega (arith, f.low, answers_count w x s made); call = by f.call }
      where
        by : In w late ⊎ IsOver w late → In x (late || is_late_for t s) ⊎ IsOver x (late || is_late_for t s)
        by (inl m) = goes w x late s fit fits f.low (allowed w s ok).0 (allowed w s ok).1 made begins m
        by (inr m) = inr (over_step w x late s fit (allowed w s ok).1 made begins m)

    or_then : (a b d : Bool) → ((a || b) || d) ≡ (a || (b || d))
    or_then true b d = refl
    or_then false b d = refl

    parts : (a b : Bool) → (a || b) ≡ false → (a ≡ false) × (b ≡ false)
    parts false b e = (refl, e)
    parts true b e = absurd cc

    run : (w x : Shown) (late : Bool) (steps : List WorldStep) → IsFit w → Follows w late → Ran w steps x
        → list_any (begins_for t) steps ≡ false → Follows x (late || list_any (is_late_for t) steps)
    run w x late [] fit f e begins = subst (λ (y : Shown). Follows y (late || false)) (sym e)
        (subst (Follows w) (sym (or_not late)) f)
    run w x late (s ∷ steps) fit f (mid, ok, made, fits, rest) begins =
        let both = parts (begins_for t s) (list_any (begins_for t) steps) begins in
        subst (Follows x) (or_then late (is_late_for t s) (list_any (is_late_for t) steps))
        (run mid x (late || is_late_for t s) steps fits (one_step w mid late s fit fits ok made both.0 f) rest
        both.1)

    pub answered_fits : (w x : Shown) (steps : List WorldStep) (a : LockAnswer) → IsFit w → t < length w.answers
        → In w false → Ran w steps x → list_any (begins_for t) steps ≡ false → answer_at x t ≡ Some a
        → fits_call (list_any (is_late_for t) steps) a ≡ true
    answered_fits w x steps a fit low m ran begins said =
        ends (run w x false steps fit (record { low = low; call = inl m }) ran begins).call
      where
        ends : In x (list_any (is_late_for t) steps) ⊎ IsOver x (list_any (is_late_for t) steps)
            → fits_call (list_any (is_late_for t) steps) a ≡ true
        ends (inl n) = absurd (none-some a (sym (unanswered x (list_any (is_late_for t) steps) n) ∙ said))
        ends (inr n) = subst (λ b. fits_call (list_any (is_late_for t) steps) b ≡ true)
            (same_Some n.answer a (sym n.answered ∙ said)) n.fits

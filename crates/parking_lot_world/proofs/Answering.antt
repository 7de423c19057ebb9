-- What a call at a lock is answered, whatever the schedule.
use Rattle.std.proofs.Common.{◌≡◌, ◌≢◌, ◌⊎◌, inl, inr, ℕ, ◌+◌, ◌<◌, ◌==◌, Bool, true, false, not, cond, ◌&&◌, ◌||◌}
use Rattle.std.proofs.Common.{nat_lt, is_some, is_none, List, length, Option, Some, None, slice_get, slice_set, refl}
use Rattle.std.proofs.Common.{sym, ap, ◌∙◌, subst, arith}
use Rattle.std.specs.Option.{option_and_then, option_map, unwrap_or}
use Rattle.std.proofs.lemmas.Bool.{eqb-true, lt-ltb}
use Rattle.std.proofs.lemmas.List.{length-set}
use Rattle.std.proofs.lemmas.Option.{none-some, same_Some}
use Rattle.parking_lot_machine.specs.CallLaws.AnswerLaws.{CallsLead, IsAnswered, IsOpen}
use Rattle.parking_lot_machine.specs.CallLaws.Answers.{MayStand, may_end}
use Rattle.parking_lot_machine.specs.CallLaws.Stages.{Stage, quits, stage, stage_of}
use Rattle.parking_lot_machine.proofs.CallLawsFacts.Standing.{begins_so, ends_so, stands_late, stands_on}
use Rattle.parking_lot_machine_sides.specs.Once.Onces.{Onces}
use Rattle.parking_lot_machine_sides.specs.Once.Onces as onces
use Rattle.parking_lot_machine_sides.specs.declared.once.open_call.OpenCall.{OpenCall}
use Rattle.parking_lot_protocol.specs.declared.act.CoreAnswer.{CoreAnswer}
use Rattle.parking_lot_machine_waits.specs.declared.ended.Ended.{Ended}
use Rattle.parking_lot_machine_waits.specs.declared.seat.Seat.{Seat}
use Rattle.parking_lot_machine_waits.specs.Joint.{Joint, busy_number, has_by_second, nowhere, number, seat_at}
use Rattle.parking_lot_machine_waits.specs.JointMoves as joint
use Rattle.parking_lot_machine_waits.specs.JointSides.{is_busy, lock_call}
use Rattle.parking_lot_machine_waits.specs.JointSteps.{GoesAtLock, IsGoneAt, IsLateAt}
use Rattle.parking_lot_machine_waits.proofs.LocksKept.{busy}
use Rattle.parking_lot_machine_calls.specs.Beginnings.{holds_beside}
use Rattle.parking_lot_machine_calls.specs.Calls.{is_timed}
use Rattle.parking_lot_machine_calls.specs.declared.calls.LockCall.{LockCall as RowCall}
use Rattle.parking_lot_machine_calls.specs.declared.open_call.Call.{Call}
use Rattle.parking_lot_machine.specs.Machines as rows
use Rattle.parking_lot_machine.specs.Rows.{call_at, hold_at, state}
use Rattle.parking_lot_world.specs.declared.calls.Asked.{Asked}
use Rattle.parking_lot_world.specs.declared.calls.LockCall.{LockCall}
use Rattle.parking_lot_world.specs.declared.step.WorldStep.TheVariants as step
use Rattle.parking_lot_world.specs.WorldAnswers.{Fits, answer_at, may_answer}
use Rattle.parking_lot_world.specs.WorldCalls.{asked, of_core, of_ended, of_timed, said}
use Rattle.parking_lot_world.specs.Worlds.{IsAsked, IsFit, IsGone, IsLate, Shown, is_in_once, may_ask, noted, rows_of}
use Rattle.parking_lot_rules.proofs.Slots.{set_there}
use Rattle.parking_lot_world.proofs.Busy.{called_busy}
use Rattle.parking_lot_world.proofs.Fitting.{answers_fit}
use Rattle.parking_lot_world.proofs.Leading.{Led, asked_led, gone_led, late_led, led_on, same_led}
use Rattle.parking_lot_world.proofs.Whole.{ask_lock_there, both_true, both_ways}
use Rattle.parking_lot_world.proofs.Following.{Goes, IsOver, SeatsStay, answer_gone, answered_fits, elsewhere, not_it}
use Rattle.parking_lot_world.proofs.Following.{or_not, or_so, seats_gone, seats_late, seats_same, seats_set, allowed}

module _ (law : CallsLead) (t i : ℕ) (c : RowCall) where
  abbrev Over : Shown → Bool → Type 0
  Over w late = IsOver t (may_answer c) w late

  abbrev Stay : Shown → Shown → Type 0
  Stay w x = SeatsStay t (may_answer c) w x

  -- it is open, and its deadline has come or hasn't
  record InLock (w : Shown) (late : Bool) : Type 0 where
    free : (seat_at w.waits t).at ≡ None
    second : Bool
    others : ℕ
    at : Stage
    open_call : IsOpen (call_at (rows_of w) (number w.waits t second)) i others (is_timed c) at
    stands : MayStand others (stage_of c) (is_timed c && late) at
    unanswered : answer_at w t ≡ None

  -- THE STEPS OF ANOTHER

  carry : (w x : Shown) (late : Bool) → (m : InLock w late) → Stay w x → Led law (number w.waits t m.second) (rows_of w)
      (rows_of x) → answer_at x t ≡ answer_at w t → InLock x late
  carry w x late m seats led same =
      let on = led_on (call_at (rows_of w) k) (call_at (rows_of x) k) i m.others (is_timed c) m.at m.open_call led in
      record {
        free = ap (λ (s : Seat). s.at) seats.seat ∙ m.free;
        second = m.second;
        others = m.others;
        at = on.to;
        open_call = subst (λ n. IsOpen (call_at (rows_of x) n) i m.others (is_timed c) on.to)
            (sym (ap (λ n. cond m.second (n + t) t) seats.count)) on.open_call;
        stands = stands_on m.others (stage_of c) m.at on.to (is_timed c && late) (begins_so c) m.stands on.leads;
        unanswered = same ∙ m.unanswered;
      }
    where
      k : ℕ
      k = number w.waits t m.second

  module _ (w x : Shown) (fit : IsFit w) (late : Bool) (u : ℕ) (ne : t ≢ u) (low : t < length w.answers)
      (there : u < length w.answers) where
    seat_low : t < length w.waits.seats
    seat_low = omega (arith, low, fit.whole.wait_threads)

    seat_there : u < length w.waits.seats
    seat_there = omega (arith, there, fit.whole.wait_threads)

    same_waits : x.waits ≡ w.waits → answer_at x t ≡ answer_at w t → InLock w late → InLock x late
    same_waits e same m = carry w x late m (seats_same t (may_answer c) w x (ap (λ (j : Joint). j.seats) e))
        (same_led law (number w.waits t m.second) (rows_of w) (rows_of x)
        (ap (λ (j : Joint). call_at (state j.rows) (number w.waits t m.second)) e)) same

    -- it begins a call
    asked_by : (l : ℕ) (call : Asked) → IsAsked u l call w x → answer_at x t ≡ answer_at w t → InLock w late
        → InLock x late
    asked_by l (Asked.OfLock d) (begun, same) answers m =
        carry w x late m (seats_same t (may_answer c) w x begun.seats)
        (asked_led law w.waits x.waits fit.tied fit.parts t u ne seat_low seat_there m.free m.second l d begun)
        answers
    asked_by l (Asked.OfVariable d) (begun, same) answers m =
        carry w x late m (seats_set t (may_answer c) w x u _ ne begun.seats)
        (same_led law (number w.waits t m.second) (rows_of w) (rows_of x)
        (ap (λ r. call_at (state r) (number w.waits t m.second)) begun.rows)) answers
    asked_by l (Asked.OfOnce d) (begun, same) answers m = same_waits same answers m

    -- makes a step
    gone_by : (fair b : Bool) → IsGone b u fair w x → answer_at x t ≡ answer_at w t → InLock w late → InLock x late
    gone_by fair false (end, gone, same, told) answers m =
        carry w x late m (seats_gone t (may_answer c) w x u (seat_at w.waits u).at fair end ne gone)
        (gone_led law w.waits x.waits fit.tied fit.parts t u ne seat_low seat_there m.free m.second
        (seat_at w.waits u).at fair end gone) answers
    gone_by fair true (reply, made, same, told) answers m = same_waits same answers m

    -- or its deadline comes
    late_by : IsLate u w x → InLock w late → InLock x late
    late_by (came, same, answers) m =
        carry w x late m (seats_late t (may_answer c) w x u (seat_at w.waits u).at came)
        (late_led law w.waits x.waits fit.tied fit.parts t u ne seat_low seat_there m.free m.second
        (seat_at w.waits u).at came)
        (ap (λ xs. option_and_then (λ a. a) (slice_get xs t)) answers)

  -- ITS OWN STEPS

  module _ (w x : Shown) (fit : IsFit w) (late : Bool) (low : t < length w.answers) where
    low_seat : t < length w.waits.seats
    low_seat = omega (arith, low, fit.whole.wait_threads)

    same_bool : (a b : Bool) → (a ≡ b) ⊎ (not a ≡ b)
    same_bool true true = inl refl
    same_bool false false = inl refl
    same_bool true false = inr refl
    same_bool false true = inr refl

    -- the number of the open call is the one that is busy
    its_number : (m : InLock w late) → busy_number w.waits t ≡ number w.waits t m.second
    its_number m = go (busy w.waits t fit.tied m.free)
      where
        go : (b : Bool) × (busy_number w.waits t ≡ number w.waits t b)
            × (call_at (rows_of w) (number w.waits t (not b)) ≡ None) → busy_number w.waits t ≡ number w.waits t
            m.second
        go (b, is, none) = elim (same_bool b m.second) [
          | inl e ↦ is ∙ ap (number w.waits t) e
          | inr e ↦ absurd (none-some m.open_call.call
              (sym none ∙ ap (λ d. call_at (rows_of w) (number w.waits t d)) e ∙ m.open_call.here))
        ]

    other_none : (m : InLock w late) → call_at (rows_of w) (number w.waits t (not m.second)) ≡ None
    other_none m = go (busy w.waits t fit.tied m.free)
      where
        go : (b : Bool) × (busy_number w.waits t ≡ number w.waits t b)
            × (call_at (rows_of w) (number w.waits t (not b)) ≡ None)
            → call_at (rows_of w) (number w.waits t (not m.second)) ≡ None
        go (b, is, none) = elim (same_bool b m.second) [
          | inl e ↦ ap (λ d. call_at (rows_of w) (number w.waits t (not d))) (sym e) ∙ none
          | inr e ↦ absurd (none-some m.open_call.call
              (sym none ∙ ap (λ d. call_at (rows_of w) (number w.waits t d)) e ∙ m.open_call.here))
        ]

    is_in : (m : InLock w late) → is_busy w.waits t ≡ true
    is_in m = called_busy w.waits t m.second m.open_call.call (lt-ltb t (length w.waits.seats) low_seat)
        m.open_call.here

    no_once : (m : InLock w late) → onces.call_at w.onces t ≡ None
    no_once m = fit.whole.apart t (is_in m)

    -- it goes on
    goes_on : (m : InLock w late) (fair : Bool) → GoesAtLock t fair None w.waits x.waits → answer_at x t ≡ answer_at w t
        → InLock x late
    goes_on m fair z answers = carry w x late m (seats_same t (may_answer c) w x z.seats)
        (law.steps (rows_of w) (rows_of x) (busy_number w.waits t) fair fit.parts.rows z.step
        (number w.waits t m.second)) answers

    -- or is answered
    module _ (m : InLock w late) (fair : Bool) (a : CoreAnswer) (z : GoesAtLock t fair (Some a) w.waits x.waits) where
      abbrev k : ℕ
      k = busy_number w.waits t

      same_call : z.step.call ≡ m.open_call.call
      same_call = same_Some z.step.call m.open_call.call
          (sym z.step.here ∙ ap (call_at (rows_of w)) (its_number m) ∙ m.open_call.here)

      ended : IsAnswered k z.step.call a (rows_of w) (rows_of x)
      ended = law.answers (rows_of w) (rows_of x) k fair a fit.parts.rows z.step

      ends_well : may_end (stage_of c) (is_timed c && late) a ≡ true
      ends_well = (ends_so m.others (stage_of c) m.at (is_timed c && late) a ended.hold (begins_so c) m.stands
          (sym m.open_call.stands ∙ ap stage (sym same_call) ∙ ended.over)).0

      its_call : lock_call w.waits t ≡ Some m.open_call.call
      its_call = ap (λ b. cond b (call_at (rows_of w) k) None) (lt-ltb t (length w.waits.seats) low_seat)
          ∙ ap (call_at (rows_of w)) (its_number m) ∙ m.open_call.here

      is_said : said (lock_call w.waits t) a ≡ cond (is_timed c) (of_timed a) (of_core a)
      is_said = ap (λ o. said o a) its_call ∙ ap (λ b. cond b (of_timed a) (of_core a)) m.open_call.deadline

      -- by none of its numbers it is in a call
      apart_numbers : (b : Bool) → number w.waits t (not b) ≢ number w.waits t b
      apart_numbers true e = omega (arith, e, low_seat)
      apart_numbers false e = omega (arith, e, low_seat)

      this_none : call_at (rows_of x) (number w.waits t m.second) ≡ None
      this_none = ap (call_at (rows_of x)) (sym (its_number m)) ∙ ended.gone

      that_none : call_at (rows_of x) (number w.waits t (not m.second)) ≡ None
      that_none = law.answers_alone (rows_of w) (rows_of x) k fair a z.step (number w.waits t (not m.second))
          (λ e. apart_numbers m.second (e ∙ its_number m)) ∙ other_none m

      none_by : (b : Bool) → call_at (rows_of x) (number w.waits t b) ≡ None
      none_by b = elim (same_bool m.second b) [
        | inl e ↦ ap (λ d. call_at (rows_of x) (number w.waits t d)) (sym e) ∙ this_none
        | inr e ↦ ap (λ d. call_at (rows_of x) (number w.waits t d)) (sym e) ∙ that_none
      ]

      seats : Stay w x
      seats = seats_same t (may_answer c) w x z.seats

      idle_now : is_busy x.waits t ≡ false
      idle_now =
          let none = λ (b : Bool). ap (λ n. call_at (rows_of x) (cond b (n + t) t)) seats.count ∙ none_by b in
          is_free (nat_lt t (length x.waits.seats)) (seat_at x.waits t).at (call_at (rows_of x) t)
          (call_at (rows_of x) (number x.waits t true)) (ap (λ (s : Seat). s.at) seats.seat ∙ m.free) (none false)
          (none true)
        where
          is_free : (b : Bool) (o : Option ℕ) (p q : Option Call) → o ≡ None → p ≡ None → q ≡ None
              → (b && not (is_none o && (is_none p && is_none q))) ≡ false
          is_free true None None None e f g = refl
          is_free false None None None e f g = refl
          is_free b (Some y) p q e f g = absurd (none-some y (sym e))
          is_free b None (Some y) q e f g = absurd (none-some y (sym f))
          is_free b None None (Some y) e f g = absurd (none-some y (sym g))

      is_over : x.onces ≡ w.onces → answer_at x t ≡ Some (said (lock_call w.waits t) a) → Over x late
      is_over same answers = record {
        idle = idle_now;
        out = ap (λ (o : Onces). onces.call_at o t) same ∙ no_once m;
        answer = cond (is_timed c) (of_timed a) (of_core a);
        answered = answers ∙ ap Some is_said;
        fits = answers_fit c late a ends_well;
      }

    -- its step
    gone_itself : (fair : Bool) (m : InLock w late) (at : Option ℕ) → (seat_at w.waits t).at ≡ at → (end : Option Ended)
        → IsGoneAt at t fair end w.waits x.waits → x.onces ≡ w.onces
        → x.answers ≡ noted t (option_map (of_ended (lock_call w.waits t)) end) w.answers → InLock x late ⊎ Over x late
    gone_itself fair m (Some v) seat end gone same answers = absurd (none-some v (sym m.free ∙ seat))
    gone_itself fair m None seat end (None, z, ends) same answers =
        inl (goes_on m fair z
        (ap (λ xs. option_and_then (λ a. a) (slice_get xs t))
        (answers ∙ ap (λ e. noted t (option_map (of_ended (lock_call w.waits t)) e) w.answers) ends)))
    gone_itself fair m None seat end (Some a, z, ends) same answers =
        inr (is_over m fair a z same (
        ap (λ xs. option_and_then (λ a. a) (slice_get xs t))
        (answers ∙ ap (λ e. noted t (option_map (of_ended (lock_call w.waits t)) e) w.answers) ends)
        ∙ set_there w.answers t (Some (said (lock_call w.waits t) a)) low
        ))

    goes_itself : (fair b : Bool) → is_in_once w t ≡ b → IsGone b t fair w x → InLock w late → InLock x late
        ⊎ Over x late
    goes_itself fair true is gone m =
        both_ways (is_in_once w t) is (ap (λ (o : Option OpenCall). is_some o) (no_once m))
    goes_itself fair false is (end, gone, same, answers) m = gone_itself fair m (seat_at w.waits t).at refl end gone
        same answers

    -- its deadline
    timed_now : (o : Option Call) (d : Call) → o ≡ Some d → rows.may_expire_in o ≡ true
        → is_timed d.asked ≡ true
    timed_now None d e may = absurd (none-some d e)
    timed_now (Some y) d e may = ap (λ (z : Call). is_timed z.asked) (sym (same_Some y d e))
        ∙ (both_true (is_timed y.asked) _ may).0

    late_itself : (m : InLock w late) (at : Option ℕ) → (seat_at w.waits t).at ≡ at
        → joint.may_expire_at at w.waits t ≡ true → IsLateAt at t w.waits x.waits → answer_at x t ≡ answer_at w t
        → InLock x true
    late_itself m (Some v) seat may came answers = absurd (none-some v (sym m.free ∙ seat))
    late_itself m None seat may (came, vars, seats) answers =
        let k = busy_number w.waits t in
        let same = same_Some came.call m.open_call.call
        (sym came.here ∙ ap (call_at (rows_of w)) (its_number m) ∙ m.open_call.here) in
        let now = law.deadlines (rows_of w) (rows_of x) k may came in
        let timed = sym m.open_call.deadline ∙ timed_now (call_at (rows_of w) k) m.open_call.call
        (ap (call_at (rows_of w)) (its_number m) ∙ m.open_call.here) may in
        record {
          free = ap (λ (ss : List Seat). (unwrap_or (slice_get ss t) nowhere).at) seats ∙ m.free;
          second = m.second;
          others = m.others;
          at = quits m.at;
          open_call = record {
            call = now.call;
            here = ap (call_at (rows_of x))
                (ap (λ (ss : List Seat). cond m.second (length ss + t) t) seats ∙ sym (its_number m)) ∙ now.here;
            there = now.there ∙ ap (λ (d : Call). d.lock) same ∙ m.open_call.there;
            beside = now.beside ∙ ap (λ (d : Call). d.others) same ∙ m.open_call.beside;
            deadline = now.deadline ∙ ap (λ (d : Call). is_timed d.asked) same ∙ m.open_call.deadline;
            stands = now.stands ∙ ap (λ (d : Call). quits (stage d)) same ∙ ap quits m.open_call.stands;
          };
          stands = subst (λ b. MayStand m.others (stage_of c) b (quits m.at)) (sym (ap (λ b. b && true) timed))
              (stands_late m.others (stage_of c) m.at (is_timed c && late) m.stands);
          unanswered = answers ∙ m.unanswered;
        }

    expires_itself : joint.may_expire w.waits t ≡ true → IsLate t w x → InLock w late → InLock x true
    expires_itself may (came, same, answers) m =
        late_itself m (seat_at w.waits t).at refl (both_true (nat_lt t (length w.waits.seats)) _ may).1 came
        (ap (λ xs. option_and_then (λ a. a) (slice_get xs t)) answers)

  -- ANY STEP BUT A BEGINNING OF ITS OWN

  goes_by : (w x : Shown) (late : Bool) (u : ℕ) (fair : Bool) → IsFit w → t < length w.answers → u < length w.answers
      → IsGone (is_in_once w u) u fair w x → InLock w late → (b : Bool) → (u == t) ≡ b → InLock x late ⊎ Over x late
  goes_by w x late u fair fit low there gone m true e = goes_itself w x fit late low fair (is_in_once w t) refl
      (subst (λ n. IsGone (is_in_once w n) n fair w x) (eqb-true u t e) gone) m
  goes_by w x late u fair fit low there gone m false e =
      let ne = not_it t (may_answer c) u e in
      inl (gone_by w x fit late u ne low there fair (is_in_once w u) gone
      (answer_gone t (may_answer c) w x u fair ne gone) m)

  lates_by : (w x : Shown) (late : Bool) (u : ℕ) → IsFit w → t < length w.answers → u < length w.answers
      → joint.may_expire w.waits u ≡ true → IsLate u w x → InLock w late → (b : Bool) → (u == t) ≡ b
      → InLock x (late || b)
  lates_by w x late u fit low there may came m true e =
      let same = eqb-true u t e in
      subst (InLock x) (sym (or_so t (may_answer c) late))
      (expires_itself w x fit late low (subst (λ n. joint.may_expire w.waits n ≡ true) same may)
      (subst (λ n. IsLate n w x) same came) m)
  lates_by w x late u fit low there may came m false e = subst (InLock x) (sym (or_not t (may_answer c) late))
      (late_by w x fit late u (not_it t (may_answer c) u e) low there came m)

  abbrev On : Shown → Bool → Type 0
  On x late = InLock x late ⊎ Over x late

  goes : Goes t (may_answer c) InLock
  goes w x late (step.Begin u l call) fit fits low there may (begun, answers, kinds) begins m =
      let ne = not_it t (may_answer c) u begins in
      inl (subst (InLock x) (sym (or_not t (may_answer c) late))
      (asked_by w x fit late u ne low there l (asked call) begun
      (ap (λ xs. option_and_then (λ a. a) (slice_get xs t)) answers ∙ elsewhere w.answers t u None ne) m))
  goes w x late (step.Go u fair) fit fits low there may (gone, kinds) begins m =
      subst (On x) (sym (or_not t (may_answer c) late)) (goes_by w x late u fair fit low there gone m (u == t) refl)
  goes w x late (step.Deadline u) fit fits low there may (came, kinds) begins m =
      inl (lates_by w x late u fit low there may came m (u == t) refl)

  -- ITS BEGINNING

  nobody : {X : Type 0} (o : Option X) → is_none o ≡ true → o ≡ None
  nobody None e = refl
  nobody (Some y) e = absurd cc

  first : (w x : Shown) → IsFit w → t < length w.answers → may_ask w t i (Asked.OfLock c) ≡ true
      → IsAsked t i (Asked.OfLock c) w x → x.answers ≡ slice_set w.answers t None → InLock x false
  first w x fit low may (begun, same) answers =
      let asks = both_true (nat_lt t (length w.waits.seats)) _ (ask_lock_there w t i c may) in
      let free = both_true (joint.is_free w.waits t) _ asks.1 in
      let seat = nobody (seat_at w.waits t).at (both_true (is_none (seat_at w.waits t).at) _ free.0).0 in
      let beside = holds_beside c (hold_at (rows_of w) (number w.waits t (has_by_second w.waits t i)) i) in
      let begins = law.begins (rows_of w) (rows_of x) (number w.waits t (has_by_second w.waits t i)) i c
      (both_true _ _ free.1).1 begun.begins in
      record {
        free = ap (λ (ss : List Seat). (unwrap_or (slice_get ss t) nowhere).at) begun.seats ∙ seat;
        second = has_by_second w.waits t i;
        others = beside;
        at = stage_of c;
        open_call = subst (λ n. IsOpen (call_at (rows_of x) n) i beside (is_timed c) (stage_of c))
            (sym (ap (λ (ss : List Seat). cond (has_by_second w.waits t i) (length ss + t) t) begun.seats)) begins;
        stands = inl refl;
        unanswered = ap (λ xs. option_and_then (λ a. a) (slice_get xs t)) answers ∙ set_there w.answers t None low;
      }

  pub begun_fits : (asks : LockCall) → asked asks ≡ Asked.OfLock c → Fits (may_answer c) t i asks
  begun_fits asks is w x steps a fit (mid, ok, (begun, answers, kinds), fits, rest) begins said =
      let may = allowed t (may_answer c) w (step.Begin t i asks) ok in
      let m = first w mid fit may.0 (subst (λ q. may_ask w t i q ≡ true) is may.1)
      (subst (λ q. IsAsked t i q w mid) is begun) answers in
      let many = ap (λ xs. length xs) answers ∙ length-set w.answers t None in
      answered_fits t (may_answer c) InLock goes (λ v late n. n.unanswered) mid x steps a fits
      (omega (arith, may.0, many)) m rest begins said

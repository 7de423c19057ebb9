-- What a call is told of acts elsewhere is steps of the rules, or none, and keeps what holds of the machine.
use Rattle.std.proofs.Common.{◌≡◌, ℕ, ◌+◌, ◌-◌, ◌%◌, ◌^◌, ◌<◌, ◌≤◌, ◌==◌, ◌&&◌, ◌||◌, inl, inr, Bool, true, false, not}
use Rattle.std.proofs.Common.{cond, nat_lt, List, [], ◌∷◌, length, Option, Some, refl, sym, ap, ◌∙◌, subst, arith}
use Rattle.std.proofs.Common.{eqb-true}
use Rattle.std.proofs.lemmas.Bool.{eqb-false, ltb-true, ltb-false}
use Rattle.parking_lot_core_model.specs.declared.parking.UnparkToken.{UnparkToken}
use Rattle.parking_lot_rules.specs.Variable as rules
use Rattle.parking_lot_rules.specs.Variable.{Alone}
use Rattle.parking_lot_protocol_waits.specs.WaitRules as waits
use Rattle.parking_lot_protocol_waits.specs.WaitTable as wait
use Rattle.parking_lot_protocol_waits.specs.NotifyRules as notifies
use Rattle.parking_lot_protocol_waits.specs.NotifyTable as notify
use Rattle.parking_lot_protocol_waits.specs.declared.notify_core.Notice.{Notice}
use Rattle.parking_lot_protocol_waits.specs.declared.notify_act.NotifySeen.TheVariants as notify_seen
use Rattle.parking_lot_protocol_waits.specs.declared.notify_core.NotifyPhase.{NotifyPhase}
use Rattle.parking_lot_protocol_waits.specs.declared.notify_core.NotifyPhase.TheVariants as n
use Rattle.parking_lot_protocol_waits.specs.declared.wait_act.WaitAnswer.TheVariants as answer
use Rattle.parking_lot_protocol_waits.specs.declared.wait_core.WaitPhase.{WaitPhase}
use Rattle.parking_lot_protocol_waits.specs.declared.wait_core.WaitPhase.TheVariants as w
use Rattle.parking_lot_machine_sides.specs.declared.condvar.calls.CondvarCall.{CondvarCall}
use Rattle.parking_lot_machine_sides.specs.declared.condvar.outside.Outside.{Outside}
use Rattle.parking_lot_machine_sides.specs.declared.condvar.outside.Outside.TheVariants as outside
use Rattle.parking_lot_machine_sides.specs.Condvar.Calls.{is_of_all, is_timed}
use Rattle.parking_lot_machine_sides.specs.Condvar.Fitting.{Fits, NotifyKnows, TakesFew, WaitKnows, is_the}
use Rattle.parking_lot_machine_sides.specs.Condvar.Machines.{State, call_at, is_left, spot_of}
use Rattle.parking_lot_machine_sides.specs.Condvar.Outsides.{all_taken, closes, expires_at, heard, is_whole}
use Rattle.parking_lot_machine_sides.specs.Condvar.Outsides.{notify_closes, notify_fits, wait_expires, wait_fits}
use Rattle.parking_lot_machine_sides.specs.Condvar.Outsides.{wait_hears, woken_of}
use Rattle.parking_lot_machine_sides.specs.Condvar.Turns.{notify_is_inside, wait_is_inside}
use Rattle.parking_lot_machine_sides.proofs.CondvarFacts.NotifyActs as of_notify
use Rattle.parking_lot_machine_sides.proofs.CondvarFacts.NotifyActs.{notifying}
use Rattle.parking_lot_machine_sides.proofs.CondvarFacts.Phases.{few_wait, waiters}
use Rattle.parking_lot_machine_sides.proofs.CondvarFacts.WaitActs as of_wait
use Rattle.parking_lot_machine_sides.proofs.CondvarFacts.WaitActs.{Made, waiting}

-- both of two
both : (a b : Bool) → (a && b) ≡ true → (a ≡ true) × (b ≡ true)
both true b h = (refl, h)
both false b h = absurd cc

-- A WAIT

module _ (s : State) (t : ℕ) (call : CondvarCall) (taken : ℕ) (fits : Fits s) where
  abbrev Here : Bool → WaitPhase → Type 0
  Here listed p = call_at s t ≡ Some (waiting call listed taken p)

  abbrev then : Bool → WaitPhase → Outside → State
  then listed p seen = heard s t (waiting call listed taken p) seen

  -- nothing changes at the variable, and it goes on in phase q
  quiet : (listed : Bool) (p : WaitPhase) (here : Here listed p) (seen : Outside) (q : WaitPhase)
      → wait.next_phase p (wait_hears seen) ≡ q
      → waits.does (spot_of listed) q ≡ waits.does (spot_of listed) p
      → WaitKnows (is_timed call) listed (length s.queue) q → wait_is_inside listed q ≡ wait_is_inside listed p
      → Made t [] s (then listed p seen)
  quiet listed p here seen q is same know at = of_wait.none s t call taken fits listed p here (then listed p seen)
      listed (wait.next_phase p (wait_hears seen)) refl
      (ap (waits.does (spot_of listed)) is ∙ same) refl refl
      (subst (WaitKnows (is_timed call) listed (length s.queue)) (sym is) know)
      (ap (wait_is_inside listed) is ∙ at ∙ of_wait.inside s t call taken fits listed p here) (inl (refl, refl, refl))
      (λ x ne. refl)

  -- it is woken by a token
  again : (p : WaitPhase) (here : Here false p) (seen : Outside) (token : UnparkToken)
      → wait.next_phase p (wait_hears seen) ≡ wait.begins_again token → waits.does waits.Gone p ≡ rules.Idle
      → wait_is_inside false p ≡ false → Made t [] s (then false p seen)
  again p here seen token is idle out = go (token.0 == 1) refl
    where
      go : (b : Bool) → (token.0 == 1) ≡ b → Made t [] s (then false p seen)
      go true e = quiet false p here seen (w.Ends answer.Woken)
          (is ∙ ap (λ b. cond b (w.Ends answer.Woken) (w.Locks false)) e) (sym idle) tt (sym out)
      go false e = quiet false p here seen (w.Locks false)
          (is ∙ ap (λ b. cond b (w.Ends answer.Woken) (w.Locks false)) e) (sym idle) tt (sym out)

  resumes : (listed : Bool) (token : UnparkToken) → Here listed (w.Resumes token)
      → Made t [] s (then listed (w.Resumes token) outside.Made)
  resumes listed token here = go (token.0 == 1) refl
    where
      go : (b : Bool) → (token.0 == 1) ≡ b → Made t [] s (then listed (w.Resumes token) outside.Made)
      go true e = quiet listed (w.Resumes token) here outside.Made (w.Ends answer.Woken)
          (ap (λ b. cond b (w.Ends answer.Woken) (w.Locks false)) e) refl tt refl
      go false e = quiet listed (w.Resumes token) here outside.Made (w.Locks false)
          (ap (λ b. cond b (w.Ends answer.Woken) (w.Locks false)) e) refl tt refl

  expires : (k : ℕ) → Here true (w.Sleeps k) → is_timed call ≡ true
      → Made t (expires_at k true) s (then true (w.Sleeps k) outside.Expired)
  expires k here timed = of_wait.plain s t call taken fits true (w.Sleeps k) here
      (then true (w.Sleeps k) outside.Expired) true (w.Expires k) refl (rules.Expire k) refl refl tt refl refl timed
      (of_wait.inside s t call taken fits true (w.Sleeps k) here) (inl (refl, refl, refl)) (λ x ne. refl)

  pub wait_told : (listed : Bool) (p : WaitPhase) (seen : Outside) → Here listed p
      → wait_fits (is_timed call) listed p seen ≡ true → Made t (wait_expires listed p seen) s (then listed p seen)
  wait_told listed (w.Unlocks k) outside.Made here may = quiet listed (w.Unlocks k) here outside.Made (w.Sleeps k) refl
      refl tt refl
  wait_told listed (w.Locks true) outside.Made here may = quiet listed (w.Locks true) here outside.Made
      (w.Ends answer.TimedOut) refl refl (of_wait.knows s t call taken fits listed (w.Locks true) here).1 refl
  wait_told listed (w.Locks false) outside.Made here may = quiet listed (w.Locks false) here outside.Made
      (w.Ends answer.Woken) refl refl tt refl
  wait_told false (w.Sleeps k) (outside.Woken token) here may = again (w.Sleeps k) here (outside.Woken token) token refl
      refl refl
  wait_told true (w.Sleeps k) (outside.Woken token) here may = absurd cc
  wait_told true (w.Sleeps k) outside.Expired here may = expires k here may
  wait_told false (w.Sleeps k) outside.Expired here may = quiet false (w.Sleeps k) here outside.Expired (w.Expires k)
      refl refl may refl
  wait_told false (w.Expires k) outside.Made here may = quiet false (w.Expires k) here outside.Made (w.Quits k) refl
      refl (of_wait.knows s t call taken fits false (w.Expires k) here).1 refl
  wait_told true (w.Expires k) outside.Made here may = absurd cc
  wait_told false (w.Quits k) (outside.Quit true) here may = quiet false (w.Quits k) here (outside.Quit true) w.Masks
      refl refl (of_wait.knows s t call taken fits false (w.Quits k) here).1 refl
  wait_told false (w.Quits k) (outside.Quit false) here may = quiet false (w.Quits k) here (outside.Quit false)
      (w.Leaves false) refl refl (of_wait.knows s t call taken fits false (w.Quits k) here).1 refl
  wait_told true (w.Quits k) (outside.Quit last) here may = absurd cc
  wait_told false (w.Quits k) (outside.WasTaken token) here may = quiet false (w.Quits k) here (outside.WasTaken token)
      (w.Resumes token) refl refl tt refl
  wait_told true (w.Quits k) (outside.WasTaken token) here may = absurd cc
  wait_told listed w.Masks outside.Made here may = quiet listed w.Masks here outside.Made (w.Leaves false) refl refl
      (of_wait.knows s t call taken fits listed w.Masks here).1 refl
  wait_told listed (w.Leaves false) outside.Made here may = quiet listed (w.Leaves false) here outside.Made
      (w.Locks false) refl refl tt refl
  wait_told listed (w.Leaves true) outside.Made here may = absurd cc
  wait_told listed (w.Resumes token) outside.Made here may = resumes listed token here
  wait_told listed p seen here may = absurd cc

-- A NOTIFICATION

-- of a mutex that isn't locked one is woken, if any is taken
woken_few : (locked : Bool) (taken : ℕ) → woken_of locked taken ≤ taken
woken_few true taken = omega arith
woken_few false taken = go (taken == 0) refl
  where
    go : (b : Bool) → (taken == 0) ≡ b → cond b 0 1 ≤ taken
    go true e = omega arith
    go false e = omega (arith, eqb-false taken 0 e)

-- others are moved behind one that is woken only where two were taken
rest_of_all : (locked : Bool) (taken : ℕ) → (not locked && nat_lt 0 (taken - woken_of locked taken)) ≡ true → 2 ≤ taken
rest_of_all true taken h = absurd cc
rest_of_all false taken h = go (taken == 0) refl h
  where
    go : (b : Bool) → (taken == 0) ≡ b → nat_lt 0 (taken - cond b 0 1) ≡ true → 2 ≤ taken
    go true e g = absurd (omega (arith, eqb-true taken 0 e, ltb-true 0 (taken - cond true 0 1) g))
    go false e g = omega (arith, ltb-true 0 (taken - 1) g)

all_of : (all : Bool) (taken : ℕ) (left : Bool) → is_whole all taken left ≡ true → 2 ≤ taken → left ≡ false
all_of true taken true h two = absurd cc
all_of true taken false h two = refl
all_of false taken left h two =
    absurd (omega (arith, two, ltb-true taken 2 (both (nat_lt taken 2) (not (left && (taken == 0))) h).0))

module _ (s : State) (t : ℕ) (call : CondvarCall) (listed : Bool) (taken : ℕ) (fits : Fits s) where
  abbrev At : NotifyPhase → Type 0
  At p = call_at s t ≡ Some (notifying call listed taken p)

  abbrev next : NotifyPhase → Outside → State
  next p seen = heard s t (notifying call listed taken p) seen

  abbrev Knows : NotifyPhase → Type 0
  Knows q = NotifyKnows (is_of_all call) (length s.calls) s.word s.beside (length s.queue) taken q

  marks : (all locked : Bool) → At (n.Marks all) → Made t [] s (next (n.Marks all) (outside.Marked locked))
  marks all locked here =
      let known = (of_notify.knows s t call listed taken fits (n.Marks all) here).1 in
      of_notify.none s t call listed taken fits (n.Marks all) here (next (n.Marks all) (outside.Marked locked))
      (n.Moves all locked) refl refl refl refl
      (known.0, omega (arith, known.1, few_wait s fits), of_notify.takes_none (is_of_all call) taken known.1)
      (of_notify.inside s t call listed taken fits (n.Marks all) here) (inl (refl, refl, refl)) (λ x ne. refl)

  rest_marks : (notice : Notice) → At (n.MarksRest notice)
      → Made t (closes notice.left) s (next (n.MarksRest notice) outside.Made)
  rest_marks notice here =
      let known = (of_notify.knows s t call listed taken fits (n.MarksRest notice) here).1 in
      let is : notify.next_phase (n.MarksRest notice) notify_seen.Made ≡ n.Forgets notice =
      ap (λ b. cond b (n.Leaves notice) (n.Forgets notice)) known.1 in
      subst (λ x. Made t x s (next (n.MarksRest notice) outside.Made)) (sym (ap closes known.1))
      (of_notify.none s t call listed taken fits (n.MarksRest notice) here (next (n.MarksRest notice) outside.Made)
      (notify.next_phase (n.MarksRest notice) notify_seen.Made) refl (ap notifies.does is) refl refl
      (subst Knows (sym is) (known.0, known.2, known.3))
      (ap notify_is_inside is ∙ of_notify.inside s t call listed taken fits (n.MarksRest notice) here)
      (inl (refl, refl, refl)) (λ x ne. refl))

  wakes : (count : ℕ) → At (n.Wakes count) → Made t [] s (next (n.Wakes count) outside.Made)
  wakes count here = of_notify.none s t call listed taken fits (n.Wakes count) here (next (n.Wakes count) outside.Made)
      (n.Ends count) refl refl refl refl
      (of_notify.knows s t call listed taken fits (n.Wakes count) here).1
      (of_notify.inside s t call listed taken fits (n.Wakes count) here) (inl (refl, refl, refl)) (λ x ne. refl)

  module _ (all locked : Bool) (unparked requeued : ℕ) (here : At (n.Moves all locked))
      (may : all_taken taken (is_left s.queue) all locked unparked requeued ≡ true) where
    abbrev p : NotifyPhase
    p = n.Moves all locked

    abbrev seen : Outside
    seen = outside.Moved unparked requeued

    known : (all ≡ is_of_all call) × (taken + length s.queue ≤ length s.calls) × TakesFew (is_of_all call) taken
    known = (of_notify.knows s t call listed taken fits p here).1

    whole : is_whole all taken (is_left s.queue) ≡ true
    whole = (both (is_whole all taken (is_left s.queue))
        ((unparked == woken_of locked taken) && (requeued == taken - woken_of locked taken)) may).0

    sums : ((unparked == woken_of locked taken) ≡ true) × ((requeued == taken - woken_of locked taken) ≡ true)
    sums = both (unparked == woken_of locked taken) (requeued == taken - woken_of locked taken)
        (both (is_whole all taken (is_left s.queue))
        ((unparked == woken_of locked taken) && (requeued == taken - woken_of locked taken)) may).1

    counts : (unparked + requeued) % 2 ^ 64 ≡ taken
    counts = omega (
      arith,
      eqb-true unparked (woken_of locked taken) sums.0,
      eqb-true requeued (taken - woken_of locked taken) sums.1,
      woken_few locked taken,
      known.1,
      fits.small,
    )

    abbrev notice : Notice
    notice = record { count = (unparked + requeued) % 2 ^ 64; wakes = nat_lt 0 unparked; left = is_left s.queue }

    abbrev rest : Bool
    rest = not locked && nat_lt 0 requeued

    abbrev q : NotifyPhase
    q = notify.next_phase p (notify_seen.Moved unparked requeued (is_left s.queue))

    abbrev Goal : Type 0
    Goal = Made t (notify_closes (is_left s.queue) p seen) s (next p seen)

    its : true ≡ is_the s.inside t
    its = of_notify.inside s t call listed taken fits p here

    steps_so : (f g : Bool) → is_left s.queue ≡ f → rest ≡ g → notify_closes (is_left s.queue) p seen ≡ closes
        (f && not g)
    steps_so f g e h = ap (λ b. closes (b && not rest)) e ∙ ap (λ b. closes (f && not b)) h

    -- nothing more is to be done at the variable, or others are left there
    silent : (f g : Bool) → is_left s.queue ≡ f → rest ≡ g → closes (f && not g) ≡ [] → (r : NotifyPhase) → q ≡ r
        → notifies.does r ≡ rules.Notifies → notify_is_inside r ≡ true → Knows r → Goal
    silent f g e h none r is does in_it know = subst (λ x. Made t x s (next p seen)) (sym (steps_so f g e h ∙ none))
        (of_notify.none s t call listed taken fits p here (next p seen) q refl (ap notifies.does is ∙ does) refl refl
        (subst Knows (sym is) know) (ap notify_is_inside is ∙ in_it ∙ its) (inl (refl, refl, refl)) (λ x ne. refl))

    closing : is_left s.queue ≡ true → rest ≡ false → Goal
    closing e h =
        let is : q ≡ n.Leaves notice =
        ap (λ b. cond b (n.MarksRest notice) (cond notice.left (n.Leaves notice) (n.Forgets notice))) h
        ∙ ap (λ b. cond b (n.Leaves notice) (n.Forgets notice)) e in
        subst (λ x. Made t x s (next p seen)) (sym (steps_so true false e h))
        (of_notify.plain s t call listed taken fits p here (next p seen) q refl (rules.Keep rules.Notifies) refl
        (ap notifies.does is) (inr refl, omega (arith, ltb-true 0 (length s.queue) e, waiters s fits)) refl refl
        (subst Knows (sym is) (counts, known.2)) (ap notify_is_inside is ∙ its) (inl (refl, refl, refl)) (λ x ne. refl))

    go : (f g : Bool) → is_left s.queue ≡ f → rest ≡ g → Goal
    go true false e h = closing e h
    go false false e h =
        let is : q ≡ n.Forgets notice =
        ap (λ b. cond b (n.MarksRest notice) (cond notice.left (n.Leaves notice) (n.Forgets notice))) h
        ∙ ap (λ b. cond b (n.Leaves notice) (n.Forgets notice)) e in
        silent false false e h refl (n.Forgets notice) is refl refl
        (counts, omega (arith, ltb-false 0 (length s.queue) e), known.2)
    go f true e h =
        let two : 2 ≤ taken =
        rest_of_all locked taken
        (subst (λ m. (not locked && nat_lt 0 m) ≡ true) (eqb-true requeued (taken - woken_of locked taken) sums.1)
        h) in
        let none : is_left s.queue ≡ false = all_of all taken (is_left s.queue) whole two in
        let is : q ≡ n.MarksRest notice =
        ap (λ b. cond b (n.MarksRest notice) (cond notice.left (n.Leaves notice) (n.Forgets notice))) h in
        silent false true none h refl (n.MarksRest notice) is refl refl
        (counts, none, omega (arith, ltb-false 0 (length s.queue) none), known.2)

    moved : Goal
    moved = go (is_left s.queue) rest refl refl

  pub notify_told : (p : NotifyPhase) (seen : Outside) → At p → notify_fits taken (is_left s.queue) p seen ≡ true
      → Made t (notify_closes (is_left s.queue) p seen) s (next p seen)
  notify_told (n.Marks all) (outside.Marked locked) here may = marks all locked here
  notify_told (n.Moves all locked) (outside.Moved unparked requeued) here may = moved all locked unparked requeued here
      may
  notify_told (n.MarksRest notice) outside.Made here may = rest_marks notice here
  notify_told (n.Wakes count) outside.Made here may = wakes count here
  notify_told p seen here may = absurd cc

-- An act of a wait at the variable is steps of the rules, and keeps what holds of the machine.
use Rattle.std.proofs.Common.{◌≡◌, ◌≢◌, ℕ, zero, ◌+◌, ◌%◌, ◌^◌, ◌<◌, ◌⊎◌, inl, inr, Bool, true, false, not, cond, ◌==◌}
use Rattle.std.proofs.Common.{◌||◌, ◌&&◌, nat_lt, List, [], ◌∷◌, ◌++◌, length, position, Option, Some, None, is_none}
use Rattle.std.proofs.Common.{remove, slice_get, slice_set, refl, sym, ap, ◌∙◌, subst, arith, eqb-true}
use Rattle.std.proofs.lemmas.Bool.{eqb-false, ltb-true, ltb-false, ne_eqb}
use Rattle.std.proofs.lemmas.Option.{none-some, same_Some}
use Rattle.parking_lot_rules.specs.Roles.{Asleep, Back, Fresh}
use Rattle.parking_lot_rules.specs.Lists.{at_index}
use Rattle.parking_lot_rules.specs.Variable as rules
use Rattle.parking_lot_rules.specs.Variable.{Alone, IsSound, Phase, Step, Variable, Waiting, total, weight}
use Rattle.parking_lot_rules.proofs.Indexed.{get-set_same}
use Rattle.parking_lot_rules.proofs.Variables.{step_sound}
use Rattle.parking_lot_protocol_waits.specs.WaitRules as waits
use Rattle.parking_lot_protocol_waits.specs.WaitTable.{next_phase, shown_by}
use Rattle.parking_lot_protocol_waits.specs.declared.wait_act.WaitSeen.{WaitSeen}
use Rattle.parking_lot_protocol_waits.specs.declared.wait_act.WaitSeen.TheVariants as seen
use Rattle.parking_lot_protocol_waits.specs.declared.wait_core.WaitPhase.{WaitPhase}
use Rattle.parking_lot_protocol_waits.specs.declared.wait_core.WaitPhase.TheVariants as w
use Rattle.parking_lot_machine_sides.specs.declared.condvar.calls.CondvarCall.{CondvarCall}
use Rattle.parking_lot_machine_sides.specs.declared.condvar.open_call.Core.TheVariants as core
use Rattle.parking_lot_machine_sides.specs.Condvar.Calls.{OpenCall, is_timed}
use Rattle.parking_lot_machine_sides.specs.Condvar.Fitting.{Fits, IsWait, Sits, WaitKnows, is_the}
use Rattle.parking_lot_machine_sides.specs.Condvar.Machines.{State, call_at, is_left, may_step, phase_in, phase_of}
use Rattle.parking_lot_machine_sides.specs.Condvar.Machines.{spot_of, variable}
use Rattle.parking_lot_machine_sides.specs.Condvar.OwnSteps.{checking, place_of, quitting, steps_of, stepped, wait_sees}
use Rattle.parking_lot_machine_sides.specs.Condvar.OwnSteps.{without}
use Rattle.parking_lot_machine_sides.specs.Condvar.Steps.{Runs}
use Rattle.parking_lot_machine_sides.specs.Condvar.Turns.{is_inside, wait_is_inside}
use Rattle.parking_lot_machine_sides.proofs.CondvarFacts.Acting.{IsQuiet, OthersStay, alone_in, fits_one, it_is}
use Rattle.parking_lot_machine_sides.proofs.CondvarFacts.Acting.{makes_none}
use Rattle.parking_lot_machine_sides.proofs.CondvarFacts.Acting.{makes_plain, not_another, phases_one}
use Rattle.parking_lot_machine_sides.proofs.CondvarFacts.Phases.{none_inside, phase_there, waiters}
use Rattle.parking_lot_machine_sides.proofs.CondvarFacts.Places.{placed}
use Rattle.parking_lot_machine_sides.proofs.CondvarFacts.Slots.{set_set}

-- what is kept by a step that is these steps of the rules
pub record Made (t : ℕ) (steps : List Step) (s u : State) : Type 0 where
  pub lawful : Runs t steps (variable s) (variable u)
  pub fits : Fits u

abbrev pub waiting : CondvarCall → Bool → ℕ → WaitPhase → OpenCall
waiting call listed taken p =
    record { call = call; core = core.Wait (record { phase = p }); listed = listed; taken = taken }

pub shown_is : (k : ℕ) → k + 1 < 2 ^ 64 → shown_by k ≡ k + 1
shown_is k l = omega arith

-- nobody is in the section
pub nobody : (o : Option ℕ) → is_none o ≡ true → o ≡ None
nobody None h = refl
nobody (Some u) h = absurd cc

module _ (s : State) (t : ℕ) (call : CondvarCall) (taken : ℕ) (fits : Fits s) where
  abbrev pub Here : Bool → WaitPhase → Type 0
  Here listed p = call_at s t ≡ Some (waiting call listed taken p)

  abbrev pub now : Bool → WaitPhase → State
  now listed p = stepped s t (waiting call listed taken p)

  abbrev pub Makes : Bool → WaitPhase → Type 0
  Makes listed p = Made t (steps_of s t (waiting call listed taken p)) s (now listed p)

  pub knows : (listed : Bool) (p : WaitPhase) → Here listed p → IsWait call
      × WaitKnows (is_timed call) listed (length s.queue) p
  knows listed p here = (fits.seated t (waiting call listed taken p) here).knows

  pub inside : (listed : Bool) (p : WaitPhase) → Here listed p → wait_is_inside listed p ≡ is_the s.inside t
  inside listed p here = (fits.seated t (waiting call listed taken p) here).section

  -- a step to a phase q, by one plain step of the rules
  module _ (listed : Bool) (p : WaitPhase) (here : Here listed p) (u : State) (after : Bool) (q : WaitPhase)
      (calls : u.calls ≡ slice_set s.calls t (Some (waiting call after taken q))) where
    abbrev pub c : OpenCall
    c = waiting call listed taken p

    abbrev pub d : OpenCall
    d = waiting call after taken q

    abbrev pub Keeps : List Step → Type 0
    Keeps steps = Runs t steps (variable s) (variable u)

    -- what it is to know and where it is to be, from there on
    pub sits : (steps : List Step) → Keeps steps → WaitKnows (is_timed call) after (length u.queue) q
        → wait_is_inside after q ≡ is_the u.inside t → IsQuiet t s u → OthersStay t s u → Made t steps s u
    sits steps run know at quiet stay = record {
      lawful = run;
      fits = fits_one s u t c (Some d) fits here calls steps run
          (λ x e. subst (Sits u t) (same_Some d x e) (record { knows = ((knows listed p here).0, know); section = at }))
          quiet stay (λ h. (d, refl));
    }

    pub plain : (k : rules.Plain) → phase_of c ≡ rules.from k → phase_of d ≡ rules.to k
        → rules.May k s.word (λ x. total x (variable s).phases) → u.word ≡ rules.written k s.word → u.queue ≡ s.queue
        → WaitKnows (is_timed call) after (length u.queue) q → wait_is_inside after q ≡ is_the u.inside t
        → IsQuiet t s u → OthersStay t s u → Made t (Alone k ∷ []) s u
    plain k from to may word queue know at quiet stay =
        sits (Alone k ∷ []) (makes_plain s u t c (Some d) fits here calls k from to may word queue) know at quiet stay

    pub none : phase_of d ≡ phase_of c → u.word ≡ s.word → u.queue ≡ s.queue
        → WaitKnows (is_timed call) after (length u.queue) q → wait_is_inside after q ≡ is_the u.inside t
        → IsQuiet t s u → OthersStay t s u → Made t [] s u
    none same word queue know at quiet stay = sits [] (makes_none s u t c (Some d) fits here calls same word queue) know
        at quiet stay

  -- one in the section stays there, goes out, or comes in
  leaves : (listed : Bool) (p : WaitPhase) → Here listed p → wait_is_inside listed p ≡ true → (x : ℕ) → x ≢ t
      → is_the None x ≡ is_the s.inside x
  leaves listed p here is x ne = sym (not_another s.inside t x ne (sym (inside listed p here) ∙ is))

  comes : s.inside ≡ None → (x : ℕ) → x ≢ t → is_the (Some t) x ≡ is_the s.inside x
  comes free x ne = ne_eqb t x (λ e. ne (sym e)) ∙ sym (ap (λ o. is_the o x) free)

  enters : (k : ℕ) (listed : Bool) → Here listed (w.Enters k) → s.inside ≡ None → Makes listed (w.Enters k)
  enters k listed here free = plain listed (w.Enters k) here (now listed (w.Enters k)) listed (w.Checks k) refl
      (rules.Enter k) refl refl (none_inside s fits free) refl refl
      (knows listed (w.Enters k) here).1 (sym (it_is t)) (inr (λ x ne. ap (λ o. is_the o x) free)) (comes free)

  module _ (k : ℕ) (listed : Bool) (here : Here listed (w.Checks k)) where
    known : WaitKnows (is_timed call) listed (length s.queue) (w.Checks k)
    known = (knows listed (w.Checks k) here).1

    shown : (s.word == shown_by k) ≡ (s.word == k + 1)
    shown = ap (λ n. s.word == n) (shown_is k known.1)

    abbrev looked : WaitPhase
    looked = next_phase (w.Checks k) (seen.Word s.word)

    its_place : wait_is_inside listed (w.Checks k) ≡ is_the s.inside t
    its_place = inside listed (w.Checks k) here

    which : (f g : Bool) → (s.word == 0) ≡ f → (s.word == k + 1) ≡ g → looked ≡ cond (f || g) (w.Appends k) w.Retreats
    which f g e h = ap (λ b. cond (b || (s.word == shown_by k)) (w.Appends k) w.Retreats) e
        ∙ ap (λ b. cond (f || b) (w.Appends k) w.Retreats) (shown ∙ h)

    says : (f g : Bool) → (s.word == 0) ≡ f → (s.word == k + 1) ≡ g
        → checking k s.word ≡ cond (f || g) (Alone (rules.Check k)) (Alone (rules.Refuse k))
    says f g e h = ap (λ b. cond (b || (s.word == k + 1)) (Alone (rules.Check k)) (Alone (rules.Refuse k))) e
        ∙ ap (λ b. cond (f || b) (Alone (rules.Check k)) (Alone (rules.Refuse k))) h

    good : (f g : Bool) → (s.word == 0) ≡ f → (s.word == k + 1) ≡ g → (f || g) ≡ true → (s.word ≡ 0) ⊎ (s.word ≡ k + 1)
        → Makes listed (w.Checks k)
    good f g e h ok may =
        let is : looked ≡ w.Appends k = which f g e h ∙ ap (λ b. cond b (w.Appends k) w.Retreats) ok in
        let step : checking k s.word ≡ Alone (rules.Check k) = says f g e h
        ∙ ap (λ b. cond b (Alone (rules.Check k)) (Alone (rules.Refuse k))) ok in
        subst (λ x. Made t (x ∷ []) s (now listed (w.Checks k))) (sym step)
        (plain listed (w.Checks k) here (now listed (w.Checks k)) listed looked refl (rules.Check k) refl
        (ap (waits.does (spot_of listed)) is) may refl refl
        (subst (WaitKnows (is_timed call) listed (length s.queue)) (sym is) known)
        (ap (wait_is_inside listed) is ∙ its_place) (inl (refl, refl, refl)) (λ x ne. refl))

    bad : (s.word == 0) ≡ false → (s.word == k + 1) ≡ false → Makes listed (w.Checks k)
    bad e h =
        subst (λ x. Made t (x ∷ []) s (now listed (w.Checks k))) (sym (says false false e h))
        (plain listed (w.Checks k) here (now listed (w.Checks k)) listed looked refl (rules.Refuse k) refl
        (ap (waits.does (spot_of listed)) (which false false e h))
        (eqb-false s.word 0 e, eqb-false s.word (k + 1) h) refl refl
        (subst (WaitKnows (is_timed call) listed (length s.queue)) (sym (which false false e h)) tt)
        (ap (wait_is_inside listed) (which false false e h) ∙ its_place) (inl (refl, refl, refl)) (λ x ne. refl))

    go : (f g : Bool) → (s.word == 0) ≡ f → (s.word == k + 1) ≡ g → Makes listed (w.Checks k)
    go true g e h = good true g e h refl (inl (eqb-true s.word 0 e))
    go false true e h = good false true e h refl (inr (eqb-true s.word (k + 1) h))
    go false false e h = bad e h

    checks : Makes listed (w.Checks k)
    checks = go (s.word == 0) (s.word == k + 1) refl refl

  retreats : (listed : Bool) → Here listed w.Retreats → Makes listed w.Retreats
  retreats listed here = none listed w.Retreats here (now listed w.Retreats) listed (w.Ends _) refl refl refl refl tt
      refl (inl (refl, refl, refl)) (leaves listed w.Retreats here refl)

  appends : (k : ℕ) (listed : Bool) → Here listed (w.Appends k) → Makes listed (w.Appends k)
  appends k listed here =
      let u = now listed (w.Appends k) in
      let c = waiting call listed taken (w.Appends k) in
      let d = waiting call listed taken (w.Shows k) in
      sits listed (w.Appends k) here u listed (w.Shows k) refl (rules.Join k ∷ []) (
        phase_there s t c here,
        ap (λ (ps : List Phase). record (variable u) { phases = ps })
            (phases_one s u t c (Some d) fits here refl),
      )
      (knows listed (w.Appends k) here).1 (inside listed (w.Appends k) here)
      (inr (alone_in s t (sym (inside listed (w.Appends k) here)))) (λ x ne. refl)

  shows : (k : ℕ) (listed : Bool) → Here listed (w.Shows k) → Makes listed (w.Shows k)
  shows k listed here = plain listed (w.Shows k) here (now listed (w.Shows k)) listed (w.Rests k) refl (rules.Show k)
      refl refl tt (shown_is k (knows listed (w.Shows k) here).1.1) refl
      (knows listed (w.Shows k) here).1.0 (inside listed (w.Shows k) here) (inr (alone_in s t (sym (inside listed (w.Shows k) here))))
      (λ x ne. refl)

  rests : (k : ℕ) → Here true (w.Rests k) → Makes true (w.Rests k)
  rests k here = plain true (w.Rests k) here (now true (w.Rests k)) true (w.Unlocks k) refl (rules.Rest k) refl refl tt
      refl refl tt refl (inl (refl, refl, refl)) (leaves true (w.Rests k) here refl)

  expires : (k : ℕ) → Here true (w.Expires k) → s.inside ≡ None → Makes true (w.Expires k)
  expires k here free = plain true (w.Expires k) here (now true (w.Expires k)) true (w.Quits k) refl (rules.Reenter k)
      refl refl (none_inside s fits free) refl refl
      (knows true (w.Expires k) here).1 (sym (it_is t)) (inr (λ x ne. ap (λ o. is_the o x) free)) (comes free)

  forgets : (listed : Bool) → Here listed w.Forgets → Makes listed w.Forgets
  forgets listed here =
      let know = (knows listed w.Forgets here).1 in
      plain listed w.Forgets here (now listed w.Forgets) listed (w.Leaves true) refl (rules.Forget rules.Leaves) refl
      refl (inl refl, sym (waiters s fits) ∙ know.1) refl refl
      know.0 (inside listed w.Forgets here) (inr (alone_in s t (sym (inside listed w.Forgets here)))) (λ x ne. refl)

  goes : (listed : Bool) → Here listed (w.Leaves true) → Makes listed (w.Leaves true)
  goes listed here = plain listed (w.Leaves true) here (now listed (w.Leaves true)) listed (w.Locks true) refl rules.Go
      refl refl tt refl refl
      (knows listed (w.Leaves true) here).1 refl (inl (refl, refl, refl)) (leaves listed (w.Leaves true) here refl)

  -- it takes itself off the list
  module _ (k : ℕ) (here : Here true (w.Quits k)) where
    abbrev queue_by : Option ℕ → List ℕ
    queue_by place = without place s.queue

    abbrev quits_by : Option ℕ → State
    quits_by place = record s {
      calls = slice_set s.calls t
          (Some (waiting call false taken (next_phase (w.Quits k) (seen.Quit true (not (is_left (queue_by place)))))));
      queue = queue_by place;
    }

    its : true ≡ is_the s.inside t
    its = inside true (w.Quits k) here

    stands : slice_get (variable s).phases t ≡ Some (rules.Queued k Back)
    stands = phase_there s t (waiting call true taken (w.Quits k)) here

    back_waits : weight Waiting (rules.Queued k Back) ≡ 1
    unfolding weight
    back_waits = refl

    module _ (i : ℕ) (at : slice_get s.queue i ≡ Some t) where
      abbrev u : State
      u = quits_by (Some i)

      abbrev r : List ℕ
      r = remove s.queue i

      abbrev v : Variable
      v = rules.after t (rules.Quit k i) (variable s)

      sound : IsSound v
      sound = step_sound t (rules.Quit k i) (variable s) fits.sound (stands, at)

      off : slice_get v.phases t ≡ Some rules.Leaves
      off = get-set_same (variable s).phases t (rules.Queued k Back) rules.Leaves stands

      abbrev q : WaitPhase
      q = next_phase (w.Quits k) (seen.Quit true (not (is_left r)))

      by : (b : Bool) → is_left r ≡ b → Made t (quitting k (Some i) (is_left r)) s u
      by true e =
          let is : q ≡ w.Leaves true = ap (λ b. next_phase (w.Quits k) (seen.Quit true (not b))) e in
          let steps : quitting k (Some i) (is_left r) ≡ rules.Quit k i ∷ Alone (rules.Keep rules.Leaves) ∷ [] =
          ap (quitting k (Some i)) e in
          let some : 0 < total Waiting v.phases = omega (arith, ltb-true 0 (length r) e, sound.waiting.count) in
          let phases : (variable u).phases ≡ slice_set v.phases t rules.Left =
          phases_one s u t (waiting call true taken (w.Quits k)) (Some (waiting call false taken q)) fits here refl
          ∙ ap (slice_set (variable s).phases t) (ap (waits.does waits.Gone) is)
          ∙ sym (set_set (variable s).phases t rules.Leaves rules.Left) in
          subst (λ x. Made t x s u) (sym steps)
          (sits true (w.Quits k) here u false q refl (rules.Quit k i ∷ Alone (rules.Keep rules.Leaves) ∷ []) (
            (stands, at),
            (
              (off, (inl refl, some)),
              ap (λ (ps : List Phase). record (variable u) { phases = ps })
                  phases,
            ),
          )
          (subst (WaitKnows (is_timed call) false (length r)) (sym is) (knows true (w.Quits k) here).1)
          (ap (wait_is_inside false) is ∙ its) (inr (alone_in s t (sym its))) (λ x ne. refl))
      by false e =
          let is : q ≡ w.Forgets = ap (λ b. next_phase (w.Quits k) (seen.Quit true (not b))) e in
          let steps : quitting k (Some i) (is_left r) ≡ rules.Quit k i ∷ [] = ap (quitting k (Some i)) e in
          let none_left : length r ≡ 0 = omega (arith, ltb-false 0 (length r) e) in
          let phases : (variable u).phases ≡ v.phases = phases_one s u t (waiting call true taken (w.Quits k))
          (Some (waiting call false taken q)) fits here refl
          ∙ ap (slice_set (variable s).phases t) (ap (waits.does waits.Gone) is) in
          subst (λ x. Made t x s u) (sym steps)
          (sits true (w.Quits k) here u false q refl (rules.Quit k i ∷ [])
          ((stands, at), ap (λ (ps : List Phase). record (variable u) { phases = ps }) phases)
          (subst (WaitKnows (is_timed call) false (length r)) (sym is) ((knows true (w.Quits k) here).1, none_left))
          (ap (wait_is_inside false) is ∙ its) (inr (alone_in s t (sym its))) (λ x ne. refl))

    quits : Makes true (w.Quits k)
    quits =
        let place = placed t s.queue
        (omega (arith, fits.sound.waiting.each t, ap (at_index (weight Waiting)) stands, back_waits)) in
        subst (λ o. Made t (quitting k o (is_left (queue_by o))) s (quits_by o)) (sym place.1)
        (by place.0 place.2 (is_left (remove s.queue place.0)) refl)

  ends : (listed : Bool) (answer : _) → Here listed (w.Ends answer) → Makes listed (w.Ends answer)
  ends listed answer here =
      let c = waiting call listed taken (w.Ends answer) in
      let run = makes_none s (now listed (w.Ends answer)) t c None fits here refl refl refl refl in
      record {
        lawful = run;
        fits = fits_one s (now listed (w.Ends answer)) t c None fits here refl [] run (λ d e. absurd (none-some d e))
            (inl (refl, refl, refl)) (λ x ne. refl)
            (λ h. absurd (let x : false ≡ true = inside listed (w.Ends answer) here ∙ h in cc));
      }

  pub wait_acts : (listed : Bool) (p : WaitPhase) → Here listed p → may_step s.inside (waiting call listed taken p)
      ≡ true → Makes listed p
  wait_acts listed (w.Enters k) here may = enters k listed here (nobody s.inside may)
  wait_acts listed (w.Checks k) here may = checks k listed here
  wait_acts listed w.Retreats here may = retreats listed here
  wait_acts listed (w.Appends k) here may = appends k listed here
  wait_acts listed (w.Shows k) here may = shows k listed here
  wait_acts true (w.Rests k) here may = rests k here
  wait_acts false (w.Rests k) here may = absurd (let x = (knows false (w.Rests k) here).1 in cc)
  wait_acts true (w.Expires k) here may = expires k here (nobody s.inside may)
  wait_acts true (w.Quits k) here may = quits k here
  wait_acts listed w.Forgets here may = forgets listed here
  wait_acts listed (w.Leaves true) here may = goes listed here
  wait_acts listed (w.Ends answer) here may = ends listed answer here
  wait_acts false (w.Expires k) here may = absurd cc
  wait_acts false (w.Quits k) here may = absurd cc
  wait_acts listed (w.Leaves false) here may = absurd cc
  wait_acts listed p here may = absurd cc

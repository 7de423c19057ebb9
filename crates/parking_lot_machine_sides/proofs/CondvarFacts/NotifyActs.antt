-- An act of a notification at the variable is steps of the rules, and keeps what holds of the machine.
use Rattle.std.proofs.Common.{◌≡◌, ◌≢◌, ℕ, zero, suc, ◌+◌, ◌-◌, ◌<◌, ◌≤◌, ◌⊎◌, inl, inr, Bool, true, false, cond, ◌==◌}
use Rattle.std.proofs.Common.{nat_lt, List, [], ◌∷◌, length, Option, Some, None, slice_set, refl, sym, ap, ◌∙◌, subst}
use Rattle.std.proofs.Common.{arith, eqb-true}
use Rattle.std.proofs.lemmas.Bool.{ltb-true, ltb-false, ne_eqb}
use Rattle.std.proofs.lemmas.List.{length-set}
use Rattle.std.proofs.lemmas.List.Sums.{sum_by-le-sum_by}
use Rattle.std.proofs.lemmas.Option.{none-some, same_Some}
use Rattle.parking_lot_rules.specs.Variable as rules
use Rattle.parking_lot_rules.specs.Variable.{Alone, Inside, Phase, Settled, Step, Storing, Waiting, total, weight}
use Rattle.parking_lot_protocol_waits.specs.NotifyRules as notifies
use Rattle.parking_lot_protocol_waits.specs.NotifyTable.{next_phase}
use Rattle.parking_lot_protocol_waits.specs.declared.notify_act.NotifySeen.TheVariants as seen
use Rattle.parking_lot_protocol_waits.specs.declared.notify_core.Notice.{Notice}
use Rattle.parking_lot_protocol_waits.specs.declared.notify_core.NotifyPhase.{NotifyPhase}
use Rattle.parking_lot_protocol_waits.specs.declared.notify_core.NotifyPhase.TheVariants as n
use Rattle.parking_lot_machine_sides.specs.declared.condvar.calls.CondvarCall.{CondvarCall}
use Rattle.parking_lot_machine_sides.specs.declared.condvar.open_call.Core.TheVariants as core
use Rattle.parking_lot_machine_sides.specs.Condvar.Calls.{OpenCall, is_of_all}
use Rattle.parking_lot_machine_sides.specs.Condvar.Fitting.{Fits, IsNotify, NotifyKnows, Sits, TakesFew, is_the}
use Rattle.parking_lot_machine_sides.specs.Condvar.Machines.{State, call_at, is_left, may_step, phase_of, variable}
use Rattle.parking_lot_machine_sides.specs.Condvar.OwnSteps.{closing, steps_if, steps_of, stepped}
use Rattle.parking_lot_machine_sides.specs.Condvar.Steps.{Runs}
use Rattle.parking_lot_machine_sides.specs.Condvar.Turns.{notify_is_inside}
use Rattle.parking_lot_machine_sides.proofs.CondvarFacts.Acting.{IsQuiet, OthersStay, alone_in, fits_one, it_is}
use Rattle.parking_lot_machine_sides.proofs.CondvarFacts.Acting.{makes_none}
use Rattle.parking_lot_machine_sides.proofs.CondvarFacts.Acting.{makes_plain, not_another}
use Rattle.parking_lot_machine_sides.proofs.CondvarFacts.Phases.{none_inside, waiters}
use Rattle.parking_lot_machine_sides.proofs.CondvarFacts.WaitActs.{Made, nobody}

abbrev pub notifying : CondvarCall → Bool → ℕ → NotifyPhase → OpenCall
notifying call listed taken p =
    record { call = call; core = core.Notify (record { phase = p }); listed = listed; taken = taken }

stores_inside : (p : Phase) → weight Storing p ≤ weight Inside p
unfolding weight
stores_inside (rules.Joined k) = omega arith
stores_inside rules.Leaves = omega arith
stores_inside rules.Notifies = omega arith
stores_inside p = omega arith

settled_waits : (p : Phase) → weight Settled p ≤ weight Waiting p
unfolding weight
settled_waits (rules.Queued k stay) = omega arith
settled_waits p = omega arith

-- while nobody is inside, somebody waits where a mutex is shown
somebody : (s : State) → Fits s → s.inside ≡ None → 0 < s.word → 0 < length s.queue
somebody s fits free shown = omega (
  arith,
  fits.sound.fits.cause shown,
  none_inside s fits free,
  waiters s fits,
  sum_by-le-sum_by (weight Storing) (weight Inside) (variable s).phases stores_inside,
  sum_by-le-sum_by (weight Settled) (weight Waiting) (variable s).phases settled_waits,
)

is_zero : (m : ℕ) → (0 < m → ⊥) → m ≡ 0
is_zero zero h = refl
is_zero (suc m) h = absurd (h (omega arith))

pub takes_none : (all : Bool) (taken : ℕ) → taken ≡ 0 → TakesFew all taken
takes_none true taken e = tt
takes_none false taken e = omega (arith, e)

module _ (s : State) (t : ℕ) (call : CondvarCall) (listed : Bool) (taken : ℕ) (fits : Fits s) where
  abbrev pub Here : NotifyPhase → Type 0
  Here p = call_at s t ≡ Some (notifying call listed taken p)

  abbrev pub now : NotifyPhase → State
  now p = stepped s t (notifying call listed taken p)

  abbrev pub Makes : NotifyPhase → Type 0
  Makes p = Made t (steps_of s t (notifying call listed taken p)) s (now p)

  pub knows : (p : NotifyPhase) → Here p → IsNotify call × NotifyKnows (is_of_all call) (length s.calls) s.word s.beside
      (length s.queue) taken p
  knows p here = (fits.seated t (notifying call listed taken p) here).knows

  pub inside : (p : NotifyPhase) → Here p → notify_is_inside p ≡ is_the s.inside t
  inside p here = (fits.seated t (notifying call listed taken p) here).section

  -- a step to a phase q, by one plain step of the rules or none
  module _ (p : NotifyPhase) (here : Here p) (u : State) (q : NotifyPhase)
      (calls : u.calls ≡ slice_set s.calls t (Some (notifying call listed taken q))) where
    abbrev pub c : OpenCall
    c = notifying call listed taken p

    abbrev pub d : OpenCall
    d = notifying call listed taken q

    threads : length u.calls ≡ length s.calls
    threads = ap (λ (cs : List (Option OpenCall)). length cs) calls ∙ length-set s.calls t (Some d)

    abbrev pub Known : Type 0
    Known = NotifyKnows (is_of_all call) (length s.calls) u.word u.beside (length u.queue) taken q

    pub sits : (steps : List Step) → Runs t steps (variable s) (variable u) → Known
        → notify_is_inside q ≡ is_the u.inside t → IsQuiet t s u → OthersStay t s u → Made t steps s u
    sits steps run know at quiet stay = record {
      lawful = run;
      fits = fits_one s u t c (Some d) fits here calls steps run
          (λ x e. subst (Sits u t) (same_Some d x e)
          (record {
            knows = (
              (knows p here).0,
              subst (λ m. NotifyKnows (is_of_all call) m u.word u.beside (length u.queue) taken q)
                  (sym threads) know,
            );
            section = at;
          }))
          quiet stay (λ h. (d, refl));
    }

    pub plain : (k : rules.Plain) → phase_of c ≡ rules.from k → phase_of d ≡ rules.to k
        → rules.May k s.word (λ x. total x (variable s).phases) → u.word ≡ rules.written k s.word → u.queue ≡ s.queue
        → Known → notify_is_inside q ≡ is_the u.inside t → IsQuiet t s u → OthersStay t s u → Made t (Alone k ∷ []) s u
    plain k from to may word queue know at quiet stay =
        sits (Alone k ∷ []) (makes_plain s u t c (Some d) fits here calls k from to may word queue) know at quiet stay

    pub none : phase_of d ≡ phase_of c → u.word ≡ s.word → u.queue ≡ s.queue → Known
        → notify_is_inside q ≡ is_the u.inside t → IsQuiet t s u → OthersStay t s u → Made t [] s u
    none same word queue know at quiet stay = sits [] (makes_none s u t c (Some d) fits here calls same word queue) know
        at quiet stay

  loads : (all : Bool) → Here (n.Loads all) → Makes (n.Loads all)
  loads all here = go (s.word == 0) refl
    where
      known : (all ≡ is_of_all call) × (taken ≡ 0)
      known = (knows (n.Loads all) here).1

      go : (b : Bool) → (s.word == 0) ≡ b → Makes (n.Loads all)
      go true e =
          let is : next_phase (n.Loads all) (seen.Word s.word) ≡ n.Ends 0 =
          ap (λ b. cond b (n.Ends 0) (n.Enters all s.word)) e in
          none (n.Loads all) here (now (n.Loads all)) (next_phase (n.Loads all) (seen.Word s.word)) refl
          (ap notifies.does is) refl refl
          (subst (NotifyKnows (is_of_all call) (length s.calls) s.word s.beside (length s.queue) taken) (sym is)
          (sym known.1, takes_none (is_of_all call) taken known.1))
          (ap notify_is_inside is ∙ inside (n.Loads all) here) (inl (refl, refl, refl)) (λ x ne. refl)
      go false e =
          let is : next_phase (n.Loads all) (seen.Word s.word) ≡ n.Enters all s.word =
          ap (λ b. cond b (n.Ends 0) (n.Enters all s.word)) e in
          none (n.Loads all) here (now (n.Loads all)) (next_phase (n.Loads all) (seen.Word s.word)) refl
          (ap notifies.does is) refl refl
          (subst (NotifyKnows (is_of_all call) (length s.calls) s.word s.beside (length s.queue) taken) (sym is) known)
          (ap notify_is_inside is ∙ inside (n.Loads all) here) (inl (refl, refl, refl)) (λ x ne. refl)

  enters : (all : Bool) (found : ℕ) → Here (n.Enters all found) → s.inside ≡ None → Makes (n.Enters all found)
  enters all found here free =
      let known = (knows (n.Enters all found) here).1 in
      plain (n.Enters all found) here (now (n.Enters all found)) (n.Checks all found) refl rules.Notify refl refl
      (none_inside s fits free) refl refl
      (known.0, known.1, somebody s fits free, refl) (sym (it_is t)) (inr (λ x ne. ap (λ o. is_the o x) free))
      (λ x ne. ne_eqb t x (λ e. ne (sym e)) ∙ sym (ap (λ o. is_the o x) free))

  checks : (all : Bool) (found : ℕ) → Here (n.Checks all found) → Makes (n.Checks all found)
  checks all found here = go (s.word == found) (is_left s.queue) refl refl
    where
      known : (all ≡ is_of_all call) × (taken ≡ 0) × (0 < s.word → 0 < length s.queue) × (s.beside ≡ Some (found - 1))
      known = (knows (n.Checks all found) here).1

      its : true ≡ is_the s.inside t
      its = inside (n.Checks all found) here

      steps_so : (f g : Bool) → (s.word == found) ≡ f → is_left s.queue ≡ g
          → steps_if (s.word == found) (is_left s.queue) ≡ steps_if f g
      steps_so f g e h = ap (λ b. steps_if b (is_left s.queue)) e ∙ ap (steps_if f) h

      same : (s.word == found) ≡ true → (g : Bool) → is_left s.queue ≡ g → Makes (n.Checks all found)
      same e g h =
          let is : next_phase (n.Checks all found) (seen.Word s.word) ≡ n.Marks all =
          ap (λ b. cond b (n.Marks all) (n.Leaves (record { count = 0; wakes = false; left = true }))) e in
          subst (λ x. Made t x s (now (n.Checks all found))) (sym (steps_so true g e h))
          (none (n.Checks all found) here (now (n.Checks all found))
          (next_phase (n.Checks all found) (seen.Word s.word)) refl (ap notifies.does is) refl refl
          (subst (NotifyKnows (is_of_all call) (length s.calls) s.word s.beside (length s.queue) taken) (sym is)
          (known.0, known.1, known.3 ∙ ap (λ (m : ℕ). Some (m - 1)) (sym (eqb-true s.word found e))))
          (ap notify_is_inside is ∙ its) (inl (refl, refl, refl)) (λ x ne. refl))

      other : (s.word == found) ≡ false → (k : rules.Plain) (g : Bool) → is_left s.queue ≡ g
          → steps_if false g ≡ Alone k ∷ [] → rules.Notifies ≡ rules.from k → rules.Left ≡ rules.to k
          → rules.May k s.word (λ x. total x (variable s).phases) → s.word ≡ rules.written k s.word
          → Makes (n.Checks all found)
      other e k g h steps from to may word =
          let is : next_phase (n.Checks all found) (seen.Word s.word) ≡ n.Leaves
          (record { count = 0; wakes = false; left = true }) =
          ap (λ b. cond b (n.Marks all) (n.Leaves (record { count = 0; wakes = false; left = true }))) e in
          subst (λ x. Made t x s (now (n.Checks all found))) (sym (steps_so false g e h ∙ steps))
          (plain (n.Checks all found) here (now (n.Checks all found))
          (next_phase (n.Checks all found) (seen.Word s.word)) refl k from (ap notifies.does is ∙ to) may word refl
          (subst (NotifyKnows (is_of_all call) (length s.calls) s.word s.beside (length s.queue) taken) (sym is)
          (sym known.1, takes_none (is_of_all call) taken known.1))
          (ap notify_is_inside is ∙ its) (inl (refl, refl, refl)) (λ x ne. refl))

      go : (f g : Bool) → (s.word == found) ≡ f → is_left s.queue ≡ g → Makes (n.Checks all found)
      go true g e h = same e g h
      go false true e h = other e (rules.Keep rules.Notifies) true h refl refl refl
          (inr refl, omega (arith, ltb-true 0 (length s.queue) h, waiters s fits)) refl
      go false false e h =
          let empty : length s.queue ≡ 0 = omega (arith, ltb-false 0 (length s.queue) h) in
          other e (rules.Forget rules.Notifies) false h refl refl refl (inr refl, omega (arith, empty, waiters s fits))
          (is_zero s.word (λ some. absurd (omega (arith, known.2 some, empty))))

  forgets : (notice : Notice) → Here (n.Forgets notice) → Makes (n.Forgets notice)
  forgets notice here =
      let known = (knows (n.Forgets notice) here).1 in
      plain (n.Forgets notice) here (now (n.Forgets notice)) (n.Leaves notice) refl (rules.Forget rules.Notifies) refl
      refl (inr refl, sym (waiters s fits) ∙ known.1) refl refl
      (known.0, known.2) (inside (n.Forgets notice) here) (inr (alone_in s t (sym (inside (n.Forgets notice) here)))) (λ x ne. refl)

  goes : (notice : Notice) → Here (n.Leaves notice) → Makes (n.Leaves notice)
  goes notice here = go notice.wakes refl
    where
      its : true ≡ is_the s.inside t
      its = inside (n.Leaves notice) here

      known : (notice.count ≡ taken) × TakesFew (is_of_all call) taken
      known = (knows (n.Leaves notice) here).1

      to_phase : (q : NotifyPhase) → next_phase (n.Leaves notice) seen.Made ≡ q → notifies.does q ≡ rules.Idle
          → notify_is_inside q ≡ false
          → NotifyKnows (is_of_all call) (length s.calls) s.word s.beside (length s.queue) taken q → Makes (n.Leaves notice)
      to_phase q is idle out know = plain (n.Leaves notice) here (now (n.Leaves notice))
          (next_phase (n.Leaves notice) seen.Made) refl rules.Go refl (ap notifies.does is ∙ idle) tt refl refl
          (subst (NotifyKnows (is_of_all call) (length s.calls) s.word s.beside (length s.queue) taken) (sym is) know)
          (ap notify_is_inside is ∙ out) (inl (refl, refl, refl))
          (λ x ne. sym (not_another s.inside t x ne (sym its)))

      go : (b : Bool) → notice.wakes ≡ b → Makes (n.Leaves notice)
      go true e = to_phase (n.Wakes notice.count) (ap (λ b. cond b (n.Wakes notice.count) (n.Ends notice.count)) e) refl
          refl known
      go false e = to_phase (n.Ends notice.count) (ap (λ b. cond b (n.Wakes notice.count) (n.Ends notice.count)) e) refl
          refl known

  ends : (count : ℕ) → Here (n.Ends count) → Makes (n.Ends count)
  ends count here =
      let c = notifying call listed taken (n.Ends count) in
      let run = makes_none s (now (n.Ends count)) t c None fits here refl refl refl refl in
      record {
        lawful = run;
        fits = fits_one s (now (n.Ends count)) t c None fits here refl [] run (λ d e. absurd (none-some d e))
            (inl (refl, refl, refl)) (λ x ne. refl)
            (λ h. absurd (let x : false ≡ true = inside (n.Ends count) here ∙ h in cc));
      }

  pub notify_acts : (p : NotifyPhase) → Here p → may_step s.inside (notifying call listed taken p) ≡ true → Makes p
  notify_acts (n.Loads all) here may = loads all here
  notify_acts (n.Enters all found) here may = enters all found here (nobody s.inside may)
  notify_acts (n.Checks all found) here may = checks all found here
  notify_acts (n.Forgets notice) here may = forgets notice here
  notify_acts (n.Leaves notice) here may = goes notice here
  notify_acts (n.Ends count) here may = ends count here
  notify_acts p here may = absurd cc

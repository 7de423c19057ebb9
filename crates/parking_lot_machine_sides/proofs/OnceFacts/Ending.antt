-- How a call ends: its closure runs and returns, or it is answered; and how one begins.
use Rattle.std.proofs.Common.{◌≡◌, ℕ, inl, inr, Bool, true, false, cond, List, length, Option, Some, None, refl, sym}
use Rattle.std.proofs.Common.{ap, ◌∙◌, subst, arith}
use Rattle.std.proofs.lemmas.List.{nil_from_length}
use Rattle.std.proofs.lemmas.Option.{none-some, same_Some}
use Rattle.parking_lot_core_model.specs.Buckets.{slot}
use Rattle.parking_lot_protocol.specs.declared.act.Act.TheVariants as act
use Rattle.parking_lot_protocol.specs.declared.act.ActResult.{ActResult}
use Rattle.parking_lot_protocol.specs.declared.act.ActResult.TheVariants as seen
use Rattle.parking_lot_protocol.specs.declared.act.CoreAnswer.{CoreAnswer}
use Rattle.parking_lot_rules.specs.declared.once.once_state.OnceState.{OnceState}
use Rattle.parking_lot_rules.specs.declared.once.wish.Wish.{Wish}
use Rattle.parking_lot_rules.specs.Once.Once.{Idle, Step, Plain, Alone, Return, Leave}
use Rattle.parking_lot_protocol_waits.specs.declared.once.once_phase.OnceAnswer.{OnceAnswer}
use Rattle.parking_lot_protocol_waits.specs.declared.once.once_phase.OnceAnswer.TheVariants as end
use Rattle.parking_lot_protocol_waits.specs.declared.once.once_phase.OncePhase.{OncePhase}
use Rattle.parking_lot_protocol_waits.specs.declared.once.once_phase.OncePhase.TheVariants.{Asking, Returning, Loads}
use Rattle.parking_lot_protocol_waits.specs.declared.once.once_phase.OncePhase.TheVariants.{Starts, Spins, Parks}
use Rattle.parking_lot_protocol_waits.specs.declared.once.once_phase.OncePhase.TheVariants.{Enters, Checks, Retreats}
use Rattle.parking_lot_protocol_waits.specs.declared.once.once_phase.OncePhase.TheVariants.{Appends, Rests, Sleeps}
use Rattle.parking_lot_protocol_waits.specs.declared.once.once_phase.OncePhase.TheVariants.{Stores, Looks, Scans}
use Rattle.parking_lot_protocol_waits.specs.declared.once.once_phase.OncePhase.TheVariants.{Clears, Leaves, Wakes}
use Rattle.parking_lot_protocol_waits.specs.declared.once.once_phase.OncePhase.TheVariants.{Finishes, Ends, Invalid}
use Rattle.parking_lot_protocol_waits.specs.Once.OnceMoves.{Stays, Makes, role}
use Rattle.parking_lot_protocol_waits.specs.Once.OnceTable.{act_of, answer_of, next_phase}
use Rattle.parking_lot_machine_sides.specs.Once.Entries.{list_of}
use Rattle.parking_lot_machine_sides.specs.declared.once.calls.OnceCall.{OnceCall}
use Rattle.parking_lot_machine_sides.specs.Once.OnceActs.{shown}
use Rattle.parking_lot_machine_sides.specs.Once.OnceCalls.{ends_well}
use Rattle.parking_lot_machine_sides.specs.Once.OnceFits.{Fits, Sits, GoesOn, is_in_section, is_listed, is_sleeping}
use Rattle.parking_lot_machine_sides.specs.Once.OnceFits.{taken_count}
use Rattle.parking_lot_machine_sides.specs.Once.OnceSteps.{IsLawful, given_by, move_by, move_of}
use Rattle.parking_lot_machine_sides.specs.declared.once.open_call.OpenCall.{OpenCall}
use Rattle.parking_lot_machine_sides.specs.Once.Onces.{Onces, word_at, call_at, known_of, inside_at}
use Rattle.parking_lot_machine_sides.proofs.OnceFacts.Sections.{stands_in}
use Rattle.parking_lot_machine_sides.proofs.OnceFacts.Acting.{role_here}
use Rattle.parking_lot_machine_sides.proofs.OnceFacts.Owning.{One, fits_one, is_one, makes_one, stays_one}
use Rattle.parking_lot_machine_sides.specs.Once.OnceActs.{ran, ended_by, ended, with_call}
use Rattle.parking_lot_machine_sides.proofs.OnceFacts.OwnActs.{Made}

went_so : (before : OnceState) (call : OnceCall) (b : OnceState) → GoesOn call b (Ends (end.Runs before))
    → GoesOn call before (next_phase (Returning (ends_well call)) seen.Start)
went_so before call b (inl h) = inr (refl, h)
went_so before call b (inr h) = absurd h.0

pub not_asking : (call : OnceCall) (b : OnceState) (wish : Wish) → GoesOn call b (Asking wish) → ⊥
not_asking call b wish (inl h) = h
not_asking call b wish (inr h) = h.0

pub not_returning : (call : OnceCall) (b : OnceState) (well : Bool) → GoesOn call b (Returning well) → ⊥
not_returning call b well (inl h) = h
not_returning call b well (inr h) = h.0

pub not_invalid : (call : OnceCall) (b : OnceState) → GoesOn call b Invalid → ⊥
not_invalid call b (inl h) = h
not_invalid call b (inr h) = h.0

module _ (s : Onces) (t : ℕ) (c : OpenCall) (fits : Fits s) (here : call_at s t ≡ Some c) where
  abbrev us : List ℕ
  us = list_of s.wakes t

  abbrev sits : Sits (length s.words) t c us (list_of s.waiting c.once) (inside_at s c.once)
  sits = fits.seated t c here

  abbrev with : Option OpenCall → Onces
  with o = with_call s t o

  with_one : (o : Option OpenCall) → One s (with o) t c.once o
  with_one o = record { calls = refl; wakes = refl; onces = refl; words = λ j ne. refl; waiting = λ j ne. refl; buckets = refl }

  -- it is over
  over_fits : (step : Option Step) → IsLawful t c.once step s (with None) → taken_count c.core.phase ≡ 0
      → is_in_section c.core.phase ≡ false → is_listed c.core.phase ≡ false → Fits (with None)
  over_fits step lawful none out away = fits_one s (with None) t c None fits here (with_one None) tt step lawful
      (fits.words c.once)
      (λ d is. absurd (none-some d is))
      (λ e. nil_from_length us (sits.taken ∙ none))
      (inl refl)
      (λ x ne b. refl)
      (λ b e. absurd
      (let yes : true ≡ false =
      sym (is_one (inside_at s c.once) t (ap (slot s.inside) (stands_in s t c fits here b e) ∙ e)) ∙ sym sits.section
      ∙ out in cc))
      (omega (arith, ap {B = ℕ} (λ b. cond b 1 0) away))

  over_stays : (p : OncePhase) → c.core.phase ≡ p → role c.taker (known_of us c) p ≡ Idle → taken_count p ≡ 0
      → is_in_section p ≡ false → is_listed p ≡ false → Made t c Stays s (with None)
  over_stays p e idle none out away =
      let lawful : IsLawful t c.once None s (with None) = stays_one s (with None) t c None fits here (with_one None) tt
      (ap (role c.taker (known_of us c)) e ∙ idle) refl refl in
      record {
        step = None;
        named = refl;
        lawful = lawful;
        fits = over_fits None lawful (ap taken_count e ∙ none)
            (ap is_in_section e ∙ out) (ap is_listed e ∙ away);
      }

  -- it has woken all
  over_leaves : c.core.phase ≡ Finishes → Made t c (Makes Leave) s (with None)
  over_leaves e =
      let lawful : IsLawful t c.once (Some (Alone Leave)) s (with None) = makes_one s (with None) t c None fits here
      (with_one None) tt Leave (ap (role c.taker (known_of us c)) e) refl tt refl refl in
      record {
        step = Some (Alone Leave);
        named = refl;
        lawful = lawful;
        fits = over_fits (Some (Alone Leave)) lawful (ap taken_count e) (ap is_in_section e) (ap is_listed e);
      }

  -- its closure runs and returns
  has_run : (before : OnceState) → c.core.phase ≡ Ends (end.Runs before)
      → Made t c (Makes (Return before (ends_well c.call))) s (with (Some (ran c before)))
  has_run before e =
      let d : OpenCall = ran c before in
      let one : One s (with (Some d)) t c.once (Some d) = with_one (Some d) in
      let k : Plain = Return before (ends_well c.call) in
      let lawful : IsLawful t c.once (Some (Alone k)) s (with (Some d)) = makes_one s (with (Some d)) t c (Some d) fits
      here one refl k (ap (role c.taker (known_of us c)) e) (role_here c.once us d refl) tt refl refl in
      record {
        step = Some (Alone k);
        named = refl;
        lawful = lawful;
        fits = fits_one s (with (Some d)) t c (Some d) fits here one refl (Some (Alone k)) lawful (fits.words c.once)
            (λ x is. subst (λ (y : OpenCall). Sits (length s.words) t y us (list_of s.waiting y.once)
            (inside_at s y.once))
            (same_Some d x is) (ran_sits before e))
            (λ none. absurd (none-some d (sym none)))
            (inl refl)
            (λ x ne b. refl)
            (λ b at. (d, refl, stands_in s t c fits here b at))
            (omega (arith, ap {B = ℕ} (λ p. cond (is_listed p) 1 0) e));
      }
    where
      ran_sits : (before : OnceState) → c.core.phase ≡ Ends (end.Runs before) → Sits (length s.words) t (ran c before)
          us (list_of s.waiting c.once) (inside_at s c.once)
      ran_sits before e = record {
        low = sits.low;
        goes = went_so before c.call c.before (subst (GoesOn c.call c.before) e sits.goes);
        ready = tt;
        taken = sits.taken ∙ ap taken_count e;
        knows = tt;
        few = omega arith;
        section = sym (ap is_in_section e) ∙ sits.section;
        awake = λ up. sits.awake (ap is_sleeping e);
      }

  by_phase : (p : OncePhase) (x : ActResult) (answer : CoreAnswer) → c.core.phase ≡ p → act_of p ≡ act.Done answer
      → GoesOn c.call c.before p → Made t c (move_by us c x p) s (ended_by (answer_of p) s t c)
  by_phase (Ends (end.Runs before)) x answer e asked goes = has_run before e
  by_phase (Ends end.Completed) x answer e asked goes = over_stays (Ends end.Completed) e refl refl refl refl
  by_phase (Ends end.Poisoned) x answer e asked goes = over_stays (Ends end.Poisoned) e refl refl refl refl
  by_phase (Ends end.Finished) x answer e asked goes = over_stays (Ends end.Finished) e refl refl refl refl
  by_phase Finishes x answer e asked goes = over_leaves e
  by_phase (Asking wish) x answer e asked goes = absurd (not_asking c.call c.before wish goes)
  by_phase (Returning well) x answer e asked goes = absurd (not_returning c.call c.before well goes)
  by_phase Invalid x answer e asked goes = absurd (not_invalid c.call c.before goes)
  by_phase (Loads a) x answer e asked goes = absurd cc
  by_phase (Starts a before parked) x answer e asked goes = absurd cc
  by_phase (Spins a state) x answer e asked goes = absurd cc
  by_phase (Parks a state) x answer e asked goes = absurd cc
  by_phase (Enters wish) x answer e asked goes = absurd cc
  by_phase (Checks wish) x answer e asked goes = absurd cc
  by_phase (Retreats wish) x answer e asked goes = absurd cc
  by_phase (Appends wish) x answer e asked goes = absurd cc
  by_phase (Rests wish) x answer e asked goes = absurd cc
  by_phase (Sleeps wish) x answer e asked goes = absurd cc
  by_phase (Stores well) x answer e asked goes = absurd cc
  by_phase (Looks well) x answer e asked goes = absurd cc
  by_phase (Scans well taken) x answer e asked goes = absurd cc
  by_phase (Clears well taken) x answer e asked goes = absurd cc
  by_phase (Leaves taken) x answer e asked goes = absurd cc
  by_phase (Wakes count) x answer e asked goes = absurd cc

  pub ends_so : (answer : CoreAnswer) → act_of c.core.phase ≡ act.Done answer → Made t c (move_of s t c) s (ended s t c)
  ends_so answer asked =
      by_phase c.core.phase
      (given_by (list_of s.waiting c.once) (shown (act_of c.core.phase) (word_at s c.once)) c.core.phase) answer refl
      asked sits.goes

  pub ended_fits : (answer : CoreAnswer) → act_of c.core.phase ≡ act.Done answer → (o : Option OnceAnswer)
      → answer_of c.core.phase ≡ o → Fits (ended_by o s t c)
  ended_fits answer asked o e = subst (λ x. Fits (ended_by x s t c)) e (ends_so answer asked).fits

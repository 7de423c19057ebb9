-- How a call ends that is only to be answered, and that its answer changes nobody's hold.
use Rattle.std.proofs.Common.{◌≡◌, ◌≢◌, ◌⊎◌, ℕ, inl, inr, ◌||◌, Bool, false, Option, Some, None, refl, sym}
use Rattle.std.proofs.Common.{ap, ◌∙◌, subst}
use Rattle.std.specs.Option.{option_and_then, option_map}
use Rattle.std.proofs.lemmas.Bool.{cases_eq, false≢true}
use Rattle.std.proofs.lemmas.Option.{slice_get_within}
use Rattle.lock_api_desk.specs.declared.mode.Mode.{Mode}
use Rattle.parking_lot_protocol.specs.declared.act.CoreAnswer.{CoreAnswer}
use Rattle.parking_lot_machine_calls.specs.declared.open_call.Call.{Call}
use Rattle.parking_lot_machine.specs.Machines.{IsStepped, end_of}
use Rattle.parking_lot_machine.specs.RowFits.{FitsTogether}
use Rattle.parking_lot_machine.specs.Rows.{Rows, State, call_at, state}
use Rattle.parking_lot_machine.specs.SoundLaws.{StepsAreCases}
use Rattle.parking_lot_machine_calls.specs.Stances.{core_act}
use Rattle.mapworld_state.specs.Locks.Aims.{Aim, Gets, aim_of}
use Rattle.mapworld_state.specs.Locks.Fits.{IsPlain, LocksFit}
use Rattle.mapworld_state.specs.Locks.Stands.{is_try, stand_of}
use Rattle.mapworld_state.specs.Locks.Steps.{LockEnds}
use Rattle.mapworld_state.specs.Locks.Views.{Shown, held_as, held_at}
use Rattle.mapworld_state.proofs.LocksFacts.Acted.{acted}
use Rattle.mapworld_state.proofs.LocksFacts.Answering.{answer_leaves_holds, is_answer, stepped_fits}
use Rattle.mapworld_state.proofs.LocksFacts.Beginning.{same_holds}
use Rattle.mapworld_state.proofs.LocksFacts.Calls.{slot, stepped_goes}
use Rattle.mapworld_state.proofs.LocksFacts.Handing.{elsewhere}
use Rattle.mapworld_state.proofs.LocksFacts.Keeping.{stepped_kinds, stepped_plain}
use Rattle.mapworld_state.proofs.LocksFacts.Standing.{others_stand, set_low}
use Rattle.mapworld_state.proofs.LocksFacts.Ending.{core_ends, core_over, core_within}
use Rattle.mapworld_state.proofs.LocksFacts.Staging.{EndsSo, ends_as}
use Rattle.mapworld_state.proofs.LocksFacts.Within.{WithinAt}
use Rattle.parking_lot_machine_calls.specs.CallActs.{hold_after}
use Rattle.parking_lot_machine_calls.specs.CallViews.{hold_mode}
use Rattle.parking_lot_machine_calls.specs.Calls.{is_timed}
use Rattle.parking_lot_machine_calls.specs.declared.calls.LockKind.TheVariants as kind

call_ends : (s : State) (t : ℕ) (c : Call) (answer : CoreAnswer) → FitsTogether s → IsPlain s → call_at s t ≡ Some c
    → Some answer ≡ end_of (core_act c.core)
    → EndsSo (aim_of c.asked) (is_try c.asked) (is_timed c.asked) answer (held_at s c.lock t)
call_ends s t c answer h plain here over =
    let ends = core_ends s t c answer h plain here over in
    let held : held_at s c.lock t ≡ held_as (hold_mode (Some kind.Rw) (hold_after 0 c.core)) =
    subst (λ a. WithinAt a (held_at s c.lock t)) (core_over s t c answer h plain here over)
    (core_within s t c h plain here) in
    subst (EndsSo (aim_of c.asked) (is_try c.asked) (is_timed c.asked) answer)
    (sym (held ∙ ap (λ x. held_as (hold_mode (Some kind.Rw) x)) ends.1))
    (ends_as c.asked (plain.asked t c here) (is_timed c.asked) answer ends.0)

-- what that says of each aim
module _ (aim : Aim) (tries timed : Bool) (answer : CoreAnswer) (o : Option Mode)
    (h : EndsSo aim tries timed answer o) (m : Mode) (is : aim ≡ Gets m) where
  gets : EndsSo (Gets m) tries timed answer o
  gets = subst (λ a. EndsSo a tries timed answer o) is h

  ends_owned : answer ≡ CoreAnswer.Owned → o ≡ Some m
  ends_owned e = subst (λ a. EndsSo (Gets m) tries timed a o) e gets

  ends_refused : answer ≡ CoreAnswer.Refused → o ≡ None
  ends_refused e = (subst (λ a. EndsSo (Gets m) tries timed a o) e gets).1

  ends_given_up : answer ≢ CoreAnswer.Owned → o ≡ None
  ends_given_up ne = by answer ne gets
    where
      by : (a : CoreAnswer) → a ≢ CoreAnswer.Owned → EndsSo (Gets m) tries timed a o → o ≡ None
      by CoreAnswer.Owned ne k = absurd (ne refl)
      by CoreAnswer.Refused ne k = k.1
      by CoreAnswer.Released ne k = k.1

  ends_patient : tries ≡ false → timed ≡ false → answer ≡ CoreAnswer.Owned
  ends_patient no_try no_deadline = by answer gets
    where
      by : (a : CoreAnswer) → EndsSo (Gets m) tries timed a o → a ≡ CoreAnswer.Owned
      by CoreAnswer.Owned k = refl
      by CoreAnswer.Refused k = absurd (false≢true (sym (ap (λ b. b || timed) no_try ∙ no_deadline) ∙ k.0))
      by CoreAnswer.Released k = absurd (false≢true (sym no_deadline ∙ k.0))

  ends_settled : timed ≡ false → (answer ≡ CoreAnswer.Owned) ⊎ (answer ≡ CoreAnswer.Refused)
  ends_settled no_deadline = by answer gets
    where
      by : (a : CoreAnswer) → EndsSo (Gets m) tries timed a o
          → (a ≡ CoreAnswer.Owned) ⊎ (a ≡ CoreAnswer.Refused)
      by CoreAnswer.Owned k = inl refl
      by CoreAnswer.Refused k = inr refl
      by CoreAnswer.Released k = absurd (false≢true (sym no_deadline ∙ k.0))

module _ (laws : StepsAreCases) (old : Shown) (fit : LocksFit old) (t : ℕ) (rows : Rows) (answer : CoreAnswer)
    (x : IsStepped t false (Some answer) (state old.rows) (state rows)) where
  abbrev s : State
  s = state old.rows

  abbrev u : State
  u = state rows

  abbrev c : Call
  c = x.call

  abbrev new : Shown
  new = record { rows = rows; desks = old.desks }

  fits : FitsTogether u
  fits = stepped_fits s u t false (Some answer) x

  plain : IsPlain u
  plain = stepped_plain s u t false (Some answer) fit.fits fit.plain x

  holds : (v j : ℕ) → held_at u j v ≡ held_at s j v
  holds v j = elim (cases_eq j c.lock) [
    | inl e ↦ ap (λ n. held_at u n v) e ∙ answer_leaves_holds laws s u t false answer fit.fits fit.plain x v
        ∙ ap (λ n. held_at s n v) (sym e)
    | inr ne ↦ elsewhere laws s u t false (Some answer) fit.fits fit.plain.kinds plain.kinds fit.plain.alone
        fit.plain.cores x j v ne
  ]

  gone : call_at u t ≡ None
  gone = ap (λ (w : State). call_at w t) (is_answer s u t false c answer (core_act c.core) x.answers x.became)
      ∙ set_low s.calls t None (slice_get_within s.calls t (Some c) (slot s.calls t c x.here))

  how : EndsSo (aim_of c.asked) (is_try c.asked) (is_timed c.asked) answer (held_at u c.lock t)
  how = subst (EndsSo (aim_of c.asked) (is_try c.asked) (is_timed c.asked) answer) (sym (holds t c.lock))
      (call_ends s t c answer fit.fits fit.plain x.here x.answers)

  pub ended_fit : LocksFit new
  ended_fit = same_holds old fit rows fits plain (stepped_kinds s u t false (Some answer) fit.fits fit.plain x)
      (stepped_goes s u t false (Some answer) x).count holds

  pub ends : LockEnds t answer old new
  ends = record {
    stand = stand_of c;
    stood = ap (option_map stand_of) x.here;
    over = ap (option_and_then (λ (y : Call). end_of (core_act y.core))) x.here ∙ sym x.answers;
    steps = acted x;
    whole = record {
      threads = (stepped_goes s u t false (Some answer) x).count;
      kinds = stepped_kinds s u t false (Some answer) fit.fits fit.plain x;
    };
    desks = refl;
    gone = ap (option_map stand_of) gone;
    others = λ v ne. others_stand s u t false (Some answer) x v ne;
    holds = holds;
    owned = λ m e. ends_owned (aim_of c.asked) (is_try c.asked) (is_timed c.asked) answer (held_at u c.lock t) how m e;
    patient = λ m e. ends_patient (aim_of c.asked) (is_try c.asked) (is_timed c.asked) answer (held_at u c.lock t) how m
        e;
    settled = λ m e. ends_settled (aim_of c.asked) (is_try c.asked) (is_timed c.asked) answer (held_at u c.lock t) how m
        e;
    refused = λ m e. ends_refused (aim_of c.asked) (is_try c.asked) (is_timed c.asked) answer (held_at u c.lock t) how m
        e;
    gave_up = λ m e. ends_given_up (aim_of c.asked) (is_try c.asked) (is_timed c.asked) answer (held_at u c.lock t) how
        m e;
    freed = λ m e. subst (λ a. EndsSo a (is_try c.asked) (is_timed c.asked) answer (held_at u c.lock t)) e how;
    turned = λ e. subst (λ a. EndsSo a (is_try c.asked) (is_timed c.asked) answer (held_at u c.lock t)) e how;
    together = λ i. ended_fit.together i;
  }

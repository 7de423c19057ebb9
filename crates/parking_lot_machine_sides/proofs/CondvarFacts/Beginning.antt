-- A machine where nobody is in a call, and one where a call begins.
use Rattle.std.proofs.Common.{◌≡◌, ◌≢◌, ℕ, zero, suc, ◌+◌, ◌-◌, ◌^◌, ◌<◌, ◌≤◌, inl, inr, ◌&&◌, Bool, true, false}
use Rattle.std.proofs.Common.{nat_lt, List, [], ◌∷◌, length, map, replicate, Option, Some, None, is_none, slice_get}
use Rattle.std.proofs.Common.{slice_set, refl, sym, ap, ◌∙◌, subst, arith}
use Rattle.std.proofs.lemmas.Bool.{cases_eq, ltb-true}
use Rattle.std.proofs.lemmas.List.{length-set}
use Rattle.std.proofs.lemmas.Option.{none-some, same_Some, slice_get-map, slice_get_within}
use Rattle.std.specs.List.{sum_by}
use Rattle.std.specs.Option.{option_and_then, option_map}
use Rattle.parking_lot_rules.specs.Variable as rules
use Rattle.parking_lot_rules.specs.Variable.{IsSound, Phase, Variable, quiet}
use Rattle.parking_lot_rules.proofs.Casing.{set-same}
use Rattle.parking_lot_rules.proofs.Indexed.{sum_by-set_at}
use Rattle.parking_lot_rules.proofs.Variables.{quiet_sound}
use Rattle.parking_lot_machine_sides.specs.declared.condvar.calls.CondvarCall.{CondvarCall}
use Rattle.parking_lot_machine_sides.specs.declared.condvar.calls.CondvarCall.TheVariants.{Wait, WaitUntil, NotifyOne}
use Rattle.parking_lot_machine_sides.specs.declared.condvar.calls.CondvarCall.TheVariants.{NotifyAll}
use Rattle.parking_lot_machine_sides.specs.Condvar.Calls.{OpenCall, call_for}
use Rattle.parking_lot_machine_sides.specs.Condvar.Fitting.{Fits, Knows, Sits, is_the}
use Rattle.parking_lot_machine_sides.specs.Condvar.Machines.{State, at_rest, call_at, has_number, may_begin, phase_in}
use Rattle.parking_lot_machine_sides.specs.Condvar.Machines.{phase_of, variable}
use Rattle.parking_lot_machine_sides.specs.Condvar.Ranks.{core_steps, cost, left, steps_in}
use Rattle.parking_lot_machine_sides.specs.Condvar.Steps.{IsBegun, begun}
use Rattle.parking_lot_machine_sides.specs.Condvar.Turns.{is_inside}
use Rattle.parking_lot_machine_sides.proofs.CondvarFacts.Acting.{it_is, same_variable, who_is}
use Rattle.parking_lot_machine_sides.proofs.CondvarFacts.Slots.{call_elsewhere, call_here, has_slot, map_set}
use Rattle.parking_lot_machine_sides.proofs.CondvarFacts.Stepping.{first_of, second_of}

-- NOBODY IS IN A CALL

abbrev no_call : Option OpenCall
no_call = None

same_rest : (threads : ℕ) → map phase_in (replicate threads None) ≡ replicate threads rules.Idle
same_rest zero = refl
same_rest (suc n) = ap (λ ps. rules.Idle ∷ ps) (same_rest n)

none_there : (threads t : ℕ) → option_and_then (λ c. c) (slice_get (replicate threads no_call) t) ≡ None
none_there zero t = refl
none_there (suc n) zero = refl
none_there (suc n) (suc t) = none_there n t

pub length_rest : (threads : ℕ) → length (replicate threads no_call) ≡ threads
length_rest zero = refl
length_rest (suc n) = ap suc (length_rest n)

pub rest_fits : (threads : ℕ) → threads ≤ 65536 → Fits (at_rest threads)
rest_fits threads few = record {
  sound = subst IsSound
      (sym (same_variable 0 0 (map phase_in (replicate threads None)) (replicate threads rules.Idle) [] [] refl
      (same_rest threads) refl)) (quiet_sound threads);
  seated = λ t c at. absurd (none-some c (sym (none_there threads t) ∙ at));
  inside = λ t at. absurd (none-some t at);
  small = omega (arith, few, length_rest threads);
}

-- A CALL BEGINS

free : (calls : List (Option OpenCall)) (t : ℕ) → t < length calls → option_and_then (λ c. c) (slice_get calls t) ≡ None
    → slice_get calls t ≡ Some None
free calls t low none = go (has_slot calls t low).0 (has_slot calls t low).1
  where
    go : (o : Option OpenCall) → slice_get calls t ≡ Some o → slice_get calls t ≡ Some None
    go None e = e
    go (Some c) e = absurd (none-some c (sym none ∙ ap (option_and_then (λ y. y)) e))

gone : (o : Option OpenCall) → is_none o ≡ true → o ≡ None
gone None h = refl
gone (Some c) h = absurd cc

idle_at_first : (call : CondvarCall) → phase_of (call_for call) ≡ rules.Idle
idle_at_first (Wait mutex) = refl
idle_at_first (WaitUntil mutex) = refl
idle_at_first NotifyOne = refl
idle_at_first NotifyAll = refl

out_at_first : (call : CondvarCall) → is_inside (call_for call) ≡ false
out_at_first (Wait mutex) = refl
out_at_first (WaitUntil mutex) = refl
out_at_first NotifyOne = refl
out_at_first NotifyAll = refl

below : (mutex : ℕ) → nat_lt mutex (2 ^ 64 - 1) ≡ true → mutex + 1 < 2 ^ 64
below mutex h = omega (arith, ltb-true mutex (2 ^ 64 - 1) h)

knows_at_first : (call : CondvarCall) (threads word : ℕ) (beside : Option ℕ) (waiting : ℕ) → has_number call ≡ true
    → Knows call true threads word beside waiting 0 (call_for call).core
knows_at_first (Wait mutex) threads word beside waiting h = (tt, (refl, below mutex h))
knows_at_first (WaitUntil mutex) threads word beside waiting h = (tt, (refl, below mutex h))
knows_at_first NotifyOne threads word beside waiting h = (tt, (refl, refl))
knows_at_first NotifyAll threads word beside waiting h = (tt, (refl, refl))

costs_alike : (call : CondvarCall) (threads queue : ℕ) → core_steps threads queue (call_for call).core ≡ cost threads
    call
costs_alike (Wait mutex) threads queue = refl
costs_alike (WaitUntil mutex) threads queue = refl
costs_alike NotifyOne threads queue = refl
costs_alike NotifyAll threads queue = refl

module _ (s : State) (t : ℕ) (call : CondvarCall) (fits : Fits s) (may : may_begin s t call ≡ true) where
  low : t < length s.calls
  low = ltb-true t (length s.calls)
      (first_of (nat_lt t (length s.calls)) (is_none (call_at s t) && has_number call) may)

  rest : (is_none (call_at s t) && has_number call) ≡ true
  rest = second_of (nat_lt t (length s.calls)) (is_none (call_at s t) && has_number call) may

  none : call_at s t ≡ None
  none = gone (call_at s t) (first_of (is_none (call_at s t)) (has_number call) rest)

  empty : slice_get s.calls t ≡ Some None
  empty = free s.calls t low none

  abbrev u : State
  u = begun s t call

  abbrev c : OpenCall
  c = call_for call

  stays : variable u ≡ variable s
  stays = same_variable s.word s.word (variable u).phases (variable s).phases s.queue s.queue refl
      (map_set phase_in s.calls t (Some c) ∙ ap (slice_set (variable s).phases t) (idle_at_first call)
      ∙ set-same (variable s).phases t rules.Idle (slice_get-map phase_in s.calls t ∙ ap (option_map phase_in) empty))
      refl

  costs : left u ≡ left s + cost (length s.calls) call
  costs =
      let f = steps_in (length s.calls) (length s.queue) in
      let now : left u ≡ sum_by f (slice_set s.calls t (Some c)) =
      ap (λ k. sum_by (steps_in k (length s.queue)) (slice_set s.calls t (Some c))) (length-set s.calls t (Some c))
      in
      omega (
        arith,
        now,
        sum_by-set_at f s.calls t None (Some c) empty,
        costs_alike call (length s.calls) (length s.queue),
      )

  pub begins_so : IsBegun t call s u
  begins_so = record { became = refl; stays = stays; costs = costs }

  -- it isn't in the section
  not_in : (b : Bool) → is_the s.inside t ≡ b → is_the s.inside t ≡ false
  not_in false e = e
  not_in true e = let d = fits.inside t (who_is s.inside t e) in absurd (none-some d.0 (sym none ∙ d.1))

  sits_at_first : Sits u t c
  sits_at_first = record {
    knows = knows_at_first call (length u.calls) s.word s.beside (length s.queue)
        (second_of (is_none (call_at s t)) (has_number call) rest);
    section = out_at_first call ∙ sym (not_in (is_the s.inside t) refl);
  }

  pub begins_fits : Fits u
  begins_fits = record {
    sound = subst IsSound (sym stays) fits.sound;
    seated = λ x d at. elim (cases_eq x t) [
      | inl e ↦ subst (λ y. Sits u y d) (sym e)
          (subst (Sits u t) (same_Some c d (sym (call_here s.calls t (Some c) low) ∙ ap (call_at u) (sym e) ∙ at))
          sits_at_first)
      | inr ne ↦ let sits = fits.seated x d (sym (call_elsewhere s.calls t x (Some c) ne) ∙ at) in
          record {
            knows = subst (λ m. Knows d.call d.listed m s.word s.beside (length s.queue) d.taken d.core)
                (sym (length-set s.calls t (Some c))) sits.knows;
            section = sits.section;
          }
    ];
    inside = λ x at. elim (cases_eq x t) [
      | inl e ↦ (c, ap (call_at u) e ∙ call_here s.calls t (Some c) low)
      | inr ne ↦ let d = fits.inside x at in (d.0, call_elsewhere s.calls t x (Some c) ne ∙ d.1)
    ];
    small = subst (λ m. m ≤ 65536) (sym (length-set s.calls t (Some c))) fits.small;
  }

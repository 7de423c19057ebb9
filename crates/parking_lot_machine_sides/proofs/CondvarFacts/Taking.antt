-- A notification takes the first that waits: the rules' step, and what holds of the machine is kept.
use Rattle.std.proofs.Common.{◌≡◌, ◌≢◌, ℕ, zero, suc, ◌+◌, ◌<◌, ◌≤◌, ◌==◌, ◌&&◌, inl, inr, Bool, true, false, List, []}
use Rattle.std.proofs.Common.{◌∷◌, length, map, Option, Some, None, nat_lt, remove, slice_get, slice_set, refl, sym, ap}
use Rattle.std.proofs.Common.{◌∙◌, subst, arith, eqb-true}
use Rattle.std.proofs.lemmas.Bool.{cases_eq, ltb-true}
use Rattle.std.proofs.lemmas.List.{length-set}
use Rattle.std.proofs.lemmas.List.Edits.{length-remove}
use Rattle.std.proofs.lemmas.Option.{none-some, same_Some, slice_get_within}
use Rattle.std.specs.Option.{option_and_then, option_map}
use Rattle.parking_lot_rules.specs.Roles.{Stay, Fresh, Asleep, Late, Back}
use Rattle.parking_lot_rules.specs.Classes.{inside}
use Rattle.parking_lot_rules.specs.Variable as rules
use Rattle.parking_lot_rules.specs.Variable.{Phase, Step, Waiting, weight}
use Rattle.parking_lot_rules.proofs.Casing.{set-same}
use Rattle.parking_lot_rules.proofs.Indexed.{get-set_other}
use Rattle.parking_lot_rules.proofs.Waiting.{listed}
use Rattle.parking_lot_protocol_waits.specs.WaitRules as waits
use Rattle.parking_lot_protocol_waits.specs.NotifyRules as notifies
use Rattle.parking_lot_protocol_waits.specs.declared.wait_core.WaitPhase.{WaitPhase}
use Rattle.parking_lot_protocol_waits.specs.declared.wait_core.WaitPhase.TheVariants as w
use Rattle.parking_lot_protocol_waits.specs.declared.notify_core.NotifyPhase.{NotifyPhase}
use Rattle.parking_lot_protocol_waits.specs.declared.notify_core.NotifyPhase.TheVariants as n
use Rattle.parking_lot_machine_sides.specs.declared.condvar.calls.CondvarCall.{CondvarCall}
use Rattle.parking_lot_machine_sides.specs.declared.condvar.open_call.Core.{Core}
use Rattle.parking_lot_machine_sides.specs.declared.condvar.open_call.Core.TheVariants as core
use Rattle.parking_lot_machine_sides.specs.Condvar.Calls.{OpenCall, is_of_all, is_timed, off_list, took_one}
use Rattle.parking_lot_machine_sides.specs.Condvar.Fitting.{Fits, Knows, IsWait, NotifyKnows, Sits, TakesFew, WaitKnows}
use Rattle.parking_lot_machine_sides.specs.Condvar.Fitting.{is_the}
use Rattle.parking_lot_machine_sides.specs.Condvar.Machines.{State, call_at, call_in, is_left, may_take, phase_by}
use Rattle.parking_lot_machine_sides.specs.Condvar.Machines.{phase_in, phase_of, spot_of, variable}
use Rattle.parking_lot_machine_sides.specs.Condvar.Steps.{Runs, taken_by}
use Rattle.parking_lot_machine_sides.specs.Condvar.Turns.{is_inside, is_inside_by, wait_is_inside}
use Rattle.parking_lot_machine_sides.proofs.CondvarFacts.Acting.{it_is, knows_still, not_another, same_variable, who_is}
use Rattle.parking_lot_machine_sides.proofs.CondvarFacts.NotifyActs.{notifying}
use Rattle.parking_lot_machine_sides.proofs.CondvarFacts.Phases.{phase_there, runs_sound}
use Rattle.parking_lot_machine_sides.proofs.CondvarFacts.Slots.{call_elsewhere, call_here, map_set, mapped, slot}
use Rattle.parking_lot_machine_sides.proofs.CondvarFacts.Slots.{within}

-- THE WAITER

-- one that waits, outside the section: what it does there, and that it is nothing there once it is off the list
pub record IsWaiter (listed : Bool) (k : Core) : Type 0 where
  pub mutex : ℕ
  pub stay : Stay
  pub is : phase_by listed k ≡ rules.Queued mutex stay
  pub out : inside stay ≡ 0
  pub gone : phase_by false k ≡ rules.Idle
  pub away : is_inside_by false k ≡ false
  pub still : (call : CondvarCall) (threads word : ℕ) (beside : Option ℕ) (waiting taken : ℕ)
      → Knows call listed threads word beside waiting taken k → Knows call false threads word beside waiting taken k

wait_waits : (listed : Bool) (p : WaitPhase) → 0 < weight Waiting (waits.does (spot_of listed) p)
    → wait_is_inside listed p ≡ false → IsWaiter listed (core.Wait (record { phase = p }))
unfolding weight
wait_waits true (w.Unlocks k) h out =
    record { mutex = k; stay = Asleep; is = refl; out = refl; gone = refl; away = refl; still = λ call a b o c d x. x }
wait_waits true (w.Sleeps k) h out =
    record { mutex = k; stay = Asleep; is = refl; out = refl; gone = refl; away = refl; still = λ call a b o c d x. x }
wait_waits true (w.Expires k) h out =
    record { mutex = k; stay = Late; is = refl; out = refl; gone = refl; away = refl; still = λ call a b o c d x. x }
wait_waits true (w.Quits k) h out = absurd cc
wait_waits false (w.Unlocks k) h out = absurd (omega (arith, h))
wait_waits false (w.Sleeps k) h out = absurd (omega (arith, h))
wait_waits false (w.Expires k) h out = absurd (omega (arith, h))
wait_waits false (w.Quits k) h out = absurd (omega (arith, h))
wait_waits listed (w.Shows k) h out = absurd cc
wait_waits listed (w.Rests k) h out = absurd cc
wait_waits listed (w.Leaves true) h out = absurd (omega (arith, h))
wait_waits listed (w.Leaves false) h out = absurd (omega (arith, h))
wait_waits listed p h out = absurd (omega (arith, h))

none_notified : (p : NotifyPhase) → weight Waiting (notifies.does p) ≡ 0
unfolding weight
none_notified (n.Checks all word) = refl
none_notified (n.Marks all) = refl
none_notified (n.Moves all locked) = refl
none_notified (n.MarksRest notice) = refl
none_notified (n.Forgets notice) = refl
none_notified (n.Leaves notice) = refl
none_notified p = refl

waiter : (listed : Bool) (k : Core) → 0 < weight Waiting (phase_by listed k) → is_inside_by listed k ≡ false
    → IsWaiter listed k
waiter listed (core.Wait k) h out = wait_waits listed k.phase h out
waiter listed (core.Notify k) h out = absurd (omega (arith, h, none_notified k.phase))

idle_waits : weight Waiting rules.Idle ≡ 0
unfolding weight
idle_waits = refl

-- THE STEP

module _ (s : State) (t : ℕ) (call : CondvarCall) (its_list : Bool) (taken : ℕ) (all locked : Bool) (fits : Fits s)
    (here : call_at s t ≡ Some (notifying call its_list taken (n.Moves all locked)))
    (few : TakesFew (is_of_all call) (taken + 1)) (v : ℕ) (first : slice_get s.queue 0 ≡ Some v) where
  abbrev pub c : OpenCall
  c = notifying call its_list taken (n.Moves all locked)

  abbrev pub d : OpenCall
  d = took_one c

  abbrev pub u : State
  u = taken_by s t c v

  known : (all ≡ is_of_all call) × (taken + length s.queue ≤ length s.calls) × TakesFew (is_of_all call) taken
  known = (fits.seated t c here).knows.1

  its : true ≡ is_the s.inside t
  its = (fits.seated t c here).section

  -- the first waits, and is another
  pub found : (p : Phase) × (slice_get (variable s).phases v ≡ Some p) × (0 < weight Waiting p)
  found = listed (weight Waiting) s.queue (variable s).phases fits.sound.waiting 0 v first

  there : (o : Option OpenCall) × (slice_get s.calls v ≡ Some o) × (phase_in o ≡ found.0)
  there = mapped phase_in s.calls v found.0 found.1

  in_call : (o : Option OpenCall) → there.0 ≡ o → (b : OpenCall) × (call_at s v ≡ Some b) × (phase_of b ≡ found.0)
  in_call None e = absurd (omega (arith, found.2, ap (weight Waiting) (sym there.2 ∙ ap phase_in e), idle_waits))
  in_call (Some b) e = (b, ap (option_and_then (λ x. x)) (there.1 ∙ ap Some e), sym (ap phase_in e) ∙ there.2)

  pub its_waiter : (b : OpenCall) × (call_at s v ≡ Some b) × (phase_of b ≡ found.0)
  its_waiter = in_call there.0 refl

  abbrev pub b : OpenCall
  b = its_waiter.0

  pub apart : v ≢ t
  apart e = omega (
    arith,
    found.2,
    ap (weight Waiting)
        (same_Some found.0 (phase_of c) (sym found.1 ∙ ap (slice_get (variable s).phases) e ∙ phase_there s t c here)),
    none_notified (n.Moves all locked),
  )

  outside : is_inside b ≡ false
  outside = (fits.seated v b its_waiter.1).section ∙ not_another s.inside t v apart (sym its)

  pub is_waiter : IsWaiter b.listed b.core
  is_waiter = waiter b.listed b.core (subst (λ p. 0 < weight Waiting p) (sym its_waiter.2) found.2) outside

  abbrev pub e : OpenCall
  e = off_list b

  pub calls_are : u.calls ≡ slice_set (slice_set s.calls v (Some e)) t (Some d)
  calls_are = ap (λ o. slice_set (slice_set s.calls v o) t (Some d)) (ap (option_map off_list) its_waiter.1)

  low : t < length s.calls
  low = within s.calls t c here

  high : v < length s.calls
  high = within s.calls v b its_waiter.1

  pub threads : length u.calls ≡ length s.calls
  threads = ap (λ (cs : List (Option OpenCall)). length cs) calls_are ∙ length-set (slice_set s.calls v (Some e)) t
      (Some d) ∙ length-set s.calls v (Some e)

  pub one_less : length u.queue + 1 ≡ length s.queue
  one_less = omega (arith, length-remove s.queue 0, slice_get_within s.queue 0 v first)

  first_call : call_at u t ≡ Some d
  first_call = ap (λ (cs : List (Option OpenCall)). call_in cs t) calls_are ∙ call_here (slice_set s.calls v (Some e)) t
      (Some d) (omega (arith, low, length-set s.calls v (Some e)))

  second_call : call_at u v ≡ Some e
  second_call = ap (λ (cs : List (Option OpenCall)). call_in cs v) calls_are
      ∙ call_elsewhere (slice_set s.calls v (Some e)) t v (Some d) apart ∙ call_here s.calls v (Some e) high

  others : (x : ℕ) → x ≢ t → x ≢ v → call_at u x ≡ call_at s x
  others x nt nv = ap (λ (cs : List (Option OpenCall)). call_in cs x) calls_are
      ∙ call_elsewhere (slice_set s.calls v (Some e)) t x (Some d) nt ∙ call_elsewhere s.calls v x (Some e) nv

  phases_are : (variable u).phases ≡ slice_set (variable s).phases v rules.Idle
  phases_are =
      ap (map phase_in) calls_are
      ∙ map_set phase_in (slice_set s.calls v (Some e)) t (Some d)
      ∙ ap (λ (ps : List Phase). slice_set ps t rules.Notifies)
      (map_set phase_in s.calls v (Some e) ∙ ap (slice_set (variable s).phases v) is_waiter.gone)
      ∙ set-same (slice_set (variable s).phases v rules.Idle) t rules.Notifies
      (get-set_other (variable s).phases v t rules.Idle apart ∙ phase_there s t c here)

  pub takes_lawful : Runs t (rules.Release v is_waiter.mutex is_waiter.stay ∷ []) (variable s) (variable u)
  takes_lawful = (
    (phase_there s t c here, first, phase_there s v b its_waiter.1 ∙ ap Some is_waiter.is, is_waiter.out),
    same_variable s.word s.word (variable u).phases (slice_set (variable s).phases v rules.Idle) (remove s.queue 0)
        (remove s.queue 0) refl phases_are refl,
  )

  sits_still : (x : ℕ) (f : OpenCall) → x ≢ t → (g : OpenCall)
      → (Knows f.call f.listed (length s.calls) s.word s.beside (length s.queue) f.taken f.core
      → Knows g.call g.listed (length s.calls) s.word s.beside (length s.queue) g.taken g.core)
      → is_inside g ≡ false → is_inside f ≡ false → Sits s x f → Sits u x g
  sits_still x f ne g know out was sits = record {
    knows = subst (λ m. Knows g.call g.listed m s.word s.beside (length u.queue) g.taken g.core) (sym threads)
        (knows_still g.call g.listed (length s.calls) s.word s.word s.beside s.beside (length s.queue) (length u.queue)
        g.taken g.core out (know sits.knows));
    section = out ∙ sym was ∙ sits.section;
  }

  its_sits : Sits u t d
  its_sits = record {
    knows = ((fits.seated t c here).knows.0, (known.0, omega (arith, known.1, one_less, threads), few));
    section = its;
  }

  pub takes_fits : Fits u
  takes_fits = record {
    sound = runs_sound t (rules.Release v is_waiter.mutex is_waiter.stay ∷ []) (variable s) (variable u) fits.sound
        takes_lawful;
    seated = λ x f at. elim (cases_eq x t) [
      | inl eq ↦ subst (λ y. Sits u y f) (sym eq)
          (subst (Sits u t) (same_Some d f (sym first_call ∙ ap (call_at u) (sym eq) ∙ at)) its_sits)
      | inr nt ↦ elim (cases_eq x v) [
        | inl eq ↦ subst (λ y. Sits u y f) (sym eq)
            (subst (Sits u v) (same_Some e f (sym second_call ∙ ap (call_at u) (sym eq) ∙ at))
            (sits_still v b apart e (is_waiter.still b.call (length s.calls) s.word s.beside (length s.queue) b.taken)
            is_waiter.away outside (fits.seated v b its_waiter.1)))
        | inr nv ↦ let sits = fits.seated x f (sym (others x nt nv) ∙ at) in
            let out = sits.section ∙ not_another s.inside t x nt (sym its) in sits_still x f nt f (λ h. h) out out sits
      ]
    ];
    inside = λ x at. elim (cases_eq x t) [
      | inl eq ↦ (d, ap (call_at u) eq ∙ first_call)
      | inr nt ↦ absurd (nt (same_Some x t (sym at ∙ who_is s.inside t (sym its))))
    ];
    small = subst (λ m. m ≤ 65536) (sym threads) fits.small;
  }

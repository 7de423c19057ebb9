-- What the machine's calls do, as its contracts say.
use Rattle.std.proofs.Common.{◌≡◌, ◌≢◌, ℕ, ◌+◌, ◌^◌, ◌<◌, ◌≤◌, ◌⊎◌, inl, inr, ◌==◌, ◌&&◌, Bool, true, false, List, []}
use Rattle.std.proofs.Common.{◌∷◌, length, Option, Some, None, slice_get, slice_set, refl, sym, ap, ◌∙◌, subst, arith}
use Rattle.std.proofs.Common.{eqb-true}
use Rattle.std.proofs.lemmas.List.{length-set}
use Rattle.std.proofs.lemmas.Option.{slice_get_within}
use Rattle.std.specs.List.{sum_by}
use Rattle.parking_lot_rules.specs.Variable.{Waiting, weight}
use Rattle.parking_lot_rules.proofs.Waiting.{listed}
use Rattle.parking_lot_rules.proofs.Indexed.{get-set_other, sum_by-set_at}
use Rattle.parking_lot_protocol_waits.specs.declared.wait_core.WaitCore.{WaitCore}
use Rattle.parking_lot_protocol_waits.specs.declared.wait_core.WaitPhase.{WaitPhase}
use Rattle.parking_lot_protocol_waits.specs.declared.wait_core.WaitPhase.TheVariants as w
use Rattle.parking_lot_protocol_waits.specs.declared.notify_core.NotifyPhase.{NotifyPhase}
use Rattle.parking_lot_protocol_waits.specs.declared.notify_core.NotifyPhase.TheVariants as n
use Rattle.parking_lot_machine_sides.specs.declared.condvar.calls.CondvarCall.{CondvarCall}
use Rattle.parking_lot_machine_sides.specs.declared.condvar.open_call.Core.{Core}
use Rattle.parking_lot_machine_sides.specs.declared.condvar.open_call.Core.TheVariants as core
use Rattle.parking_lot_machine_sides.specs.declared.condvar.outside.Outside.{Outside}
use Rattle.parking_lot_machine_sides.specs.Condvar.Calls.{OpenCall, is_of_all, is_timed, off_list, reply_of, took_one}
use Rattle.parking_lot_machine_sides.specs.Condvar.Fitting.{Fits, TakesFew, is_the}
use Rattle.parking_lot_machine_sides.specs.Condvar.Machines.{State, call_at, is_left, may_step, may_take, phase_in}
use Rattle.parking_lot_machine_sides.specs.Condvar.Machines.{variable}
use Rattle.parking_lot_machine_sides.specs.Condvar.OwnSteps.{notify_goes, notify_sees, queue_after_wait, steps_of}
use Rattle.parking_lot_machine_sides.specs.Condvar.OwnSteps.{stepped, wait_goes, wait_sees}
use Rattle.parking_lot_machine_sides.specs.Condvar.Outsides.{heard, may_hear, notify_hears, tells, told, wait_hears}
use Rattle.parking_lot_machine_sides.specs.Condvar.Ranks.{Pays, core_steps, left, notify_steps, steps_in, wait_steps}
use Rattle.parking_lot_machine_sides.specs.Condvar.Steps.{IsStepped, IsTaken, IsTold, taken_by}
use Rattle.parking_lot_machine_sides.specs.Condvar.Turns.{notify_is_own, takes_by, wait_is_inside, wait_is_own}
use Rattle.parking_lot_machine_sides.proofs.CondvarFacts.NotifyActs.{notifying, notify_acts}
use Rattle.parking_lot_machine_sides.proofs.CondvarFacts.Paying.{notify_falls, notify_hears_less, others_same, pays_one}
use Rattle.parking_lot_machine_sides.proofs.CondvarFacts.Paying.{split, wait_falls, wait_hears_less}
use Rattle.parking_lot_machine_sides.proofs.CondvarFacts.Phases.{few_wait}
use Rattle.parking_lot_machine_sides.proofs.CondvarFacts.Slots.{length_map, slot}
use Rattle.parking_lot_machine_sides.proofs.CondvarFacts.Taking as taking
use Rattle.parking_lot_machine_sides.proofs.CondvarFacts.Telling.{notify_told, wait_told}
use Rattle.parking_lot_machine_sides.proofs.CondvarFacts.WaitActs.{Made, waiting, wait_acts}

pub first_of : (a b : Bool) → (a && b) ≡ true → a ≡ true
first_of true b h = refl
first_of false b h = absurd cc

pub second_of : (a b : Bool) → (a && b) ≡ true → b ≡ true
second_of true b h = h
second_of false b h = absurd cc

-- ITS OWN ACTS

wait_less : (m a : ℕ) (call : CondvarCall) (listed : Bool) (taken : ℕ) (p : WaitPhase) (word : ℕ) (some : Bool)
    → wait_is_own listed p ≡ true
    → steps_in m a (wait_goes (waiting call listed taken p) (record { phase = p }) (wait_sees word some p) p) + 1 ≤
    wait_steps p
wait_less m a call listed taken (w.Ends answer) word some own = omega arith
wait_less m a call listed taken (w.Quits k) word some own = wait_falls listed (w.Quits k) word some own
wait_less m a call listed taken (w.Enters k) word some own = wait_falls listed (w.Enters k) word some own
wait_less m a call listed taken (w.Checks k) word some own = wait_falls listed (w.Checks k) word some own
wait_less m a call listed taken w.Retreats word some own = wait_falls listed w.Retreats word some own
wait_less m a call listed taken (w.Appends k) word some own = wait_falls listed (w.Appends k) word some own
wait_less m a call listed taken (w.Shows k) word some own = wait_falls listed (w.Shows k) word some own
wait_less m a call listed taken (w.Rests k) word some own = wait_falls listed (w.Rests k) word some own
wait_less m a call listed taken (w.Expires k) word some own = wait_falls listed (w.Expires k) word some own
wait_less m a call listed taken w.Forgets word some own = wait_falls listed w.Forgets word some own
wait_less m a call listed taken (w.Leaves here) word some own = wait_falls listed (w.Leaves here) word some own
wait_less m a call listed taken p word some own = absurd cc

notify_less : (m a : ℕ) (call : CondvarCall) (listed : Bool) (taken : ℕ) (p : NotifyPhase) (word : ℕ)
    → notify_is_own p ≡ true
    → steps_in m a (notify_goes (notifying call listed taken p) (record { phase = p }) (notify_sees word p) p) + 1 ≤
    notify_steps m a p
notify_less m a call listed taken (n.Ends count) word own = omega arith
notify_less m a call listed taken (n.Loads all) word own = notify_falls m a (n.Loads all) word own
notify_less m a call listed taken (n.Enters all found) word own = notify_falls m a (n.Enters all found) word own
notify_less m a call listed taken (n.Checks all found) word own = notify_falls m a (n.Checks all found) word own
notify_less m a call listed taken (n.Forgets notice) word own = notify_falls m a (n.Forgets notice) word own
notify_less m a call listed taken (n.Leaves notice) word own = notify_falls m a (n.Leaves notice) word own
notify_less m a call listed taken p word own = absurd cc

-- only one in the section changes the list
list_quiet : (t : ℕ) (listed : Bool) (p : WaitPhase) (queue : List ℕ) → wait_is_own listed p ≡ true
    → (length (queue_after_wait t p queue) ≡ length queue) ⊎ (wait_is_inside listed p ≡ true)
list_quiet t listed (w.Appends k) queue own = inr refl
list_quiet t true (w.Quits k) queue own = inr refl
list_quiet t false (w.Quits k) queue own = absurd cc
list_quiet t listed (w.Enters k) queue own = inl refl
list_quiet t listed (w.Checks k) queue own = inl refl
list_quiet t listed w.Retreats queue own = inl refl
list_quiet t listed (w.Shows k) queue own = inl refl
list_quiet t listed (w.Rests k) queue own = inl refl
list_quiet t listed (w.Expires k) queue own = inl refl
list_quiet t listed w.Forgets queue own = inl refl
list_quiet t listed (w.Leaves here) queue own = inl refl
list_quiet t listed (w.Ends answer) queue own = inl refl
list_quiet t listed p queue own = absurd cc

module _ (s : State) (t : ℕ) (c : OpenCall) (fits : Fits s) where
  abbrev with_core : Core → OpenCall
  with_core k = record c { core = k }

  acts_by : (k : Core) → call_at s t ≡ Some (with_core k) → may_step s.inside (with_core k) ≡ true
      → Made t (steps_of s t (with_core k)) s (stepped s t (with_core k))
  acts_by (core.Wait k) here may = wait_acts s t c.call c.taken fits c.listed k.phase here may
  acts_by (core.Notify k) here may = notify_acts s t c.call c.listed c.taken fits k.phase here may

  pays_by : (k : Core) → call_at s t ≡ Some (with_core k) → may_step s.inside (with_core k) ≡ true
      → Pays s (stepped s t (with_core k))
  pays_by (core.Wait k) here may =
      let own = first_of (wait_is_own c.listed k.phase) _ may in
      let u = stepped s t (with_core (core.Wait k)) in
      let quiet : (length u.queue ≡ length s.queue) ⊎ (is_the s.inside t ≡ true) =
      elim (list_quiet t c.listed k.phase s.queue own) [
        | inl e ↦ inl e
        | inr e ↦ inr (sym (fits.seated t (with_core (core.Wait k)) here).section ∙ e)
      ] in
      pays_one s t (with_core (core.Wait k)) fits here u
      (wait_goes c k (wait_sees s.word (is_left (queue_after_wait t k.phase s.queue)) k.phase) k.phase) refl quiet
      (wait_less (length s.calls) (length u.queue) c.call c.listed c.taken k.phase s.word
      (is_left (queue_after_wait t k.phase s.queue)) own)
  pays_by (core.Notify k) here may =
      pays_one s t (with_core (core.Notify k)) fits here (stepped s t (with_core (core.Notify k)))
      (notify_goes c k (notify_sees s.word k.phase) k.phase) refl (inl refl)
      (notify_less (length s.calls) (length s.queue) c.call c.listed c.taken k.phase s.word
      (first_of (notify_is_own k.phase) _ may))

  told_by : (k : Core) (seen : Outside) → call_at s t ≡ Some (with_core k) → may_hear s.queue seen (with_core k) ≡ true
      → Made t (tells (with_core k) s.queue seen) s (heard s t (with_core k) seen)
  told_by (core.Wait k) seen here may = wait_told s t c.call c.taken fits c.listed k.phase seen here may
  told_by (core.Notify k) seen here may = notify_told s t c.call c.listed c.taken fits k.phase seen here may

  told_pays_by : (k : Core) (seen : Outside) → call_at s t ≡ Some (with_core k)
      → may_hear s.queue seen (with_core k) ≡ true → Pays s (heard s t (with_core k) seen)
  told_pays_by (core.Wait k) seen here may = pays_one s t (with_core (core.Wait k)) fits here
      (heard s t (with_core (core.Wait k)) seen) (Some (told (with_core (core.Wait k)) s.queue seen)) refl (inl refl)
      (wait_hears_less (is_timed c.call) c.listed k.phase seen may)
  told_pays_by (core.Notify k) seen here may = pays_one s t (with_core (core.Notify k)) fits here
      (heard s t (with_core (core.Notify k)) seen) (Some (told (with_core (core.Notify k)) s.queue seen)) refl
      (inl refl)
      (notify_hears_less (length s.calls) (length s.queue) c.taken (is_left s.queue) k.phase seen (few_wait s fits) may)

  module _ (here : call_at s t ≡ Some c) where
    pub step_made : may_step s.inside c ≡ true → Made t (steps_of s t c) s (stepped s t c)
    step_made may = acts_by c.core here may

    pub step_so : may_step s.inside c ≡ true → IsStepped t (reply_of c) s (stepped s t c)
    step_so may = record {
      call = c;
      here = here;
      replies = refl;
      became = refl;
      lawful = (step_made may).lawful;
      pays = pays_by c.core here may;
    }

    pub told_made : (seen : Outside) → may_hear s.queue seen c ≡ true
        → Made t (tells c s.queue seen) s (heard s t c seen)
    told_made seen may = told_by c.core seen here may

    pub told_so : (seen : Outside) → may_hear s.queue seen c ≡ true → IsTold t seen s (heard s t c seen)
    told_so seen may =
        record {
          call = c;
          here = here;
          became = refl;
          lawful = (told_made seen may).lawful;
          pays = told_pays_by c.core seen here may;
        }

  -- A NOTIFICATION TAKES ONE

  few_by : (all taken : _) (of_all : Bool) → all ≡ of_all → (locked : Bool)
      → takes_by (taken == 0) (core.Notify (record { phase = n.Moves all locked })) ≡ true → TakesFew of_all (taken + 1)
  few_by true taken true e locked may = tt
  few_by false taken false e locked may = omega (arith, eqb-true taken 0 may)
  few_by true taken false e locked may = absurd cc
  few_by false taken true e locked may = absurd cc

  module _ (all locked : Bool) (its_list : Bool) (call : CondvarCall) (taken : ℕ)
      (here : call_at s t ≡ Some (notifying call its_list taken (n.Moves all locked)))
      (may : takes_by (taken == 0) (core.Notify (record { phase = n.Moves all locked })) ≡ true) (v : ℕ)
      (first : slice_get s.queue 0 ≡ Some v) where
    abbrev pub d : OpenCall
    d = notifying call its_list taken (n.Moves all locked)

    few : TakesFew (is_of_all call) (taken + 1)
    few = few_by all taken (is_of_all call) (fits.seated t d here).knows.1.0 locked may

    abbrev u : State
    u = taken_by s t d v

    pub takes_fits : Fits u
    takes_fits = taking.takes_fits s t call its_list taken all locked fits here few v first

    abbrev b : OpenCall
    b = (taking.its_waiter s t call its_list taken all locked fits here few v first).0

    there : call_at s v ≡ Some b
    there = (taking.its_waiter s t call its_list taken all locked fits here few v first).1

    less : Pays s u
    less =
        let m = length s.calls in
        let f = steps_in m (length u.queue) in
        let ys = slice_set s.calls v (Some (off_list b)) in
        let apart = taking.apart s t call its_list taken all locked fits here few v first in
        let at : slice_get ys t ≡ Some (Some d) = get-set_other s.calls v t (Some (off_list b)) apart
        ∙ slot s.calls t d here in
        let calls : u.calls ≡ slice_set ys t (Some (took_one d)) = taking.calls_are s t call its_list taken all locked
        fits here few v first in
        let threads : length u.calls ≡ m = taking.threads s t call its_list taken all locked fits here few v first in
        let its : is_the s.inside t ≡ true = sym (fits.seated t d here).section in
        let now : left u ≡ sum_by f (slice_set ys t (Some (took_one d))) =
        ap (λ k. sum_by (steps_in k (length u.queue)) u.calls) threads
        ∙ ap (λ (cs : List (Option OpenCall)). sum_by f cs) calls in
        omega (
          arith,
          now,
          sum_by-set_at f ys t (Some d) (Some (took_one d)) at,
          sum_by-set_at f s.calls v (Some b) (Some (off_list b)) (slot s.calls v b there),
          sum_by-set_at f s.calls t (Some d) None (slot s.calls t d here),
          others_same s t d fits here (length u.queue) (inr its),
          split s t d fits here,
          taking.one_less s t call its_list taken all locked fits here few v first,
        )

    takes : IsTaken t v s u
    takes = record {
      call = d;
      here = here;
      first = first;
      became = refl;
      mutex = (taking.is_waiter s t call its_list taken all locked fits here few v first).mutex;
      stay = (taking.is_waiter s t call its_list taken all locked fits here few v first).stay;
      lawful = taking.takes_lawful s t call its_list taken all locked fits here few v first;
      pays = less;
    }

    pub taken_both : Fits u × IsTaken t v s u
    taken_both = (takes_fits, takes)

  takes_phase : (p : NotifyPhase) (call : CondvarCall) (listed : Bool) (taken : ℕ)
      → call_at s t ≡ Some (notifying call listed taken p) → takes_by (taken == 0) (core.Notify (record { phase = p }))
      ≡ true
      → (v : ℕ) → slice_get s.queue 0 ≡ Some v → Fits (taken_by s t (notifying call listed taken p) v)
      × IsTaken t v s (taken_by s t (notifying call listed taken p) v)
  takes_phase (n.Moves true locked) call listed taken here may v first = taken_both true locked listed call taken here
      may v first
  takes_phase (n.Moves false locked) call listed taken here may v first = taken_both false locked listed call taken here
      may v first
  takes_phase p call listed taken here may v first = absurd cc

  takes_core : (k : Core) → call_at s t ≡ Some (with_core k) → takes_by (c.taken == 0) k ≡ true → (v : ℕ)
      → slice_get s.queue 0 ≡ Some v
      → Fits (taken_by s t (with_core k) v) × IsTaken t v s (taken_by s t (with_core k) v)
  takes_core (core.Wait k) here may v first = absurd cc
  takes_core (core.Notify k) here may v first = takes_phase k.phase c.call c.listed c.taken here may v first

  few_phase : (p : NotifyPhase) (call : CondvarCall) (listed : Bool) (taken : ℕ)
      → call_at s t ≡ Some (notifying call listed taken p) → takes_by (taken == 0) (core.Notify (record { phase = p }))
      ≡ true → taken + 1 < 2 ^ 64
  few_phase (n.Moves true locked) call listed taken here may =
      omega (arith, (fits.seated t (notifying call listed taken (n.Moves true locked)) here).knows.1.1, fits.small)
  few_phase (n.Moves false locked) call listed taken here may =
      omega (arith, (fits.seated t (notifying call listed taken (n.Moves false locked)) here).knows.1.1, fits.small)
  few_phase p call listed taken here may = absurd cc

  few_core : (k : Core) → call_at s t ≡ Some (with_core k) → takes_by (c.taken == 0) k ≡ true → c.taken + 1 < 2 ^ 64
  few_core (core.Wait k) here may = absurd cc
  few_core (core.Notify k) here may = few_phase k.phase c.call c.listed c.taken here may

  pub few_so : call_at s t ≡ Some c → may_take s.queue c ≡ true → c.taken + 1 < 2 ^ 64
  few_so here may = few_core c.core here (first_of (takes_by (c.taken == 0) c.core) (is_left s.queue) may)

  -- the first is one of the threads
  pub first_low : (v : ℕ) → slice_get s.queue 0 ≡ Some v → v < length s.calls
  first_low v first =
      let found = listed (weight Waiting) s.queue (variable s).phases fits.sound.waiting 0 v first in
      omega (arith, slice_get_within (variable s).phases v found.0 found.1, length_map phase_in s.calls)

  pub take_so : call_at s t ≡ Some c → may_take s.queue c ≡ true → (v : ℕ) → slice_get s.queue 0 ≡ Some v
      → Fits (taken_by s t c v) × IsTaken t v s (taken_by s t c v)
  take_so here may v first = takes_core c.core here (first_of (takes_by (c.taken == 0) c.core) (is_left s.queue) may) v
      first

-- What threads are to the variable where calls change.
use Rattle.std.proofs.Common.{◌≡◌, ℕ, ◌<◌, ◌≤◌, Bool, true, false, List, [], ◌∷◌, length, map, Option, Some, None}
use Rattle.std.proofs.Common.{slice_get, refl, sym, ap, ◌∙◌, subst, arith}
use Rattle.std.proofs.lemmas.Option.{slice_get-map}
use Rattle.std.specs.Option.{option_and_then, option_map}
use Rattle.parking_lot_rules.specs.Variable as rules
use Rattle.parking_lot_rules.specs.Variable.{Phase, Variable, Step, Class, Inside, Waiting, weight, total, IsSound}
use Rattle.parking_lot_rules.proofs.Variables.{step_sound}
use Rattle.parking_lot_protocol_waits.specs.WaitRules as waits
use Rattle.parking_lot_protocol_waits.specs.NotifyRules as notifies
use Rattle.parking_lot_protocol_waits.specs.declared.wait_core.WaitPhase.{WaitPhase}
use Rattle.parking_lot_protocol_waits.specs.declared.wait_core.WaitPhase.TheVariants as w
use Rattle.parking_lot_protocol_waits.specs.declared.notify_core.NotifyPhase.{NotifyPhase}
use Rattle.parking_lot_protocol_waits.specs.declared.notify_core.NotifyPhase.TheVariants as n
use Rattle.parking_lot_machine_sides.specs.declared.condvar.open_call.Core.{Core}
use Rattle.parking_lot_machine_sides.specs.declared.condvar.open_call.Core.TheVariants as core
use Rattle.parking_lot_machine_sides.specs.Condvar.Calls.{OpenCall}
use Rattle.parking_lot_machine_sides.specs.Condvar.Fitting.{Fits, is_the}
use Rattle.parking_lot_machine_sides.specs.Condvar.Machines.{State, call_at, phase_by, phase_in, phase_of, spot_of}
use Rattle.parking_lot_machine_sides.specs.Condvar.Machines.{variable}
use Rattle.parking_lot_machine_sides.specs.Condvar.Steps.{Runs}
use Rattle.parking_lot_machine_sides.specs.Condvar.Turns.{is_inside_by, notify_is_inside, wait_is_inside}
use Rattle.parking_lot_machine_sides.proofs.CondvarFacts.Slots.{few, fewer, length_map, mapped, no_sum, slot}

-- what a thread is stands in the list
pub phase_there : (s : State) (t : ℕ) (c : OpenCall) → call_at s t ≡ Some c → slice_get (variable s).phases t ≡ Some
    (phase_of c)
phase_there s t c here = slice_get-map phase_in s.calls t ∙ ap (option_map phase_in) (slot s.calls t c here)

pub same_variable : (word : ℕ) (ps qs : List Phase) (queue : List ℕ) → ps ≡ qs
    → ◌≡◌ {A = Variable} (record { word = word; phases = ps; queue = queue })
    (record { word = word; phases = qs; queue = queue })
same_variable word ps qs queue e = ap (λ (xs : List Phase). record { word = word; phases = xs; queue = queue }) e

-- steps of the rules keep it sound
pub runs_sound : (t : ℕ) (steps : List Step) (v u : Variable) → IsSound v → Runs t steps v u → IsSound u
runs_sound t [] v u sound run = subst IsSound (sym run) sound
runs_sound t (step ∷ steps) v u sound run = runs_sound t steps (rules.after t step v) u
    (step_sound t step v sound run.0) run.1

-- one that isn't in the section is not inside in the sense of the rules
wait_weighs : (listed : Bool) (p : WaitPhase) → wait_is_inside listed p ≡ false
    → weight Inside (waits.does (spot_of listed) p) ≡ 0
unfolding weight
wait_weighs listed (w.Checks k) h = absurd cc
wait_weighs listed (w.Appends k) h = absurd cc
wait_weighs listed (w.Shows k) h = absurd cc
wait_weighs listed (w.Rests k) h = absurd cc
wait_weighs true (w.Unlocks k) h = refl
wait_weighs false (w.Unlocks k) h = refl
wait_weighs true (w.Sleeps k) h = refl
wait_weighs false (w.Sleeps k) h = refl
wait_weighs true (w.Expires k) h = refl
wait_weighs false (w.Expires k) h = refl
wait_weighs true (w.Quits k) h = absurd cc
wait_weighs false (w.Quits k) h = refl
wait_weighs listed w.Forgets h = absurd cc
wait_weighs listed (w.Leaves true) h = absurd cc
wait_weighs listed (w.Leaves false) h = refl
wait_weighs listed p h = refl

notify_weighs : (p : NotifyPhase) → notify_is_inside p ≡ false → weight Inside (notifies.does p) ≡ 0
unfolding weight
notify_weighs (n.Checks all word) h = absurd cc
notify_weighs (n.Marks all) h = absurd cc
notify_weighs (n.Moves all locked) h = absurd cc
notify_weighs (n.MarksRest notice) h = absurd cc
notify_weighs (n.Forgets notice) h = absurd cc
notify_weighs (n.Leaves notice) h = absurd cc
notify_weighs p h = refl

core_weighs : (listed : Bool) (k : Core) → is_inside_by listed k ≡ false → weight Inside (phase_by listed k) ≡ 0
core_weighs listed (core.Wait k) h = wait_weighs listed k.phase h
core_weighs listed (core.Notify k) h = notify_weighs k.phase h

idle_weighs : (c : Class) → weight c rules.Idle ≡ 0
unfolding weight
idle_weighs Inside = refl
idle_weighs c = refl

-- where no section is open nobody is inside
pub none_inside : (s : State) → Fits s → s.inside ≡ None → total Inside (variable s).phases ≡ 0
none_inside s fits e = no_sum (weight Inside) (variable s).phases
    (λ x p at. let m = mapped phase_in s.calls x p at in ap (weight Inside) (sym m.2) ∙ weighs x m.0 m.1)
  where
    weighs : (x : ℕ) (o : Option OpenCall) → slice_get s.calls x ≡ Some o → weight Inside (phase_in o) ≡ 0
    weighs x None at = idle_weighs Inside
    weighs x (Some c) at =
        core_weighs c.listed c.core
        ((fits.seated x c (ap (option_and_then (λ y. y)) at)).section ∙ ap (λ o. is_the o x) e)

-- as many wait as stand in the list
pub waiters : (s : State) → Fits s → length s.queue ≡ total Waiting (variable s).phases
waiters s fits = fits.sound.waiting.count

waits_once : (p : Phase) → weight Waiting p ≤ 1
unfolding weight
waits_once (rules.Joined k) = omega arith
waits_once (rules.Queued k stay) = omega arith
waits_once p = omega arith

-- and no more than there are threads, and fewer where one doesn't wait
pub few_wait : (s : State) → Fits s → length s.queue ≤ length s.calls
few_wait s fits = omega (
  arith,
  waiters s fits,
  few (weight Waiting) (variable s).phases waits_once,
  length_map phase_in s.calls,
)

pub fewer_wait : (s : State) (t : ℕ) (c : OpenCall) → Fits s → call_at s t ≡ Some c → weight Waiting (phase_of c) ≡ 0
    → length s.queue < length s.calls
fewer_wait s t c fits here e =
    omega (
      arith,
      waiters s fits,
      fewer (weight Waiting) (variable s).phases t (phase_of c) waits_once
          (phase_there s t c here) e,
      length_map phase_in s.calls,
    )

-- Each step is one less.
use Rattle.std.proofs.Common.{◌≡◌, ◌≢◌, ℕ, ◌+◌, ◌%◌, ◌^◌, ◌≤◌, ◌⊎◌, inl, inr, ◌==◌, ◌||◌, ◌&&◌, Bool, true, false, not}
use Rattle.std.proofs.Common.{cond, nat_lt, List, [], ◌∷◌, length, Option, Some, None, slice_get, slice_set, refl, sym}
use Rattle.std.proofs.Common.{ap, ◌∙◌, subst, arith}
use Rattle.std.proofs.lemmas.List.{length-set}
use Rattle.std.proofs.lemmas.Option.{none-some, same_Some}
use Rattle.std.specs.List.{sum_by}
use Rattle.std.specs.Option.{option_and_then}
use Rattle.parking_lot_rules.proofs.Indexed.{get-set_cases, get-set_same, sum_by-set_at}
use Rattle.parking_lot_core_model.specs.declared.parking.UnparkToken.{UnparkToken}
use Rattle.parking_lot_protocol_waits.specs.WaitTable as wait
use Rattle.parking_lot_protocol_waits.specs.NotifyTable as notify
use Rattle.parking_lot_protocol_waits.specs.declared.wait_act.WaitAnswer.TheVariants as answer
use Rattle.parking_lot_protocol_waits.specs.declared.wait_act.WaitSeen.TheVariants as wait_seen
use Rattle.parking_lot_protocol_waits.specs.declared.notify_act.NotifySeen.TheVariants as notify_seen
use Rattle.parking_lot_protocol_waits.specs.declared.notify_core.Notice.{Notice}
use Rattle.parking_lot_protocol_waits.specs.declared.wait_core.WaitPhase.{WaitPhase}
use Rattle.parking_lot_protocol_waits.specs.declared.wait_core.WaitPhase.TheVariants as w
use Rattle.parking_lot_protocol_waits.specs.declared.notify_core.NotifyPhase.{NotifyPhase}
use Rattle.parking_lot_protocol_waits.specs.declared.notify_core.NotifyPhase.TheVariants as n
use Rattle.parking_lot_machine_sides.specs.declared.condvar.open_call.Core.{Core}
use Rattle.parking_lot_machine_sides.specs.declared.condvar.open_call.Core.TheVariants as core
use Rattle.parking_lot_machine_sides.specs.declared.condvar.outside.Outside.{Outside}
use Rattle.parking_lot_machine_sides.specs.declared.condvar.outside.Outside.TheVariants as outside
use Rattle.parking_lot_machine_sides.specs.Condvar.Calls.{OpenCall, is_timed}
use Rattle.parking_lot_machine_sides.specs.Condvar.Fitting.{Fits, is_the}
use Rattle.parking_lot_machine_sides.specs.Condvar.Machines.{State, call_at, is_left, may_step}
use Rattle.parking_lot_machine_sides.specs.Condvar.OwnSteps.{notify_goes, notify_sees, stepped, wait_goes, wait_sees}
use Rattle.parking_lot_machine_sides.specs.Condvar.Outsides.{notify_fits, notify_hears, wait_fits, wait_hears}
use Rattle.parking_lot_machine_sides.specs.Condvar.Ranks.{Pays, core_steps, left, notify_steps, steps_in, wait_steps}
use Rattle.parking_lot_machine_sides.specs.Condvar.Turns.{is_inside_by, notify_is_inside, notify_is_own, wait_is_own}
use Rattle.parking_lot_machine_sides.proofs.CondvarFacts.Acting.{not_another}
use Rattle.parking_lot_machine_sides.proofs.CondvarFacts.Slots.{same_sum, slot}

-- OF ONE CALL

-- an act of a wait at the variable
pub wait_falls : (listed : Bool) (p : WaitPhase) (word : ℕ) (some : Bool) → wait_is_own listed p ≡ true
    → wait_steps (wait.next_phase p (wait_sees word some p)) + 1 ≤ wait_steps p
wait_falls listed (w.Enters k) word some own = omega arith
wait_falls listed (w.Checks k) word some own = go ((word == 0) || (word == wait.shown_by k))
  where
    go : (b : Bool) → wait_steps (cond b (w.Appends k) w.Retreats) + 1 ≤ 12
    go true = omega arith
    go false = omega arith
wait_falls listed w.Retreats word some own = omega arith
wait_falls listed (w.Appends k) word some own = omega arith
wait_falls listed (w.Shows k) word some own = omega arith
wait_falls listed (w.Rests k) word some own = omega arith
wait_falls listed (w.Expires k) word some own = omega arith
wait_falls listed (w.Quits k) word true own = omega arith
wait_falls listed (w.Quits k) word false own = omega arith
wait_falls listed w.Forgets word some own = omega arith
wait_falls listed (w.Leaves here) word some own = omega arith
wait_falls listed (w.Ends a) word some own = omega arith
wait_falls listed p word some own = absurd cc

begins_less : (token : UnparkToken) → wait_steps (wait.begins_again token) ≤ 2
begins_less token = go (token.0 == 1)
  where
    go : (b : Bool) → wait_steps (cond b (w.Ends answer.Woken) (w.Locks false)) ≤ 2
    go true = omega arith
    go false = omega arith

-- what it is told of acts elsewhere
pub wait_hears_less : (timed listed : Bool) (p : WaitPhase) (seen : Outside) → wait_fits timed listed p seen ≡ true
    → wait_steps (wait.next_phase p (wait_hears seen)) + 1 ≤ wait_steps p
wait_hears_less timed listed (w.Unlocks k) outside.Made may = omega arith
wait_hears_less timed listed (w.Locks true) outside.Made may = omega arith
wait_hears_less timed listed (w.Locks false) outside.Made may = omega arith
wait_hears_less timed listed (w.Sleeps k) (outside.Woken token) may = omega (arith, begins_less token)
wait_hears_less timed listed (w.Sleeps k) outside.Expired may = omega arith
wait_hears_less timed listed (w.Expires k) outside.Made may = omega arith
wait_hears_less timed listed (w.Quits k) (outside.Quit true) may = omega arith
wait_hears_less timed listed (w.Quits k) (outside.Quit false) may = omega arith
wait_hears_less timed listed (w.Quits k) (outside.WasTaken token) may = omega arith
wait_hears_less timed listed w.Masks outside.Made may = omega arith
wait_hears_less timed listed (w.Leaves here) outside.Made may = omega arith
wait_hears_less timed listed (w.Resumes token) outside.Made may = omega (arith, begins_less token)
wait_hears_less timed listed p seen may = absurd cc

-- an act of a notification at the variable
pub notify_falls : (threads queue : ℕ) (p : NotifyPhase) (word : ℕ) → notify_is_own p ≡ true
    → notify_steps threads queue (notify.next_phase p (notify_sees word p)) + 1 ≤ notify_steps threads queue p
notify_falls threads queue (n.Loads all) word own = go (word == 0)
  where
    go : (b : Bool) → notify_steps threads queue (cond b (n.Ends 0) (n.Enters all word)) + 1 ≤ 10 + threads
    go true = omega arith
    go false = omega arith
notify_falls threads queue (n.Enters all found) word own = omega arith
notify_falls threads queue (n.Checks all found) word own = go (word == found)
  where
    go : (b : Bool) → notify_steps threads queue
        (cond b (n.Marks all) (n.Leaves (record { count = 0; wakes = false; left = true }))) + 1 ≤ 8 + threads
    go true = omega arith
    go false = omega arith
notify_falls threads queue (n.Forgets notice) word own = omega arith
notify_falls threads queue (n.Leaves notice) word own = go notice.wakes
  where
    go : (b : Bool) → notify_steps threads queue (cond b (n.Wakes notice.count) (n.Ends notice.count)) + 1 ≤ 3
    go true = omega arith
    go false = omega arith
notify_falls threads queue (n.Ends count) word own = omega arith
notify_falls threads queue p word own = absurd cc

forgets_less : (threads queue : ℕ) (notice : Notice) → notify_steps threads queue (notify.forgets_or notice) ≤ 4
forgets_less threads queue notice = go notice.left
  where
    go : (b : Bool) → notify_steps threads queue (cond b (n.Leaves notice) (n.Forgets notice)) ≤ 4
    go true = omega arith
    go false = omega arith

-- what it is told of acts elsewhere
pub notify_hears_less : (threads queue taken : ℕ) (some : Bool) (p : NotifyPhase) (seen : Outside) → queue ≤ threads
    → notify_fits taken some p seen ≡ true
    → notify_steps threads queue (notify.next_phase p (notify_hears some seen)) + 1 ≤ notify_steps threads queue p
notify_hears_less threads queue taken some (n.Marks all) (outside.Marked locked) few may = omega (arith, few)
notify_hears_less threads queue taken some (n.Moves all locked) (outside.Moved unparked requeued) few may =
    go (not locked && nat_lt 0 requeued)
  where
    go : (b : Bool) → (let notice : Notice =
        record { count = (unparked + requeued) % 2 ^ 64; wakes = nat_lt 0 unparked; left = some } in
        notify_steps threads queue (cond b (n.MarksRest notice) (notify.forgets_or notice)) + 1 ≤ 6 + queue)
    go true = omega arith
    go false = omega (
      arith,
      forgets_less threads queue
          (record { count = (unparked + requeued) % 2 ^ 64; wakes = nat_lt 0 unparked; left = some }),
    )
notify_hears_less threads queue taken some (n.MarksRest notice) outside.Made few may =
    omega (arith, forgets_less threads queue notice)
notify_hears_less threads queue taken some (n.Wakes count) outside.Made few may = omega arith
notify_hears_less threads queue taken some p seen few may = absurd cc

-- OF ALL

-- one that isn't in the section doesn't count who waits
notify_blind : (threads a b : ℕ) (p : NotifyPhase) → notify_is_inside p ≡ false
    → notify_steps threads a p ≡ notify_steps threads b p
notify_blind threads a b (n.Moves all locked) out = absurd cc
notify_blind threads a b p out = refl

blind : (threads a b : ℕ) (listed : Bool) (k : Core) → is_inside_by listed k ≡ false
    → core_steps threads a k ≡ core_steps threads b k
blind threads a b listed (core.Wait k) out = refl
blind threads a b listed (core.Notify k) out = notify_blind threads a b k.phase out

module _ (s : State) (t : ℕ) (c : OpenCall) (fits : Fits s) (here : call_at s t ≡ Some c) where
  abbrev m : ℕ
  m = length s.calls

  -- the others have as many left, where as many wait or the thread is in the section
  pub others_same : (a : ℕ) → (a ≡ length s.queue) ⊎ (is_the s.inside t ≡ true)
      → sum_by (steps_in m a) (slice_set s.calls t None) ≡ sum_by (steps_in m (length s.queue))
      (slice_set s.calls t None)
  others_same a (inl e) = ap (λ q. sum_by (steps_in m q) (slice_set s.calls t None)) e
  others_same a (inr its) = same_sum (steps_in m a) (steps_in m (length s.queue)) (slice_set s.calls t None)
      (λ x o at. elim (get-set_cases s.calls t x (Some c) o None (slot s.calls t c here) at) [
        | inl h ↦ ap (steps_in m a) h.1 ∙ sym (ap (steps_in m (length s.queue)) h.1)
        | inr h ↦ other x o h.0 h.1
      ])
    where
      other : (x : ℕ) (o : Option OpenCall) → x ≢ t → slice_get s.calls x ≡ Some o
          → steps_in m a o ≡ steps_in m (length s.queue) o
      other x None ne at = refl
      other x (Some d) ne at = blind m a (length s.queue) d.listed d.core
          ((fits.seated x d (ap (option_and_then (λ y. y)) at)).section ∙ not_another s.inside t x ne its)

  -- all, by its own and the others'
  pub split : left s ≡ sum_by (steps_in m (length s.queue)) (slice_set s.calls t None) + core_steps m (length s.queue)
      c.core
  split = omega (arith, sum_by-set_at (steps_in m (length s.queue)) s.calls t (Some c) None (slot s.calls t c here))

  pub split_after : (a : ℕ) (o : Option OpenCall) → sum_by (steps_in m a) (slice_set s.calls t o) ≡ sum_by
      (steps_in m a) (slice_set s.calls t None) + steps_in m a o
  split_after a o = omega (
    arith,
    sum_by-set_at (steps_in m a) s.calls t (Some c) o (slot s.calls t c here),
    sum_by-set_at (steps_in m a) s.calls t (Some c) None (slot s.calls t c here),
  )

  -- one call has fewer left, and the others as many
  pub pays_one : (u : State) (o : Option OpenCall) → u.calls ≡ slice_set s.calls t o → (length u.queue ≡ length s.queue)
      ⊎ (is_the s.inside t ≡ true)
      → steps_in m (length u.queue) o + 1 ≤ core_steps m (length s.queue) c.core → Pays s u
  pays_one u o calls quiet less =
      let threads : length u.calls ≡ m = ap (λ (cs : List (Option OpenCall)). length cs) calls
      ∙ length-set s.calls t o in
      let now : left u ≡ sum_by (steps_in m (length u.queue)) (slice_set s.calls t o) =
      ap (λ k. sum_by (steps_in k (length u.queue)) u.calls) threads
      ∙ ap (λ (cs : List (Option OpenCall)). sum_by (steps_in m (length u.queue)) cs) calls in
      omega (arith, now, split_after (length u.queue) o, others_same (length u.queue) quiet, split, less)

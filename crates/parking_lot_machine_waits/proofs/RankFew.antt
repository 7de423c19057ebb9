-- At every moment few steps are left at locks and condition variables together.
use Rattle.std.proofs.Common.{◌≡◌, ℕ, zero, suc, ◌+◌, ◌*◌, ◌≤◌, List, [], ◌∷◌, length, Option, Some, None, slice_get}
use Rattle.std.proofs.Common.{sum_by, refl, sym, ap, ◌∙◌, arith}
use Rattle.std.specs.Option.{option_and_then, unwrap_or}
use Rattle.std.proofs.lemmas.List.Sums.{sum_by-cons}
use Rattle.parking_lot_protocol_waits.specs.declared.notify_core.NotifyPhase.{NotifyPhase}
use Rattle.parking_lot_protocol_waits.specs.declared.notify_core.NotifyPhase.TheVariants as n
use Rattle.parking_lot_protocol_waits.specs.declared.wait_core.WaitPhase.{WaitPhase}
use Rattle.parking_lot_protocol_waits.specs.declared.wait_core.WaitPhase.TheVariants as w
use Rattle.parking_lot_machine_sides.specs.declared.condvar.open_call.Core.{Core}
use Rattle.parking_lot_machine_sides.specs.declared.condvar.open_call.Core.TheVariants as core
use Rattle.parking_lot_machine_sides.specs.declared.condvar.open_call.OpenCall.{OpenCall}
use Rattle.parking_lot_machine_sides.specs.Condvar.Machines.{State as Var}
use Rattle.parking_lot_machine_sides.specs.Condvar.Ranks.{core_steps, left, notify_steps, steps_in, wait_steps}
use Rattle.parking_lot_machine_sides.proofs.CondvarFacts.Slots.{same_sum}
use Rattle.parking_lot_machine.specs.Rows.{state}
use Rattle.parking_lot_machine.specs.SoundLaws.{Always, StepsAreFew as RowStepsAreFew, most_steps}
use Rattle.parking_lot_machine_waits.specs.declared.seat.Seat.{Seat}
use Rattle.parking_lot_machine_waits.specs.declared.turn.Turn.TheVariants as turn
use Rattle.parking_lot_machine_waits.specs.Joint.{Joint, call_in, nowhere, var_at}
use Rattle.parking_lot_machine_waits.specs.JointRanks.{StepsAreFew, left_at_variables, left_in, stepping_number}
use Rattle.parking_lot_machine_waits.specs.Turns.{notify_turn}
use Rattle.parking_lot_machine_waits.specs.Whole.{IsWhole, Stands}

-- ONE CALL

wait_few : (p : WaitPhase) → wait_steps p ≤ 13
wait_few (w.Waiting m) = omega arith
wait_few w.Stranger = omega arith
wait_few w.GivingWay = omega arith
wait_few w.Looks = omega arith
wait_few (w.Enters m) = omega arith
wait_few (w.Checks m) = omega arith
wait_few w.Retreats = omega arith
wait_few (w.Appends m) = omega arith
wait_few (w.Shows m) = omega arith
wait_few (w.Rests m) = omega arith
wait_few (w.Unlocks m) = omega arith
wait_few (w.Sleeps m) = omega arith
wait_few (w.Expires m) = omega arith
wait_few (w.Quits m) = omega arith
wait_few w.Forgets = omega arith
wait_few w.Masks = omega arith
wait_few (w.Leaves here) = omega arith
wait_few (w.Resumes token) = omega arith
wait_few w.Yields = omega arith
wait_few (w.Locks timed_out) = omega arith
wait_few (w.Ends a) = omega arith
wait_few w.Invalid = omega arith

-- a notification doesn't stand where it takes waiters: it takes them all in one step
notify_few : (threads queue : ℕ) (p : NotifyPhase) → (notify_turn p ≡ turn.Sleeps → ⊥)
    → notify_steps threads queue p ≤ threads + 13
notify_few threads queue (n.Notifying all) turns = omega arith
notify_few threads queue (n.Loads all) turns = omega arith
notify_few threads queue (n.Enters all word) turns = omega arith
notify_few threads queue (n.Checks all word) turns = omega arith
notify_few threads queue (n.Marks all) turns = omega arith
notify_few threads queue (n.Moves all locked) turns = absurd (turns refl)
notify_few threads queue (n.MarksRest notice) turns = omega arith
notify_few threads queue (n.Forgets notice) turns = omega arith
notify_few threads queue (n.Leaves notice) turns = omega arith
notify_few threads queue (n.Wakes count) turns = omega arith
notify_few threads queue (n.Ends count) turns = omega arith
notify_few threads queue n.Invalid turns = omega arith

core_few : (j : Joint) (t : ℕ) (c : OpenCall) (k : Core) (threads queue : ℕ) → Stands j t c k
    → core_steps threads queue k ≤ threads + 13
core_few j t c (core.Wait q) threads queue s = omega (arith, wait_few q.phase)
core_few j t c (core.Notify q) threads queue s = notify_few threads queue q.phase s.turns

-- WHO SITS AT WHICH VARIABLE

-- what a seat counts at one variable, and at any
abbrev at_one : ℕ → ℕ → Option ℕ → ℕ
at_one most v None = 0
at_one most zero (Some zero) = most
at_one most zero (Some (suc u)) = 0
at_one most (suc v) (Some zero) = 0
at_one most (suc v) (Some (suc u)) = at_one most v (Some u)

abbrev at_any : ℕ → Option ℕ → ℕ
at_any most None = 0
at_any most (Some u) = most

-- as numbered without the first
abbrev down : Option ℕ → Option ℕ
down None = None
down (Some zero) = None
down (Some (suc u)) = Some u

at_own : (most u : ℕ) → at_one most u (Some u) ≡ most
at_own most zero = refl
at_own most (suc u) = at_own most u

at_next : (most v : ℕ) (o : Option ℕ) → at_one most (suc v) o ≡ at_one most v (down o)
at_next most v None = refl
at_next most v (Some zero) = refl
at_next most v (Some (suc u)) = refl

first_or_other : (most : ℕ) (o : Option ℕ) → at_one most zero o + at_any most (down o) ≤ at_any most o
first_or_other most None = omega arith
first_or_other most (Some zero) = omega arith
first_or_other most (Some (suc u)) = omega arith

module _ (most : ℕ) where
  parts : (at : Seat → Option ℕ) (ss : List Seat) → sum_by (λ s. at_one most zero (at s)) ss + sum_by
      (λ s. at_any most (down (at s))) ss ≤ sum_by (λ s. at_any most (at s)) ss
  parts at [] = omega arith
  parts at (s ∷ ss) =
      omega (
        arith,
        sum_by-cons (λ s. at_one most zero (at s)) s ss,
        sum_by-cons (λ s. at_any most (down (at s))) s ss,
        sum_by-cons (λ s. at_any most (at s)) s ss,
        first_or_other most (at s),
        parts at ss,
      )

  -- where each variable has no more than its seats count, all have no more than all seats
  by_seats : (ss : List Seat) (vars : List (Option Var)) (at : Seat → Option ℕ)
      → ((v : ℕ) (x : Var) → slice_get vars v ≡ Some (Some x) → left x ≤ sum_by (λ s. at_one most v (at s)) ss)
      → sum_by left_in vars ≤ sum_by (λ s. at_any most (at s)) ss
  by_seats ss [] at each = omega arith
  by_seats ss (o ∷ vars) at each =
      omega (
        arith,
        sum_by-cons left_in o vars,
        first o refl,
        by_seats ss vars (λ s. down (at s))
            (λ v x here. omega (
              arith,
              each (suc v) x here,
              same_sum (λ s. at_one most (suc v) (at s)) (λ s. at_one most v (down (at s)))
                  ss (λ i s e. at_next most v (at s)),
            )),
        parts at ss,
      )
    where
      first : (p : Option Var) → p ≡ o → left_in p ≤ sum_by (λ s. at_one most zero (at s)) ss
      first None e = omega arith
      first (Some x) e = each zero x (ap Some (sym e))

  all_few : (f : Seat → ℕ) (ss : List Seat) → ((s : Seat) → f s ≤ most) → sum_by f ss ≤ length ss * most
  all_few f [] few = omega arith
  all_few f (s ∷ ss) few = omega (arith, sum_by-cons f s ss, few s, all_few f ss few)

any_few : (most : ℕ) (o : Option ℕ) → at_any most o ≤ most
any_few most None = omega arith
any_few most (Some u) = omega arith

-- two lists of one length, one below the other
below : {X Y : Type 0} (f : X → ℕ) (g : Y → ℕ) (xs : List X) (ys : List Y) → length xs ≡ length ys
    → ((i : ℕ) (x : X) (y : Y) → slice_get xs i ≡ Some x → slice_get ys i ≡ Some y → f x ≤ g y)
    → sum_by f xs ≤ sum_by g ys
below f g [] [] e each = omega arith
below f g [] (y ∷ ys) e each = omega arith
below f g (x ∷ xs) [] e each = absurd (omega (arith, e))
below f g (x ∷ xs) (y ∷ ys) e each =
    omega (
      arith,
      sum_by-cons f x xs,
      sum_by-cons g y ys,
      each zero x y refl refl,
      below f g xs ys (omega (arith, e)) (λ i a b. each (suc i) a b),
    )

-- ALL OF THEM

module _ (j : Joint) (h : IsWhole j) where
  one_var : (v : ℕ) (x : Var) → slice_get j.vars v ≡ Some (Some x)
      → left x ≤ sum_by (λ (s : Seat). at_one (length j.seats + 13) v s.at) j.seats
  one_var v x place = below (steps_in (length x.calls) (length x.queue))
      (λ (s : Seat). at_one (length j.seats + 13) v s.at) x.calls j.seats threads each
    where
      at : var_at j v ≡ Some x
      at = ap (option_and_then (λ (o : Option Var). o)) place

      threads : length x.calls ≡ length j.seats
      threads = h.threads v x at

      each : (t : ℕ) (o : Option OpenCall) (s : Seat) → slice_get x.calls t ≡ Some o → slice_get j.seats t ≡ Some s
          → steps_in (length x.calls) (length x.queue) o ≤ at_one (length j.seats + 13) v s.at
      each t None s here seat = omega arith
      each t (Some c) s here seat =
          let call = ap (λ (o : Option Var). call_in o t) at ∙ ap (option_and_then (λ (o : Option OpenCall). o)) here in
          let sits = sym (ap (λ (o : Option Seat). (unwrap_or o nowhere).at) seat) ∙ h.seated v t c call in
          omega (
            arith,
            core_few j t c c.core (length x.calls) (length x.queue) (h.stands v t c call),
            threads,
            ap (at_one (length j.seats + 13) v) sits,
            at_own (length j.seats + 13) v,
          )

  pub left_few : left_at_variables j ≤ length j.seats * (length j.seats + 13)
  left_few =
      omega (
        arith,
        by_seats (length j.seats + 13) j.seats j.vars (λ (s : Seat). s.at) one_var,
        all_few (length j.seats + 13) (λ (s : Seat). at_any (length j.seats + 13) s.at) j.seats
            (λ s. any_few (length j.seats + 13) s.at),
      )

pub steps_are_few : Always RowStepsAreFew → StepsAreFew
steps_are_few rows_few j t h fits =
    omega (
      arith,
      (rows_few (state j.rows) fits.rows).all (stepping_number j t),
      ap (λ m. m * most_steps m) h.numbers,
      left_few j h,
    )

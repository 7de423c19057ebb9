-- The parts of which the steps that are left consist: at the locks, and at each variable.
use Rattle.std.proofs.Common.{◌≡◌, ℕ, zero, suc, ◌+◌, ◌*◌, ◌<◌, ◌≤◌, ◌⊎◌, inl, inr, Bool, true, false, not, cond, List}
use Rattle.std.proofs.Common.{[], ◌∷◌, length, Option, Some, None, option_map, slice_get, slice_set, sum_by, refl, sym}
use Rattle.std.proofs.Common.{ap, ◌∙◌, subst, arith}
use Rattle.std.specs.Option.{unwrap_or}
use Rattle.std.proofs.lemmas.Option.{same_Some}
use Rattle.parking_lot_protocol.specs.declared.act.Act.{Act}
use Rattle.parking_lot_protocol.specs.declared.act.CoreAnswer.{CoreAnswer}
use Rattle.parking_lot_rules.proofs.Indexed.{sum_by-set_at}
use Rattle.parking_lot_machine_sides.specs.declared.condvar.calls.CondvarReply.{CondvarReply}
use Rattle.parking_lot_machine_sides.specs.declared.condvar.open_call.OpenCall.{OpenCall}
use Rattle.parking_lot_machine_sides.specs.declared.condvar.outside.Outside.{Outside}
use Rattle.parking_lot_machine_sides.specs.Condvar.Calls.{reply_of}
use Rattle.parking_lot_machine_sides.specs.Condvar.Machines as var
use Rattle.parking_lot_machine_sides.specs.Condvar.Machines.{State as Var}
use Rattle.parking_lot_machine_sides.specs.Condvar.OwnSteps.{stepped}
use Rattle.parking_lot_machine_sides.specs.Condvar.Outsides.{told}
use Rattle.parking_lot_machine_sides.specs.Condvar.Ranks.{left}
use Rattle.parking_lot_machine_sides.proofs.CondvarFacts.Slots.{call_here, slot, within}
use Rattle.parking_lot_machine_calls.specs.declared.open_call.Call.{Call}
use Rattle.parking_lot_machine.specs.Machines as rows
use Rattle.parking_lot_machine.specs.Machines.{end_of}
use Rattle.parking_lot_machine.specs.Ranks as row
use Rattle.parking_lot_machine.specs.RowFits.{FitsTogether}
use Rattle.parking_lot_machine.specs.Rows.{State, call_at as row_call_at, state}
use Rattle.parking_lot_machine_calls.specs.Stances.{core_act}
use Rattle.parking_lot_machine.proofs.Carrying.{call_within}
use Rattle.parking_lot_rules.proofs.Slots.{set_there}
use Rattle.parking_lot_machine.proofs.WakesPaying.{any_may_be_stepped}
use Rattle.parking_lot_machine_waits.specs.declared.seat.Seat.{Seat}
use Rattle.parking_lot_machine_waits.specs.Joint.{Joint, busy_by, busy_number, call_at, call_in, back_number}
use Rattle.parking_lot_machine_waits.specs.Joint.{front_number, nowhere, number, seat_at, var_at, var_in}
use Rattle.parking_lot_machine_waits.specs.JointRanks.{is_in_front, left_at_variables, left_in, stepping_as}
use Rattle.parking_lot_machine_waits.specs.JointRanks.{stepping_at, stepping_number}
use Rattle.parking_lot_machine_waits.specs.JointSteps.{ActsAt, ActsIn, HearsAt, HearsIn}
use Rattle.parking_lot_machine_waits.specs.Moving.{AreMoved, AreMovedAs, AreTaken}
use Rattle.parking_lot_machine_waits.specs.Whole.{IsWhole, place_of}

-- AT THE LOCKS

-- Where a number is in no call, no more are left where any other is stepped.
pub idle_most : (s : State) → FitsTogether s → (k u : ℕ) → row_call_at s k ≡ None
    → row.steps_left s u ≤ row.steps_left s k
idle_most s fits k u none = any_may_be_stepped s fits k (ap (rows.can_move_in s) none) u

pub in_none : (o : Option Call) → option_map (λ (c : Call). c.lock) o ≡ None → o ≡ None
in_none None e = refl
in_none (Some c) e = absurd cc

pub idle_of : (s : State) (k : ℕ) → place_of s k ≡ None → row_call_at s k ≡ None
idle_of s k e = in_none (row_call_at s k) e

-- a call that is over isn't kept
pub over_idle : (s u : State) (k : ℕ) (fair : Bool) (a : CoreAnswer) → rows.IsStepped k fair (Some a) s u
    → row_call_at u k ≡ None
over_idle s u k fair a x = go (core_act x.call.core) x.answers x.became
  where
    go : (what : Act) → Some a ≡ end_of what → rows.Became what k fair x.call s u → row_call_at u k ≡ None
    go (Act.Done b) ends e = subst (λ (v : State). row_call_at v k ≡ None) (sym e)
        (set_there s.calls k None (call_within s k x.call x.here))
    go what ends e = absurd cc

-- those that are moved to a mutex add so many steps each
are_moved_costs : (seats : List Seat) (x : Var) (lock : ℕ) (ws : List ℕ) (s u : State) → AreMoved seats x lock ws s u
    → (w : ℕ) → row.steps_left u w ≤ row.steps_left s w + 25 * length ws
are_moved_costs seats x lock [] s u e w = omega (arith, ap (λ (y : State). row.steps_left y w) e)
are_moved_costs seats x lock (v ∷ ws) s u (m, first, rest) w =
    omega (arith, first.costs w, are_moved_costs seats x lock ws m u rest w)

pub moved_costs : (locked : Bool) (seats : List Seat) (x : Var) (lock : ℕ) (ws : List ℕ) (s u : State)
    → AreMovedAs locked seats x lock ws s u → (w : ℕ) → row.steps_left u w ≤ row.steps_left s w + (25 * length ws + 26)
moved_costs true seats x lock ws s u moved w = omega (arith, are_moved_costs seats x lock ws s u moved w)
moved_costs false seats x lock [] s u e w = omega (arith, ap (λ (y : State). row.steps_left y w) e)
moved_costs false seats x lock (v ∷ ws) s u (m, first, rest) w =
    omega (arith, first.costs w, are_moved_costs seats x lock ws m u rest w)

-- AT A VARIABLE

pub var_here : (vars ws : List (Option Var)) (v : ℕ) (x y : Var) → var_in vars v ≡ Some x
    → ws ≡ slice_set vars v (Some y) → var_in ws v ≡ Some y
var_here vars ws v x y at is = ap (λ (us : List (Option Var)). var_in us v) is
    ∙ call_here vars v (Some y) (within vars v x at)

-- one variable has changed
pub var_changes : (vars ws : List (Option Var)) (v : ℕ) (x y : Var) → var_in vars v ≡ Some x
    → ws ≡ slice_set vars v (Some y) → sum_by left_in ws + left x ≡ sum_by left_in vars + left y
var_changes vars ws v x y at is = ap (λ (us : List (Option Var)). sum_by left_in us + left x) is
    ∙ sum_by-set_at left_in vars v (Some x) (Some y) (slot vars v x at)

pub acts_pay : (t v : ℕ) (reply : Option CondvarReply) (i j : Joint) → ActsAt t v reply i j
    → left_at_variables j + 1 ≤ left_at_variables i
acts_pay t v reply i j (z, acts, is) = go (var_at i v) refl z acts is
  where
    go : (o : Option Var) → var_at i v ≡ o → (y : Option Var) → ActsIn t reply o y → j.vars ≡ slice_set i.vars v y
        → left_at_variables j + 1 ≤ left_at_variables i
    go None at y acts is = absurd acts
    go (Some x) at None acts is = absurd acts
    go (Some x) at (Some y) acts is = omega (arith, var_changes i.vars j.vars v x y at is, acts.pays)

pub hears_pay : (t v : ℕ) (seen : Outside) (i j : Joint) → HearsAt t v seen i j
    → left_at_variables j + 1 ≤ left_at_variables i
hears_pay t v seen i j (z, hears, is) = go (var_at i v) refl z hears is
  where
    go : (o : Option Var) → var_at i v ≡ o → (y : Option Var) → HearsIn t seen o y → j.vars ≡ slice_set i.vars v y
        → left_at_variables j + 1 ≤ left_at_variables i
    go None at y hears is = absurd hears
    go (Some x) at None hears is = absurd hears
    go (Some x) at (Some y) hears is = omega (arith, var_changes i.vars j.vars v x y at is, hears.pays)

-- each that is taken is one less
pub taken_pay : (t n : ℕ) (x y : Var) → AreTaken t n x y → left y + n ≤ left x
taken_pay t zero x y e = omega (arith, ap left e)
taken_pay t (suc n) x y (z, before, w, last) = omega (arith, taken_pay t n x z before, last.pays)

-- the call there, once it was told that
pub told_there : (t v : ℕ) (seen : Outside) (c : OpenCall) (i j : Joint) → call_at i v t ≡ Some c → HearsAt t v seen i j
    → (queue : List ℕ) × (call_at j v t ≡ Some (told c queue seen))
told_there t v seen c i j here (z, hears, is) = go (var_at i v) refl z hears is
  where
    go : (o : Option Var) → var_at i v ≡ o → (y : Option Var) → HearsIn t seen o y → j.vars ≡ slice_set i.vars v y
        → (queue : List ℕ) × (call_at j v t ≡ Some (told c queue seen))
    go None at y hears is = absurd hears
    go (Some x) at None hears is = absurd hears
    go (Some x) at (Some y) hears is =
        let same : hears.call ≡ c =
        same_Some hears.call c (sym hears.here ∙ sym (ap (λ (o : Option Var). call_in o t) at) ∙ here) in (
          x.queue,
          ap (λ (o : Option Var). call_in o t) (var_here i.vars j.vars v x y at is)
              ∙ ap (λ (s : Var). var.call_at s t) hears.became
              ∙ call_here x.calls t (Some (told hears.call x.queue seen)) (within x.calls t hears.call hears.here)
              ∙ ap (λ (d : OpenCall). Some (told d x.queue seen)) same,
        )

-- the call there, once it has made its act
pub acted_there : (t v : ℕ) (reply : Option CondvarReply) (c : OpenCall) (i j : Joint) → call_at i v t ≡ Some c
    → ActsAt t v reply i j → (x : Var) × (t < length x.calls) × (call_at j v t ≡ var.call_at (stepped x t c) t)
acted_there t v reply c i j here (z, acts, is) = go (var_at i v) refl z acts is
  where
    go : (o : Option Var) → var_at i v ≡ o → (y : Option Var) → ActsIn t reply o y → j.vars ≡ slice_set i.vars v y
        → (x : Var) × (t < length x.calls) × (call_at j v t ≡ var.call_at (stepped x t c) t)
    go None at y acts is = absurd acts
    go (Some x) at None acts is = absurd acts
    go (Some x) at (Some y) acts is =
        let same : acts.call ≡ c =
        same_Some acts.call c (sym acts.here ∙ sym (ap (λ (o : Option Var). call_in o t) at) ∙ here) in (
          x,
          within x.calls t acts.call acts.here,
          ap (λ (o : Option Var). call_in o t) (var_here i.vars j.vars v x y at is)
              ∙ ap (λ (s : Var). var.call_at s t) acts.became ∙ ap (λ (d : OpenCall). var.call_at (stepped x t d) t)
              same,
        )

-- and what it is answered
pub acts_reply : (t v : ℕ) (reply : Option CondvarReply) (c : OpenCall) (i j : Joint) → call_at i v t ≡ Some c
    → ActsAt t v reply i j → reply ≡ reply_of c
acts_reply t v reply c i j here (z, acts, is) = go (var_at i v) refl z acts
  where
    go : (o : Option Var) → var_at i v ≡ o → (y : Option Var) → ActsIn t reply o y → reply ≡ reply_of c
    go None at y acts = absurd acts
    go (Some x) at None acts = absurd acts
    go (Some x) at (Some y) acts = acts.replies
        ∙ ap reply_of (same_Some acts.call c (sym acts.here ∙ sym (ap (λ (o : Option Var). call_in o t) at) ∙ here))

-- BY WHICH NUMBER

pub busy_is : (j : Joint) (t : ℕ) → (b : Bool) × (busy_number j t ≡ number j t b)
busy_is j t = go (row_call_at (state j.rows) t) refl
  where
    go : (o : Option Call) → row_call_at (state j.rows) t ≡ o → (b : Bool) × (busy_number j t ≡ number j t b)
    go None e = (true, ap (λ (o : Option Call). busy_by o t (number j t true)) e)
    go (Some c) e = (false, ap (λ (o : Option Call). busy_by o t (number j t true)) e)

-- Of one that has no seat no more are left by the number that is in a call than by either.
pub busy_least : (j : Joint) → IsWhole j → FitsTogether (state j.rows) → (t : ℕ) → (seat_at j t).at ≡ None → (b : Bool)
    → row.steps_left (state j.rows) (busy_number j t) ≤ row.steps_left (state j.rows) (number j t b)
busy_least j h fits t none b = go b (h.one t none)
  where
    s : State
    s = state j.rows

    by_second : row_call_at s t ≡ None → busy_number j t ≡ number j t true
    by_second e = ap (λ (o : Option Call). busy_by o t (number j t true)) e

    by_first : (o : Option Call) → row_call_at s t ≡ o → row_call_at s (number j t true) ≡ None
        → row.steps_left s (busy_number j t) ≤ row.steps_left s t
    by_first None e second = idle_most s fits t (busy_number j t) e
    by_first (Some c) e second =
        omega (arith, ap (λ (o : Option Call). row.steps_left s (busy_by o t (number j t true))) e)

    go : (b : Bool) → (row_call_at s t ≡ None) ⊎ (row_call_at s (number j t true) ≡ None)
        → row.steps_left s (busy_number j t) ≤ row.steps_left s (number j t b)
    go true (inl e) = omega (arith, ap (row.steps_left s) (by_second e))
    go true (inr e) = idle_most s fits (number j t true) (busy_number j t) e
    go false (inl e) = idle_most s fits t (busy_number j t) e
    go false (inr e) = by_first (row_call_at s t) refl e

pub number_is : (j : Joint) (t v : ℕ) (c : OpenCall) → (seat_at j t).at ≡ Some v → call_at j v t ≡ Some c
    → stepping_number j t ≡ cond (is_in_front c.core) (front_number j t) (back_number j t)
number_is j t v c seat here = ap (λ (o : Option ℕ). stepping_at o j t) seat
    ∙ ap (λ (o : Option OpenCall). stepping_as o j t) here

pub free_number : (j : Joint) (t : ℕ) → (seat_at j t).at ≡ None → stepping_number j t ≡ busy_number j t
free_number j t none = ap (λ (o : Option ℕ). stepping_at o j t) none

-- a thread that keeps its seat, and stays on the same side, is stepped by the same number
pub same_number : (i j : Joint) (t v : ℕ) (c d : OpenCall) → j.seats ≡ i.seats → (seat_at i t).at ≡ Some v
    → call_at i v t ≡ Some c → call_at j v t ≡ Some d → is_in_front d.core ≡ is_in_front c.core
    → stepping_number j t ≡ stepping_number i t
same_number i j t v c d seats seat here there same =
    number_is j t v d (ap (λ (ss : List Seat). (unwrap_or (slice_get ss t) nowhere).at) seats ∙ seat) there
    ∙ ap (λ b. cond b (front_number j t) (back_number j t)) same
    ∙ ap (λ (ss : List Seat). cond (is_in_front c.core)
    (cond (not (unwrap_or (slice_get ss t) nowhere).second) (length ss + t) t)
    (cond (unwrap_or (slice_get ss t) nowhere).second (length ss + t) t)) seats
    ∙ sym (number_is i t v c seat here)

-- A beginning, a step or a deadline that is allowed leaves a machine whole.
use Rattle.std.proofs.Common.{◌≡◌, ℕ, ◌<◌, Bool, true, false, nat_lt, length, Option, Some, None, refl, ap, ◌∙◌, subst}
use Rattle.std.proofs.lemmas.Bool.{ltb-true}
use Rattle.parking_lot_protocol_waits.specs.declared.notify_core.NotifyPhase.{NotifyPhase}
use Rattle.parking_lot_protocol_waits.specs.declared.notify_core.NotifyPhase.TheVariants as n
use Rattle.parking_lot_protocol_waits.specs.declared.wait_core.WaitPhase.{WaitPhase}
use Rattle.parking_lot_protocol_waits.specs.declared.wait_core.WaitPhase.TheVariants as w
use Rattle.parking_lot_machine_sides.specs.declared.condvar.calls.CondvarReply.{CondvarReply}
use Rattle.parking_lot_machine_sides.specs.declared.condvar.open_call.Core.{Core}
use Rattle.parking_lot_machine_sides.specs.declared.condvar.open_call.Core.TheVariants as core
use Rattle.parking_lot_machine_sides.specs.declared.condvar.open_call.OpenCall.{OpenCall}
use Rattle.parking_lot_machine_sides.specs.declared.condvar.outside.Outside.TheVariants as outside
use Rattle.parking_lot_machine.specs.SoundLaws.{Always, OwnersAgree}
use Rattle.parking_lot_machine_waits.specs.declared.ended.Ended.{Ended}
use Rattle.parking_lot_machine_waits.specs.declared.turn.Turn.{Turn}
use Rattle.parking_lot_machine_waits.specs.declared.turn.Turn.TheVariants as turn
use Rattle.parking_lot_machine_waits.specs.Joint.{Joint, call_at, seat_at, var_at, var_hears}
use Rattle.parking_lot_machine_waits.specs.JointLaws.{PartsFit, StaysWhole}
use Rattle.parking_lot_machine_waits.specs.JointMoves.{may_expire, may_expire_as, may_expire_at, may_go, may_go_as}
use Rattle.parking_lot_machine_waits.specs.JointMoves.{may_go_at, may_turn, sleeps_on}
use Rattle.parking_lot_machine_waits.specs.JointSteps.{GoesAtVariable, IsGone, IsGoneAt, IsLate, IsLateAt, Turned}
use Rattle.parking_lot_machine_waits.specs.JointSteps.{freed}
use Rattle.parking_lot_machine_waits.specs.Turns.{acts_or, notify_turn, sleeps_or, turn_by, turn_of, wait_turn}
use Rattle.parking_lot_machine_waits.specs.Whole.{IsWhole}
use Rattle.parking_lot_machine_waits.proofs.ActsTurns.{acts_keep, hears_keep}
use Rattle.parking_lot_machine_waits.proofs.Beginning.{call_keeps}
use Rattle.parking_lot_machine_waits.proofs.FollowsKept.{comes_back, follows_keep}
use Rattle.parking_lot_machine_waits.proofs.Hearing.{both_true}
use Rattle.parking_lot_machine_waits.proofs.LocksKept.{ask_keeps, deadline_keeps, step_keeps}
use Rattle.parking_lot_machine_waits.proofs.MovesKept.{moving_keeps}
use Rattle.parking_lot_machine_waits.proofs.MutexSteps.{expires, locks, unlocks}
use Rattle.parking_lot_machine_waits.proofs.MutexTurns.{gives_up, locks_again}

-- WHICH PHASE HAS A TURN AT THE MUTEX

abbrev OfWait : OpenCall → WaitPhase → Type 0
OfWait c p = c.core ≡ core.Wait (record { phase = p })

-- a wait alone has one
abbrev HasPhase : Turn → OpenCall → Type 0
HasPhase turn.GivesUp c = (m : ℕ) × OfWait c (w.Rests m)
HasPhase turn.Unlocks c = (m : ℕ) × OfWait c (w.Unlocks m)
HasPhase turn.LocksAgain c = OfWait c (w.Leaves true)
HasPhase turn.Locks c = (timed_out : Bool) × OfWait c (w.Locks timed_out)
HasPhase x c = Unit {0}

of_sleep : (b : Bool) (c : OpenCall) → HasPhase (sleeps_or b turn.Follows) c
of_sleep true c = tt
of_sleep false c = tt

of_act : (b : Bool) (x : Turn) (c : OpenCall) → HasPhase x c → HasPhase (acts_or b x) c
of_act true x c h = tt
of_act false x c h = h

wait_phase : (listed : Bool) (p : WaitPhase) (c : OpenCall) → OfWait c p → HasPhase (wait_turn listed p) c
wait_phase listed (w.Rests m) c e = (m, e)
wait_phase listed (w.Unlocks m) c e = (m, e)
wait_phase listed (w.Sleeps m) c e = of_sleep listed c
wait_phase listed (w.Expires m) c e = of_act listed turn.ComesBack c tt
wait_phase listed (w.Quits m) c e = of_act listed turn.Follows c tt
wait_phase listed (w.Leaves true) c e = e
wait_phase listed (w.Leaves false) c e = tt
wait_phase listed (w.Locks timed_out) c e = (timed_out, e)
wait_phase listed p c e = tt

notify_phase : (p : NotifyPhase) (c : OpenCall) → HasPhase (notify_turn p) c
notify_phase (n.Marks all) c = tt
notify_phase p c = tt

phase_of : (c : OpenCall) (k : Core) → c.core ≡ k → HasPhase (turn_by c.listed k) c
phase_of c (core.Wait k) e = wait_phase c.listed k.phase c e
phase_of c (core.Notify k) e = notify_phase k.phase c

-- A STEP

silent : (i j : Joint) (t : ℕ) (reply : Option CondvarReply) → j.seats ≡ freed t reply i.seats → reply ≡ None
    → j.seats ≡ i.seats
silent i j t reply seats none = seats ∙ ap (λ (r : Option CondvarReply). freed t r i.seats) none

module _ (i j : Joint) (t v : ℕ) (fair : Bool) (c : OpenCall) (reply : Option CondvarReply) (h : IsWhole i)
    (fits : PartsFit i) (here : call_at i v t ≡ Some c) (seats : j.seats ≡ freed t reply i.seats) where
  turned : (x : Turn) → turn_of c ≡ x → HasPhase x c → may_turn x i t v c ≡ true → Turned x t v fair c reply i j
      → IsWhole j
  turned turn.Sleeps is has may h' = absurd h'
  turned turn.Acts is has may (acts, rows) = acts_keep i j t v c reply h here rows seats is may acts
  turned turn.GivesUp is (m, has) may (acts, begins) = gives_up i j t v m c reply h fits here has seats acts begins
  turned turn.LocksAgain is has may (acts, begins) = locks_again i j t v c reply h fits here has seats acts begins
  turned turn.Unlocks is (m, has) may (none, a, step, hears) = unlocks i j t v m c fair h fits here has
      (silent i j t reply seats none) a may step hears
  turned turn.Locks is (timed_out, has) may (none, a, step, hears) = locks i j t v timed_out c fair h fits here has
      (silent i j t reply seats none) a may step hears
  turned turn.Follows is has may (none, follows) = follows_keep i j t v fair c h fits here
      (silent i j t reply seats none) is may follows
  turned turn.ComesBack is has may (none, hears, comes) = comes_back i j t v c h fits here
      (silent i j t reply seats none) is hears _ comes
  turned turn.Hears is has may (none, hears, rows) = hears_keep i j t v c h here rows (silent i j t reply seats none) is
      hears
  turned turn.Moves is has may (none, moves) = moving_keeps i j t v c h fits here (silent i j t reply seats none) is
      moves

step_whole : (t : ℕ) (fair : Bool) (end : Option Ended) (i j : Joint) → IsWhole i → PartsFit i → may_go i t ≡ true
    → IsGone t fair end i j → IsWhole j
step_whole t fair end i j h fits may gone = go (seat_at i t).at refl (both_true _ _ may).1 gone
  where
    low : t < length i.seats
    low = ltb-true t (length i.seats) (both_true (nat_lt t (length i.seats)) (may_go_at (seat_at i t).at i t) may).0

    at_variable : (v : ℕ) (reply : Option CondvarReply) → may_go_as (call_at i v t) i t v ≡ true
        → GoesAtVariable t v fair reply i j → IsWhole j
    at_variable v reply may x =
        turned i j t v fair x.call reply h fits x.here x.seats (turn_of x.call) refl (phase_of x.call x.call.core refl)
        (subst (λ (o : Option OpenCall). may_go_as o i t v ≡ true) x.here may) x.turned

    go : (o : Option ℕ) → (seat_at i t).at ≡ o → may_go_at o i t ≡ true → IsGoneAt o t fair end i j → IsWhole j
    go None at may (a, x, is) = step_keeps i j t h fits.rows low at x.vars x.seats fair a may x.step
    go (Some v) at may (reply, x, is) = at_variable v reply may x

-- A DEADLINE

late_whole : (t : ℕ) (i j : Joint) → IsWhole i → PartsFit i → may_expire i t ≡ true → IsLate t i j → IsWhole j
late_whole t i j h fits may late = go (seat_at i t).at refl (both_true _ _ may).1 late
  where
    low : t < length i.seats
    low = ltb-true t (length i.seats) (both_true (nat_lt t (length i.seats)) (may_expire_at (seat_at i t).at i t) may).0

    at_variable : (v : ℕ) (o : Option OpenCall) → call_at i v t ≡ o → may_expire_as o i t v ≡ true
        → IsLateAt (Some v) t i j → IsWhole j
    at_variable v None here may late = absurd cc
    at_variable v (Some c) here may (hears, rows, seats) = expires i j t v c h fits here rows seats
        (both_true (sleeps_on c i t) (var_hears (var_at i v) t outside.Expired) may).1 hears

    go : (o : Option ℕ) → (seat_at i t).at ≡ o → may_expire_at o i t ≡ true → IsLateAt o t i j → IsWhole j
    go None at may (x, vars, seats) = deadline_keeps i j t h fits.rows low at vars seats x
    go (Some v) at may x = at_variable v (call_at i v t) refl may x

-- ALL OF THEM

pub all_stays : Always OwnersAgree → StaysWhole
all_stays agree = record {
  asks = λ t lock c i j h may x. ask_keeps i j t lock c h may x;
  calls = λ t v c i j h fits may x. call_keeps agree i j t v c h fits may x;
  steps = step_whole;
  deadlines = late_whole;
}

-- Each step at locks and condition variables is paid for by the steps that were left.
use Rattle.std.proofs.Common.{◌≡◌, ℕ, ◌+◌, ◌<◌, ◌≤◌, ◌==◌, Bool, true, false, not, cond, List, length, Option, Some}
use Rattle.std.proofs.Common.{None, slice_set, refl, sym, ap, ◌∙◌, subst, arith}
use Rattle.std.proofs.lemmas.Option.{same_Some}
use Rattle.parking_lot_core_model.specs.declared.parking.UnparkToken.{UnparkToken}
use Rattle.parking_lot_protocol.specs.declared.act.CoreAnswer.{CoreAnswer}
use Rattle.parking_lot_protocol.specs.declared.act.CoreAnswer.TheVariants as answer
use Rattle.parking_lot_protocol_waits.specs.declared.notify_core.NotifyPhase.{NotifyPhase}
use Rattle.parking_lot_protocol_waits.specs.declared.notify_core.NotifyPhase.TheVariants as n
use Rattle.parking_lot_protocol_waits.specs.declared.wait_act.WaitAnswer.{WaitAnswer}
use Rattle.parking_lot_protocol_waits.specs.declared.wait_act.WaitAnswer.TheVariants as end
use Rattle.parking_lot_protocol_waits.specs.declared.wait_core.WaitPhase.{WaitPhase}
use Rattle.parking_lot_protocol_waits.specs.declared.wait_core.WaitPhase.TheVariants as w
use Rattle.parking_lot_protocol_waits.specs.WaitTable.{begins_again, next_phase}
use Rattle.parking_lot_machine_sides.specs.declared.condvar.calls.CondvarReply.{CondvarReply}
use Rattle.parking_lot_machine_sides.specs.declared.condvar.open_call.Core.{Core}
use Rattle.parking_lot_machine_sides.specs.declared.condvar.open_call.Core.TheVariants as core
use Rattle.parking_lot_machine_sides.specs.declared.condvar.open_call.OpenCall.{OpenCall}
use Rattle.parking_lot_machine_sides.specs.declared.condvar.outside.Outside.{Outside}
use Rattle.parking_lot_machine_sides.specs.declared.condvar.outside.Outside.TheVariants as outside
use Rattle.parking_lot_machine_sides.specs.Condvar.Calls.{reply_by, reply_in_wait}
use Rattle.parking_lot_machine_sides.specs.Condvar.Machines as var
use Rattle.parking_lot_machine_sides.specs.Condvar.Machines.{State as Var, is_left}
use Rattle.parking_lot_machine_sides.specs.Condvar.OwnSteps.{stepped_by}
use Rattle.parking_lot_machine_sides.specs.Condvar.Outsides.{told, told_by, wait_hears}
use Rattle.parking_lot_machine_sides.proofs.CondvarFacts.Slots.{call_here}
use Rattle.parking_lot_machine_calls.specs.declared.calls.LockCall.{LockCall}
use Rattle.parking_lot_machine_calls.specs.declared.calls.LockCall.TheVariants as call
use Rattle.parking_lot_machine_calls.specs.declared.open_call.Call.{Call}
use Rattle.parking_lot_machine_calls.specs.declared.seat.Core.{Core as RowCore}
use Rattle.parking_lot_machine_calls.specs.declared.seat.Core.TheVariants as row_core
use Rattle.parking_lot_machine.specs.Machines as rows
use Rattle.parking_lot_machine.specs.Ranks as row
use Rattle.parking_lot_machine.specs.Rows.{Rows, State, call_at as row_call_at, state}
use Rattle.parking_lot_machine_waits.specs.declared.ended.Ended.{Ended}
use Rattle.parking_lot_machine_waits.specs.declared.seat.Seat.{Seat}
use Rattle.parking_lot_machine_waits.specs.Joint.{Joint, back_number, call_at, front_number, lock_of, number, seat_at}
use Rattle.parking_lot_machine_waits.specs.Joint.{var_at}
use Rattle.parking_lot_machine_waits.specs.JointLaws.{PartsFit}
use Rattle.parking_lot_machine_waits.specs.JointRanks.{is_in_front, left_at_variables, phase_in_front, steps_left}
use Rattle.parking_lot_machine_waits.specs.JointRanks.{stepping_number}
use Rattle.parking_lot_machine_waits.specs.JointSteps.{ActsAt, ComesBackIf, FollowsAs, GoesAtLock, HearsAt, HearsOf}
use Rattle.parking_lot_machine_waits.specs.JointSteps.{IsFollowing, IsGone, IsGoneAt, IsMoving, MovesIn, Turned, freed}
use Rattle.parking_lot_machine_waits.specs.JointSteps.{is_locked, takes_now}
use Rattle.parking_lot_machine_waits.specs.Moving.{NotifiesIn}
use Rattle.parking_lot_machine_waits.specs.Turns.{handed, is_late, notify_turn, retried, turn_by, wait_turn, wait_wakes}
use Rattle.parking_lot_machine_waits.specs.Turns.{wakes_with}
use Rattle.parking_lot_machine_waits.specs.Whole.{AtMutex, Owns, Away, Asks, IsSo, IsWhole, Notifies, Stands, Waits}
use Rattle.parking_lot_machine_waits.specs.Whole.{asks, back_at_end, back_of, front_of}
use Rattle.parking_lot_machine_waits.proofs.RankParts.{acted_there, acts_pay, acts_reply, busy_is, busy_least}
use Rattle.parking_lot_machine_waits.proofs.RankParts.{free_number, hears_pay, idle_most, idle_of, moved_costs}
use Rattle.parking_lot_machine_waits.proofs.RankParts.{number_is, over_idle, same_number, taken_pay, told_there}
use Rattle.parking_lot_machine_waits.proofs.RankParts.{var_changes}

-- WHAT A NUMBER IS THEN

-- one in a call that asks for a mutex, or whose moment has passed, comes back at so much
asks_late : (n : ℕ) (k : RowCore) → asks k ≡ true → row.late_cost n k ≡ 53
asks_late n (row_core.Mutex k) e = refl
asks_late n (row_core.Late p) e = refl
asks_late n (row_core.Rw k) e = absurd cc
asks_late n (row_core.LateRw p) e = absurd cc
asks_late n (row_core.Upgrade k) e = absurd cc

-- in no call, and owning the mutex or nothing of it
abbrev pub Idle : AtMutex → Type 0
Idle a = (s : State) (k m : ℕ) → IsSo a s k m → row_call_at s k ≡ None

pub owns_idle : Idle Owns
owns_idle s k m x = idle_of s k x.0

pub away_idle : Idle Away
away_idle s k m x = idle_of s k x.0

pub end_idle : (a : WaitAnswer) → Idle (back_at_end a)
end_idle end.WrongMutex s k m x = idle_of s k x.0
end_idle end.Woken s k m x = idle_of s k x.0
end_idle end.TimedOut s k m x = idle_of s k x.0
end_idle end.WrongLot s k m x = absurd x

-- one that is listed is in no call at the mutex by the number that is to lock it
pub listed_idle : (c : OpenCall) (p : WaitPhase) → c.listed ≡ true → back_of true p ≡ Away → Idle (back_of c.listed p)
listed_idle c p e away = subst Idle (sym (ap (λ b. back_of b p) e ∙ away)) away_idle

-- one that is woken locks the mutex again, or has it
pub woken_back : (token : UnparkToken) → phase_in_front (begins_again token) ≡ false
woken_back token = go (token.0 == 1)
  where
    go : (b : Bool) → phase_in_front (cond b (w.Ends end.Woken) (w.Locks false)) ≡ false
    go true = refl
    go false = refl

-- a wait that makes its act stays on its side, where it leaves for the mutex
abbrev StaysAs : WaitPhase → Type 0
StaysAs p =
    (s : Var) (t : ℕ) (c : OpenCall) → t < length s.calls → (d : OpenCall)
    × (var.call_at (stepped_by (core.Wait (record { phase = p })) s t c) t ≡ Some d)
    × (is_in_front d.core ≡ phase_in_front p)

rests_stay : (m : ℕ) → StaysAs (w.Rests m)
rests_stay m s t c low = (
  record c { core = core.Wait (record { phase = w.Unlocks m }) },
  call_here s.calls t (Some (record c { core = core.Wait (record { phase = w.Unlocks m }) })) low,
  refl,
)

leaves_stay : (here : Bool) → StaysAs (w.Leaves here)
leaves_stay here s t c low = (
  record c { core = core.Wait (record { phase = w.Locks here }) },
  call_here s.calls t (Some (record c { core = core.Wait (record { phase = w.Locks here }) })) low,
  refl,
)

module _ (i j : Joint) (h : IsWhole i) (fi : PartsFit i) (k : IsWhole j) (fj : PartsFit j) (t : ℕ) where
  -- AT A LOCK

  at_lock : (fair : Bool) (a : Option CoreAnswer) → (seat_at i t).at ≡ None → GoesAtLock t fair a i j
      → steps_left j t + 1 ≤ steps_left i t
  at_lock fair a none g =
      let b = busy_is i t in
      let none_then = subst (λ (ss : List Seat). (seat_at (record j { seats = ss }) t).at ≡ None) (sym g.seats) none in
      omega (
        arith,
        g.step.pays,
        busy_least j k fj.rows t none_then b.0,
        ap (row.steps_left (state j.rows)) (free_number j t none_then),
        ap (row.steps_left (state i.rows)) (free_number i t none),
        ap (λ (ss : List Seat). row.steps_left (state j.rows) (number (record j { seats = ss }) t b.0)) g.seats,
        ap (row.steps_left (state j.rows)) b.1,
        ap (λ vs. left_at_variables (record j { vars = vs })) g.vars,
      )

  -- AT A VARIABLE

  module _ (v : ℕ) (c : OpenCall) (seat : (seat_at i t).at ≡ Some v) (here : call_at i v t ≡ Some c) where
    abbrev front : ℕ
    front = front_number i t

    abbrev back : ℕ
    back = back_number i t

    -- an act at the variable alone, where the number that is stepped is in no call
    acts : (reply : Option CondvarReply) (m : ℕ) → stepping_number i t ≡ m → row_call_at (state i.rows) m ≡ None
        → ActsAt t v reply i j × (j.rows ≡ i.rows) → steps_left j t + 1 ≤ steps_left i t
    acts reply m is none (a, rows) =
        omega (
          arith,
          acts_pay t v reply i j a,
          idle_most (state i.rows) fi.rows m (stepping_number j t) none,
          ap (λ (r : Rows). row.steps_left (state r) (stepping_number j t)) rows,
          ap (row.steps_left (state i.rows)) is,
        )

    -- it hears of an act elsewhere
    hears : (seen : Outside) (m : ℕ) → stepping_number i t ≡ m → row_call_at (state i.rows) m ≡ None
        → HearsAt t v seen i j → j.rows ≡ i.rows → steps_left j t + 1 ≤ steps_left i t
    hears seen m is none a rows =
        omega (
          arith,
          hears_pay t v seen i j a,
          idle_most (state i.rows) fi.rows m (stepping_number j t) none,
          ap (λ (r : Rows). row.steps_left (state r) (stepping_number j t)) rows,
          ap (row.steps_left (state i.rows)) is,
        )

    -- it leaves for the mutex
    leaves : (reply : Option CondvarReply) (m lock : ℕ) (what : LockCall) → stepping_number i t ≡ m
        → stepping_number j t ≡ m → row.cost (length (state i.rows).calls) what + 1 ≤ 116 → ActsAt t v reply i j
        → rows.IsBegun m lock what (state i.rows) (state j.rows)
        → steps_left j t + 1 ≤ steps_left i t
    leaves reply m lock what is then few a begins =
        omega (
          arith,
          acts_pay t v reply i j a,
          begins.costs,
          few,
          ap (row.steps_left (state i.rows)) is,
          ap (row.steps_left (state j.rows)) then,
        )

    -- a step at the mutex, and where the call is over it hears so
    at_mutex : (fair : Bool) (m : ℕ) (a : Option CoreAnswer) → stepping_number i t ≡ m → j.seats ≡ i.seats
        → rows.IsStepped m fair a (state i.rows) (state j.rows) → HearsOf a t v i j
        → steps_left j t + 1 ≤ steps_left i t
    at_mutex fair m None is seats step vars =
        let same = same_number i j t v c c seats seat here
        (ap (λ (vs : List (Option Var)). call_at (record j { vars = vs }) v t) vars ∙ here) refl in
        omega (
          arith,
          step.pays,
          ap (λ (vs : List (Option Var)). left_at_variables (record j { vars = vs })) vars,
          ap (row.steps_left (state i.rows)) is,
          ap (row.steps_left (state j.rows)) (same ∙ is),
        )
    at_mutex fair m (Some a) is seats step told =
        omega (
          arith,
          step.pays,
          hears_pay t v outside.Made i j told,
          idle_most (state j.rows) fj.rows m (stepping_number j t)
              (over_idle (state i.rows) (state j.rows) m fair a step),
          ap (row.steps_left (state i.rows)) is,
        )

    -- a wait that hears of an act elsewhere stays on its side
    hears_stay : (p : WaitPhase) (seen : Outside) → c.core ≡ core.Wait (record { phase = p }) → j.seats ≡ i.seats
        → phase_in_front (next_phase p (wait_hears seen)) ≡ phase_in_front p → HearsAt t v seen i j
        → stepping_number j t ≡ stepping_number i t
    hears_stay p seen is seats side a =
        let (queue, there) = told_there t v seen c i j here a in
        same_number i j t v c (told c queue seen) seats seat here there
        (ap (λ (x : Core). is_in_front (told_by c (is_left queue) seen x).core) is ∙ side ∙ sym (ap is_in_front is))

    module _ (p : WaitPhase) (is : c.core ≡ core.Wait (record { phase = p })) (seats : j.seats ≡ i.seats) where
      -- the wait leaves the variable's section for the mutex
      leaves_as : (reply : Option CondvarReply) (m lock : ℕ) (what : LockCall) → stepping_number i t ≡ m → StaysAs p
          → row.cost (length (state i.rows).calls) what + 1 ≤ 116 → ActsAt t v reply i j
          × rows.IsBegun m lock what (state i.rows) (state j.rows)
          → steps_left j t + 1 ≤ steps_left i t
      leaves_as reply m lock what at stays few (a, begins) =
          let (x, low, there) = acted_there t v reply c i j here a in
          let (d, then, side) = stays x t c low in
          leaves reply m lock what at
          (same_number i j t v c d seats seat here (there ∙ ap (λ (y : Core). var.call_at (stepped_by y x t c) t) is
          ∙ then) (side ∙ sym (ap is_in_front is)) ∙ at)
          few a begins

      -- it hears so at the variable, and keeps its number
      retries : phase_in_front p ≡ false → phase_in_front (next_phase p (wait_hears (wait_wakes p retried))) ≡ false
          → HearsAt t v (wakes_with c.core retried) i j → stepping_number j t ≡ stepping_number i t
      retries back then a = hears_stay p (wakes_with c.core retried) is seats
          (ap (λ (y : Core). phase_in_front (next_phase p (wait_hears (wakes_with y retried)))) is ∙ then ∙ sym back) a

      -- one that was taken off the list goes on
      follows : (fair : Bool) (m : ℕ) → stepping_number i t ≡ m → phase_in_front p ≡ false
          → phase_in_front (next_phase p (wait_hears (wait_wakes p retried))) ≡ false → IsFollowing t v m fair c i j
          → steps_left j t + 1 ≤ steps_left i t
      follows fair m at side then f = go (is_late f.d.core) f.answer f.step f.onward
        where
          is_over : (a : CoreAnswer) → rows.IsStepped m fair (Some a) (state i.rows) f.mid → (state j.rows ≡ f.mid)
              → (seen : Outside) → HearsAt t v seen i j → steps_left j t + 1 ≤ steps_left i t
          is_over a step rows seen told =
              omega (
                arith,
                step.pays,
                hears_pay t v seen i j told,
                ap (λ (s : State). row.steps_left s m) rows,
                idle_most (state j.rows) fj.rows m (stepping_number j t)
                    (ap (λ (s : State). row_call_at s m) rows ∙ over_idle (state i.rows) f.mid m fair a step),
                ap (row.steps_left (state i.rows)) at,
              )

          asks_again : (a : CoreAnswer) → rows.IsStepped m fair (Some a) (state i.rows) f.mid
              → rows.IsBegun m f.d.lock call.Lock f.mid (state j.rows) × HearsAt t v (wakes_with c.core retried) i j
              → steps_left j t + 1 ≤ steps_left i t
          asks_again a step (begins, told) =
              omega (
                arith,
                step.pays,
                begins.costs,
                hears_pay t v (wakes_with c.core retried) i j told,
                ap (row.steps_left (state j.rows)) (retries side then told ∙ at),
                ap (row.steps_left (state i.rows)) at,
              )

          go : (late : Bool) (a : Option CoreAnswer) → rows.IsStepped m fair a (state i.rows) f.mid
              → FollowsAs late a t m v c f.d i f.mid j → steps_left j t + 1 ≤ steps_left i t
          go true None step (rows, vars) =
              let same = same_number i j t v c c seats seat here
              (ap (λ (vs : List (Option Var)). call_at (record j { vars = vs }) v t) vars ∙ here) refl in
              omega (
                arith,
                step.pays,
                ap (λ (s : State). row.steps_left s m) rows,
                ap (λ (vs : List (Option Var)). left_at_variables (record j { vars = vs })) vars,
                ap (row.steps_left (state j.rows)) (same ∙ at),
                ap (row.steps_left (state i.rows)) at,
              )
          go false None step (rows, told) =
              omega (
                arith,
                step.pays,
                hears_pay t v (wakes_with c.core retried) i j told,
                ap (λ (s : State). row.steps_left s m) rows,
                ap (row.steps_left (state j.rows)) (retries side then told ∙ at),
                ap (row.steps_left (state i.rows)) at,
              )
          go true (Some answer.Owned) step (rows, told) = is_over answer.Owned step rows (wakes_with c.core handed) told
          go false (Some answer.Owned) step (rows, told) = is_over answer.Owned step rows (wakes_with c.core handed)
              told
          go true (Some answer.Refused) step x = asks_again answer.Refused step x
          go false (Some answer.Refused) step x = asks_again answer.Refused step x
          go true (Some answer.Released) step x = asks_again answer.Released step x
          go false (Some answer.Released) step x = asks_again answer.Released step x

      -- one whose moment had passed comes back
      comes_back : (m lock : ℕ) (b : Bool) → stepping_number i t ≡ m
          → phase_in_front (next_phase p (wait_hears outside.Made)) ≡ phase_in_front p → IsSo Asks (state i.rows) m lock
          → HearsAt t v outside.Made i j → ComesBackIf b m i j
          → steps_left j t + 1 ≤ steps_left i t
      comes_back m lock true at side asking told x =
          omega (
            arith,
            hears_pay t v outside.Made i j told,
            x.lawful.costs m,
            asks_late (length (state i.rows).calls) x.call.core
                (subst (λ (d : Call). asks d.core ≡ true) (same_Some asking.call x.call (sym asking.here ∙ x.here))
                asking.is),
            ap (row.steps_left (state j.rows)) (hears_stay p outside.Made is seats side told ∙ at),
            ap (row.steps_left (state i.rows)) at,
          )
      comes_back m lock false at side asking told x =
          omega (
            arith,
            hears_pay t v outside.Made i j told,
            ap (λ (r : Rows). row.steps_left (state r) m) x,
            ap (row.steps_left (state j.rows)) (hears_stay p outside.Made is seats side told ∙ at),
            ap (row.steps_left (state i.rows)) at,
          )

      -- it hears that it has left the mutex's section
      resumes : (m : ℕ) → stepping_number i t ≡ m → phase_in_front (next_phase p (wait_hears outside.Made))
          ≡ phase_in_front p → HearsAt t v outside.Made i j × (j.rows ≡ i.rows) → steps_left j t + 1 ≤ steps_left i t
      resumes m at side (told, rows) =
          omega (
            arith,
            hears_pay t v outside.Made i j told,
            ap (λ (r : Rows). row.steps_left (state r) m) rows,
            ap (row.steps_left (state j.rows)) (hears_stay p outside.Made is seats side told ∙ at),
            ap (row.steps_left (state i.rows)) at,
          )

    -- a notification takes waiters, and wakes or moves them
    moves : (m : ℕ) → stepping_number i t ≡ m → row_call_at (state i.rows) m ≡ None → IsMoving t v c i j
        → steps_left j t + 1 ≤ steps_left i t
    moves m at none x = go (var_at i v) refl x.moves x.notifies.0 x.notifies.1 x.notifies.2
      where
        lock : ℕ
        lock = lock_of (var_at i v)

        taken : List ℕ
        taken = takes_now c.call (var_at i v)

        go : (o : Option Var) → var_at i v ≡ o → MovesIn o (is_locked i lock) i.seats lock taken (state i.rows)
            (state j.rows) → (y : Option Var) → NotifiesIn t (is_locked i lock) (length taken) o y
            → j.vars ≡ slice_set i.vars v y
            → steps_left j t + 1 ≤ steps_left i t
        go None is moved y told vars = absurd told
        go (Some a) is moved None told vars = absurd told
        go (Some a) is moved (Some b) told vars =
            omega (
              arith,
              moved_costs (is_locked i lock) i.seats a lock taken (state i.rows) (state j.rows) moved
                  (stepping_number j t),
              idle_most (state i.rows) fi.rows m (stepping_number j t) none,
              var_changes i.vars j.vars v a b is vars,
              told.looks.pays,
              taken_pay t (length taken) told.marked told.taken told.takes,
              told.tells.pays,
              ap (row.steps_left (state i.rows)) at,
            )

    -- BY ITS PHASE

    in_front : (p : WaitPhase) → c.core ≡ core.Wait (record { phase = p }) → phase_in_front p ≡ true
        → stepping_number i t ≡ front
    in_front p is side = number_is i t v c seat here ∙ ap (λ b. cond b front back) (ap is_in_front is ∙ side)

    in_back : (p : WaitPhase) → c.core ≡ core.Wait (record { phase = p }) → phase_in_front p ≡ false
        → stepping_number i t ≡ back
    in_back p is side = number_is i t v c seat here ∙ ap (λ b. cond b front back) (ap is_in_front is ∙ side)

    -- an act before the mutex is given up, and one of a wait that is off the list
    acts_front : (p : WaitPhase) (reply : Option CondvarReply) → c.core ≡ core.Wait (record { phase = p })
        → phase_in_front p ≡ true → Waits i t c p → Idle (front_of p) → ActsAt t v reply i j × (j.rows ≡ i.rows)
        → steps_left j t + 1 ≤ steps_left i t
    acts_front p reply is side s idle x = acts reply front (in_front p is side) (idle (state i.rows) front _ s.front) x

    acts_back : (p : WaitPhase) (reply : Option CondvarReply) → c.core ≡ core.Wait (record { phase = p })
        → phase_in_front p ≡ false → Waits i t c p → Idle (back_of c.listed p) → ActsAt t v reply i j
        × (j.rows ≡ i.rows) → steps_left j t + 1 ≤ steps_left i t
    acts_back p reply is side s idle x = acts reply back (in_back p is side) (idle (state i.rows) back _ s.back) x

    unlisted_asks : (p : WaitPhase) (m : ℕ) → c.listed ≡ false → back_of false p ≡ Asks
        → IsSo (back_of c.listed p) (state i.rows) back m → IsSo Asks (state i.rows) back m
    unlisted_asks p m e asks s = subst (λ (a : AtMutex). IsSo a (state i.rows) back m) (ap (λ b. back_of b p) e ∙ asks)
        s

    module _ (fair : Bool) (reply : Option CondvarReply) (seats : j.seats ≡ freed t reply i.seats) where
      kept : reply ≡ None → j.seats ≡ i.seats
      kept e = seats ∙ ap (λ (r : Option CondvarReply). freed t r i.seats) e

      -- a call that isn't over
      unanswered : (p : WaitPhase) → c.core ≡ core.Wait (record { phase = p }) → reply_in_wait p ≡ None
          → ActsAt t v reply i j → reply ≡ None
      unanswered p is none a = acts_reply t v reply c i j here a ∙ ap (reply_by c.call) is ∙ none

      waits : (listed : Bool) (p : WaitPhase) → c.listed ≡ listed → c.core ≡ core.Wait (record { phase = p })
          → Waits i t c p → Turned (wait_turn listed p) t v fair c reply i j → steps_left j t + 1 ≤ steps_left i t
      waits listed (w.Waiting m) e is s x = absurd x
      waits listed w.Stranger e is s x = absurd x
      waits listed w.GivingWay e is s x = absurd x
      waits listed w.Looks e is s x = absurd x
      waits listed (w.Enters m) e is s x = acts_front (w.Enters m) reply is refl s owns_idle x
      waits listed (w.Checks m) e is s x = acts_front (w.Checks m) reply is refl s owns_idle x
      waits listed w.Retreats e is s x = acts_front w.Retreats reply is refl s owns_idle x
      waits listed (w.Appends m) e is s x = acts_front (w.Appends m) reply is refl s owns_idle x
      waits listed (w.Shows m) e is s x = acts_front (w.Shows m) reply is refl s owns_idle x
      waits listed (w.Rests m) e is s x = leaves_as (w.Rests m) is (kept (unanswered (w.Rests m) is refl x.0)) reply
          front _ call.Unlock (in_front (w.Rests m) is refl) (rests_stay m) (omega arith) x
      waits listed (w.Unlocks m) e is s (none, a, step, heard) = at_mutex fair front a (in_front (w.Unlocks m) is refl)
          (kept none) step heard
      waits true (w.Sleeps m) e is s x = absurd x
      waits false (w.Sleeps m) e is s (none, f) = follows (w.Sleeps m) is (kept none) fair back
          (in_back (w.Sleeps m) is refl) refl refl f
      waits true (w.Expires m) e is s x = acts_back (w.Expires m) reply is refl s (listed_idle c (w.Expires m) e refl) x
      waits false (w.Expires m) e is s (none, heard, x) = comes_back (w.Expires m) is (kept none) back _
          (rows.may_expire (state i.rows) back) (in_back (w.Expires m) is refl) refl
          (unlisted_asks (w.Expires m) _ e refl s.back) heard x
      waits true (w.Quits m) e is s x = acts_back (w.Quits m) reply is refl s (listed_idle c (w.Quits m) e refl) x
      waits false (w.Quits m) e is s (none, f) = follows (w.Quits m) is (kept none) fair back
          (in_back (w.Quits m) is refl) refl refl f
      waits listed w.Forgets e is s x = acts_back w.Forgets reply is refl s away_idle x
      waits listed w.Masks e is s x = absurd x
      waits listed (w.Leaves true) e is s x =
          leaves_as (w.Leaves true) is (kept (unanswered (w.Leaves true) is refl x.0)) reply back _ call.Lock
          (in_back (w.Leaves true) is refl) (leaves_stay true) (omega arith) x
      waits listed (w.Leaves false) e is s x = absurd x
      waits listed (w.Resumes token) e is s (none, heard, rows) = resumes (w.Resumes token) is (kept none) back
          (in_back (w.Resumes token) is refl) (woken_back token) (heard, rows)
      waits listed w.Yields e is s x = absurd x
      waits listed (w.Locks timed_out) e is s (none, a, step, heard) =
          at_mutex fair back a (in_back (w.Locks timed_out) is refl) (kept none) step heard
      waits listed (w.Ends a) e is s x = acts_back (w.Ends a) reply is refl s (end_idle a) x
      waits listed w.Invalid e is s x = absurd x

      -- a notification is stepped by a number that is in no call
      notifies : (p : NotifyPhase) → c.core ≡ core.Notify (record { phase = p }) → Notifies i t p
          → Turned (notify_turn p) t v fair c reply i j → steps_left j t + 1 ≤ steps_left i t
      notifies p is s x = go p x
        where
          at : stepping_number i t ≡ front
          at = number_is i t v c seat here ∙ ap (λ b. cond b front back) (ap is_in_front is)

          none : (b : Bool) → row_call_at (state i.rows) (number i t b) ≡ None
          none true = s.second
          none false = s.first

          idle : row_call_at (state i.rows) front ≡ None
          idle = none (not (seat_at i t).second)

          go : (q : NotifyPhase) → Turned (notify_turn q) t v fair c reply i j → steps_left j t + 1 ≤ steps_left i t
          go (n.Notifying all) x = absurd x
          go (n.Loads all) x = acts reply front at idle x
          go (n.Enters all word) x = acts reply front at idle x
          go (n.Checks all word) x = acts reply front at idle x
          go (n.Marks all) (e, x) = moves front at idle x
          go (n.Moves all locked) x = absurd x
          go (n.MarksRest notice) (e, heard, rows) = hears outside.Made front at idle heard rows
          go (n.Forgets notice) x = acts reply front at idle x
          go (n.Leaves notice) x = acts reply front at idle x
          go (n.Wakes count) (e, heard, rows) = hears outside.Made front at idle heard rows
          go (n.Ends count) x = acts reply front at idle x
          go n.Invalid x = absurd x

      by_core : (k : Core) → c.core ≡ k → Stands i t c k → Turned (turn_by c.listed k) t v fair c reply i j
          → steps_left j t + 1 ≤ steps_left i t
      by_core (core.Wait q) is s x = waits c.listed q.phase refl is s x
      by_core (core.Notify q) is s x = notifies q.phase is s x

  goes_at : (at : Option ℕ) → (seat_at i t).at ≡ at → (fair : Bool) (end : Option Ended) → IsGoneAt at t fair end i j
      → steps_left j t + 1 ≤ steps_left i t
  goes_at None seat fair end (a, g, e) = at_lock fair a seat g
  goes_at (Some v) seat fair end (reply, g, e) = by_core v g.call seat g.here fair reply g.seats g.call.core refl
      (h.stands v t g.call g.here) g.turned

  pub step_pays : (fair : Bool) (end : Option Ended) → IsGone t fair end i j → steps_left j t + 1 ≤ steps_left i t
  step_pays fair end x = goes_at (seat_at i t).at refl fair end x

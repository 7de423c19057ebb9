-- What a call at a condition variable is answered, whatever the schedule.
use Rattle.std.proofs.Common.{◌≡◌, ◌≢◌, ◌⊎◌, inl, inr, ℕ, zero, suc, ◌+◌, ◌<◌, ◌==◌, Bool, true, false, not, cond, ◌&&◌}
use Rattle.std.proofs.Common.{◌||◌, is_some, List, [], ◌∷◌, length, Option, Some, None, slice_get, slice_set, refl, sym}
use Rattle.std.proofs.Common.{ap, ◌∙◌, subst, arith}
use Rattle.std.specs.Option.{option_and_then, option_map, unwrap_or}
use Rattle.std.proofs.lemmas.Bool.{eqb-true, lt-ltb}
use Rattle.std.proofs.lemmas.List.{length-set}
use Rattle.std.proofs.lemmas.Option.{none-some, same_Some}
use Rattle.parking_lot_machine_sides.specs.declared.condvar.calls.CondvarReply.{CondvarReply}
use Rattle.parking_lot_machine_sides.specs.Once.Onces.{Onces}
use Rattle.parking_lot_machine_sides.specs.Once.Onces as onces
use Rattle.parking_lot_machine_sides.specs.declared.once.open_call.OpenCall.{OpenCall}
use Rattle.parking_lot_machine_waits.specs.declared.ended.Ended.{Ended}
use Rattle.parking_lot_machine_waits.specs.declared.seat.Seat.{Seat}
use Rattle.parking_lot_machine_waits.specs.Joint.{Joint, nowhere, number, seat_at}
use Rattle.parking_lot_machine_waits.specs.JointSides.{lock_call}
use Rattle.parking_lot_machine_waits.specs.JointSteps.{IsGoneAt, IsLateAt}
use Rattle.parking_lot_machine_calls.specs.declared.open_call.Call.{Call}
use Rattle.parking_lot_machine.specs.Rows.{State, call_at, state}
use Rattle.parking_lot_world.specs.declared.calls.Asked.{Asked}
use Rattle.parking_lot_world.specs.declared.calls.LockCall.{LockCall}
use Rattle.parking_lot_world.specs.declared.step.WorldStep.TheVariants as step
use Rattle.parking_lot_world.specs.WorldAnswers.{Fits, answer_at}
use Rattle.parking_lot_world.specs.WorldCalls.{asked, of_ended, said}
use Rattle.parking_lot_world.specs.Worlds.{IsAsked, IsFit, IsGone, IsLate, Shown, is_in_once, noted, rows_of}
use Rattle.parking_lot_rules.proofs.Slots.{read_back, set_there}
use Rattle.parking_lot_world.proofs.Whole.{both_ways}
use Rattle.parking_lot_machine_sides.specs.declared.condvar.calls.CondvarCall.{CondvarCall}
use Rattle.parking_lot_machine_sides.specs.declared.condvar.calls.CondvarCall.TheVariants as variable
use Rattle.parking_lot_machine_sides.specs.declared.condvar.calls.CondvarReply.TheVariants as told_as
use Rattle.parking_lot_machine_sides.specs.declared.condvar.open_call.Core.{Core}
use Rattle.parking_lot_machine_sides.specs.declared.condvar.open_call.OpenCall.{OpenCall as Wait}
use Rattle.parking_lot_machine_sides.specs.declared.condvar.outside.Outside.TheVariants as outside
use Rattle.parking_lot_machine_sides.specs.Condvar.Calls.{call_for, is_of_all, reply_by, reply_in_notify, reply_in_wait}
use Rattle.parking_lot_machine_sides.specs.Condvar.Calls.{reply_of}
use Rattle.parking_lot_machine_sides.specs.Condvar.MachineLaws.{MayReply}
use Rattle.parking_lot_machine_sides.specs.Condvar.Machines.{State as Var, call_at as var_call_at, is_left}
use Rattle.parking_lot_machine_sides.specs.Condvar.Outsides.{told, told_by}
use Rattle.parking_lot_protocol_waits.specs.declared.notify_core.NotifyPhase.{NotifyPhase}
use Rattle.parking_lot_protocol_waits.specs.declared.notify_core.NotifyPhase.TheVariants as n
use Rattle.parking_lot_protocol_waits.specs.declared.wait_act.WaitAnswer.{WaitAnswer}
use Rattle.parking_lot_protocol_waits.specs.declared.wait_act.WaitAnswer.TheVariants as ends
use Rattle.parking_lot_protocol_waits.specs.declared.wait_core.WaitPhase.{WaitPhase}
use Rattle.parking_lot_protocol_waits.specs.declared.wait_core.WaitPhase.TheVariants as w
use Rattle.parking_lot_machine_waits.specs.declared.turn.Turn.{Turn}
use Rattle.parking_lot_machine_waits.specs.declared.turn.Turn.TheVariants as turn
use Rattle.parking_lot_machine_waits.specs.Joint.{back_number, call_at as wait_at, call_in, front_number, var_at}
use Rattle.parking_lot_machine_waits.specs.JointLaws.{RepliesFit}
use Rattle.parking_lot_machine_waits.specs.JointSteps.{BeginsIn, GoesAtVariable, HearsAt, Turned}
use Rattle.parking_lot_machine_waits.specs.Turns.{notify_turn, turn_by, turn_of, wait_turn}
use Rattle.parking_lot_machine_waits.specs.Whole.{IsSo, Stands, Waits, back_at_end, front_at_end}
use Rattle.parking_lot_machine_waits.proofs.RankParts.{acts_reply, told_there, var_here}
use Rattle.parking_lot_world.specs.WorldAnswers.{may_tell}
use Rattle.parking_lot_world.specs.WorldCalls.{of_condvar}
use Rattle.parking_lot_world.proofs.Busy.{free_idle, seated_busy}
use Rattle.parking_lot_world.proofs.Following.{Goes, IsOver, answer_gone, answered_fits, elsewhere, not_it, or_not}
use Rattle.parking_lot_world.proofs.Following.{or_so, seats_gone, seats_late, seats_same, seats_set, allowed}
use Rattle.parking_lot_world.proofs.Waiting.{KeepsAt, begun_other, core_late, late_other, same_keeps, turned_itself}
use Rattle.parking_lot_world.proofs.Waiting.{turned_other}

-- WHERE A CALL IS ANSWERED

-- its next turn is an act at its variable
wait_acts : (listed : Bool) (p : WaitPhase) (r : CondvarReply) → reply_in_wait p ≡ Some r
    → wait_turn listed p ≡ turn.Acts
wait_acts listed (w.Ends a) r e = refl
wait_acts listed p r e = absurd (none-some r e)

notify_acts : (all : Bool) (p : NotifyPhase) (r : CondvarReply) → reply_in_notify all p ≡ Some r
    → notify_turn p ≡ turn.Acts
notify_acts all (n.Ends count) r e = refl
notify_acts all p r e = absurd (none-some r e)

core_acts : (c : Wait) (k : Core) (r : CondvarReply) → reply_by c.call k ≡ Some r → turn_by c.listed k ≡ turn.Acts
core_acts c (Core.Wait q) r e = wait_acts c.listed q.phase r e
core_acts c (Core.Notify q) r e = notify_acts (is_of_all c.call) q.phase r e

-- it timed out only where its deadline has come
phase_timed : (p : WaitPhase) → reply_in_wait p ≡ Some told_as.TimedOut → core_late (Core.Wait (record { phase = p }))
    ≡ true
phase_timed (w.Ends ends.TimedOut) e = refl
phase_timed (w.Ends ends.Woken) e = absurd cc
phase_timed (w.Ends ends.WrongMutex) e = absurd cc
phase_timed (w.Ends ends.WrongLot) e = absurd cc
phase_timed p e = absurd (none-some told_as.TimedOut e)

core_timed : (c : Wait) (k : Core) → reply_by c.call k ≡ Some told_as.TimedOut → core_late k ≡ true
core_timed c (Core.Wait q) e = phase_timed q.phase e
core_timed c (Core.Notify q) e = absurd (by (is_of_all c.call) q.phase e)
  where
    by : (all : Bool) (p : NotifyPhase) → reply_in_notify all p ≡ Some told_as.TimedOut → ⊥
    by true (n.Ends count) e = cc
    by false (n.Ends count) e = cc
    by all p e = none-some told_as.TimedOut e

-- and the answer fits
tells : (c : Wait) (d : CondvarCall) (r : CondvarReply) (late : Bool) → c.call ≡ d → MayReply c r
    → (r ≡ told_as.TimedOut → late ≡ true) → may_tell d late (of_condvar r) ≡ true
tells c d r late same may timed = by d r (subst (λ (e : CondvarCall). MayReply (record c { call = e }) r) same may)
    timed
  where
    by : (d : CondvarCall) (r : CondvarReply) → MayReply (record c { call = d }) r
        → (r ≡ told_as.TimedOut → late ≡ true) → may_tell d late (of_condvar r) ≡ true
    by (variable.Wait m) told_as.Woken may timed = refl
    by (variable.Wait m) told_as.TimedOut may timed = absurd cc
    by (variable.Wait m) told_as.WrongMutex may timed = refl
    by (variable.Wait m) (told_as.Flag some) may timed = absurd cc
    by (variable.Wait m) (told_as.Count count) may timed = absurd cc
    by (variable.WaitUntil m) told_as.Woken may timed = refl
    by (variable.WaitUntil m) told_as.TimedOut may timed = ap (λ b. b && true) (timed refl)
    by (variable.WaitUntil m) told_as.WrongMutex may timed = refl
    by (variable.WaitUntil m) (told_as.Flag some) may timed = absurd cc
    by (variable.WaitUntil m) (told_as.Count count) may timed = absurd cc
    by variable.NotifyOne told_as.Woken may timed = absurd may
    by variable.NotifyOne told_as.TimedOut may timed = absurd may.0
    by variable.NotifyOne told_as.WrongMutex may timed = absurd may
    by variable.NotifyOne (told_as.Flag some) may timed = refl
    by variable.NotifyOne (told_as.Count count) may timed = absurd cc
    by variable.NotifyAll told_as.Woken may timed = absurd may
    by variable.NotifyAll told_as.TimedOut may timed = absurd may.0
    by variable.NotifyAll told_as.WrongMutex may timed = absurd may
    by variable.NotifyAll (told_as.Flag some) may timed = absurd cc
    by variable.NotifyAll (told_as.Count count) may timed = refl

-- BY NO NUMBER IS IT IN A CALL THEN

nowhere_now : (o : Option Call) → option_map (λ (c : Call). c.lock) o ≡ None → o ≡ None
nowhere_now None e = refl
nowhere_now (Some c) e = absurd (none-some c.lock (sym e))

front_away : (a : WaitAnswer) (s : State) (k m : ℕ) → IsSo (front_at_end a) s k m → call_at s k ≡ None
front_away ends.WrongMutex s k m so = nowhere_now (call_at s k) so.0
front_away ends.Woken s k m so = nowhere_now (call_at s k) so.0
front_away ends.TimedOut s k m so = nowhere_now (call_at s k) so.0
front_away ends.WrongLot s k m so = absurd so

back_away : (a : WaitAnswer) (s : State) (k m : ℕ) → IsSo (back_at_end a) s k m → call_at s k ≡ None
back_away ends.WrongMutex s k m so = nowhere_now (call_at s k) so.0
back_away ends.Woken s k m so = nowhere_now (call_at s k) so.0
back_away ends.TimedOut s k m so = nowhere_now (call_at s k) so.0
back_away ends.WrongLot s k m so = absurd so

abbrev Away : Joint → ℕ → Type 0
Away j t = (b : Bool) → call_at (state j.rows) (number j t b) ≡ None

by_sides : (j : Joint) (t : ℕ) (second : Bool) → call_at (state j.rows) (number j t (not second)) ≡ None
    → call_at (state j.rows) (number j t second) ≡ None → Away j t
by_sides j t true front back true = back
by_sides j t true front back false = front
by_sides j t false front back true = front
by_sides j t false front back false = back

wait_away : (j : Joint) (t : ℕ) (c : Wait) (p : WaitPhase) (r : CondvarReply) → Waits j t c p → reply_in_wait p ≡ Some r
    → Away j t
wait_away j t c (w.Ends a) r s e = by_sides j t (seat_at j t).second
    (front_away a (state j.rows) (front_number j t) _ s.front) (back_away a (state j.rows) (back_number j t) _ s.back)
wait_away j t c p r s e = absurd (none-some r e)

core_away : (j : Joint) (t : ℕ) (c : Wait) (k : Core) (r : CondvarReply) → Stands j t c k → reply_by c.call k ≡ Some r
    → Away j t
core_away j t c (Core.Wait q) r s e = wait_away j t c q.phase r s e
core_away j t c (Core.Notify q) r s e = λ b. notify_away b
  where
    notify_away : (b : Bool) → call_at (state j.rows) (number j t b) ≡ None
    notify_away true = s.second
    notify_away false = s.first

-- A CALL AT VARIABLE i, BEGUN BY THREAD t

module _ (replies : RepliesFit) (t i : ℕ) (d : CondvarCall) where
  abbrev Over : Shown → Bool → Type 0
  Over x late = IsOver t (may_tell d) x late

  record InWait (x : Shown) (late : Bool) : Type 0 where
    seat : (seat_at x.waits t).at ≡ Some i
    call : Wait
    here : wait_at x.waits i t ≡ Some call
    asks : call.call ≡ d
    in_time : late ≡ false → core_late call.core ≡ false
    unanswered : answer_at x t ≡ None

  carry : (v x : Shown) (late : Bool) (m : InWait v late) → seat_at x.waits t ≡ seat_at v.waits t
      → KeepsAt t v.waits x.waits → answer_at x t ≡ answer_at v t → InWait x late
  carry v x late m seat keeps same =
      let on = keeps i m.call m.here in
      record {
        seat = ap (λ (s : Seat). s.at) seat ∙ m.seat;
        call = on.call;
        here = on.here;
        asks = on.same ∙ m.asks;
        in_time = λ e. on.in_time (m.in_time e);
        unanswered = same ∙ m.unanswered;
      }

  -- THE STEPS OF ANOTHER

  module _ (v x : Shown) (late : Bool) (u : ℕ) (ne : t ≢ u) where
    same_waits : x.waits ≡ v.waits → answer_at x t ≡ answer_at v t → InWait v late → InWait x late
    same_waits e same m = carry v x late m (ap (λ (j : Joint). seat_at j t) e)
        (same_keeps t v.waits x.waits (ap (λ (j : Joint). j.vars) e)) same

    asked_by : (l : ℕ) (call : Asked) → IsAsked u l call v x → answer_at x t ≡ answer_at v t → InWait v late
        → InWait x late
    asked_by l (Asked.OfLock e) (begun, same) answers m =
        carry v x late m (seats_same t (may_tell d) v x begun.seats).seat (same_keeps t v.waits x.waits begun.vars)
        answers
    asked_by l (Asked.OfVariable e) (begun, same) answers m =
        carry v x late m (seats_set t (may_tell d) v x u _ ne begun.seats).seat
        (begun_other t u l e v.waits x.waits ne begun.begins.0 begun.begins.1 begun.begins.2) answers
    asked_by l (Asked.OfOnce e) (begun, same) answers m = same_waits same answers m

    keeps_gone : (at : Option ℕ) (fair : Bool) (end : Option Ended) → IsGoneAt at u fair end v.waits x.waits
        → KeepsAt t v.waits x.waits
    keeps_gone None fair end (a, z, ends) = same_keeps t v.waits x.waits z.vars
    keeps_gone (Some m) fair end (reply, z, ends) = turned_other t v.waits x.waits u m fair z.call reply ne
        (turn_of z.call) z.turned

    gone_by : (fair b : Bool) → IsGone b u fair v x → answer_at x t ≡ answer_at v t → InWait v late → InWait x late
    gone_by fair false (end, gone, same, told) answers m =
        carry v x late m (seats_gone t (may_tell d) v x u (seat_at v.waits u).at fair end ne gone).seat
        (keeps_gone (seat_at v.waits u).at fair end gone) answers
    gone_by fair true (reply, made, same, told) answers m = same_waits same answers m

    keeps_late : (at : Option ℕ) → IsLateAt at u v.waits x.waits → KeepsAt t v.waits x.waits
    keeps_late None (came, vars, seats) = same_keeps t v.waits x.waits vars
    keeps_late (Some m) (hears, same, seats) = late_other t u m outside.Expired v.waits x.waits ne hears

    late_by : IsLate u v x → InWait v late → InWait x late
    late_by (came, same, answers) m =
        carry v x late m (seats_late t (may_tell d) v x u (seat_at v.waits u).at came).seat
        (keeps_late (seat_at v.waits u).at came) (ap (λ xs. option_and_then (λ a. a) (slice_get xs t)) answers)

  -- ITS OWN STEPS

  module _ (v x : Shown) (fit : IsFit v) (late : Bool) (low : t < length v.answers) (m : InWait v late) where
    low_seat : t < length v.waits.seats
    low_seat = omega (arith, low, fit.whole.wait_threads)

    no_once : onces.call_at v.onces t ≡ None
    no_once = fit.whole.apart t (seated_busy v.waits t i (lt-ltb t (length v.waits.seats) low_seat) m.seat)

    goes_on : (fair : Bool) (z : GoesAtVariable t i fair None v.waits x.waits) → answer_at x t ≡ answer_at v t
        → InWait x late
    goes_on fair z answers = carry v x late m (seats_freed_none z.seats)
        (turned_itself t v.waits x.waits i fair z.call (turn_of z.call) z.turned) answers
      where
        seats_freed_none : x.waits.seats ≡ v.waits.seats → seat_at x.waits t ≡ seat_at v.waits t
        seats_freed_none e = ap (λ (ss : List Seat). unwrap_or (slice_get ss t) nowhere) e

    module _ (fair : Bool) (r : CondvarReply) (z : GoesAtVariable t i fair (Some r) v.waits x.waits) where
      mine : z.call ≡ m.call
      mine = same_Some z.call m.call (sym z.here ∙ m.here)

      replied_by : (y : Turn) → Turned y t i fair z.call (Some r) v.waits x.waits → reply_of z.call ≡ Some r
      replied_by turn.Sleeps y = absurd y
      replied_by turn.Acts y = sym (acts_reply t i (Some r) z.call v.waits x.waits z.here y.0)
      replied_by turn.GivesUp y = sym (acts_reply t i (Some r) z.call v.waits x.waits z.here y.0)
      replied_by turn.LocksAgain y = sym (acts_reply t i (Some r) z.call v.waits x.waits z.here y.0)
      replied_by turn.Unlocks y = absurd (none-some r (sym y.0))
      replied_by turn.Locks y = absurd (none-some r (sym y.0))
      replied_by turn.Follows y = absurd (none-some r (sym y.0))
      replied_by turn.ComesBack y = absurd (none-some r (sym y.0))
      replied_by turn.Hears y = absurd (none-some r (sym y.0))
      replied_by turn.Moves y = absurd (none-some r (sym y.0))

      replied : reply_of z.call ≡ Some r
      replied = replied_by (turn_of z.call) z.turned

      rows_same : x.waits.rows ≡ v.waits.rows
      rows_same = (subst (λ y. Turned y t i fair z.call (Some r) v.waits x.waits)
          (core_acts z.call z.call.core r replied) z.turned).1

      away : Away v.waits t
      away = core_away v.waits t z.call z.call.core r (fit.tied.stands i t z.call z.here) replied

      -- its seat is free
      seat_free : seat_at x.waits t ≡ nowhere
      seat_free = ap (λ (ss : List Seat). unwrap_or (slice_get ss t) nowhere) z.seats
          ∙ freed_here v.waits.seats t low_seat
        where
          freed_here : (ss : List Seat) (k : ℕ) → k < length ss → unwrap_or (slice_get (slice_set ss k nowhere) k)
              nowhere ≡ nowhere
          freed_here [] k low = absurd (omega (arith, low))
          freed_here (s ∷ ss) zero low = refl
          freed_here (s ∷ ss) (suc k) low = freed_here ss k (omega (arith, low))

      count : length x.waits.seats ≡ length v.waits.seats
      count = ap (λ (ss : List Seat). length ss) z.seats ∙ length-set v.waits.seats t nowhere

      none_by : (b : Bool) → call_at (rows_of x) (number x.waits t b) ≡ None
      none_by b = ap (λ rs. call_at (state rs) (number x.waits t b)) rows_same
          ∙ ap (λ n. call_at (rows_of v) (cond b (n + t) t)) count ∙ away b

      timed : r ≡ told_as.TimedOut → late ≡ true
      timed e = go late refl
        where
          came : core_late m.call.core ≡ true
          came = core_timed m.call m.call.core (ap reply_of (sym mine) ∙ replied ∙ ap Some e)

          go : (b : Bool) → late ≡ b → late ≡ true
          go true is = is
          go false is = both_ways (core_late m.call.core) came (m.in_time is)

      is_over : x.onces ≡ v.onces → answer_at x t ≡ Some (of_condvar r) → Over x late
      is_over same answers = record {
        idle = free_idle x.waits t (ap (λ (s : Seat). s.at) seat_free) (none_by false) (none_by true);
        out = ap (λ (o : Onces). onces.call_at o t) same ∙ no_once;
        answer = of_condvar r;
        answered = answers;
        fits = tells z.call d r late (ap (λ (c : Wait). c.call) mine ∙ m.asks)
            (replies t i fair r v.waits x.waits (fit.parts.vars i) z) timed;
      }

    gone_itself : (fair : Bool) (at : Option ℕ) → (seat_at v.waits t).at ≡ at → (end : Option Ended)
        → IsGoneAt at t fair end v.waits x.waits → x.onces ≡ v.onces
        → x.answers ≡ noted t (option_map (of_ended (lock_call v.waits t)) end) v.answers → InWait x late ⊎ Over x late
    gone_itself fair None seat end gone same answers = absurd (none-some i (sym seat ∙ m.seat))
    gone_itself fair (Some k) seat end gone same answers = at (same_Some k i (sym seat ∙ m.seat)) gone
      where
        at : k ≡ i → IsGoneAt (Some k) t fair end v.waits x.waits → InWait x late ⊎ Over x late
        at e gone = there (subst (λ n. IsGoneAt (Some n) t fair end v.waits x.waits) e gone)
          where
            there : IsGoneAt (Some i) t fair end v.waits x.waits → InWait x late ⊎ Over x late
            there (None, z, ends) =
                inl (goes_on fair z
                (ap (λ xs. option_and_then (λ a. a) (slice_get xs t))
                (answers ∙ ap (λ e. noted t (option_map (of_ended (lock_call v.waits t)) e) v.answers) ends)))
            there (Some r, z, ends) = inr (is_over fair r z same (
                ap (λ xs. option_and_then (λ a. a) (slice_get xs t))
                (answers ∙ ap (λ e. noted t (option_map (of_ended (lock_call v.waits t)) e) v.answers) ends)
                ∙ set_there v.answers t (Some (of_condvar r)) low
                ))

    goes_itself : (fair b : Bool) → is_in_once v t ≡ b → IsGone b t fair v x → InWait x late ⊎ Over x late
    goes_itself fair true is gone = both_ways (is_in_once v t) is (ap (λ (o : Option OpenCall). is_some o) no_once)
    goes_itself fair false is (end, gone, same, answers) = gone_itself fair (seat_at v.waits t).at refl end gone same
        answers

    -- its deadline
    told_same : (c : Wait) (left : Bool) (k : Core) → (told_by c left outside.Expired k).call ≡ c.call
    told_same c left (Core.Wait q) = refl
    told_same c left (Core.Notify q) = refl

    late_itself : (at : Option ℕ) → (seat_at v.waits t).at ≡ at → IsLateAt at t v.waits x.waits
        → answer_at x t ≡ answer_at v t → InWait x true
    late_itself None seat came answers = absurd (none-some i (sym seat ∙ m.seat))
    late_itself (Some k) seat (hears, same, seats) answers =
        let there = told_there t i outside.Expired m.call v.waits x.waits m.here
        (subst (λ n. HearsAt t n outside.Expired v.waits x.waits) (same_Some k i (sym seat ∙ m.seat)) hears) in
        record {
          seat = ap (λ (ss : List Seat). (unwrap_or (slice_get ss t) nowhere).at) seats ∙ m.seat;
          call = told m.call there.0 outside.Expired;
          here = there.1;
          asks = told_same m.call (is_left there.0) m.call.core ∙ m.asks;
          in_time = λ e. absurd (no e);
          unanswered = answers ∙ m.unanswered;
        }
      where
        no : true ≡ false → ⊥
        no e = cc

    expires_itself : IsLate t v x → InWait x true
    expires_itself (came, same, answers) = late_itself (seat_at v.waits t).at refl came
        (ap (λ xs. option_and_then (λ a. a) (slice_get xs t)) answers)

  -- ANY STEP BUT A BEGINNING OF ITS OWN

  goes_by : (v x : Shown) (late : Bool) (u : ℕ) (fair : Bool) → IsFit v → t < length v.answers
      → IsGone (is_in_once v u) u fair v x → InWait v late → (b : Bool) → (u == t) ≡ b → InWait x late ⊎ Over x late
  goes_by v x late u fair fit low gone m true e = goes_itself v x fit late low m fair (is_in_once v t) refl
      (subst (λ n. IsGone (is_in_once v n) n fair v x) (eqb-true u t e) gone)
  goes_by v x late u fair fit low gone m false e =
      let ne = not_it t (may_tell d) u e in
      inl (gone_by v x late u ne fair (is_in_once v u) gone (answer_gone t (may_tell d) v x u fair ne gone) m)

  lates_by : (v x : Shown) (late : Bool) (u : ℕ) → IsFit v → t < length v.answers → IsLate u v x → InWait v late
      → (b : Bool) → (u == t) ≡ b → InWait x (late || b)
  lates_by v x late u fit low came m true e = subst (InWait x) (sym (or_so t (may_tell d) late))
      (expires_itself v x fit late low m (subst (λ n. IsLate n v x) (eqb-true u t e) came))
  lates_by v x late u fit low came m false e = subst (InWait x) (sym (or_not t (may_tell d) late))
      (late_by v x late u (not_it t (may_tell d) u e) came m)

  abbrev On : Shown → Bool → Type 0
  On x late = InWait x late ⊎ Over x late

  goes : Goes t (may_tell d) InWait
  goes v x late (step.Begin u l call) fit fits low there may (begun, answers, kinds) begins m =
      let ne = not_it t (may_tell d) u begins in
      inl (subst (InWait x) (sym (or_not t (may_tell d) late))
      (asked_by v x late u ne l (asked call) begun
      (ap (λ xs. option_and_then (λ a. a) (slice_get xs t)) answers ∙ elsewhere v.answers t u None ne) m))
  goes v x late (step.Go u fair) fit fits low there may (gone, kinds) begins m =
      subst (On x) (sym (or_not t (may_tell d) late)) (goes_by v x late u fair fit low gone m (u == t) refl)
  goes v x late (step.Deadline u) fit fits low there may (came, kinds) begins m =
      inl (lates_by v x late u fit low came m (u == t) refl)

  -- ITS BEGINNING

  starts_in_time : (e : CondvarCall) → core_late (call_for e).core ≡ false
  starts_in_time (variable.Wait k) = refl
  starts_in_time (variable.WaitUntil k) = refl
  starts_in_time variable.NotifyOne = refl
  starts_in_time variable.NotifyAll = refl

  first : (v x : Shown) → IsFit v → IsFit x → t < length v.answers → IsAsked t i (Asked.OfVariable d) v x
      → x.answers ≡ slice_set v.answers t None → InWait x false
  first v x fit fits low (begun, same) answers = go (fits.tied.sits i t seat)
    where
      low_now : t < length v.waits.seats
      low_now = omega (arith, low, fit.whole.wait_threads)

      seat_now : (ss : List Seat) (k : ℕ) (s : Seat) → k < length ss → unwrap_or (slice_get (slice_set ss k s) k)
          nowhere ≡ s
      seat_now [] k s low = absurd (omega (arith, low))
      seat_now (y ∷ ss) zero s low = refl
      seat_now (y ∷ ss) (suc k) s low = seat_now ss k s (omega (arith, low))

      seat : (seat_at x.waits t).at ≡ Some i
      seat = ap (λ (ss : List Seat). (unwrap_or (slice_get ss t) nowhere).at) begun.seats
          ∙ ap (λ (s : Seat). s.at) (seat_now v.waits.seats t _ low_now)

      -- its call is the one that has begun
      begun_call : (o : Option Var) → var_at v.waits i ≡ o → (y : Option Var) → BeginsIn t d o y
          → x.waits.vars ≡ slice_set v.waits.vars i y → (c : Wait) → wait_at x.waits i t ≡ Some c → c ≡ call_for d
      begun_call None at y begins e c here = absurd begins
      begun_call (Some z) at None begins e c here = absurd begins
      begun_call (Some z) at (Some y) begins e c here =
          sym (same_Some (call_for d) c (read_back z.calls t (Some (call_for d)) c (
          sym (ap (λ (o : Option Var). call_in o t) (var_here v.waits.vars x.waits.vars i z y at e)
          ∙ ap (λ (q : Var). var_call_at q t) begins.became) ∙ here
          )))

      go : (c : Wait) × (wait_at x.waits i t ≡ Some c) → InWait x false
      go (c, here) =
          let is = begun_call (var_at v.waits i) refl begun.begins.0 begun.begins.1 begun.begins.2 c here in
          record {
            seat = seat;
            call = c;
            here = here;
            asks = ap (λ (o : Wait). o.call) is;
            in_time = λ e. ap (λ (o : Wait). core_late o.core) is ∙ starts_in_time d;
            unanswered = ap (λ xs. option_and_then (λ a. a) (slice_get xs t)) answers ∙ set_there v.answers t None low;
          }

  pub begun_fits : (asks : LockCall) → asked asks ≡ Asked.OfVariable d → Fits (may_tell d) t i asks
  begun_fits asks is v x steps a fit (mid, ok, (begun, answers, kinds), fits, rest) begins said =
      let may = allowed t (may_tell d) v (step.Begin t i asks) ok in
      let m = first v mid fit fits may.0 (subst (λ q. IsAsked t i q v mid) is begun) answers in
      let many = ap (λ xs. length xs) answers ∙ length-set v.answers t None in
      answered_fits t (may_tell d) InWait goes (λ y late k. k.unanswered) mid x steps a fits
      (omega (arith, may.0, many)) m rest begins said

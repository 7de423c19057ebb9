-- Whoever gives its mutex up stays out of sections by its other number.
use Rattle.std.proofs.Common.{◌≡◌, ◌≢◌, inl, inr, ℕ, ◌+◌, ◌*◌, ◌<◌, ◌&&◌, Bool, true, false, not, cond, nat_lt}
use Rattle.std.proofs.Common.{List, length, Option, Some, None, slice_get, slice_set, refl, sym, ap, ◌∙◌, subst, arith}
use Rattle.std.specs.Option.{unwrap_or}
use Rattle.std.proofs.lemmas.Bool.{cases_eq, ltb-true}
use Rattle.std.proofs.lemmas.List.{length-set}
use Rattle.std.proofs.lemmas.Option.{none-some, same_Some}
use Rattle.parking_lot_core_model.specs.declared.parking.UnparkToken.{UnparkToken}
use Rattle.parking_lot_protocol.specs.declared.act.CoreAnswer.{CoreAnswer}
use Rattle.parking_lot_protocol.specs.declared.act.CoreAnswer.TheVariants as answer
use Rattle.parking_lot_protocol_waits.specs.declared.notify_core.NotifyPhase.{NotifyPhase}
use Rattle.parking_lot_protocol_waits.specs.declared.notify_core.NotifyPhase.TheVariants as n
use Rattle.parking_lot_protocol_waits.specs.declared.wait_act.WaitAnswer.{WaitAnswer}
use Rattle.parking_lot_protocol_waits.specs.declared.wait_act.WaitAnswer.TheVariants as end
use Rattle.parking_lot_protocol_waits.specs.declared.wait_core.WaitPhase.{WaitPhase}
use Rattle.parking_lot_protocol_waits.specs.declared.wait_core.WaitPhase.TheVariants as w
use Rattle.parking_lot_protocol_waits.specs.WaitTable.{next_phase}
use Rattle.parking_lot_machine_sides.specs.declared.condvar.calls.CondvarCall.{CondvarCall}
use Rattle.parking_lot_machine_sides.specs.declared.condvar.calls.CondvarReply.{CondvarReply}
use Rattle.parking_lot_machine_sides.specs.declared.condvar.open_call.Core.{Core}
use Rattle.parking_lot_machine_sides.specs.declared.condvar.open_call.Core.TheVariants as core
use Rattle.parking_lot_machine_sides.specs.declared.condvar.open_call.OpenCall.{OpenCall}
use Rattle.parking_lot_machine_sides.specs.declared.condvar.outside.Outside.{Outside}
use Rattle.parking_lot_machine_sides.specs.declared.condvar.outside.Outside.TheVariants as outside
use Rattle.parking_lot_machine_sides.specs.Condvar.Machines.{State as Var, is_left}
use Rattle.parking_lot_machine_sides.specs.Condvar.Outsides.{told, told_by, wait_hears}
use Rattle.parking_lot_machine_sides.proofs.CondvarFacts.Slots.{within}
use Rattle.parking_lot_rules.proofs.Indexed.{get-set_other}
use Rattle.parking_lot_machine_calls.specs.declared.calls.LockCall.{LockCall}
use Rattle.parking_lot_machine_calls.specs.declared.calls.LockCall.TheVariants as call
use Rattle.parking_lot_machine_calls.specs.declared.open_call.Call.{Call}
use Rattle.parking_lot_machine.specs.Machines as rows
use Rattle.parking_lot_machine.specs.RowFits.{FitsTogether, SeatedIn}
use Rattle.parking_lot_machine.specs.Rows.{Rows, State, call_at as row_call_at, state}
use Rattle.parking_lot_machine_waits.specs.declared.ended.Ended.{Ended}
use Rattle.parking_lot_machine_waits.specs.declared.seat.Seat.{Seat}
use Rattle.parking_lot_machine_waits.specs.Joint.{Joint, back_number, busy_number, call_at, call_in, front_number}
use Rattle.parking_lot_machine_waits.specs.Joint.{lock_of, nowhere, number, seat_at, var_at}
use Rattle.parking_lot_machine_waits.specs.JointLaws.{PartsFit}
use Rattle.parking_lot_machine_waits.specs.JointProgress.{GiversAreOut, GiversStayOut}
use Rattle.parking_lot_machine_waits.specs.JointRanks.{is_in_front, phase_in_front}
use Rattle.parking_lot_machine_waits.specs.JointSteps.{ActsAt, BeginsIn, ComesBackIf, FollowsAs, GoesAtLock, HearsAt}
use Rattle.parking_lot_machine_waits.specs.JointSteps.{HearsOf, IsAsked, IsCalled, IsFollowing, IsGoneAt, IsLateAt}
use Rattle.parking_lot_machine_waits.specs.JointSteps.{IsMoving, MovesIn, Turned, freed, is_locked, takes_now}
use Rattle.parking_lot_machine_waits.specs.JointSteps.{waits_by_second}
use Rattle.parking_lot_machine_waits.specs.Moving.{NotifiesIn}
use Rattle.parking_lot_machine_waits.specs.Turns.{handed, is_late, notify_turn, retried, turn_by, wait_turn, wait_wakes}
use Rattle.parking_lot_machine_waits.specs.Turns.{wakes_with}
use Rattle.parking_lot_machine_waits.specs.Whole.{IsWhole, Notifies, Stands, Waits, back_of, front_at_end, front_of}
use Rattle.parking_lot_machine_waits.proofs.Hearing.{both_true}
use Rattle.parking_lot_machine_waits.proofs.Moves.{apart}
use Rattle.parking_lot_machine_waits.proofs.Ranking.{Idle, away_idle, end_idle, listed_idle, owns_idle, woken_back}
use Rattle.parking_lot_machine_waits.proofs.RankOthers.{free_of, middle}
use Rattle.parking_lot_machine_waits.proofs.RankParts.{busy_is, idle_of, told_there}
use Rattle.parking_lot_machine_waits.proofs.Sections.{NobodyComes, Opens, OthersAt, acted_others, begun_others}
use Rattle.parking_lot_machine_waits.proofs.Sections.{heard_others, inside}
use Rattle.parking_lot_machine_waits.proofs.Sections.{moved_shut, none_comes, notified_others, same_others, stays_open}
use Rattle.parking_lot_machine_waits.proofs.Sections.{step_opens, var_elsewhere, var_others}

-- one in no call is in no section
idle_out : (s : State) → FitsTogether s → (k : ℕ) → k < length s.calls → row_call_at s k ≡ None → inside s k ≡ None
idle_out s fits k low none = (subst (λ (o : Option Call). SeatedIn s.lot k o) none (fits.lots.seated k low)).1

-- where it ends neither number is in a call
end_front_idle : (a : WaitAnswer) → Idle (front_at_end a)
end_front_idle end.WrongMutex s k m x = idle_of s k x.0
end_front_idle end.Woken s k m x = idle_of s k x.0
end_front_idle end.TimedOut s k m x = idle_of s k x.0
end_front_idle end.WrongLot s k m x = absurd x

number_low : (n t : ℕ) (b : Bool) → t < n → cond b (n + t) t < 2 * n
number_low n t true low = omega (arith, low)
number_low n t false low = omega (arith, low)

own_apart : (n t : ℕ) (b : Bool) → t < n → cond b (n + t) t ≢ cond (not b) (n + t) t
own_apart n t true low e = omega (arith, low, e)
own_apart n t false low e = omega (arith, low, e)

-- a number by a thread's flag, or by the other
of_both : (P : Bool → Type 0) (second b : Bool) → P second → P (not second) → P b
of_both P true true x y = x
of_both P true false x y = y
of_both P false true x y = y
of_both P false false x y = x

-- whoever gives its mutex up is in front
not_giving : {X : Type 0} (k : Core) (m : ℕ) → is_in_front k ≡ false → k ≡ core.Wait (record { phase = w.Unlocks m })
    → X
not_giving k m side is = absurd (different (sym (ap is_in_front is) ∙ side))
  where
    different : true ≡ false → ⊥
    different e = cc

module _ (i j : Joint) (h : IsWhole i) (fi : PartsFit i) (out : GiversAreOut i) (t : ℕ) (low : t < length i.seats) where
  abbrev OutHere : Type 0
  OutHere = (v m : ℕ) (c : OpenCall) → call_at j v t ≡ Some c → c.core ≡ core.Wait (record { phase = w.Unlocks m })
      → inside (state j.rows) (back_number j t) ≡ None

  -- it is enough that one number of the thread has stepped, and the thread is out itself
  frame : (b : Bool) → Opens (number i t b) (inside (state i.rows)) (inside (state j.rows)) → OthersAt t i j
      → ((u : ℕ) → u ≢ t → back_number j u ≡ back_number i u) → OutHere → GiversAreOut j
  frame b opens others backs own v u m c here is = elim (cases_eq u t) [
    | inl same ↦ ap (λ x. inside (state j.rows) (back_number j x)) same
        ∙ own v m c (sym (ap (call_at j v) same) ∙ here) is
    | inr ne ↦ theirs ne
  ]
    where
      theirs : u ≢ t → inside (state j.rows) (back_number j u) ≡ None
      theirs ne =
          let (d, then, core) = others v u c ne here in
          opens (back_number j u) (ap (inside (state i.rows)) (backs u ne) ∙ out v u m d then (core ∙ is))
          (λ e. apart (length i.seats) u t (seat_at i u).second b (low_at v u d then) low ne (sym (backs u ne) ∙ e))
        where
          low_at : (v u : ℕ) (d : OpenCall) → call_at i v u ≡ Some d → u < length i.seats
          low_at v u d then = go (var_at i v) refl then
            where
              go : (o : Option Var) → var_at i v ≡ o → call_in o u ≡ Some d → u < length i.seats
              go None at e = absurd (none-some d e)
              go (Some x) at e = subst (λ m. u < m) (h.threads v x at) (within x.calls u d e)

  same_backs : j.seats ≡ i.seats → (u : ℕ) → back_number j u ≡ back_number i u
  same_backs e u = ap (λ (ss : List Seat). cond (unwrap_or (slice_get ss u) nowhere).second (length ss + u) u) e

  set_backs : (z : Seat) → j.seats ≡ slice_set i.seats t z → (u : ℕ) → u ≢ t → back_number j u ≡ back_number i u
  set_backs z e u ne =
      ap (λ (ss : List Seat). cond (unwrap_or (slice_get ss u) nowhere).second (length ss + u) u) e
      ∙ ap (λ m. cond (unwrap_or (slice_get (slice_set i.seats t z) u) nowhere).second (m + u) u)
      (length-set i.seats t z)
      ∙ ap (λ (o : Option Seat). cond (unwrap_or o nowhere).second (length i.seats + u) u)
      (get-set_other i.seats t u z (λ x. ne (sym x)))

  -- both numbers are in no call, and nobody has come in
  idle_here : length j.seats ≡ length i.seats → ((b : Bool) → row_call_at (state i.rows) (number i t b) ≡ None)
      → NobodyComes (inside (state i.rows)) (inside (state j.rows)) → OutHere
  idle_here sizes idle quiet v m c here is =
      let b = (seat_at j t).second in
      quiet (back_number j t) (ap (λ m. inside (state i.rows) (cond b (m + t) t)) sizes
      ∙ idle_out (state i.rows) fi.rows (number i t b)
      (subst (λ m. number i t b < m) (sym h.numbers) (number_low (length i.seats) t b low)) (idle b))

  -- one that had no seat has none
  unseated_here : (seat_at i t).at ≡ None → j.vars ≡ i.vars → OutHere
  unseated_here seat vars v m c here is =
      let (d, then, core) = same_call v c here in
      absurd (none-some v (sym seat ∙ h.seated v t d then))
    where
      same_call : (v : ℕ) (c : OpenCall) → call_at j v t ≡ Some c → (d : OpenCall) × (call_at i v t ≡ Some d)
          × (d.core ≡ c.core)
      same_call v c here = (
        c,
        sym (ap (λ (vs : List (Option Var)). call_at (record j { vars = vs }) v t) vars) ∙ here,
        refl,
      )

  -- ONE WITH A SEAT

  module _ (v : ℕ) (c : OpenCall) (seat : (seat_at i t).at ≡ Some v) (here : call_at i v t ≡ Some c) where
    -- at no other variable it is in a call
    only_here : {X : Type 0} (u : ℕ) (d : OpenCall) → u ≢ v → call_at i u t ≡ Some d → X
    only_here u d ne there = absurd (ne (same_Some u v (sym (h.seated u t d there) ∙ seat)))

    -- its call goes on, and it isn't giving its mutex up
    same_not : j.vars ≡ i.vars → is_in_front c.core ≡ false → OutHere
    same_not vars side u m d there is = elim (cases_eq u v) [
      | inl e ↦ not_giving d.core m
          (ap (λ (x : OpenCall). is_in_front x.core) (same_Some d c (sym then ∙ ap (λ x. call_at i x t) e ∙ here))
          ∙ side) is
      | inr ne ↦ only_here u d ne then
    ]
      where
        then : call_at i u t ≡ Some d
        then = sym (ap (λ (vs : List (Option Var)). call_at (record j { vars = vs }) u t) vars) ∙ there

    heard_not : (seen : Outside) → HearsAt t v seen i j
        → ((queue : List ℕ) → is_in_front (told c queue seen).core ≡ false) → OutHere
    heard_not seen heard side u m d there is = elim (cases_eq u v) [
      | inl e ↦
          let then = told_there t v seen c i j here heard in
          not_giving d.core m
          (ap (λ (x : OpenCall). is_in_front x.core)
          (same_Some d (told c then.0 seen) (sym there ∙ ap (λ x. call_at j x t) e ∙ then.1)) ∙ side then.0) is
      | inr ne ↦ only_here u d ne
          (sym (ap (λ (o : Option Var). call_in o t) (var_elsewhere i.vars j.vars v u heard.0 heard.2 ne)) ∙ there)
    ]

    rows_same : j.rows ≡ i.rows → inside (state j.rows) ≡ inside (state i.rows)
    rows_same e = ap (λ (r : Rows). inside (state r)) e

    module _ (reply : Option CondvarReply) (seats : j.seats ≡ freed t reply i.seats) where
      backs : (u : ℕ) → u ≢ t → back_number j u ≡ back_number i u
      backs = go reply seats
        where
          go : (r : Option CondvarReply) → j.seats ≡ freed t r i.seats → (u : ℕ) → u ≢ t
              → back_number j u ≡ back_number i u
          go None e u ne = same_backs e u
          go (Some r) e u ne = set_backs nowhere e u ne

      sizes : length j.seats ≡ length i.seats
      sizes = go reply seats
        where
          go : (r : Option CondvarReply) → j.seats ≡ freed t r i.seats → length j.seats ≡ length i.seats
          go None e = ap length e
          go (Some r) e = ap length e ∙ length-set i.seats t nowhere

      -- an act of one whose numbers are in no call
      idle_acts : ((b : Bool) → row_call_at (state i.rows) (number i t b) ≡ None) → OthersAt t i j
          → NobodyComes (inside (state i.rows)) (inside (state j.rows)) → GiversAreOut j
      idle_acts idle others quiet = frame true (λ k none ne. quiet k none) others backs (idle_here sizes idle quiet)

      -- a wait's numbers
      both_idle : (p : WaitPhase) → Waits i t c p → Idle (front_of p) → Idle (back_of c.listed p) → (b : Bool)
          → row_call_at (state i.rows) (number i t b) ≡ None
      both_idle p x front back b = of_both (λ y. row_call_at (state i.rows) (number i t y) ≡ None) (seat_at i t).second
          b (back _ _ _ x.back) (front _ _ _ x.front)

      acts : (p : WaitPhase) → Waits i t c p → Idle (front_of p) → Idle (back_of c.listed p) → (r : Option CondvarReply)
          → ActsAt t v r i j → inside (state j.rows) ≡ inside (state i.rows) → GiversAreOut j
      acts p x front back r a same =
          idle_acts (both_idle p x front back) (acted_others t v r i j a) (none_comes _ _ same)

      module _ (none : reply ≡ None) where
        kept : j.seats ≡ i.seats
        kept = seats ∙ ap (λ (r : Option CondvarReply). freed t r i.seats) none

        others_of : (a : Option CoreAnswer) → HearsOf a t v i j → OthersAt t i j
        others_of None vars = same_others t i j vars
        others_of (Some a) heard = heard_others t v outside.Made i j heard

        -- it gives its mutex up: the other number makes no step
        at_front : (fair : Bool) (a : Option CoreAnswer) (m : ℕ) → c.core ≡ core.Wait (record { phase = w.Unlocks m })
            → rows.IsStepped (front_number i t) fair a (state i.rows) (state j.rows) → HearsOf a t v i j
            → GiversAreOut j
        at_front fair a m is step heard = frame (not (seat_at i t).second) (step_opens _ _ _ fair a step)
            (others_of a heard) backs own
          where
            own : OutHere
            own u q d there giving = step_opens _ _ _ fair a step (back_number j t)
                (ap (inside (state i.rows)) (same_backs kept t) ∙ out v t m c here is)
                (λ e. own_apart (length i.seats) t (seat_at i t).second low (sym (same_backs kept t) ∙ e))

        module _ (p : WaitPhase) (is : c.core ≡ core.Wait (record { phase = p })) (side : phase_in_front p ≡ false)
          where
            told_not : (seen : Outside) → phase_in_front (next_phase p (wait_hears seen)) ≡ false → HearsAt t v seen i j
                → OutHere
            told_not seen then heard =
                heard_not seen heard (λ queue. ap (λ (x : Core). is_in_front (told_by c (is_left queue) seen x).core) is
                ∙ then)

            woken_not : (token : UnparkToken) → phase_in_front (next_phase p (wait_hears (wait_wakes p token))) ≡ false
                → HearsAt t v (wakes_with c.core token) i j → OutHere
            woken_not token then heard = heard_not (wakes_with c.core token) heard
                (λ queue. ap (λ (x : Core). is_in_front (told_by c (is_left queue) (wakes_with x token) x).core) is
                ∙ then)

            not_now : j.vars ≡ i.vars → OutHere
            not_now vars = same_not vars (ap is_in_front is ∙ side)

            -- it locks the mutex again
            at_back : (fair : Bool) (a : Option CoreAnswer) → phase_in_front (next_phase p (wait_hears outside.Made))
                ≡ false → rows.IsStepped (back_number i t) fair a (state i.rows) (state j.rows) → HearsOf a t v i j
                → GiversAreOut j
            at_back fair None then step vars = frame (seat_at i t).second (step_opens _ _ _ fair None step)
                (same_others t i j vars) backs (not_now vars)
            at_back fair (Some a) then step heard = frame (seat_at i t).second (step_opens _ _ _ fair (Some a) step)
                (heard_others t v outside.Made i j heard) backs (told_not outside.Made then heard)

            -- it follows to the mutex's list
            follows : (fair : Bool) → phase_in_front (next_phase p (wait_hears (wait_wakes p retried))) ≡ false
                → phase_in_front (next_phase p (wait_hears (wait_wakes p handed))) ≡ false
                → IsFollowing t v (back_number i t) fair c i j → GiversAreOut j
            follows fair again had f = go (is_late f.d.core) f.answer f.onward
              where
                by : inside (state j.rows) ≡ inside f.mid → OthersAt t i j → OutHere → GiversAreOut j
                by same others own =
                    frame (seat_at i t).second
                    (λ k none ne. ap (λ (g : ℕ → Option ℕ). g k) same ∙ step_opens _ _ _ fair f.answer f.step k none
                    ne) others
                    backs own

                owned : (state j.rows ≡ f.mid) × HearsAt t v (wakes_with c.core handed) i j → GiversAreOut j
                owned (e, heard) = by (ap inside e) (heard_others t v _ i j heard) (woken_not handed had heard)

                asks_again : rows.IsBegun (back_number i t) f.d.lock call.Lock f.mid (state j.rows)
                    × HearsAt t v (wakes_with c.core retried) i j → GiversAreOut j
                asks_again (begins, heard) = by (ap inside begins.became) (heard_others t v _ i j heard)
                    (woken_not retried again heard)

                go : (late : Bool) (a : Option CoreAnswer) → FollowsAs late a t (back_number i t) v c f.d i f.mid j
                    → GiversAreOut j
                go true None (e, vars) = by (ap inside e) (same_others t i j vars) (not_now vars)
                go false None (e, heard) = by (ap inside e) (heard_others t v _ i j heard)
                    (woken_not retried again heard)
                go true (Some answer.Owned) x = owned x
                go false (Some answer.Owned) x = owned x
                go true (Some answer.Refused) x = asks_again x
                go false (Some answer.Refused) x = asks_again x
                go true (Some answer.Released) x = asks_again x
                go false (Some answer.Released) x = asks_again x

            -- it hears of an act elsewhere, and no section is another
            hears : phase_in_front (next_phase p (wait_hears outside.Made)) ≡ false → HearsAt t v outside.Made i j
                → inside (state j.rows) ≡ inside (state i.rows) → GiversAreOut j
            hears then heard same = frame true (stays_open _ _ _ same) (heard_others t v outside.Made i j heard) backs
                (told_not outside.Made then heard)

      comes_same : (b : Bool) → ComesBackIf b (back_number i t) i j → inside (state j.rows) ≡ inside (state i.rows)
      comes_same true x = ap inside x.became
      comes_same false e = rows_same e

      waits : (fair listed : Bool) (p : WaitPhase) → c.listed ≡ listed → c.core ≡ core.Wait (record { phase = p })
          → Waits i t c p → Turned (wait_turn listed p) t v fair c reply i j → GiversAreOut j
      waits fair listed (w.Waiting m) e is s x = absurd x
      waits fair listed w.Stranger e is s x = absurd x
      waits fair listed w.GivingWay e is s x = absurd x
      waits fair listed w.Looks e is s x = absurd x
      waits fair listed (w.Enters m) e is s (a, r) = acts (w.Enters m) s owns_idle away_idle reply a (rows_same r)
      waits fair listed (w.Checks m) e is s (a, r) = acts (w.Checks m) s owns_idle away_idle reply a (rows_same r)
      waits fair listed w.Retreats e is s (a, r) = acts w.Retreats s owns_idle away_idle reply a (rows_same r)
      waits fair listed (w.Appends m) e is s (a, r) = acts (w.Appends m) s owns_idle away_idle reply a (rows_same r)
      waits fair listed (w.Shows m) e is s (a, r) = acts (w.Shows m) s owns_idle away_idle reply a (rows_same r)
      waits fair listed (w.Rests m) e is s (a, begins) = acts (w.Rests m) s owns_idle away_idle reply a
          (ap inside begins.became)
      waits fair listed (w.Unlocks m) e is s (none, a, step, heard) = at_front none fair a m is step heard
      waits fair true (w.Sleeps m) e is s x = absurd x
      waits fair false (w.Sleeps m) e is s (none, f) = follows none (w.Sleeps m) is refl fair refl refl f
      waits fair true (w.Expires m) e is s (a, r) = acts (w.Expires m) s away_idle (listed_idle c (w.Expires m) e refl)
          reply a (rows_same r)
      waits fair false (w.Expires m) e is s (none, heard, x) = hears none (w.Expires m) is refl refl heard
          (comes_same _ x)
      waits fair true (w.Quits m) e is s (a, r) = acts (w.Quits m) s away_idle (listed_idle c (w.Quits m) e refl) reply
          a (rows_same r)
      waits fair false (w.Quits m) e is s (none, f) = follows none (w.Quits m) is refl fair refl refl f
      waits fair listed w.Forgets e is s (a, r) = acts w.Forgets s away_idle away_idle reply a (rows_same r)
      waits fair listed w.Masks e is s x = absurd x
      waits fair listed (w.Leaves true) e is s (a, begins) = acts (w.Leaves true) s away_idle away_idle reply a
          (ap inside begins.became)
      waits fair listed (w.Leaves false) e is s x = absurd x
      waits fair listed (w.Resumes token) e is s (none, heard, r) = hears none (w.Resumes token) is refl
          (woken_back token) heard (rows_same r)
      waits fair listed w.Yields e is s x = absurd x
      waits fair listed (w.Locks true) e is s (none, a, step, heard) = at_back none (w.Locks true) is refl fair a refl
          step heard
      waits fair listed (w.Locks false) e is s (none, a, step, heard) = at_back none (w.Locks false) is refl fair a refl
          step heard
      waits fair listed (w.Ends a) e is s (acted, r) = acts (w.Ends a) s (end_front_idle a) (end_idle a) reply acted
          (rows_same r)
      waits fair listed w.Invalid e is s x = absurd x

      -- ONE THAT NOTIFIES

      none_called : (p : NotifyPhase) → Notifies i t p → (b : Bool) → row_call_at (state i.rows) (number i t b) ≡ None
      none_called p s true = s.second
      none_called p s false = s.first

      moves : ((b : Bool) → row_call_at (state i.rows) (number i t b) ≡ None) → IsMoving t v c i j → GiversAreOut j
      moves idle x = go (var_at i v) refl x.moves x.notifies.0 x.notifies.1 x.notifies.2
        where
          lock : ℕ
          lock = lock_of (var_at i v)

          taken : List ℕ
          taken = takes_now c.call (var_at i v)

          go : (o : Option Var) → var_at i v ≡ o → MovesIn o (is_locked i lock) i.seats lock taken (state i.rows)
              (state j.rows) → (y : Option Var) → NotifiesIn t (is_locked i lock) (length taken) o y
              → j.vars ≡ slice_set i.vars v y → GiversAreOut j
          go None at moved y tells vars = absurd tells
          go (Some a) at moved None tells vars = absurd tells
          go (Some a) at moved (Some b) tells vars =
              idle_acts idle (var_others t v i j a b at vars
              (notified_others t (is_locked i lock) (length taken) a b tells))
              (moved_shut (is_locked i lock) i.seats a lock taken (state i.rows) (state j.rows) moved)

      notifies : (fair : Bool) (p : NotifyPhase) → ((b : Bool) → row_call_at (state i.rows) (number i t b) ≡ None)
          → Turned (notify_turn p) t v fair c reply i j → GiversAreOut j
      notifies fair (n.Notifying all) idle x = absurd x
      notifies fair (n.Loads all) idle (a, r) =
          idle_acts idle (acted_others t v reply i j a) (none_comes _ _ (rows_same r))
      notifies fair (n.Enters all word) idle (a, r) =
          idle_acts idle (acted_others t v reply i j a) (none_comes _ _ (rows_same r))
      notifies fair (n.Checks all word) idle (a, r) =
          idle_acts idle (acted_others t v reply i j a) (none_comes _ _ (rows_same r))
      notifies fair (n.Marks all) idle (none, x) = moves idle x
      notifies fair (n.Moves all locked) idle x = absurd x
      notifies fair (n.MarksRest notice) idle (none, heard, r) =
          idle_acts idle (heard_others t v outside.Made i j heard) (none_comes _ _ (rows_same r))
      notifies fair (n.Forgets notice) idle (a, r) =
          idle_acts idle (acted_others t v reply i j a) (none_comes _ _ (rows_same r))
      notifies fair (n.Leaves notice) idle (a, r) =
          idle_acts idle (acted_others t v reply i j a) (none_comes _ _ (rows_same r))
      notifies fair (n.Wakes count) idle (none, heard, r) = idle_acts idle (heard_others t v outside.Made i j heard)
          (none_comes _ _ (rows_same r))
      notifies fair (n.Ends count) idle (a, r) =
          idle_acts idle (acted_others t v reply i j a) (none_comes _ _ (rows_same r))
      notifies fair n.Invalid idle x = absurd x

      by_core : (fair : Bool) (k : Core) → c.core ≡ k → Stands i t c k → Turned (turn_by c.listed k) t v fair c reply i
          j → GiversAreOut j
      by_core fair (core.Wait q) is s x = waits fair c.listed q.phase refl is s x
      by_core fair (core.Notify q) is s x = notifies fair q.phase (none_called q.phase s) x

  -- THE LAW

  busy_opens : (b : Bool) → busy_number i t ≡ number i t b → Opens (busy_number i t) (inside (state i.rows))
      (inside (state j.rows)) → Opens (number i t b) (inside (state i.rows)) (inside (state j.rows))
  busy_opens b is x = subst (λ m. Opens m (inside (state i.rows)) (inside (state j.rows))) is x

  at_lock : (fair : Bool) (a : Option CoreAnswer) → (seat_at i t).at ≡ None → GoesAtLock t fair a i j → GiversAreOut j
  at_lock fair a seat g =
      let (b, is) = busy_is i t in
      frame b (busy_opens b is (step_opens _ _ _ fair a g.step)) (same_others t i j g.vars)
      (λ u ne. same_backs g.seats u) (unseated_here seat g.vars)

  goes_at : (at : Option ℕ) → (seat_at i t).at ≡ at → (fair : Bool) (end : Option Ended) → IsGoneAt at t fair end i j
      → GiversAreOut j
  goes_at None seat fair end (a, g, e) = at_lock fair a seat g
  goes_at (Some v) seat fair end (reply, g, e) = by_core v g.call seat g.here reply g.seats fair g.call.core refl
      (h.stands v t g.call g.here) g.turned

  asked : (lock : ℕ) (c : LockCall) → (seat_at i t).at ≡ None → IsAsked t lock c i j → GiversAreOut j
  asked lock c seat x = frame true (stays_open _ _ _ (ap inside x.begins.became)) (same_others t i j x.vars)
      (λ u ne. same_backs x.seats u) (unseated_here seat x.vars)

  called : (v : ℕ) (c : CondvarCall) → ((b : Bool) → row_call_at (state i.rows) (number i t b) ≡ None)
      → IsCalled t v c i j → GiversAreOut j
  called v c idle x = go (var_at i v) refl x.begins.0 x.begins.1 x.begins.2
    where
      go : (o : Option Var) → var_at i v ≡ o → (y : Option Var) → BeginsIn t c o y → j.vars ≡ slice_set i.vars v y
          → GiversAreOut j
      go None at y begins vars = absurd begins
      go (Some a) at None begins vars = absurd begins
      go (Some a) at (Some b) begins vars =
          let same = ap (λ (r : Rows). inside (state r)) x.rows in
          frame true (stays_open _ _ _ same) (var_others t v i j a b at vars (begun_others t c a b begins))
          (set_backs (record { at = Some v; second = waits_by_second i t c }) x.seats)
          (idle_here (ap length x.seats
          ∙ length-set i.seats t (record { at = Some v; second = waits_by_second i t c })) idle (none_comes _ _ same))

  late_at : (at : Option ℕ) → (seat_at i t).at ≡ at → IsLateAt at t i j → GiversAreOut j
  late_at None seat (x, vars, seats) = frame true (stays_open _ _ _ (ap inside x.became)) (same_others t i j vars)
      (λ u ne. same_backs seats u) (unseated_here seat vars)
  late_at (Some v) seat (heard, r, seats) =
      let (c, here) = h.sits v t seat in
      let same = ap (λ (x : Rows). inside (state x)) r in
      frame true (stays_open _ _ _ same) (heard_others t v outside.Expired i j heard) (λ u ne. same_backs seats u)
      (by_core' v c seat here c.core refl (h.stands v t c here) heard seats same)
    where
      expired_back : (p : WaitPhase) → phase_in_front (next_phase p (wait_hears outside.Expired)) ≡ false
      expired_back (w.Sleeps m) = refl
      expired_back p = refl

      by_core' : (v : ℕ) (c : OpenCall) → (seat_at i t).at ≡ Some v → call_at i v t ≡ Some c → (k : Core) → c.core ≡ k
          → Stands i t c k → HearsAt t v outside.Expired i j → j.seats ≡ i.seats
          → inside (state j.rows) ≡ inside (state i.rows) → OutHere
      by_core' v c seat here (core.Wait q) is s heard seats same = heard_not v c seat here outside.Expired heard
          (λ queue. ap (λ (x : Core). is_in_front (told_by c (is_left queue) outside.Expired x).core) is
          ∙ expired_back q.phase)
      by_core' v c seat here (core.Notify q) is s heard seats same =
          idle_here (ap length seats) (none_called v c seat here None seats q.phase s) (none_comes _ _ same)

low_of : (n t : ℕ) (b : Bool) → (nat_lt t n && b) ≡ true → t < n
low_of n t b e = ltb-true t n (both_true (nat_lt t n) b e).0

pub givers_stay_out : GiversStayOut
givers_stay_out = record {
  starts = λ j none v t m c here is. absurd (none-some c (sym (none v t) ∙ here));
  asks = λ t lock c i j h fi out may x. asked i j h fi out t (low_of _ t _ may) lock c
      (free_of i t (middle _ _ _ may)).0 x;
  calls = λ t v c i j h fi out may x. called i j h fi out t (low_of _ t _ may) v c (free_of i t (middle _ _ _ may)).1 x;
  steps = λ t fair end i j h fi out may x. goes_at i j h fi out t (low_of _ t _ may) (seat_at i t).at refl fair end x;
  deadlines = λ t i j h fi out may x. late_at i j h fi out t (low_of _ t _ may) (seat_at i t).at refl x;
}

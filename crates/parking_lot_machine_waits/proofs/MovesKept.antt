-- A notification that takes waiters off the list, and wakes them or moves them to their mutex, leaves a machine whole.
use Rattle.std.proofs.Common.{◌≡◌, ◌≢◌, ℕ, ◌+◌, ◌-◌, ◌==◌, ◌<◌, ◌||◌, Bool, true, false, not, is_some, cond, List}
use Rattle.std.proofs.Common.{length, take, Option, Some, None, option_map, slice_get, slice_set, inl, inr, refl, sym}
use Rattle.std.proofs.Common.{ap}
use Rattle.std.proofs.Common.{◌∙◌, subst, arith, eqb-true}
use Rattle.std.specs.Option.{unwrap_or}
use Rattle.std.proofs.lemmas.Bool.{or_right}
use Rattle.std.proofs.lemmas.Option.{same_Some}
use Rattle.parking_lot_protocol_waits.specs.declared.notify_core.NotifyPhase.TheVariants as n
use Rattle.parking_lot_machine_sides.specs.declared.condvar.open_call.Core.{Core}
use Rattle.parking_lot_machine_sides.specs.declared.condvar.open_call.OpenCall.{OpenCall}
use Rattle.parking_lot_machine_sides.specs.Condvar.Calls.{is_of_all, off_list}
use Rattle.parking_lot_machine_sides.specs.Condvar.Fitting.{IsNotify, is_the}
use Rattle.parking_lot_machine_sides.specs.Condvar.Machines.{State as Var, call_at as var_call_at}
use Rattle.parking_lot_machine_sides.specs.Condvar.Turns.{is_inside_by}
use Rattle.parking_lot_machine.specs.Rows.{State, call_at as row_call_at, state}
use Rattle.parking_lot_machine_waits.specs.declared.seat.Seat.{Seat}
use Rattle.parking_lot_machine_waits.specs.declared.turn.Turn.TheVariants as turn
use Rattle.parking_lot_machine_waits.specs.Joint.{Joint, back_number, call_at, call_in, front_number, lock_of, nowhere}
use Rattle.parking_lot_machine_waits.specs.Joint.{number, seat_at, var_at}
use Rattle.parking_lot_machine_waits.specs.JointLaws.{PartsFit}
use Rattle.parking_lot_machine_waits.specs.JointSteps.{IsMoving, KnownIn, MovesIn, is_locked, takes_now}
use Rattle.parking_lot_machine_waits.specs.Moving.{NotifiesIn, back_in, taken_of}
use Rattle.parking_lot_machine_waits.specs.Turns.{mutex_of, turn_of}
use Rattle.parking_lot_machine_waits.specs.Whole.{AtMutex, Asks, IsIn, IsSo, IsWhole, Notifies, Stands, Waits, asks}
use Rattle.parking_lot_machine_waits.specs.Whole.{front_of}
use Rattle.parking_lot_machine_waits.proofs.Allowing.{Waiter, here_too, not_itself, thread_low, waiter}
use Rattle.parking_lot_machine_waits.proofs.Keeping.{Anew, RowsKept, Stays, VarsKept, is, is_not, low_at, none_still}
use Rattle.parking_lot_machine_waits.proofs.Keeping.{seats_same, var_elsewhere, var_here, var_shut, vars_among}
use Rattle.parking_lot_machine_waits.proofs.Keeping.{whole_still}
use Rattle.parking_lot_machine_waits.proofs.LocksKept.{kept_holds, number_low}
use Rattle.parking_lot_machine_waits.proofs.Moves.{apart}
use Rattle.parking_lot_machine_waits.proofs.MutexTurns.{back_now, front_differs, front_still, mutex_stays}
use Rattle.parking_lot_machine_waits.proofs.Notifying.{Marking, is_moving, marking, marks_knows}
use Rattle.parking_lot_machine_waits.proofs.Seating.{anew_seated}
use Rattle.parking_lot_machine_waits.proofs.TakenIn.{RowsMoved, moves, now_asks, now_stays, rows_moved}
use Rattle.parking_lot_machine_waits.proofs.TakenOff.{Notified, length_low, member, member_occurs, notified, off_if}
use Rattle.parking_lot_machine_waits.proofs.TakenOff.{take_length}

neither : (a b : Bool) → (a || b) ≡ false → (a ≡ false) × (b ≡ false)
neither true b e = absurd cc
neither false b e = (refl, e)

-- of a list that was taken from the front of the queue
module _ (i j : Joint) (t v : ℕ) (c : OpenCall) (x y : Var) (h : IsWhole i) (at : var_at i v ≡ Some x)
    (known : KnownIn (Some x)) (there : var_call_at x t ≡ Some c) (mark : Marking c)
    (vars : j.vars ≡ slice_set i.vars v (Some y)) (seats : j.seats ≡ i.seats)
    (many : ℕ) (told : Notified t many x y)
    (moved : RowsMoved i.seats (x.word - 1) (take many x.queue) (state i.rows) (state j.rows)) where
  abbrev ws : List ℕ
  ws = take many x.queue

  abbrev s : State
  s = state i.rows

  abbrev u : State
  u = state j.rows

  inside : is_the x.inside t ≡ true
  inside = sym (known.0.seated t c there).section ∙ ap (λ (k : Core). is_inside_by c.listed k) mark.is

  here : call_at i v t ≡ Some c
  here = here_too i h v x at known t c there

  low : t < length i.seats
  low = low_at i h v t c here

  abbrev mine : ℕ → Bool
  mine w = is t w || member w ws

  -- who was taken waits
  other : (w : ℕ) → member w ws ≡ true → w ≢ t
  other w e = not_itself i h v x at known t c there mark w (member_occurs w many x.queue e)

  waits : (w : ℕ) → member w ws ≡ true → Waiter x w
  waits w e = waiter i h v x at known t w inside (other w e) (member_occurs w many x.queue e)

  waiter_low : (w : ℕ) → member w ws ≡ true → w < length i.seats
  waiter_low w e = let y = waits w e in thread_low i h v x at known w y.call y.here

  -- THE LOCKS

  others_stay : (k : ℕ) → ((w : ℕ) (second : Bool) → mine w ≡ true → k ≢ number i w second) → Stays s u k
  others_stay k ne = now_stays i.seats x (x.word - 1) k ws s u moved
      (λ w e. ne w (seat_at i w).second (or_right (is t w) (member w ws) e))

  rows : RowsKept i j mine
  rows = record { count = moved.count; kinds = moved.kinds; buckets = moved.buckets; others = others_stay }

  -- the numbers of the one that notifies, and that by which a waiter gives its mutex up
  own_stays : (second : Bool) → Stays s u (number i t second)
  own_stays second = now_stays i.seats x (x.word - 1) (number i t second) ws s u moved
      (λ w e. apart (length i.seats) t w second (seat_at i w).second low (waiter_low w e) (λ f. other w e (sym f)))

  front_stays : (w : ℕ) → member w ws ≡ true → Stays s u (front_number i w)
  front_stays w e = now_stays i.seats x (x.word - 1) (front_number i w) ws s u moved (λ z f. by z f (z == w) refl)
    where
      by : (z : ℕ) → member z ws ≡ true → (b : Bool) → (z == w) ≡ b → front_number i w ≢ back_in i.seats z
      by z f true g = subst (λ (m : ℕ). front_number i w ≢ back_in i.seats m) (sym (eqb-true z w g))
          (front_differs i w (waiter_low w e))
      by z f false g = apart (length i.seats) w z (not (seat_at i w).second) (seat_at i z).second (waiter_low w e)
          (waiter_low z f) (λ q. is_not w z g (sym q))

  -- THE VARIABLES

  vars_kept : VarsKept i j mine
  vars_kept = vars_among i j mine v x y at told.count
      (λ w e. let (a, b) = neither (is t w) (member w ws) e in told.others w (is_not t w a)
      ∙ ap (λ m. off_if m (var_call_at x w)) b) vars

  call_now : (w : ℕ) → call_at j v w ≡ var_call_at y w
  call_now w = ap (λ (z : Option Var). call_in z w) (var_here i j v x (Some y) at vars)

  -- nobody of them is in a call at another variable
  only_here : (w : ℕ) (d : OpenCall) → call_at i v w ≡ Some d → (z : ℕ) (e : OpenCall) → call_at j z w ≡ Some e → z ≡ v
  only_here w d is z e at_z = by (z == v) refl
    where
      by : (b : Bool) → (z == v) ≡ b → z ≡ v
      by true f = eqb-true z v f
      by false f = same_Some z v
          (sym (h.seated z w e
          (ap (λ (o : Option Var). call_in o w) (sym (var_elsewhere i j v z (Some y) (is_not v z f) vars)) ∙ at_z))
          ∙ h.seated v w d is)

  seat_now : (w : ℕ) (d : OpenCall) → call_at i v w ≡ Some d → (seat_at j w).at ≡ Some v
  seat_now w d e = ap (λ (ss : List Seat). (unwrap_or (slice_get ss w) nowhere).at) seats ∙ h.seated v w d e

  number_now : (w : ℕ) (second : Bool) → number j w second ≡ number i w second
  number_now w second = ap (λ (ss : List Seat). cond second (length ss + w) w) seats

  -- EACH OF THEM

  -- the notification goes on
  notifier : Anew j t
  notifier = anew_seated j t v told.call (seat_now t c here) (call_now t ∙ told.here) (only_here t c here)
      (subst (λ (k : Core). Stands j t told.call k) (sym told.core)
      (record { first = idle false first; second = idle true second; turns = told.turns }))
    where
      stood : Notifies i t (n.Marks mark.all)
      stood = subst (Stands i t c) mark.is (h.stands v t c here)

      first : row_call_at s (number i t false) ≡ None
      first = stood.first

      second : row_call_at s (number i t true) ≡ None
      second = stood.second

      idle : (b : Bool) → row_call_at s (number i t b) ≡ None → row_call_at u (number j t b) ≡ None
      idle b e = ap (row_call_at u) (number_now t b) ∙ none_still s u (number i t b) (own_stays b) e

  -- and a waiter was moved
  moved_on : (w : ℕ) → member w ws ≡ true → Anew j w
  moved_on w e = anew_seated j w v (off_list z.call) (seat_now w z.call was) now (only_here w z.call was)
      (subst (λ (k : Core). Stands j w (off_list z.call) k) (sym z.core) (record {
        names = stood.names;
        mutex = mutex_stays i j lock moved.kinds (vars_kept.plain lock) stood.mutex;
        front = front_still i j w seats (front_of z.phase) lock (front_stays w e) stood.front;
        back = subst (λ (a : AtMutex). IsSo a u (back_number j w) lock) (sym z.off)
            (back_now i j w seats Asks lock
            (subst (IsIn asks u (back_number i w)) (omega (arith, z.word))
            (now_asks i.seats x (x.word - 1) w ws s u moved e)));
      }))
    where
      z : Waiter x w
      z = waits w e

      lock : ℕ
      lock = mutex_of z.call.call

      was : call_at i v w ≡ Some z.call
      was = here_too i h v x at known w z.call z.here

      stood : Waits i w z.call z.phase
      stood = subst (Stands i w z.call) z.core (h.stands v w z.call was)

      now : call_at j v w ≡ Some (off_list z.call)
      now = call_now w ∙ told.others w (other w e) ∙ ap (λ m. off_if m (var_call_at x w)) e
          ∙ ap (option_map off_list) z.here

  each : (w : ℕ) → mine w ≡ true → Anew j w
  each w e = by (is t w) refl e
    where
      by : (b : Bool) → is t w ≡ b → (b || member w ws) ≡ true → Anew j w
      by true f e = subst (Anew j) (sym (eqb-true w t f)) notifier
      by false f e = moved_on w e

  each_low : (w : ℕ) → mine w ≡ true → w < length i.seats
  each_low w e = by (is t w) refl e
    where
      by : (b : Bool) → is t w ≡ b → (b || member w ws) ≡ true → w < length i.seats
      by true f e = subst (λ (m : ℕ). m < length i.seats) (sym (eqb-true w t f)) low
      by false f e = waiter_low w e

  pub all_moved : IsWhole j
  all_moved =
      whole_still i j mine h
      (record { rows = rows; vars = vars_kept; seats = seats_same i j mine seats; low = each_low }) each
      (var_shut i j h moved.buckets v x y at vars (λ e. (ap (λ o. is_some o) (sym told.inside) ∙ e, told.beside))
      (λ b. elim (h.sections b) [ inl e ↦ inl (moved.closed b e) | inr e ↦ inr e ]))
      (kept_holds s u moved.kinds moved.holds h.holds)

-- It takes all, or the first.
module _ (i j : Joint) (t v : ℕ) (c : OpenCall) (h : IsWhole i) (fits : PartsFit i) (here : call_at i v t ≡ Some c)
    (seats : j.seats ≡ i.seats) (mark : Marking c) where
  by_vars : (o p : Option Var) → var_at i v ≡ o → KnownIn o → MovesIn o (is_locked i (lock_of o)) i.seats (lock_of o)
      (takes_now c.call o) (state i.rows) (state j.rows)
      → NotifiesIn t (is_locked i (lock_of o)) (length (takes_now c.call o)) o p → j.vars ≡ slice_set i.vars v p
      → IsWhole j
  by_vars None p at known moves notifies vars = absurd moves
  by_vars (Some x) None at known moves notifies vars = absurd notifies
  by_vars (Some x) (Some y) at known moves notifies vars =
      all_moved i j t v c x y h at known there mark vars seats many told
      (subst (λ ws. RowsMoved i.seats (x.word - 1) ws (state i.rows) (state j.rows))
      (sym (take_length (taken_of c.call (length x.queue)) x.queue))
      (rows_moved i.seats x (x.word - 1) (is_locked i (x.word - 1))
      (take (taken_of c.call (length x.queue)) x.queue) (state i.rows) (state j.rows) lows moves))
    where
      there : var_call_at x t ≡ Some c
      there = ap (λ (o : Option Var). call_in o t) (sym at) ∙ here

      many : ℕ
      many = length (take (taken_of c.call (length x.queue)) x.queue)

      knows : IsNotify c.call
          × ((mark.all ≡ is_of_all c.call) × (c.taken ≡ 0) × (x.beside ≡ Some (x.word - 1)))
      knows = marks_knows x t c mark.all known.0 there mark.is

      told : Notified t many x y
      told = notified t mark.all (is_locked i (x.word - 1)) c many x y there mark.is knows.1.1
          (length_low (taken_of c.call (length x.queue)) x.queue) notifies

      lows : (w : ℕ) → member w (take (taken_of c.call (length x.queue)) x.queue) ≡ true
          → back_in i.seats w < length (state i.rows).calls
      lows w e =
          let some = member_occurs w (taken_of c.call (length x.queue)) x.queue e in
          let is_in : is_the x.inside t ≡ true = sym (known.0.seated t c there).section
          ∙ ap (λ (k : Core). is_inside_by c.listed k) mark.is in
          let z = waiter i h v x at known t w is_in (not_itself i h v x at known t c there mark w some) some in
          number_low i h w (seat_at i w).second (thread_low i h v x at known w z.call z.here)

  pub moves_keep : IsMoving t v c i j → IsWhole j
  moves_keep x = let (p, notifies, vars) = x.notifies in by_vars (var_at i v) p refl (fits.vars v) x.moves notifies vars

pub moving_keeps : (i j : Joint) (t v : ℕ) (c : OpenCall) → IsWhole i → PartsFit i → call_at i v t ≡ Some c
    → j.seats ≡ i.seats → turn_of c ≡ turn.Moves → IsMoving t v c i j → IsWhole j
moving_keeps i j t v c h fits here seats is_turn x = moves_keep i j t v c h fits here seats
    (marking c (ap is_moving is_turn)) x

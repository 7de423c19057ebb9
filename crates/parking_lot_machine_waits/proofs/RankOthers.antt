-- What begins and what comes late costs a stated number of steps; and one that can't move lets any other be stepped.
use Rattle.std.proofs.Common.{◌≡◌, ℕ, ◌+◌, ◌*◌, ◌<◌, ◌≤◌, ◌&&◌, Bool, true, false, not, cond, is_none, List, length}
use Rattle.std.proofs.Common.{Option, Some, None, slice_set, refl, sym, ap, ◌∙◌, subst, arith}
use Rattle.std.specs.Option.{option_map_or}
use Rattle.std.proofs.lemmas.Bool.{lt-ltb}
use Rattle.std.proofs.lemmas.Option.{none-some}
use Rattle.parking_lot_protocol_waits.specs.declared.notify_core.NotifyPhase.{NotifyPhase}
use Rattle.parking_lot_protocol_waits.specs.declared.notify_core.NotifyPhase.TheVariants as n
use Rattle.parking_lot_protocol_waits.specs.declared.wait_act.WaitSeen.TheVariants as seen
use Rattle.parking_lot_protocol_waits.specs.declared.wait_core.WaitPhase.{WaitPhase}
use Rattle.parking_lot_protocol_waits.specs.declared.wait_core.WaitPhase.TheVariants as w
use Rattle.parking_lot_protocol_waits.specs.WaitTable.{next_phase}
use Rattle.parking_lot_machine_sides.specs.declared.condvar.calls.CondvarCall.{CondvarCall}
use Rattle.parking_lot_machine_sides.specs.declared.condvar.open_call.Core.{Core}
use Rattle.parking_lot_machine_sides.specs.declared.condvar.open_call.Core.TheVariants as core
use Rattle.parking_lot_machine_sides.specs.declared.condvar.open_call.OpenCall.{OpenCall}
use Rattle.parking_lot_machine_sides.specs.declared.condvar.outside.Outside.{Outside}
use Rattle.parking_lot_machine_sides.specs.declared.condvar.outside.Outside.TheVariants as outside
use Rattle.parking_lot_machine_sides.specs.Condvar.Calls.{is_timed}
use Rattle.parking_lot_machine_sides.specs.Condvar.Machines.{State as Var, is_left}
use Rattle.parking_lot_machine_sides.specs.Condvar.Outsides.{hears_by, may_hear, notify_fits, told, told_by, wait_fits}
use Rattle.parking_lot_machine_sides.specs.Condvar.Ranks as vars
use Rattle.parking_lot_machine_calls.specs.declared.calls.LockCall.{LockCall}
use Rattle.parking_lot_machine.specs.Machines as rows
use Rattle.parking_lot_machine.specs.Ranks as row
use Rattle.parking_lot_machine.specs.Rows.{Rows, call_at as row_call_at, state}
use Rattle.parking_lot_machine.proofs.WakesPaying.{any_may_be_stepped}
use Rattle.parking_lot_machine_waits.specs.declared.seat.Seat.{Seat}
use Rattle.parking_lot_machine_waits.specs.Joint.{Joint, back_number, busy_number, call_at, call_in, enters_at_lock}
use Rattle.parking_lot_machine_waits.specs.Joint.{front_number, has_by_second, is_open_at_variables, keeps_out, number}
use Rattle.parking_lot_machine_waits.specs.Joint.{row_goes}
use Rattle.parking_lot_machine_waits.specs.Joint.{seat_at, var_at, var_hears}
use Rattle.parking_lot_machine_waits.specs.JointLaws.{PartsFit}
use Rattle.parking_lot_machine_waits.specs.JointMoves.{is_free, may_ask, may_call_at, may_expire, may_go, may_go_as}
use Rattle.parking_lot_machine_waits.specs.JointMoves.{may_go_at, may_turn}
use Rattle.parking_lot_machine_waits.specs.JointRanks.{IsLateFor, is_in_front, left_at_variables, phase_in_front}
use Rattle.parking_lot_machine_waits.specs.JointRanks.{stepping_number, steps_left, weight}
use Rattle.parking_lot_machine_waits.specs.JointSteps.{BeginsIn, HearsAt, IsAsked, IsCalled, IsLate, IsLateAt}
use Rattle.parking_lot_machine_waits.specs.Turns.{turn_by, wait_turn}
use Rattle.parking_lot_machine_waits.specs.Whole.{IsWhole, Notifies, Stands, Waits, back_of, front_of}
use Rattle.parking_lot_machine_waits.proofs.Keeping.{none_kept}
use Rattle.parking_lot_machine_waits.proofs.Hearing.{both_true, can_expire}
use Rattle.parking_lot_machine_waits.proofs.Ranking.{Idle, away_idle, end_idle, listed_idle, owns_idle}
use Rattle.parking_lot_machine_waits.proofs.RankParts.{busy_is, busy_least, free_number, hears_pay, idle_most}
use Rattle.parking_lot_machine_waits.proofs.RankParts.{number_is, same_number, told_there, var_changes}

-- WHAT BEGINS

none_of : {X : Type 0} (o : Option X) → is_none o ≡ true → o ≡ None
none_of None e = refl
none_of (Some x) e = absurd cc

-- whoever is in no call has no seat, and neither number is in one
pub free_of : (j : Joint) (t : ℕ) → is_free j t ≡ true → ((seat_at j t).at ≡ None)
    × ((b : Bool) → row_call_at (state j.rows) (number j t b) ≡ None)
free_of j t e =
    let (seat, idle) = both_true _ _ e in
    let (first, second) = both_true _ _ idle in (
      none_of (seat_at j t).at seat,
      λ b. go b (none_of (row_call_at (state j.rows) t) first)
          (none_of (row_call_at (state j.rows) (number j t true)) second),
    )
  where
    go : (b : Bool) → row_call_at (state j.rows) t ≡ None → row_call_at (state j.rows) (number j t true) ≡ None
        → row_call_at (state j.rows) (number j t b) ≡ None
    go true first second = second
    go false first second = first

pub middle : (a b c : Bool) → (a && (b && c)) ≡ true → b ≡ true
middle a b c e = (both_true b c (both_true a (b && c) e).1).0

module _ (i j : Joint) (h : IsWhole i) (fi : PartsFit i) (t : ℕ) where
  -- one in no call is stepped by a number that is in none
  from_free : is_free i t ≡ true → (u : ℕ) → row.steps_left (state i.rows) u ≤ row.steps_left (state i.rows)
      (stepping_number i t)
  from_free free u =
      let (seat, idle) = free_of i t free in
      let (b, is) = busy_is i t in
      omega (
        arith,
        idle_most (state i.rows) fi.rows (number i t b) u (idle b),
        ap (row.steps_left (state i.rows)) (free_number i t seat ∙ is),
      )

  pub ask_costs : IsWhole j → PartsFit j → (lock : ℕ) (c : LockCall) → may_ask i t lock c ≡ true → IsAsked t lock c i j
      → steps_left j t ≤ steps_left i t + row.cost (2 * length i.seats) c
  ask_costs k fj lock c may x =
      let free = middle _ (is_free i t) _ may in
      let seat = subst (λ (ss : List Seat). (seat_at (record j { seats = ss }) t).at ≡ None) (sym x.seats)
      (free_of i t free).0 in
      let b = has_by_second i t lock in
      omega (
        arith,
        x.begins.costs,
        ap (λ m. row.cost m c) h.numbers,
        from_free free (number i t b),
        busy_least j k fj.rows t seat b,
        ap (λ (ss : List Seat). row.steps_left (state j.rows) (number (record j { seats = ss }) t b)) x.seats,
        ap (row.steps_left (state j.rows)) (free_number j t seat),
        ap (λ (vs : List (Option Var)). left_at_variables (record j { vars = vs })) x.vars,
      )

  pub call_costs : (v : ℕ) (c : CondvarCall) → may_call_at i t v c ≡ true → IsCalled t v c i j
      → steps_left j t ≤ steps_left i t + weight * vars.cost (length i.seats) c
  call_costs v c may x = go (var_at i v) refl x.begins.0 x.begins.1 x.begins.2
    where
      free : is_free i t ≡ true
      free = middle _ (is_free i t) _ may

      go : (o : Option Var) → var_at i v ≡ o → (y : Option Var) → BeginsIn t c o y → j.vars ≡ slice_set i.vars v y
          → steps_left j t ≤ steps_left i t + weight * vars.cost (length i.seats) c
      go None at y begins is = absurd begins
      go (Some a) at None begins is = absurd begins
      go (Some a) at (Some b) begins is =
          omega (
            arith,
            begins.costs,
            ap (λ m. vars.cost m c) (h.threads v a at),
            var_changes i.vars j.vars v a b at is,
            from_free free (stepping_number j t),
            ap (λ (r : Rows). row.steps_left (state r) (stepping_number j t)) x.rows,
          )

  -- WHAT COMES LATE

  pub deadline_costs : IsWhole j → PartsFit j → (m : ℕ) → (seat_at i t).at ≡ None → IsLateFor i t m → IsLate t i j
      → steps_left j t ≤ steps_left i t + m
  deadline_costs k fj m seat most late = go (subst (λ (o : Option ℕ). IsLateAt o t i j) seat late)
    where
      go : IsLateAt None t i j → steps_left j t ≤ steps_left i t + m
      go (x, vars, seats) =
          let (b, is) = busy_is i t in
          let then = subst (λ (ss : List Seat). (seat_at (record j { seats = ss }) t).at ≡ None) (sym seats) seat in
          omega (
            arith,
            x.lawful.costs (number i t b),
            most x.call x.here,
            busy_least j k fj.rows t then b,
            ap (λ (ss : List Seat). row.steps_left (state j.rows) (number (record j { seats = ss }) t b)) seats,
            ap (row.steps_left (state j.rows)) (free_number j t then),
            ap (row.steps_left (state i.rows)) (free_number i t seat ∙ is),
            ap (λ (vs : List (Option Var)). left_at_variables (record j { vars = vs })) vars,
          )

-- only one that sleeps is told that its deadline has come
expires_back : (timed listed : Bool) (p : WaitPhase) → wait_fits timed listed p outside.Expired ≡ true
    → (phase_in_front p ≡ false) × (phase_in_front (next_phase p seen.Expired) ≡ false)
expires_back timed listed (w.Sleeps m) e = (refl, refl)
expires_back timed listed p e = absurd cc

never_late : {X : Type 0} (taken : ℕ) (left : Bool) (p : NotifyPhase) → notify_fits taken left p outside.Expired ≡ true
    → X
never_late taken left (n.Notifying all) e = absurd cc
never_late taken left (n.Loads all) e = absurd cc
never_late taken left (n.Enters all word) e = absurd cc
never_late taken left (n.Checks all word) e = absurd cc
never_late taken left (n.Marks all) e = absurd cc
never_late taken left (n.Moves all locked) e = absurd cc
never_late taken left (n.MarksRest notice) e = absurd cc
never_late taken left (n.Forgets notice) e = absurd cc
never_late taken left (n.Leaves notice) e = absurd cc
never_late taken left (n.Wakes count) e = absurd cc
never_late taken left (n.Ends count) e = absurd cc
never_late taken left n.Invalid e = absurd cc

core_expires : (c : OpenCall) (left : Bool) (k : Core) → hears_by c left outside.Expired k ≡ true → (queue : List ℕ)
    → (is_in_front k ≡ false) × (is_in_front (told_by c (is_left queue) outside.Expired k).core ≡ false)
core_expires c left (core.Wait q) e queue = expires_back (is_timed c.call) c.listed q.phase e
core_expires c left (core.Notify q) e queue = never_late c.taken left q.phase e

may_hear_in : (o : Option Var) (t : ℕ) (c : OpenCall) (what : Outside) → call_in o t ≡ Some c
    → var_hears o t what ≡ true → (left : Bool) × (hears_by c left what c.core ≡ true)
may_hear_in None t c what here e = absurd (none-some c here)
may_hear_in (Some x) t c what here e =
    (is_left x.queue, sym (ap (λ o. option_map_or (may_hear x.queue what) o false) here) ∙ e)

pub late_costs : (i j : Joint) (t v : ℕ) → IsWhole i → (seat_at i t).at ≡ Some v → may_expire i t ≡ true → IsLate t i j
    → steps_left j t ≤ steps_left i t
late_costs i j t v h seat may late = go (subst (λ (o : Option ℕ). IsLateAt o t i j) seat late)
  where
    by : HearsAt t v outside.Expired i j → j.rows ≡ i.rows → stepping_number j t ≡ stepping_number i t
        → steps_left j t ≤ steps_left i t
    by heard rows same =
        omega (
          arith,
          hears_pay t v outside.Expired i j heard,
          ap (λ (r : Rows). row.steps_left (state r) (stepping_number i t)) rows,
          ap (row.steps_left (state j.rows)) same,
        )

    go : IsLateAt (Some v) t i j → steps_left j t ≤ steps_left i t
    go (heard, rows, seats) =
        let (c, here) = h.sits v t seat in
        let (left, hears) = may_hear_in (var_at i v) t c outside.Expired here
        (can_expire (seat_at i t).at v i t seat (both_true _ _ may).1) in
        let (queue, there) = told_there t v outside.Expired c i j here heard in
        let (before, after) = core_expires c left c.core hears queue in
        by heard rows (same_number i j t v c (told c queue outside.Expired) seats seat here there (after ∙ sym before))

-- ONE THAT CAN'T MOVE

not_row : (a o : Bool) → o ≡ false → (a && not o) ≡ false → a ≡ false
not_row true true o e = absurd cc
not_row true false o e = absurd cc
not_row false o p e = refl

-- nothing but its row shuts a number out
row_stops : (j : Joint) (m : ℕ) → is_open_at_variables j ≡ false → row_goes j m ≡ false
    → rows.can_move (state j.rows) m ≡ false
row_stops j m shut e = not_row (rows.can_move (state j.rows) m) (keeps_out j (enters_at_lock j m))
    (none_out (enters_at_lock j m)) e
  where
    none_out : (o : Option ℕ) → keeps_out j o ≡ false
    none_out None = refl
    none_out (Some b) = none_kept j b shut

pub stopped_lets : (j : Joint) (t u : ℕ) → PartsFit j → rows.can_move (state j.rows) (stepping_number j t) ≡ false
    → steps_left j u ≤ steps_left j t
stopped_lets j t u fits stops =
    omega (arith, any_may_be_stepped (state j.rows) fits.rows (stepping_number j t) stops (stepping_number j u))

module _ (j : Joint) (h : IsWhole j) (fits : PartsFit j) (t : ℕ) (shut : is_open_at_variables j ≡ false) where
  abbrev Stops : Type 0
  Stops = rows.can_move (state j.rows) (stepping_number j t) ≡ false

  at_number : (m : ℕ) → stepping_number j t ≡ m → rows.can_move (state j.rows) m ≡ false → Stops
  at_number m is e = ap (rows.can_move (state j.rows)) is ∙ e

  idle_stops : (m : ℕ) → stepping_number j t ≡ m → row_call_at (state j.rows) m ≡ None → Stops
  idle_stops m is none = at_number m is (ap (rows.can_move_in (state j.rows)) none)

  module _ (v : ℕ) (c : OpenCall) (seat : (seat_at j t).at ≡ Some v) (here : call_at j v t ≡ Some c) where
    front_is : (k : Core) → c.core ≡ k → is_in_front k ≡ true → stepping_number j t ≡ front_number j t
    front_is k is side = number_is j t v c seat here ∙ ap (λ b. cond b (front_number j t) (back_number j t))
        (ap is_in_front is ∙ side)

    back_is : (k : Core) → c.core ≡ k → is_in_front k ≡ false → stepping_number j t ≡ back_number j t
    back_is k is side = number_is j t v c seat here ∙ ap (λ b. cond b (front_number j t) (back_number j t))
        (ap is_in_front is ∙ side)

    in_front : (p : WaitPhase) → c.core ≡ core.Wait (record { phase = p }) → phase_in_front p ≡ true → Waits j t c p
        → Idle (front_of p) → Stops
    in_front p is side s idle = idle_stops (front_number j t) (front_is (core.Wait (record { phase = p })) is side)
        (idle (state j.rows) (front_number j t) _ s.front)

    in_back : (p : WaitPhase) → c.core ≡ core.Wait (record { phase = p }) → phase_in_front p ≡ false → Waits j t c p
        → Idle (back_of c.listed p) → Stops
    in_back p is side s idle = idle_stops (back_number j t) (back_is (core.Wait (record { phase = p })) is side)
        (idle (state j.rows) (back_number j t) _ s.back)

    by_back : (p : WaitPhase) → c.core ≡ core.Wait (record { phase = p }) → phase_in_front p ≡ false
        → row_goes j (back_number j t) ≡ false → Stops
    by_back p is side e = at_number (back_number j t) (back_is (core.Wait (record { phase = p })) is side)
        (row_stops j (back_number j t) shut e)

    waits : (listed : Bool) (p : WaitPhase) → c.listed ≡ listed → c.core ≡ core.Wait (record { phase = p })
        → Waits j t c p → may_turn (wait_turn listed p) j t v c ≡ false → Stops
    waits listed (w.Waiting m) e is s x = absurd s.front
    waits listed w.Stranger e is s x = absurd s.front
    waits listed w.GivingWay e is s x = absurd s.front
    waits listed w.Looks e is s x = absurd s.front
    waits listed (w.Enters m) e is s x = in_front (w.Enters m) is refl s owns_idle
    waits listed (w.Checks m) e is s x = in_front (w.Checks m) is refl s owns_idle
    waits listed w.Retreats e is s x = in_front w.Retreats is refl s owns_idle
    waits listed (w.Appends m) e is s x = in_front (w.Appends m) is refl s owns_idle
    waits listed (w.Shows m) e is s x = in_front (w.Shows m) is refl s owns_idle
    waits listed (w.Rests m) e is s x = in_front (w.Rests m) is refl s owns_idle
    waits listed (w.Unlocks m) e is s x =
        at_number (front_number j t) (front_is (core.Wait (record { phase = w.Unlocks m })) is refl)
        (row_stops j (front_number j t) shut x)
    waits true (w.Sleeps m) e is s x = in_back (w.Sleeps m) is refl s (listed_idle c (w.Sleeps m) e refl)
    waits false (w.Sleeps m) e is s x = by_back (w.Sleeps m) is refl x
    waits true (w.Expires m) e is s x = in_back (w.Expires m) is refl s (listed_idle c (w.Expires m) e refl)
    waits false (w.Expires m) e is s x = absurd cc
    waits true (w.Quits m) e is s x = in_back (w.Quits m) is refl s (listed_idle c (w.Quits m) e refl)
    waits false (w.Quits m) e is s x = by_back (w.Quits m) is refl x
    waits listed w.Forgets e is s x = in_back w.Forgets is refl s away_idle
    waits listed w.Masks e is s x = absurd s.front
    waits listed (w.Leaves true) e is s x = in_back (w.Leaves true) is refl s away_idle
    waits listed (w.Leaves false) e is s x = absurd s.front
    waits listed (w.Resumes token) e is s x = absurd cc
    waits listed w.Yields e is s x = absurd s.front
    waits listed (w.Locks timed_out) e is s x = by_back (w.Locks timed_out) is refl x
    waits listed (w.Ends a) e is s x = in_back (w.Ends a) is refl s (end_idle a)
    waits listed w.Invalid e is s x = absurd s.front

    both_none : (b : Bool) (p : NotifyPhase) → Notifies j t p → row_call_at (state j.rows) (number j t b) ≡ None
    both_none true p s = s.second
    both_none false p s = s.first

    by_core : (k : Core) → c.core ≡ k → Stands j t c k → may_turn (turn_by c.listed k) j t v c ≡ false → Stops
    by_core (core.Wait q) is s x = waits c.listed q.phase refl is s x
    by_core (core.Notify q) is s x = idle_stops (front_number j t) (front_is (core.Notify q) is refl)
        (both_none (not (seat_at j t).second) q.phase s)

  by_seat : (at : Option ℕ) → (seat_at j t).at ≡ at → may_go_at at j t ≡ false → Stops
  by_seat None seat x = at_number (busy_number j t) (free_number j t seat) (row_stops j (busy_number j t) shut x)
  by_seat (Some v) seat x =
      let (c, here) = h.sits v t seat in
      by_core v c seat here c.core refl (h.stands v t c here)
      (sym (ap (λ (o : Option OpenCall). may_go_as o j t v) here) ∙ x)

  pub others_go_on : (u : ℕ) → t < length j.seats → may_go j t ≡ false → steps_left j u ≤ steps_left j t
  others_go_on u low stops =
      let goes = sym (ap (λ b. b && may_go_at (seat_at j t).at j t) (lt-ltb t (length j.seats) low)) ∙ stops in
      stopped_lets j t u fits (by_seat (seat_at j t).at refl goes)

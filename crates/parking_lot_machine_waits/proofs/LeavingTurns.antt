-- The turns of one in a call at a variable, beginnings, deadlines, and steps at a lock: each leaves what it doesn't
-- change.
use Rattle.std.proofs.Common.{◌≡◌, ◌≢◌, inl, inr, ℕ, zero, suc, ◌<◌, Bool, true, false, not, ◌&&◌, ◌||◌, nat_lt}
use Rattle.std.proofs.Common.{is_some}
use Rattle.std.proofs.Common.{List, [], ◌∷◌, length, map, take, Option, Some, None, option_map, slice_get, refl, sym}
use Rattle.std.proofs.Common.{ap, ◌∙◌, subst, arith, cond}
use Rattle.std.specs.List.{list_all}
use Rattle.std.specs.Option.{option_and_then, unwrap_or}
use Rattle.std.proofs.lemmas.Bool.{lt-ltb, ltb-true}
use Rattle.std.proofs.lemmas.List.{length-set}
use Rattle.std.proofs.lemmas.Option.{none-some, slice_get-map}
use Rattle.parking_lot_protocol.specs.declared.act.CoreAnswer.{CoreAnswer}
use Rattle.parking_lot_protocol.specs.declared.act.CoreAnswer.TheVariants as answer
use Rattle.parking_lot_rules.specs.Lists.{at_index}
use Rattle.parking_lot_rules.specs.Variable as rules
use Rattle.parking_lot_rules.proofs.Indexed.{get-set_other}
use Rattle.parking_lot_protocol_waits.specs.declared.notify_core.NotifyPhase.{NotifyPhase}
use Rattle.parking_lot_protocol_waits.specs.declared.notify_core.NotifyPhase.TheVariants as n
use Rattle.parking_lot_protocol_waits.specs.declared.wait_core.WaitPhase.{WaitPhase}
use Rattle.parking_lot_protocol_waits.specs.declared.wait_core.WaitPhase.TheVariants as w
use Rattle.parking_lot_machine_sides.specs.declared.condvar.calls.CondvarCall.{CondvarCall}
use Rattle.parking_lot_machine_sides.specs.declared.condvar.calls.CondvarReply.{CondvarReply}
use Rattle.parking_lot_machine_sides.specs.declared.condvar.open_call.Core.{Core}
use Rattle.parking_lot_machine_sides.specs.declared.condvar.open_call.Core.TheVariants as core
use Rattle.parking_lot_machine_sides.specs.declared.condvar.open_call.OpenCall.{OpenCall}
use Rattle.parking_lot_machine_sides.specs.declared.condvar.outside.Outside.{Outside}
use Rattle.parking_lot_machine_sides.specs.Condvar.Machines.{State as Var, call_at as var_call_at, phase_in}
use Rattle.parking_lot_machine_sides.specs.Condvar.Turns as var_turns
use Rattle.parking_lot_machine_sides.specs.Condvar.Turns.{notify_enters, wait_enters}
use Rattle.parking_lot_machine_calls.specs.declared.calls.LockCall.{LockCall}
use Rattle.parking_lot_machine_calls.specs.declared.open_call.Call.{Call}
use Rattle.parking_lot_machine_calls.specs.Kinds.{AsMutex, manner_of}
use Rattle.parking_lot_machine.specs.Machines as rows
use Rattle.parking_lot_machine.specs.Rows.{State, call_at as row_call_at, state}
use Rattle.parking_lot_machine_waits.specs.declared.ended.Ended.{Ended}
use Rattle.parking_lot_machine_waits.specs.declared.seat.Seat.{Seat}
use Rattle.parking_lot_machine_waits.specs.declared.turn.Turn.{Turn}
use Rattle.parking_lot_machine_waits.specs.declared.turn.Turn.TheVariants as turn
use Rattle.parking_lot_machine_waits.specs.Joint.{Joint, back_number, bucket_in, buckets, busy_number, call_at}
use Rattle.parking_lot_machine_waits.specs.Joint.{call_enters, call_in, enters_at_lock, enters_mutex, enters_var}
use Rattle.parking_lot_machine_waits.specs.Joint.{front_number, has_by_second, is_that, nowhere, number, seat_at}
use Rattle.parking_lot_machine_waits.specs.Joint.{var_at}
use Rattle.parking_lot_machine_waits.specs.JointLaws.{PartsFit}
use Rattle.parking_lot_machine_waits.specs.JointSides.{beside_as, beside_at, enters, enters_as, enters_at}
use Rattle.parking_lot_machine_waits.specs.JointSides.{enters_beside, enters_bucket, turn_beside, turn_enters}
use Rattle.parking_lot_machine_waits.specs.JointStays.{Leaves, StepsLeave, WasThere, enters_none}
use Rattle.parking_lot_machine_waits.specs.JointSteps.{ComesBackIf, FollowsAs, HearsOf, IsGoneAt, IsLateAt, KnownIn}
use Rattle.parking_lot_machine_waits.specs.JointSteps.{MovesIn, Turned, freed, takes_now}
use Rattle.parking_lot_machine_waits.specs.Moving.{back_in, entry, taken_of}
use Rattle.parking_lot_machine_waits.specs.Turns.{is_late, mutex_of, notify_turn, turn_by, turn_of, wait_turn}
use Rattle.parking_lot_machine_waits.specs.Whole.{IsMutex, IsWhole, Stands}
use Rattle.parking_lot_machine_waits.proofs.Allowing.{all_of}
use Rattle.parking_lot_machine_waits.proofs.Hearing.{both_true}
use Rattle.parking_lot_machine_waits.proofs.Keeping.{low_at}
use Rattle.parking_lot_machine_waits.proofs.Leaving.{Left, OfEach, left_all_taken, left_begun, left_both, left_expired}
use Rattle.parking_lot_machine_waits.proofs.Leaving.{left_roused, left_same, left_stepped}
use Rattle.parking_lot_machine_waits.proofs.LeavingSteps.{Own, SeatsLeft, VarsLeft, acts_enter, acts_left, begins_in}
use Rattle.parking_lot_machine_waits.proofs.LeavingSteps.{both}
use Rattle.parking_lot_machine_waits.proofs.LeavingSteps.{hears_left, is_act, leaves, notifies_in, own_first}
use Rattle.parking_lot_machine_waits.proofs.LeavingSteps.{seats_left, vars_kept, vars_written}
use Rattle.parking_lot_machine_waits.proofs.Seating.{stands_mutex}

-- WHOSE TURN ENTERS A SECTION

wait_acts : (listed : Bool) (p : WaitPhase) → wait_enters listed p ≡ true → wait_turn listed p ≡ turn.Acts
wait_acts listed (w.Enters k) e = refl
wait_acts true (w.Expires k) e = refl
wait_acts false (w.Expires k) e = absurd cc
wait_acts listed p e = absurd cc

notify_acts : (p : NotifyPhase) → notify_enters p ≡ true → notify_turn p ≡ turn.Acts
notify_acts (n.Enters all word) e = refl
notify_acts p e = absurd cc

core_acts : (listed : Bool) (k : Core) → var_turns.enters_by listed k ≡ true → turn_by listed k ≡ turn.Acts
core_acts listed (core.Wait k) e = wait_acts listed k.phase e
core_acts listed (core.Notify k) e = notify_acts k.phase e

-- a turn that leaves the variable's section enters none
abbrev leaves_it : Turn → Bool
leaves_it turn.GivesUp = true
leaves_it turn.LocksAgain = true
leaves_it t = false

leaves_out : (c : OpenCall) → leaves_it (turn_of c) ≡ true → var_turns.enters c ≡ false
leaves_out c is = go (var_turns.enters c) refl
  where
    go : (b : Bool) → var_turns.enters c ≡ b → var_turns.enters c ≡ false
    go false e = e
    go true e = absurd (shut (ap leaves_it (sym (core_acts c.listed c.core e)) ∙ is))
      where
        shut : false ≡ true → ⊥
        shut x = cc

notify_stays : (p : NotifyPhase) → leaves_it (notify_turn p) ≡ false
notify_stays (n.Notifying all) = refl
notify_stays (n.Loads all) = refl
notify_stays (n.Enters all word) = refl
notify_stays (n.Checks all word) = refl
notify_stays (n.Marks all) = refl
notify_stays (n.Moves all locked) = refl
notify_stays (n.MarksRest notice) = refl
notify_stays (n.Forgets notice) = refl
notify_stays (n.Leaves notice) = refl
notify_stays (n.Wakes count) = refl
notify_stays (n.Ends count) = refl
notify_stays n.Invalid = refl

-- so it is with a mutex
waits_with : (i : Joint) (t : ℕ) (c : OpenCall) (k : Core) → leaves_it (turn_by c.listed k) ≡ true → Stands i t c k
    → IsMutex i (mutex_of c.call)
waits_with i t c (core.Wait k) is s = s.mutex
waits_with i t c (core.Notify k) is s = absurd (shut (sym (notify_stays k.phase) ∙ is))
  where
    shut : false ≡ true → ⊥
    shut x = cc

as_mutex : (i : Joint) (m : ℕ) → IsMutex i m → manner_of (slice_get (state i.rows).kinds m) ≡ Some AsMutex
as_mutex i m x = ap manner_of x.kind

-- THE SEATS

freed_left : (t : ℕ) (reply : Option CondvarReply) (i j : Joint) → j.seats ≡ freed t reply i.seats → SeatsLeft t i j
freed_left t None i j e = seats_left t i j e
freed_left t (Some r) i j e = record {
  count = ap (λ (ss : List Seat). length ss) e ∙ length-set i.seats t nowhere;
  others = λ u ne. ap (λ (ss : List Seat). unwrap_or (slice_get ss u) nowhere) e
      ∙ ap (λ (o : Option Seat). unwrap_or o nowhere) (get-set_other i.seats t u nowhere (λ x. ne (sym x)));
}

-- WHO WAITS HAS A SEAT

abbrev has_seat : Joint → ℕ → Bool
has_seat i u = nat_lt u (length i.seats) && is_some (seat_at i u).at

taken_all : (f : ℕ → Bool) (k : ℕ) (ws : List ℕ) → list_all f ws ≡ true → list_all f (take k ws) ≡ true
taken_all f zero ws all = refl
taken_all f (suc k) [] all = refl
taken_all f (suc k) (x ∷ ws) all = (let here = both_true _ _ all in both _ _ here.0 (taken_all f k ws here.1))

module _ (i : Joint) (h : IsWhole i) (v : ℕ) (x : Var) (at : var_at i v ≡ Some x) (known : KnownIn (Some x)) where
  weighs_none : 0 < rules.weight rules.Waiting rules.Idle → ⊥
  unfolding rules.weight
  weighs_none some = omega (arith, some)

  called : (u : ℕ) (c : OpenCall) → var_call_at x u ≡ Some c → has_seat i u ≡ true
  called u c here =
      let there = ap (λ (o : Option Var). call_in o u) at ∙ here in
      both _ _ (lt-ltb u (length i.seats) (low_at i h v u c there)) (ap is_some (h.seated v u c there))

  by_call : (u : ℕ) (o : Option OpenCall) → var_call_at x u ≡ o → 0 < rules.weight rules.Waiting (phase_in o)
      → has_seat i u ≡ true
  by_call u None here some = absurd (weighs_none some)
  by_call u (Some c) here some = called u c here

  by_slot : (u : ℕ) (o : Option (Option OpenCall)) → slice_get x.calls u ≡ o → 0 < at_index (rules.weight rules.Waiting)
      (option_map phase_in o) → has_seat i u ≡ true
  by_slot u None is some = absurd (omega (arith, some))
  by_slot u (Some o) is some = by_call u o (ap (option_and_then (λ (y : Option OpenCall). y)) is) some

  waiters_seated : list_all (has_seat i) x.queue ≡ true
  waiters_seated = all_of (has_seat i) x.queue
      (λ u some. by_slot u (slice_get x.calls u) refl
      (subst (λ m. 0 < m)
      (known.1.lists u ∙ ap (at_index (rules.weight rules.Waiting)) (slice_get-map phase_in x.calls u)) some))

  seat_there : (o : Option ℕ) → is_some o ≡ true → o ≢ None
  seat_there None e e' = cc
  seat_there (Some y) e e' = none-some y (sym e')

  own_waiter : (t u : ℕ) → has_seat i u ≡ true → Own i t (back_in i.seats u)
  own_waiter t u is =
      (let (low, seat) = both_true _ _ is in
      (u, (seat_at i u).second, refl, ltb-true u (length i.seats) low, inr (seat_there (seat_at i u).at seat)))

  own_all : (t : ℕ) (ws : List ℕ) → list_all (has_seat i) ws ≡ true → OfEach (Own i t) None (map (entry i.seats x) ws)
  own_all t [] all = tt
  own_all t (u ∷ ws) all = (let here = both_true _ _ all in (own_waiter t u here.0, own_all t ws here.1))

  moved : (t m : ℕ) (u : State) (locked : Bool) (ws : List ℕ) → list_all (has_seat i) ws ≡ true
      → MovesIn (Some x) locked i.seats m ws (state i.rows) u → Left (Own i t) None None (state i.rows) u
  moved t m u true ws all h = left_all_taken (Own i t) None None m (map (entry i.seats x) ws) (state i.rows) u
      (own_all t ws all) h
  moved t m u false [] all e = left_same (Own i t) None None (state i.rows) u e
  moved t m u false (y ∷ ws) all (mid, first, rest) =
      let here = both_true _ _ all in
      left_both (Own i t) None None (state i.rows) mid u
      (left_roused (Own i t) None None (state i.rows) mid (back_in i.seats y) m false (own_waiter t y here.0)
      first)
      (left_all_taken (Own i t) None None m (map (entry i.seats x) ws) mid u (own_all t ws here.1) rest)

moved_in : (i : Joint) (h : IsWhole i) (v t m : ℕ) (u : State) (locked : Bool) (c : CondvarCall) (o : Option Var)
    → var_at i v ≡ o → KnownIn o → MovesIn o locked i.seats m (takes_now c o) (state i.rows) u
    → Left (Own i t) None None (state i.rows) u
moved_in i h v t m u locked c None at known moves = absurd moves
moved_in i h v t m u locked c (Some x) at known moves =
    moved i h v x at known t m u locked (takes_now c (Some x))
    (taken_all (has_seat i) (taken_of c (length x.queue)) x.queue (waiters_seated i h v x at known)) moves

-- ITS TURNS

rows_left : (i j : Joint) (t : ℕ) (asked : Option ℕ) → j.rows ≡ i.rows → Left (Own i t) asked None (state i.rows)
    (state j.rows)
rows_left i j t asked e = left_same (Own i t) asked None (state i.rows) (state j.rows) (ap state e)

module _ (i j : Joint) (t v : ℕ) (fair : Bool) (c : OpenCall) (h : IsWhole i) (fit : PartsFit i)
    (low : t < length i.seats) (here : call_at i v t ≡ Some c) (seats : SeatsLeft t i j) where
  abbrev s : State
  s = state i.rows

  abbrev u : State
  u = state j.rows

  abbrev Result : Turn → Type 0
  Result x = Leaves t (λ b. is_that (turn_beside x i c) b || is_that (turn_enters x i v t c) b) None i j

  -- what an act there enters
  acts_out : (e : Bool) (b : ℕ)
      → (is_that (enters_mutex (buckets i) c) b || is_that (cond e (Some (bucket_in (buckets i) v)) None) b) ≡ false
      → (e && (is_that (enters_mutex (buckets i) c) b || is_that (Some (bucket_in (buckets i) v)) b)) ≡ false
  acts_out true b out = out
  acts_out false b out = refl

  -- and one that leaves the section enters nothing
  none_out : var_turns.enters c ≡ false → (b : ℕ) → acts_enter (buckets i) v c b ≡ false
  none_out e b =
      ap (λ (x : Bool). x && (is_that (enters_mutex (buckets i) c) b || is_that (Some (bucket_in (buckets i) v)) b)) e

  -- of a number in a call that goes on
  stepped_of : (b : Bool) (a : Option CoreAnswer) (mid : State) (x : rows.IsStepped (number i t b) fair a s mid)
      → Left (Own i t) None (enters_at_lock i (number i t b)) s mid
  stepped_of b a mid x =
      subst (λ (e : Option ℕ). Left (Own i t) None e s mid)
      (ap (λ (o : Option Call). option_and_then (call_enters (buckets i)) o) (sym x.here))
      (left_stepped (Own i t) None s mid (number i t b) fair a fit.rows x)

  hears_of : (a : Option CoreAnswer) → HearsOf a t v i j → VarsLeft enters_none i j
  hears_of None vars = vars_kept enters_none i j vars
  hears_of (Some a) hears = hears_left enters_none i j t v Outside.Made hears

  there : (b : Bool) (d : Call) → row_call_at s (number i t b) ≡ Some d → WasThere None s d.lock
  there b d at = inr (inl (as_mutex i d.lock (stands_mutex i t c c.core (h.stands v t c here) b d at)))

  again : (b : Bool) (a : CoreAnswer) (d : Call) (mid : State) → row_call_at s (number i t b) ≡ Some d
      → rows.IsStepped (number i t b) fair (Some a) s mid → rows.IsBegun (number i t b) d.lock LockCall.Lock mid u
      → Left (Own i t) None (enters_at_lock i (number i t b)) s u
  again b a d mid at x begins =
      let first = stepped_of b (Some a) mid x in
      left_both (Own i t) None (enters_at_lock i (number i t b)) s mid u first
      (left_begun (Own i t) None (enters_at_lock i (number i t b)) mid u (number i t b) d.lock LockCall.Lock
      (own_first i t b low)
      (inr (inl (ap (λ ks. manner_of (slice_get ks d.lock)) first.kinds
      ∙ as_mutex i d.lock (stands_mutex i t c c.core (h.stands v t c here) b d at)))) begins)

  onward : (b late : Bool) (a : Option CoreAnswer) (d : Call) (mid : State) → row_call_at s (number i t b) ≡ Some d
      → rows.IsStepped (number i t b) fair a s mid → FollowsAs late a t (number i t b) v c d i mid j
      → Left (Own i t) None (enters_at_lock i (number i t b)) s u × VarsLeft enters_none i j
  onward b true None d mid at x (same, vars) =
      (subst (Left (Own i t) None _ s) (sym same) (stepped_of b None mid x), vars_kept enters_none i j vars)
  onward b false None d mid at x (same, hears) =
      (subst (Left (Own i t) None _ s) (sym same) (stepped_of b None mid x), hears_left enters_none i j t v _ hears)
  onward b true (Some answer.Owned) d mid at x (same, hears) = (
    subst (Left (Own i t) None _ s) (sym same) (stepped_of b (Some answer.Owned) mid x),
    hears_left enters_none i j t v _ hears,
  )
  onward b false (Some answer.Owned) d mid at x (same, hears) = (
    subst (Left (Own i t) None _ s) (sym same) (stepped_of b (Some answer.Owned) mid x),
    hears_left enters_none i j t v _ hears,
  )
  onward b true (Some answer.Refused) d mid at x (begins, hears) =
      (again b answer.Refused d mid at x begins, hears_left enters_none i j t v _ hears)
  onward b false (Some answer.Refused) d mid at x (begins, hears) =
      (again b answer.Refused d mid at x begins, hears_left enters_none i j t v _ hears)
  onward b true (Some answer.Released) d mid at x (begins, hears) =
      (again b answer.Released d mid at x begins, hears_left enters_none i j t v _ hears)
  onward b false (Some answer.Released) d mid at x (begins, hears) =
      (again b answer.Released d mid at x begins, hears_left enters_none i j t v _ hears)

  comes_back : (may : Bool) → ComesBackIf may (back_number i t) i j → Left (Own i t) None None s u
  comes_back true x = left_expired (Own i t) None None s u (back_number i t) x
  comes_back false e = rows_left i j t None e

  begun_of : (b : Bool) (d : LockCall) → IsMutex i (mutex_of c.call) → rows.IsBegun (number i t b) (mutex_of c.call) d s
      u → Left (Own i t) None None s u
  begun_of b d mutex x = left_begun (Own i t) None None s u (number i t b) (mutex_of c.call) d (own_first i t b low)
      (inr (inl (as_mutex i (mutex_of c.call) mutex))) x

  turned : (x : Turn) (reply : Option CondvarReply) → turn_of c ≡ x → Turned x t v fair c reply i j → Result x
  turned turn.Sleeps reply is z = absurd z
  turned turn.Acts reply is (acts, same) =
      leaves i j t None (λ b. is_that (enters_mutex (buckets i) c) b || is_that (enters_var (buckets i) v c) b) None
      (acts_enter (buckets i) v c) (rows_left i j t None same)
      (acts_left i j t v c reply here (ap is_act is) acts) seats (λ b e. refl)
      (λ b out. acts_out (var_turns.enters c) b out)
  turned turn.GivesUp reply is (acts, begins) =
      leaves i j t None (λ b. false) None (acts_enter (buckets i) v c)
      (begun_of (not (seat_at i t).second) LockCall.Unlock
      (waits_with i t c c.core (ap leaves_it is) (h.stands v t c here)) begins)
      (acts_left i j t v c reply here (ap is_act is) acts) seats (λ b e. refl)
      (λ b e. none_out (leaves_out c (ap leaves_it is)) b)
  turned turn.LocksAgain reply is (acts, begins) =
      leaves i j t None (λ b. false) None (acts_enter (buckets i) v c)
      (begun_of (seat_at i t).second LockCall.Lock (waits_with i t c c.core (ap leaves_it is) (h.stands v t c here))
      begins)
      (acts_left i j t v c reply here (ap is_act is) acts) seats (λ b e. refl)
      (λ b e. none_out (leaves_out c (ap leaves_it is)) b)
  turned turn.Unlocks reply is (none, a, x, hears) =
      leaves i j t None (λ b. is_that (enters_at_lock i (front_number i t)) b) (enters_at_lock i (front_number i t))
      enters_none (stepped_of (not (seat_at i t).second) a u x) (hears_of a hears) seats (λ b e. e) (λ b e. refl)
  turned turn.Locks reply is (none, a, x, hears) =
      leaves i j t None (λ b. is_that (enters_at_lock i (back_number i t)) b) (enters_at_lock i (back_number i t))
      enters_none (stepped_of (seat_at i t).second a u x) (hears_of a hears) seats (λ b e. e) (λ b e. refl)
  turned turn.Follows reply is (none, z) =
      let both = onward (seat_at i t).second (is_late z.d.core) z.answer z.d z.mid z.there z.step z.onward in
      leaves i j t None (λ b. is_that (enters_at_lock i (back_number i t)) b) (enters_at_lock i (back_number i t))
      enters_none both.0 both.1
      seats (λ b e. e) (λ b e. refl)
  turned turn.ComesBack reply is (none, hears, back) =
      leaves i j t None enters_none None enters_none (comes_back _ back)
      (hears_left enters_none i j t v _ hears) seats (λ b e. refl) (λ b e. refl)
  turned turn.Hears reply is (none, hears, same) =
      leaves i j t None enters_none None enters_none (rows_left i j t None same)
      (hears_left enters_none i j t v _ hears) seats (λ b e. refl) (λ b e. refl)
  turned turn.Moves reply is (none, z) =
      leaves i j t None enters_none None enters_none
      (moved_in i h v t _ u _ c.call (var_at i v) refl (fit.vars v) z.moves)
      (vars_written enters_none i j v z.notifies.0
      (notifies_in (buckets i) v enters_none t _ _ (var_at i v) z.notifies.0 z.notifies.1) z.notifies.2) seats
      (λ b e. refl) (λ b e. refl)

  enters_is : turn_enters (turn_of c) i v t c ≡ enters i t
  enters_is = sym (
      ap (λ (b : Bool). cond b (enters_at (seat_at i t).at i t) None) (lt-ltb t (length i.seats) low)
      ∙ ap (λ (o : Option ℕ). enters_at o i t) (h.seated v t c here)
      ∙ ap (λ (o : Option OpenCall). enters_as o i v t) here
      )

  beside_is : turn_beside (turn_of c) i c ≡ enters_beside i t
  beside_is = sym (
      ap (λ (b : Bool). cond b (beside_at (seat_at i t).at i t) None) (lt-ltb t (length i.seats) low)
      ∙ ap (λ (o : Option ℕ). beside_at o i t) (h.seated v t c here)
      ∙ ap (λ (o : Option OpenCall). beside_as o i) here
      )

  pub turned_leaves : (reply : Option CondvarReply) → Turned (turn_of c) t v fair c reply i j
      → Leaves t (enters_bucket i t) None i j
  turned_leaves reply z =
      subst (λ (o : Option ℕ). Leaves t (λ b. is_that o b || is_that (enters i t) b) None i j) beside_is
      (subst (λ (o : Option ℕ). Leaves t (λ b. is_that (turn_beside (turn_of c) i c) b || is_that o b) None i j)
      enters_is (turned (turn_of c) reply refl z))

-- ALL OF THEM

module _ (i j : Joint) (t : ℕ) (h : IsWhole i) (fit : PartsFit i) (low : t < length i.seats) where
  enters_free : (seat_at i t).at ≡ None → enters i t ≡ enters_at_lock i (busy_number i t)
  enters_free none = ap (λ (b : Bool). cond b (enters_at (seat_at i t).at i t) None) (lt-ltb t (length i.seats) low)
      ∙ ap (λ (o : Option ℕ). enters_at o i t) none

  beside_free : (seat_at i t).at ≡ None → enters_beside i t ≡ None
  beside_free none = ap (λ (b : Bool). cond b (beside_at (seat_at i t).at i t) None) (lt-ltb t (length i.seats) low)
      ∙ ap (λ (o : Option ℕ). beside_at o i t) none

  gone : (at : Option ℕ) (fair : Bool) (end : Option Ended) → (seat_at i t).at ≡ at → IsGoneAt at t fair end i j
      → Leaves t (enters_bucket i t) None i j
  gone None fair end none (a, z, ends) =
      subst (λ (o : Option ℕ). Leaves t (λ b. is_that o b || is_that (enters i t) b) None i j)
      (sym (beside_free none))
      (subst (λ (o : Option ℕ). Leaves t (λ b. is_that o b) None i j)
      (sym (enters_free none ∙ ap (λ (o : Option Call). option_and_then (call_enters (buckets i)) o) z.step.here))
      (leaves i j t None (λ b. is_that (call_enters (buckets i) z.step.call) b) (call_enters (buckets i) z.step.call)
      enters_none
      (left_stepped (Own i t) None (state i.rows) (state j.rows) (busy_number i t) fair a fit.rows z.step)
      (vars_kept enters_none i j z.vars) (seats_left t i j z.seats) (λ b e. e) (λ b e. refl)))
  gone (Some v) fair end seat (reply, z, ends) = turned_leaves i j t v fair z.call h fit low z.here
      (freed_left t reply i j z.seats) reply z.turned

  late : (at : Option ℕ) → IsLateAt at t i j → Leaves t enters_none None i j
  late None (x, vars, seats) =
      leaves i j t None enters_none None enters_none
      (left_expired (Own i t) None None (state i.rows) (state j.rows) (busy_number i t) x)
      (vars_kept enters_none i j vars) (seats_left t i j seats) (λ b e. refl) (λ b e. refl)
  late (Some v) (hears, same, seats) = leaves i j t None enters_none None enters_none (rows_left i j t None same)
      (hears_left enters_none i j t v _ hears) (seats_left t i j seats) (λ b e. refl) (λ b e. refl)

low_of : (t n : ℕ) (b : Bool) → (nat_lt t n && b) ≡ true → t < n
low_of t n b may = ltb-true t n (both_true _ _ may).0

pub steps_leave : StepsLeave
steps_leave = record {
  asks = λ t lock c i j h fit may x. leaves i j t (Some lock) enters_none None enters_none
      (left_begun (Own i t) (Some lock) None (state i.rows) (state j.rows) (number i t (has_by_second i t lock)) lock c
      (own_first i t (has_by_second i t lock) (low_of t _ _ may)) (inr (inr refl)) x.begins)
      (vars_kept enters_none i j x.vars) (seats_left t i j x.seats) (λ b e. refl) (λ b e. refl);
  calls = λ t v c i j h fit may x. leaves i j t None enters_none None enters_none (rows_left i j t None x.rows)
      (vars_written enters_none i j v x.begins.0
      (begins_in (buckets i) v enters_none t c (var_at i v) x.begins.0 x.begins.1) x.begins.2)
      (record {
        count = ap (λ (ss : List Seat). length ss) x.seats ∙ length-set i.seats t _;
        others = λ u ne. ap (λ (ss : List Seat). unwrap_or (slice_get ss u) nowhere) x.seats
            ∙ ap (λ (o : Option Seat). unwrap_or o nowhere) (get-set_other i.seats t u _ (λ e. ne (sym e)));
      }) (λ b e. refl) (λ b e. refl);
  steps = λ t fair end i j h fit may x. gone i j t h fit (low_of t _ _ may) (seat_at i t).at fair end refl x;
  deadlines = λ t i j h fit may x. late i j t h fit (low_of t _ _ may) (seat_at i t).at x;
}

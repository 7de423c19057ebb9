-- A thread can move where one is in a section, or in a call that doesn't wait for another.
use Rattle.std.proofs.Common.{cond, option_map, ◌≡◌, ◌⊎◌, inl, inr, ℕ, ◌-◌, ◌<◌, ◌&&◌, ◌||◌, Bool, true, false, not}
use Rattle.std.proofs.Common.{is_none, is_some, length, Option, Some, None, slice_get, refl, sym, ap, ◌∙◌, subst, arith}
use Rattle.std.proofs.Common.{eq-eqb}
use Rattle.std.specs.Option.{option_and_then, option_map_or}
use Rattle.std.proofs.lemmas.Bool.{cases_lt, lt-ltb}
use Rattle.std.proofs.lemmas.Option.{none-some}
use Rattle.parking_lot_machine_calls.specs.CallActs.{key_of}
use Rattle.parking_lot_machine_calls.specs.LateCalls.{late_key}
use Rattle.parking_lot_machine.specs.Rows.{open_at, State, call_at as row_call_at, state}
use Rattle.parking_lot_machine_waits.specs.Joint.{Joint, back_number, bucket_in, buckets, busy_by, busy_number, call_at}
use Rattle.parking_lot_machine_waits.specs.Joint.{call_enters, call_in, enters_at_lock, enters_mutex, enters_var}
use Rattle.parking_lot_machine_waits.specs.Joint.{front_number, is_open_at_locks, is_open_at_variables}
use Rattle.parking_lot_machine_waits.specs.Joint.{keeps_out, number, row_goes, seat_at, shuts_out, var_acts}
use Rattle.parking_lot_machine_waits.specs.Joint.{var_at, var_goes}
use Rattle.parking_lot_machine_waits.specs.JointProgress.{GiversAreOut, IsKeptOut, IsListed}
use Rattle.parking_lot_machine_waits.specs.JointSides.{beside_as, beside_at, enters as thread_enters, enters_as}
use Rattle.parking_lot_machine_waits.specs.JointSides.{enters_at, enters_beside, turn_beside, turn_enters}
use Rattle.parking_lot_machine_waits.specs.declared.turn.Turn.{Turn}
use Rattle.parking_lot_machine_waits.specs.declared.turn.Turn.TheVariants as turn
use Rattle.parking_lot_machine_waits.proofs.AnySections.{none_of_key}
use Rattle.parking_lot_machine_waits.proofs.Keeping.{none_kept}
use Rattle.parking_lot_machine_waits.proofs.Hearing.{both_true}
use Rattle.parking_lot_core_model.specs.declared.place.Section.{Section}
use Rattle.parking_lot_protocol_waits.specs.declared.notify_core.NotifyPhase.{NotifyPhase}
use Rattle.parking_lot_protocol_waits.specs.declared.notify_core.NotifyPhase.TheVariants as n
use Rattle.parking_lot_protocol_waits.specs.declared.wait_act.WaitAnswer.{WaitAnswer}
use Rattle.parking_lot_protocol_waits.specs.declared.wait_act.WaitAnswer.TheVariants as end
use Rattle.parking_lot_protocol_waits.specs.declared.wait_core.WaitPhase.{WaitPhase}
use Rattle.parking_lot_protocol_waits.specs.declared.wait_core.WaitPhase.TheVariants as w
use Rattle.parking_lot_machine_sides.specs.declared.condvar.open_call.Core.{Core}
use Rattle.parking_lot_machine_sides.specs.declared.condvar.open_call.Core.TheVariants as core
use Rattle.parking_lot_machine_sides.specs.declared.condvar.open_call.OpenCall.{OpenCall}
use Rattle.parking_lot_machine_sides.specs.Condvar.Fitting.{is_the}
use Rattle.parking_lot_machine_sides.specs.Condvar.Machines.{State as Var, may_step}
use Rattle.parking_lot_machine_sides.specs.Condvar.Turns.{enters, enters_beside as call_beside, enters_beside_by}
use Rattle.parking_lot_machine_sides.specs.Condvar.Turns.{enters_by, is_inside_by, is_own, is_own_by, notify_enters}
use Rattle.parking_lot_machine_sides.specs.Condvar.Turns.{notify_enters_beside, notify_is_inside, wait_is_inside}
use Rattle.parking_lot_machine_sides.proofs.CondvarFacts.Slots.{slot, within}
use Rattle.parking_lot_machine_calls.specs.declared.open_call.Call.{Call}
use Rattle.parking_lot_machine_calls.specs.declared.seat.Core.{Core as RowCore}
use Rattle.parking_lot_machine.specs.Machines.{can_move, can_move_in, is_asleep, is_asleep_in}
use Rattle.parking_lot_machine.proofs.InTime.{awake_in_time}
use Rattle.parking_lot_machine.specs.SoundLaws.{Always, AwakeCanMove, SomebodyCanMove as RowSomebodyCanMove}
use Rattle.parking_lot_machine.proofs.Carrying.{call_within}
use Rattle.parking_lot_machine.proofs.Serving.{goes_on}
use Rattle.parking_lot_machine_waits.specs.JointLaws.{PartsFit}
use Rattle.parking_lot_machine_waits.specs.JointMoves.{is_free, may_go, may_go_as, may_go_at, may_turn}
use Rattle.parking_lot_machine_waits.specs.JointSteps.{KnownIn}
use Rattle.parking_lot_machine_waits.specs.Turns.{notify_turn, turn_by, turn_of, wait_turn}
use Rattle.parking_lot_machine_waits.specs.Whole.{AtMutex, Asks, IsIn, IsSo, IsWhole, Notifies, Stands, Waits, asks}
use Rattle.parking_lot_machine_waits.specs.Whole.{asks_on, back_at_end, back_of, front_at_end, front_of, gives}
use Rattle.parking_lot_machine_waits.proofs.RankParts.{idle_of}
use Rattle.parking_lot_machine_waits.proofs.Awake.{may_act, and_too, outside_too, not_strict, inside_enters_none}
use Rattle.parking_lot_machine_waits.proofs.Awake.{giver_awake, open_somewhere, shut_each, some_of}
use Rattle.parking_lot_machine_waits.proofs.Opened.{none_shuts, or_false}

-- A thread may go, and where it is to be strict, it enters no section.
module _ (j : Joint) (h : IsWhole j) (fits : PartsFit j) (strict : Bool) where
  abbrev s : State
  s = state j.rows

  -- a bucket is entered
  abbrev pub opens : Option ℕ → Option ℕ → Bool
  opens beside o = is_some beside || is_some o

  abbrev pub goes_as : ℕ → Bool
  goes_as u = may_go j u && not (opens (enters_beside j u) (thread_enters j u) && strict)

  abbrev turn_as : Turn → ℕ → ℕ → OpenCall → Bool
  turn_as x t v c = may_turn x j t v c && not (opens (turn_beside x j c) (turn_enters x j v t c) && strict)

  abbrev row_as : ℕ → Bool
  row_as k = row_goes j k && not (is_some (enters_at_lock j k) && strict)

  abbrev pub Somebody : Type 0
  Somebody = (u : ℕ) × (goes_as u ≡ true)

  -- a thread whose turn can be taken
  turns : (t v : ℕ) (c : OpenCall) → t < length j.seats → call_at j v t ≡ Some c → turn_as (turn_of c) t v c ≡ true
      → goes_as t ≡ true
  turns t v c low here goes =
      ap (λ b. (b && may_go_at (seat_at j t).at j t)
      && not (opens (cond b (beside_at (seat_at j t).at j t) None) (cond b (enters_at (seat_at j t).at j t) None)
      && strict)) (lt-ltb t (length j.seats) low)
      ∙ ap (λ (o : Option ℕ). may_go_at o j t && not (opens (beside_at o j t) (enters_at o j t) && strict))
      (h.seated v t c here)
      ∙ ap (λ (o : Option OpenCall). may_go_as o j t v && not (opens (beside_as o j) (enters_as o j v t) && strict))
      here
      ∙ goes

  no_entry : (b : Bool) (o : Option ℕ) → b ≡ false → shuts_out j (cond b o None) ≡ false
  no_entry true o e = absurd cc
  no_entry false o e = refl

  no_beside : (listed : Bool) (k : Core) → enters_by listed k ≡ false → enters_beside_by k ≡ None
  no_beside listed (core.Wait q) e = refl
  no_beside listed (core.Notify q) e = no_notice q.phase e
    where
      no_notice : (p : NotifyPhase) → notify_enters p ≡ false → notify_enters_beside p ≡ None
      no_notice (n.Enters all word) f = absurd cc
      no_notice p f = refl

  -- it makes its own act at the variable
  acts : (t v : ℕ) (c : OpenCall) (x : Var) → var_at j v ≡ Some x → call_at j v t ≡ Some c → is_own c ≡ true
      → (enters c ≡ false) ⊎ ((x.inside ≡ None) × (is_open_at_locks j ≡ false) × (is_open_at_variables j ≡ false))
      → var_goes j v t c (var_at j v) ≡ true
  acts t v c x at here own free =
      ap (λ b. b && not (shuts_out j (enters_var (buckets j) v c) || shuts_out j (enters_mutex (buckets j) c)))
      (ap (λ (o : Option Var). var_acts o t) at
      ∙ ap (λ (o : Option OpenCall). option_map_or (may_step x.inside) o false)
      (sym (ap (λ (o : Option Var). call_in o t) at) ∙ here))
      ∙ may_act (is_own c) (enters c) (is_none x.inside)
      (shuts_out j (enters_var (buckets j) v c) || shuts_out j (enters_mutex (buckets j) c)) own (inner free)
      (outer free)
    where
      inner : (enters c ≡ false) ⊎ ((x.inside ≡ None) × (is_open_at_locks j ≡ false) × (is_open_at_variables j ≡ false))
          → (enters c ≡ false) ⊎ (is_none x.inside ≡ true)
      inner (inl e) = inl e
      inner (inr (none, locks, vars)) = inr (ap (λ (o : Option ℕ). is_none o) none)

      outer : (enters c ≡ false) ⊎ ((x.inside ≡ None) × (is_open_at_locks j ≡ false) × (is_open_at_variables j ≡ false))
          → (shuts_out j (enters_var (buckets j) v c) || shuts_out j (enters_mutex (buckets j) c)) ≡ false
      outer (inl e) = or_false _ _ (no_entry (enters c) (Some (bucket_in (buckets j) v)) e)
          (ap (λ (o : Option ℕ). shuts_out j (option_map (bucket_in (buckets j)) o)) (no_beside c.listed c.core e))
      outer (inr (none, locks, vars)) = or_false _ _ (none_shuts j fits locks vars (enters_var (buckets j) v c))
          (none_shuts j fits locks vars (enters_mutex (buckets j) c))

  -- INSIDE A VARIABLE'S SECTION

  module _ (t v : ℕ) (c : OpenCall) (x : Var) (at : var_at j v ≡ Some x) (here : call_at j v t ≡ Some c) where
    acts_in : (k : Core) → c.core ≡ k → is_own_by c.listed k ≡ true → enters_by c.listed k ≡ false
        → turn_as turn.Acts t v c ≡ true
    acts_in k is own outside =
        let out = ap (enters_by c.listed) is ∙ outside in
        outside_too (var_goes j v t c (var_at j v)) (opens (enters_mutex (buckets j) c) (enters_var (buckets j) v c))
        strict
        (acts t v c x at here (ap (is_own_by c.listed) is ∙ own) (inl out))
        (none_opened (enters c) out (call_beside c) (no_beside c.listed c.core out))
      where
        none_opened : (e : Bool) → e ≡ false → (o : Option ℕ) → o ≡ None
            → opens (option_map (bucket_in (buckets j)) o) (cond e (Some (bucket_in (buckets j) v)) None) ≡ false
        none_opened true f o g = absurd cc
        none_opened false f None g = refl
        none_opened false f (Some m) g = absurd cc

    -- a turn that begins a call at the mutex enters none
    gives_on : turn_as turn.Acts t v c ≡ true → (var_goes j v t c (var_at j v) && true) ≡ true
    gives_on goes = and_too (var_goes j v t c (var_at j v)) false (both_true _ _ goes).0 refl

    wait_inside : (listed : Bool) (p : WaitPhase) → c.listed ≡ listed → c.core ≡ core.Wait (record { phase = p })
        → wait_is_inside listed p ≡ true → turn_as (wait_turn listed p) t v c ≡ true
    wait_inside listed (w.Checks k) e is i = acts_in _ is refl refl
    wait_inside listed w.Retreats e is i = acts_in _ is refl refl
    wait_inside listed (w.Appends k) e is i = acts_in _ is refl refl
    wait_inside listed (w.Shows k) e is i = acts_in _ is refl refl
    wait_inside listed (w.Rests k) e is i = gives_on (acts_in _ is refl refl)
    wait_inside true (w.Quits k) e is i = acts_in _ is e refl
    wait_inside false (w.Quits k) e is i = absurd cc
    wait_inside listed w.Forgets e is i = acts_in _ is refl refl
    wait_inside listed (w.Leaves true) e is i = gives_on (acts_in _ is refl refl)
    wait_inside listed (w.Leaves false) e is i = absurd cc
    wait_inside listed (w.Waiting k) e is i = absurd cc
    wait_inside listed w.Stranger e is i = absurd cc
    wait_inside listed w.GivingWay e is i = absurd cc
    wait_inside listed w.Looks e is i = absurd cc
    wait_inside listed (w.Enters k) e is i = absurd cc
    wait_inside listed (w.Unlocks k) e is i = absurd cc
    wait_inside listed (w.Sleeps k) e is i = absurd cc
    wait_inside listed (w.Expires k) e is i = absurd cc
    wait_inside listed w.Masks e is i = absurd cc
    wait_inside listed (w.Resumes token) e is i = absurd cc
    wait_inside listed w.Yields e is i = absurd cc
    wait_inside listed (w.Locks timed_out) e is i = absurd cc
    wait_inside listed (w.Ends a) e is i = absurd cc
    wait_inside listed w.Invalid e is i = absurd cc

    notify_inside : (p : NotifyPhase) → c.core ≡ core.Notify (record { phase = p }) → Notifies j t p
        → notify_is_inside p ≡ true → turn_as (notify_turn p) t v c ≡ true
    notify_inside (n.Checks all word) is s i = acts_in _ is refl refl
    notify_inside (n.Marks all) is s i = refl
    notify_inside (n.Moves all locked) is s i = absurd (s.turns refl)
    notify_inside (n.MarksRest notice) is s i = refl
    notify_inside (n.Forgets notice) is s i = acts_in _ is refl refl
    notify_inside (n.Leaves notice) is s i = acts_in _ is refl refl
    notify_inside (n.Notifying all) is s i = absurd cc
    notify_inside (n.Loads all) is s i = absurd cc
    notify_inside (n.Enters all word) is s i = absurd cc
    notify_inside (n.Wakes count) is s i = absurd cc
    notify_inside (n.Ends count) is s i = absurd cc
    notify_inside n.Invalid is s i = absurd cc

    core_inside : (k : Core) → c.core ≡ k → Stands j t c k → is_inside_by c.listed k ≡ true
        → turn_as (turn_by c.listed k) t v c ≡ true
    core_inside (core.Wait q) is stands i = wait_inside c.listed q.phase refl is i
    core_inside (core.Notify q) is stands i = notify_inside q.phase is stands i

  -- whoever is in the section of a variable can move
  pub var_open : is_open_at_variables j ≡ true → Somebody
  var_open e = go (open_somewhere j.vars e)
    where
      go : (v : ℕ) × (x : Var) × (slice_get j.vars v ≡ Some (Some x)) × (is_some x.inside ≡ true) → Somebody
      go (v, x, place, some) =
          let at = ap (option_and_then (λ (o : Option Var). o)) place in
          let (u, is) = some_of x.inside some in
          let known = subst KnownIn at (fits.vars v) in
          let (c, there) = known.0.inside u is in
          let here = ap (λ (o : Option Var). call_in o u) at ∙ there in
          let low = subst (λ m. u < m) (h.threads v x at) (within x.calls u c there) in
          let inside_it = (known.0.seated u c there).section ∙ ap (λ (o : Option ℕ). is_the o u) is ∙ eq-eqb u u refl in
          (u, turns u v c low here (core_inside u v c x at here c.core refl (h.stands v u c here) inside_it))

  -- AT A LOCK

  -- one in a call there isn't idle
  busy : {X : Type 0} (k : ℕ) (d : Call) → row_call_at s k ≡ Some d → row_call_at s k ≡ None → X
  busy k d here none = absurd (none-some d (sym none ∙ here))

  end_front : {X : Type 0} (a : WaitAnswer) (k q : ℕ) (d : Call) → IsSo (front_at_end a) s k q
      → row_call_at s k ≡ Some d → X
  end_front end.WrongMutex k q d x here = busy k d here (idle_of s k x.0)
  end_front end.Woken k q d x here = busy k d here (idle_of s k x.0)
  end_front end.TimedOut k q d x here = busy k d here (idle_of s k x.0)
  end_front end.WrongLot k q d x here = absurd x

  end_back : {X : Type 0} (a : WaitAnswer) (k q : ℕ) (d : Call) → IsSo (back_at_end a) s k q → row_call_at s k ≡ Some d
      → X
  end_back end.WrongMutex k q d x here = busy k d here (idle_of s k x.0)
  end_back end.Woken k q d x here = busy k d here (idle_of s k x.0)
  end_back end.TimedOut k q d x here = busy k d here (idle_of s k x.0)
  end_back end.WrongLot k q d x here = absurd x

  -- A number that can move at a lock: its thread's turn is that number's. Where the thread still gives its mutex up it
  -- is the other's.
  module _ (t v : ℕ) (c : OpenCall) where
    front_turn : (listed : Bool) (p : WaitPhase) (q : ℕ) (d : Call) → IsSo (front_of p) s (front_number j t) q
        → row_call_at s (front_number j t) ≡ Some d → row_as (front_number j t) ≡ true
        → turn_as (wait_turn listed p) t v c ≡ true
    front_turn listed (w.Unlocks k) q d x here goes = goes
    front_turn listed (w.Enters k) q d x here goes = busy _ d here (idle_of s _ x.0)
    front_turn listed (w.Checks k) q d x here goes = busy _ d here (idle_of s _ x.0)
    front_turn listed w.Retreats q d x here goes = busy _ d here (idle_of s _ x.0)
    front_turn listed (w.Appends k) q d x here goes = busy _ d here (idle_of s _ x.0)
    front_turn listed (w.Shows k) q d x here goes = busy _ d here (idle_of s _ x.0)
    front_turn listed (w.Rests k) q d x here goes = busy _ d here (idle_of s _ x.0)
    front_turn listed (w.Sleeps k) q d x here goes = busy _ d here (idle_of s _ x.0)
    front_turn listed (w.Expires k) q d x here goes = busy _ d here (idle_of s _ x.0)
    front_turn listed (w.Quits k) q d x here goes = busy _ d here (idle_of s _ x.0)
    front_turn listed w.Forgets q d x here goes = busy _ d here (idle_of s _ x.0)
    front_turn listed (w.Leaves true) q d x here goes = busy _ d here (idle_of s _ x.0)
    front_turn listed (w.Resumes token) q d x here goes = busy _ d here (idle_of s _ x.0)
    front_turn listed (w.Locks timed_out) q d x here goes = busy _ d here (idle_of s _ x.0)
    front_turn listed (w.Ends a) q d x here goes = end_front a _ q d x here
    front_turn listed (w.Leaves false) q d x here goes = absurd x
    front_turn listed (w.Waiting k) q d x here goes = absurd x
    front_turn listed w.Stranger q d x here goes = absurd x
    front_turn listed w.GivingWay q d x here goes = absurd x
    front_turn listed w.Looks q d x here goes = absurd x
    front_turn listed w.Masks q d x here goes = absurd x
    front_turn listed w.Yields q d x here goes = absurd x
    front_turn listed w.Invalid q d x here goes = absurd x

    -- it doesn't give its mutex up, or it can
    abbrev GivesOn : WaitPhase → Type 0
    GivesOn (w.Unlocks k) = row_as (front_number j t) ≡ true
    GivesOn p = Unit {0}

    back_turn : (listed : Bool) (p : WaitPhase) (q : ℕ) (d : Call) → GivesOn p
        → IsSo (back_of listed p) s (back_number j t) q → row_call_at s (back_number j t) ≡ Some d
        → row_as (back_number j t) ≡ true → turn_as (wait_turn listed p) t v c ≡ true
    back_turn listed (w.Unlocks k) q d gives x here goes = gives
    back_turn true (w.Sleeps k) q d gives x here goes = busy _ d here (idle_of s _ x.0)
    back_turn false (w.Sleeps k) q d gives x here goes = goes
    back_turn true (w.Expires k) q d gives x here goes = busy _ d here (idle_of s _ x.0)
    back_turn false (w.Expires k) q d gives x here goes = refl
    back_turn true (w.Quits k) q d gives x here goes = busy _ d here (idle_of s _ x.0)
    back_turn false (w.Quits k) q d gives x here goes = goes
    back_turn listed (w.Locks timed_out) q d gives x here goes = goes
    back_turn listed (w.Resumes token) q d gives x here goes = refl
    back_turn listed (w.Enters k) q d gives x here goes = busy _ d here (idle_of s _ x.0)
    back_turn listed (w.Checks k) q d gives x here goes = busy _ d here (idle_of s _ x.0)
    back_turn listed w.Retreats q d gives x here goes = busy _ d here (idle_of s _ x.0)
    back_turn listed (w.Appends k) q d gives x here goes = busy _ d here (idle_of s _ x.0)
    back_turn listed (w.Shows k) q d gives x here goes = busy _ d here (idle_of s _ x.0)
    back_turn listed (w.Rests k) q d gives x here goes = busy _ d here (idle_of s _ x.0)
    back_turn listed w.Forgets q d gives x here goes = busy _ d here (idle_of s _ x.0)
    back_turn listed (w.Leaves true) q d gives x here goes = busy _ d here (idle_of s _ x.0)
    back_turn listed (w.Ends a) q d gives x here goes = end_back a _ q d x here
    back_turn listed (w.Leaves false) q d gives x here goes = absurd x
    back_turn listed (w.Waiting k) q d gives x here goes = absurd x
    back_turn listed w.Stranger q d gives x here goes = absurd x
    back_turn listed w.GivingWay q d gives x here goes = absurd x
    back_turn listed w.Looks q d gives x here goes = absurd x
    back_turn listed w.Masks q d gives x here goes = absurd x
    back_turn listed w.Yields q d gives x here goes = absurd x
    back_turn listed w.Invalid q d gives x here goes = absurd x

    -- by either number
    by_number : (b second : Bool) → (seat_at j t).second ≡ second → (p : WaitPhase) → Waits j t c p → GivesOn p
        → (d : Call) → row_call_at s (number j t b) ≡ Some d → row_as (number j t b) ≡ true
        → turn_as (wait_turn c.listed p) t v c ≡ true
    by_number true true is p x gives d here goes =
        let same = ap (number j t) is in
        back_turn c.listed p _ d gives x.back (ap (row_call_at s) same ∙ here) (ap (row_as) same ∙ goes)
    by_number false false is p x gives d here goes =
        let same = ap (number j t) is in
        back_turn c.listed p _ d gives x.back (ap (row_call_at s) same ∙ here) (ap (row_as) same ∙ goes)
    by_number true false is p x gives d here goes =
        let same = ap (λ b. number j t (not b)) is in
        front_turn c.listed p _ d x.front (ap (row_call_at s) same ∙ here) (ap (row_as) same ∙ goes)
    by_number false true is p x gives d here goes =
        let same = ap (λ b. number j t (not b)) is in
        front_turn c.listed p _ d x.front (ap (row_call_at s) same ∙ here) (ap (row_as) same ∙ goes)

    notifier_idle : {X : Type 0} (b : Bool) (p : NotifyPhase) → Notifies j t p → (d : Call)
        → row_call_at s (number j t b) ≡ Some d → X
    notifier_idle true p x d here = busy _ d here x.second
    notifier_idle false p x d here = busy _ d here x.first

    by_core : (b : Bool) (k : Core) → Stands j t c k
        → ((p : WaitPhase) → k ≡ core.Wait (record { phase = p }) → GivesOn p) → (d : Call)
        → row_call_at s (number j t b) ≡ Some d → row_as (number j t b) ≡ true
        → turn_as (turn_by c.listed k) t v c ≡ true
    by_core b (core.Wait q) x gives d here goes =
        by_number b (seat_at j t).second refl q.phase x (gives q.phase refl) d here goes
    by_core b (core.Notify q) x gives d here goes = notifier_idle b q.phase x d here

  -- whoever gives its mutex up can
  abbrev GiversGo : ℕ → Type 0
  GiversGo t = (v q : ℕ) (c : OpenCall) → call_at j v t ≡ Some c → c.core ≡ core.Wait (record { phase = w.Unlocks q })
      → row_as (front_number j t) ≡ true

  number_goes : (t : ℕ) (b : Bool) (d : Call) → t < length j.seats → GiversGo t → row_call_at s (number j t b) ≡ Some d
      → row_as (number j t b) ≡ true → goes_as t ≡ true
  number_goes t b d low givers here goes = by_seat (seat_at j t).at refl
    where
      alone : (b : Bool) → (row_call_at s t ≡ None) ⊎ (row_call_at s (number j t true) ≡ None)
          → row_call_at s (number j t b) ≡ Some d → busy_number j t ≡ number j t b
      alone true (inl none) here = ap (λ (o : Option Call). busy_by o t (number j t true)) none
      alone true (inr none) here = busy _ d here none
      alone false other here = ap (λ (o : Option Call). busy_by o t (number j t true)) here

      gives : (v : ℕ) (c : OpenCall) → call_at j v t ≡ Some c → (p : WaitPhase)
          → c.core ≡ core.Wait (record { phase = p }) → GivesOn t v c p
      gives v c at (w.Unlocks q) is = givers v q c at is
      gives v c at p is = tt

      by_seat : (o : Option ℕ) → (seat_at j t).at ≡ o → goes_as t ≡ true
      by_seat None seat =
          ap (λ b. (b && may_go_at (seat_at j t).at j t)
          && not (opens (cond b (beside_at (seat_at j t).at j t) None) (cond b (enters_at (seat_at j t).at j t) None)
          && strict)) (lt-ltb t (length j.seats) low)
          ∙ ap (λ (o : Option ℕ). may_go_at o j t && not (opens (beside_at o j t) (enters_at o j t) && strict)) seat
          ∙ ap (row_as) (alone b (h.one t seat) here)
          ∙ goes
      by_seat (Some v) seat =
          let (c, at) = h.sits v t seat in
          turns t v c low at (by_core t v c b c.core (h.stands v t c at) (gives v c at) d here goes)

  -- the thread of a number
  number_of : (k : ℕ) → k < length s.calls → (t : ℕ) × (b : Bool) × (t < length j.seats) × (k ≡ number j t b)
  number_of k low = elim (cases_lt k (length j.seats)) [
    | inl less ↦ (k, false, less, refl)
    | inr more ↦ (k - length j.seats, true, omega (arith, low, h.numbers, more), omega (arith, more))
  ]

  -- WHERE NO SECTION OF A VARIABLE IS OPEN

  module _ (out : GiversAreOut j) (awake : Always AwakeCanMove) (somebody : Always RowSomebodyCanMove)
      (shut : is_open_at_variables j ≡ false) where
    row_free : (k : ℕ) → can_move s k ≡ true → (is_some (enters_at_lock j k) && strict) ≡ false → row_as k ≡ true
    row_free k can out = and_too (row_goes j k) (is_some (enters_at_lock j k) && strict)
        (and_too (can_move s k) (keeps_out j (enters_at_lock j k)) can (none_out (enters_at_lock j k))) out
      where
        none_out : (o : Option ℕ) → keeps_out j o ≡ false
        none_out None = refl
        none_out (Some b) = none_kept j b shut

    -- the one inside a section of a lock can move
    pub in_section : (b : ℕ) (o : Section) → s.lot.sections b ≡ Some o → Somebody
    in_section b o is = go (row_call_at s w) refl
        (goes_on s fits.rows b o is (row_call_at s w) (fits.rows.lots.seated w (fits.rows.lots.opened b o is).2))
      where
        w : ℕ
        w = (fits.rows.lots.opened b o is).0

        is_inside : s.lot.inside w ≡ Some o.key
        is_inside = fits.rows.lots.sound.fit.owner b o w is (fits.rows.lots.opened b o is).1

        outside_again : (n : ℕ) → s.lot.inside n ≡ None → w ≡ n → ⊥
        outside_again n none same = none-some o.key (sym none ∙ (ap s.lot.inside (sym same) ∙ is_inside))

        enters_none : (d : Call) → row_call_at s w ≡ Some d → (is_some (enters_at_lock j w) && strict) ≡ false
        enters_none d here = ap (λ (b : Option ℕ). is_some b && strict)
            (ap (λ (o : Option Call). option_and_then (call_enters (buckets j)) o) here
            ∙ inside_enters_none s fits.rows w d here o.key is_inside)

        it_goes : (d : Call) → row_call_at s w ≡ Some d → can_move s w ≡ true → (t : ℕ) (b : Bool) → t < length j.seats
            → w ≡ number j t b → Somebody
        it_goes d here can t b low at = (
          t,
          number_goes t b d low givers (sym (ap (row_call_at s) at) ∙ here)
              (sym (ap row_as at) ∙ row_free w can (enters_none d here)),
        )
          where
            givers : GiversGo t
            givers v q c there is = by (seat_at j t).second refl b refl
              where
                by : (second : Bool) → (seat_at j t).second ≡ second → (b' : Bool) → b ≡ b'
                    → row_as (front_number j t) ≡ true
                by true x true y = absurd (outside_again (back_number j t) (out v t q c there is)
                    (at ∙ ap (number j t) (y ∙ sym x)))
                by false x false y = absurd (outside_again (back_number j t) (out v t q c there is)
                    (at ∙ ap (number j t) (y ∙ sym x)))
                by true x false y = ap row_as (ap (λ z. number j t (not z)) x ∙ sym (at ∙ ap (number j t) y))
                    ∙ row_free w can (enters_none d here)
                by false x true y = ap row_as (ap (λ z. number j t (not z)) x ∙ sym (at ∙ ap (number j t) y))
                    ∙ row_free w can (enters_none d here)

        go : (o : Option Call) → row_call_at s w ≡ o → can_move_in s o ≡ true → Somebody
        go None here can = absurd cc
        go (Some d) here can =
            let (t, b, low, at) = number_of w (call_within s w d here) in
            it_goes d here (ap (can_move_in s) here ∙ can) t b low at

    -- AND NONE OF A LOCK

    module _ (none : is_open_at_locks j ≡ false) (lax : strict ≡ false) where
      none_there : (key : ℕ) → open_at s key ≡ None
      none_there key = none_of_key s.lot key fits.rows.lots.sound.fit.some none

      up : (k : ℕ) (d : Call) → row_call_at s k ≡ Some d → is_asleep s k ≡ false → row_as k ≡ true
      up k d here is = row_free k
          (awake s fits.rows k d here is (λ key e. none_there (key_of d key)) (λ comes. none_there (late_key d)))
          (not_strict (is_some (enters_at_lock j k)) strict lax)

      givers_go : (t : ℕ) → GiversGo t
      givers_go t v q c here is =
          let x = (subst (Stands j t c) is (h.stands v t c here)).front in
          up (front_number j t) x.call x.here
          (ap is_asleep_in x.here ∙ awake_in_time x.call.core (giver_awake x.call.core x.is))

      anothers : (u : ℕ) → can_move s u ≡ true → Somebody
      anothers u can = go (row_call_at s u) refl can
        where
          go : (o : Option Call) → row_call_at s u ≡ o → can_move_in s o ≡ true → Somebody
          go None here x = absurd cc
          go (Some d) here x =
              let (t, b, low, at) = number_of u (call_within s u d here) in (
                t,
                number_goes t b d low (givers_go t) (sym (ap (row_call_at s) at) ∙ here)
                    (sym (ap row_as at)
                    ∙ row_free u can (not_strict (is_some (enters_at_lock j u)) strict lax)),
              )

      module _ (t : ℕ) (low : t < length j.seats) where
        abbrev Ends : Type 0
        Ends = Somebody ⊎ (IsListed j t ⊎ IsKeptOut j t)

        -- a number in a call at a lock
        at_lock : (b : Bool) (d : Call) → row_call_at s (number j t b) ≡ Some d → Ends
        at_lock b d here = go (is_asleep s (number j t b)) refl
          where
            go : (asleep : Bool) → is_asleep s (number j t b) ≡ asleep → Ends
            go false is = inl (t, number_goes t b d low (givers_go t) here (up (number j t b) d here is))
            go true is = elim (somebody s fits.rows (number j t b) d here) [
              | inl x ↦ inl (anothers x.0 x.1)
              | inr x ↦ inr (inr (record { second = b; call = d; here = here; asleep = is; kept = x.1 }))
            ]

        unseated : (seat_at j t).at ≡ None → is_free j t ≡ false → Ends
        unseated seat called = go (row_call_at s t) refl (row_call_at s (number j t true)) refl
          where
            go : (o : Option Call) → row_call_at s t ≡ o → (p : Option Call) → row_call_at s (number j t true) ≡ p
                → Ends
            go (Some d) is p is' = at_lock false d is
            go None is (Some d) is' = at_lock true d is'
            go None is None is' =
                absurd (both_ways
                (sym (ap (λ (o : Option ℕ). is_none o
                && (is_none (row_call_at s t) && is_none (row_call_at s (number j t true)))) seat
                ∙ ap (λ (o : Option Call). is_none o && is_none (row_call_at s (number j t true))) is
                ∙ ap (λ (o : Option Call). is_none o) is') ∙ called))
              where
                both_ways : true ≡ false → ⊥
                both_ways e = cc

        module _ (v : ℕ) (c : OpenCall) (here : call_at j v t ≡ Some c) where
          goes : turn_as (turn_of c) t v c ≡ true → Ends
          goes x = inl (t, turns t v c low here x)

          -- where it isn't to be strict, it may enter
          laxly : (x : Turn) → may_turn x j t v c ≡ true → turn_as x t v c ≡ true
          laxly x goes = and_too (may_turn x j t v c) (opens (turn_beside x j c) (turn_enters x j v t c) && strict) goes
              (not_strict (opens (turn_beside x j c) (turn_enters x j v t c)) strict lax)

          acts_now : (k : Core) → c.core ≡ k → is_own_by c.listed k ≡ true → var_goes j v t c (var_at j v) ≡ true
          acts_now k is own = go (var_at j v) refl
            where
              go : (o : Option Var) → var_at j v ≡ o → var_goes j v t c (var_at j v) ≡ true
              go None at = absurd (none-some c (sym (ap (λ (o : Option Var). call_in o t) at) ∙ here))
              go (Some x) at = acts t v c x at here (ap (is_own_by c.listed) is ∙ own)
                  (inr (
                    shut_each j.vars v x shut (slot j.vars v x at),
                    none,
                    shut,
                  ))

          acting : (k : Core) → c.core ≡ k → is_own_by c.listed k ≡ true → may_turn (turn_by c.listed k) j t v c
              ≡ var_goes j v t c (var_at j v) → Ends
          acting k is own turn =
              goes
              (laxly (turn_of c)
              (ap (λ (x : Core). may_turn (turn_by c.listed x) j t v c) is ∙ turn ∙ acts_now k is own))

          -- one of its numbers is in a call at the mutex
          calling : (sort : RowCore → Bool) (b : Bool) (q : ℕ) → IsIn sort s (number j t b) q → Ends
          calling sort b q x = at_lock b x.call x.here

          unlisted : (p : WaitPhase) (q : ℕ) → c.listed ≡ false → back_of false p ≡ Asks
              → IsSo (back_of c.listed p) s (back_number j t) q → IsSo Asks s (back_number j t) q
          unlisted p q e asks x =
              subst (λ (a : AtMutex). IsSo a s (back_number j t) q) (ap (λ b. back_of b p) e ∙ asks) x

          by_phase : (listed : Bool) (p : WaitPhase) → c.listed ≡ listed → c.core ≡ core.Wait (record { phase = p })
              → Waits j t c p → Ends
          by_phase listed (w.Enters k) e is x = acting _ is refl refl
          by_phase listed (w.Checks k) e is x = acting _ is refl refl
          by_phase listed w.Retreats e is x = acting _ is refl refl
          by_phase listed (w.Appends k) e is x = acting _ is refl refl
          by_phase listed (w.Shows k) e is x = acting _ is refl refl
          by_phase listed (w.Rests k) e is x = acting _ is refl refl
          by_phase listed (w.Unlocks k) e is x = calling gives (not (seat_at j t).second) _ x.front
          by_phase true (w.Sleeps k) e is x =
              inr (inl (record {
                variable = v;
                call = c;
                here = here;
                listed = e;
                sleeps = ap (turn_by c.listed) is
                    ∙ ap (λ b. wait_turn b (w.Sleeps k)) e;
              }))
          by_phase false (w.Sleeps k) e is x =
              calling asks (seat_at j t).second _ (unlisted (w.Sleeps k) _ e refl x.back)
          by_phase true (w.Expires k) e is x = acting _ is e (ap (λ b. may_turn (wait_turn b (w.Expires k)) j t v c) e)
          by_phase false (w.Expires k) e is x =
              goes (laxly (turn_of c) (ap (λ (y : Core). may_turn (turn_by c.listed y) j t v c) is
              ∙ ap (λ b. may_turn (wait_turn b (w.Expires k)) j t v c) e))
          by_phase true (w.Quits k) e is x = acting _ is e (ap (λ b. may_turn (wait_turn b (w.Quits k)) j t v c) e)
          by_phase false (w.Quits k) e is x = calling asks (seat_at j t).second _ (unlisted (w.Quits k) _ e refl x.back)
          by_phase listed w.Forgets e is x = acting _ is refl refl
          by_phase listed (w.Leaves true) e is x = acting _ is refl refl
          by_phase listed (w.Resumes token) e is x = goes (laxly (turn_of c)
              (ap (λ (y : Core). may_turn (turn_by c.listed y) j t v c) is))
          by_phase listed (w.Locks timed_out) e is x = calling asks_on (seat_at j t).second _ x.back
          by_phase listed (w.Ends a) e is x = acting _ is refl refl
          by_phase listed (w.Leaves false) e is x = absurd x.front
          by_phase listed (w.Waiting k) e is x = absurd x.front
          by_phase listed w.Stranger e is x = absurd x.front
          by_phase listed w.GivingWay e is x = absurd x.front
          by_phase listed w.Looks e is x = absurd x.front
          by_phase listed w.Masks e is x = absurd x.front
          by_phase listed w.Yields e is x = absurd x.front
          by_phase listed w.Invalid e is x = absurd x.front

          by_notice : (p : NotifyPhase) → c.core ≡ core.Notify (record { phase = p }) → Notifies j t p → Ends
          by_notice (n.Loads all) is x = acting _ is refl refl
          by_notice (n.Enters all word) is x = acting _ is refl refl
          by_notice (n.Checks all word) is x = acting _ is refl refl
          by_notice (n.Forgets notice) is x = acting _ is refl refl
          by_notice (n.Leaves notice) is x = acting _ is refl refl
          by_notice (n.Ends count) is x = acting _ is refl refl
          by_notice (n.Marks all) is x = goes (laxly (turn_of c)
              (ap (λ (y : Core). may_turn (turn_by c.listed y) j t v c) is))
          by_notice (n.MarksRest notice) is x = goes (laxly (turn_of c)
              (ap (λ (y : Core). may_turn (turn_by c.listed y) j t v c) is))
          by_notice (n.Wakes count) is x = goes (laxly (turn_of c)
              (ap (λ (y : Core). may_turn (turn_by c.listed y) j t v c) is))
          by_notice (n.Notifying all) is x = absurd (x.turns refl)
          by_notice (n.Moves all locked) is x = absurd (x.turns refl)
          by_notice n.Invalid is x = absurd (x.turns refl)

          seated_core : (k : Core) → c.core ≡ k → Stands j t c k → Ends
          seated_core (core.Wait q) is x = by_phase c.listed q.phase refl is x
          seated_core (core.Notify q) is x = by_notice q.phase is x

        pub quiet : is_free j t ≡ false → Ends
        quiet called = by_seat (seat_at j t).at refl
          where
            by_seat : (o : Option ℕ) → (seat_at j t).at ≡ o → Ends
            by_seat None seat = unseated seat called
            by_seat (Some v) seat =
                let (c, here) = h.sits v t seat in
                seated_core v c here c.core refl (h.stands v t c here)

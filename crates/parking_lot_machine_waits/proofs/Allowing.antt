-- Where a machine is whole, what a step needs at the locks is so.
use Rattle.parking_lot_machine.specs.Rows.{first_key}
use Rattle.std.proofs.Common.{◌≡◌, ◌≢◌, ◌||◌, inl, inr, ℕ, zero, suc, ◌+◌, ◌-◌, ◌*◌, ◌<◌, Bool, true, false, not, cond}
use Rattle.std.proofs.Common.{◌&&◌, is_some, is_none, List, [], ◌∷◌, length, Option, Some, None, slice_get, refl, sym}
use Rattle.std.proofs.Common.{ap, ◌∙◌, subst, arith, eqb-true}
use Rattle.std.specs.List.{list_all, list_any}
use Rattle.std.specs.Option.{option_and_then, option_map, option_map_or}
use Rattle.std.proofs.lemmas.Bool.{lt-ltb}
use Rattle.std.proofs.lemmas.Option.{none-some, same_Some, slice_get-map, slice_get_within}
use Rattle.parking_lot_core_model.specs.declared.place.Section.{Section}
use Rattle.parking_lot_rules.specs.Lists.{at_index, occurs}
use Rattle.parking_lot_rules.specs.Variable as rules
use Rattle.parking_lot_rules.proofs.Waiting.{counted-same, occurs-cons}
use Rattle.parking_lot_protocol_waits.specs.declared.notify_core.NotifyPhase.{NotifyPhase}
use Rattle.parking_lot_protocol_waits.specs.declared.notify_core.NotifyPhase.TheVariants as n
use Rattle.parking_lot_protocol_waits.specs.declared.wait_core.WaitPhase.{WaitPhase}
use Rattle.parking_lot_protocol_waits.specs.declared.wait_core.WaitPhase.TheVariants as w
use Rattle.parking_lot_protocol_waits.specs.NotifyRules as notifies
use Rattle.parking_lot_protocol_waits.specs.WaitRules as waits
use Rattle.parking_lot_machine_sides.specs.declared.condvar.open_call.Core.{Core}
use Rattle.parking_lot_machine_sides.specs.declared.condvar.open_call.Core.TheVariants as core
use Rattle.parking_lot_machine_sides.specs.declared.condvar.open_call.OpenCall.{OpenCall}
use Rattle.parking_lot_machine_sides.specs.Condvar.Fitting.{is_the}
use Rattle.parking_lot_machine_sides.specs.Condvar.Machines.{State as Var, call_at as var_call_at, phase_by, phase_in}
use Rattle.parking_lot_machine_sides.specs.Condvar.Machines.{spot_of, variable}
use Rattle.parking_lot_machine_sides.specs.Condvar.Turns.{is_inside, is_inside_by, wait_is_inside}
use Rattle.parking_lot_machine_calls.specs.declared.calls.LockCall.TheVariants as call
use Rattle.parking_lot_machine_calls.specs.declared.calls.LockKind.{LockKind}
use Rattle.parking_lot_machine_calls.specs.declared.calls.LockKind.TheVariants as kind
use Rattle.parking_lot_machine_calls.specs.declared.open_call.Call.{Call}
use Rattle.parking_lot_machine_calls.specs.declared.seat.Core.{Core as RowCore}
use Rattle.parking_lot_machine_calls.specs.declared.seat.Core.TheVariants as row_core
use Rattle.parking_lot_machine_calls.specs.Calls.{takes}
use Rattle.parking_lot_machine.specs.Machines.{may_begin}
use Rattle.parking_lot_machine.specs.RowFits.{FitsTogether}
use Rattle.parking_lot_machine_calls.specs.CallKinds.{IsOfKind}
use Rattle.parking_lot_machine.specs.Rows.{State, call_at as row_call_at, open_at, state}
use Rattle.parking_lot_machine_waits.proofs.Notifying.{Marking, is_moving, marking, marks_knows}
use Rattle.parking_lot_machine_waits.specs.declared.turn.Turn.{Turn}
use Rattle.parking_lot_machine_waits.specs.declared.turn.Turn.TheVariants as turn
use Rattle.parking_lot_machine_waits.specs.Joint.{Joint, back_number, bucket_in, buckets, call_at, call_in}
use Rattle.parking_lot_machine_waits.specs.Joint.{front_number, is_entered, keeps, seat_at, var_at}
use Rattle.parking_lot_machine_waits.proofs.Keepers.{both_ways, keeps_beside, kept}
use Rattle.parking_lot_machine_waits.specs.JointLaws.{PartsFit}
use Rattle.parking_lot_machine_waits.specs.JointSteps.{KnownIn}
use Rattle.parking_lot_machine_waits.specs.Ready.{call_is_ready, is_ready, may_move, may_move_all, seat_is_ready}
use Rattle.parking_lot_machine_waits.specs.Ready.{turn_is_ready}
use Rattle.parking_lot_machine_waits.specs.Turns.{is_at_mutex, mutex_of, notify_turn, turn_by, turn_of, wait_turn}
use Rattle.parking_lot_machine_waits.specs.Whole.{AtMutex, Owns, Away, Asks, IsSo, IsWhole, Stands, Waits, back_of}
use Rattle.parking_lot_machine_waits.specs.Whole.{front_of, named, place_of}

both : (a b : Bool) → a ≡ true → b ≡ true → (a && b) ≡ true
both true b x y = y
both false b x y = absurd cc

-- A NUMBER AT A PLAIN MUTEX

in_none : (o : Option Call) → option_map (λ (c : Call). c.lock) o ≡ None → o ≡ None
in_none None e = refl
in_none (Some c) e = absurd cc

module _ (s : State) (k m : ℕ) (low : k < length s.calls) (mutex : slice_get s.kinds m ≡ Some kind.Mutex) where
  idle : place_of s k ≡ None → is_none (row_call_at s k) ≡ true
  idle e = ap (λ (o : Option Call). is_none o) (in_none (row_call_at s k) e)

  -- one that owns it may give it up
  pub may_unlock : IsSo Owns s k m → may_begin s k m call.Unlock ≡ true
  may_unlock (none, owns) =
      both _ _ (lt-ltb k _ low) (both _ _ (idle none) (both _ _ (ap (λ o. takes o call.Unlock) mutex) owns))

  -- and one that owns nothing of it may ask for it
  pub may_lock : IsSo Away s k m → may_begin s k m call.Lock ≡ true
  may_lock (none, owns) =
      both _ _ (lt-ltb k _ low) (both _ _ (idle none) (both _ _ (ap (λ o. takes o call.Lock) mutex) owns))

at_mutex : (c : RowCore) → IsOfKind (Some kind.Mutex) c → is_at_mutex c ≡ true
at_mutex (row_core.Mutex k) is = refl
at_mutex (row_core.Late p) is = refl
at_mutex (row_core.Rw k) is = absurd cc
at_mutex (row_core.LateRw p) is = absurd cc
at_mutex (row_core.Upgrade k) is = absurd cc

-- one that is in a call there is at a mutex
pub is_there : (s : State) (k m : ℕ) → FitsTogether s → slice_get s.kinds m ≡ Some kind.Mutex → IsSo Asks s k m
    → option_map_or (λ (c : Call). is_at_mutex c.core) (row_call_at s k) false ≡ true
is_there s k m fits mutex is =
    ap (λ (o : Option Call). option_map_or (λ (c : Call). is_at_mutex c.core) o false) is.here
    ∙ at_mutex is.call.core
    (subst (λ (o : Option LockKind). IsOfKind o is.call.core) (ap (slice_get s.kinds) is.lock ∙ mutex)
    (fits.rules.kinds k is.call is.here))

-- WHO WAITS AT A VARIABLE

-- One that is listed outside the section is in no call at the mutex that is shown, and owns nothing of it; off the list
-- it asks for it.
waiting_case : (listed : Bool) (p : WaitPhase) (m word : ℕ)
    → 0 < rules.weight rules.Waiting (waits.does (spot_of listed) p) → rules.Agrees word (waits.does (spot_of listed) p)
    → named p m ≡ m → wait_is_inside listed p ≡ false
    → (back_of listed p ≡ Away) × (back_of false p ≡ Asks) × (word ≡ m + 1)
unfolding rules.weight
waiting_case listed (w.Shows k) m word some agrees names out = absurd cc
waiting_case listed (w.Rests k) m word some agrees names out = absurd cc
waiting_case true (w.Quits k) m word some agrees names out = absurd cc
waiting_case false (w.Quits k) m word some agrees names out = absurd (omega (arith, some))
waiting_case true (w.Unlocks k) m word some agrees names out = (refl, refl, agrees ∙ ap (λ n. n + 1) names)
waiting_case false (w.Unlocks k) m word some agrees names out = absurd (omega (arith, some))
waiting_case true (w.Sleeps k) m word some agrees names out = (refl, refl, agrees ∙ ap (λ n. n + 1) names)
waiting_case false (w.Sleeps k) m word some agrees names out = absurd (omega (arith, some))
waiting_case true (w.Expires k) m word some agrees names out = (refl, refl, agrees ∙ ap (λ n. n + 1) names)
waiting_case false (w.Expires k) m word some agrees names out = absurd (omega (arith, some))
waiting_case listed (w.Waiting k) m word some agrees names out = absurd (omega (arith, some))
waiting_case listed w.Stranger m word some agrees names out = absurd (omega (arith, some))
waiting_case listed w.GivingWay m word some agrees names out = absurd (omega (arith, some))
waiting_case listed w.Looks m word some agrees names out = absurd (omega (arith, some))
waiting_case listed (w.Enters k) m word some agrees names out = absurd (omega (arith, some))
waiting_case listed (w.Checks k) m word some agrees names out = absurd (omega (arith, some))
waiting_case listed w.Retreats m word some agrees names out = absurd (omega (arith, some))
waiting_case listed (w.Appends k) m word some agrees names out = absurd (omega (arith, some))
waiting_case listed w.Forgets m word some agrees names out = absurd (omega (arith, some))
waiting_case listed w.Masks m word some agrees names out = absurd (omega (arith, some))
waiting_case listed (w.Leaves true) m word some agrees names out = absurd (omega (arith, some))
waiting_case listed (w.Leaves false) m word some agrees names out = absurd (omega (arith, some))
waiting_case listed (w.Resumes token) m word some agrees names out = absurd (omega (arith, some))
waiting_case listed w.Yields m word some agrees names out = absurd (omega (arith, some))
waiting_case listed (w.Locks timed_out) m word some agrees names out = absurd (omega (arith, some))
waiting_case listed (w.Ends a) m word some agrees names out = absurd (omega (arith, some))
waiting_case listed w.Invalid m word some agrees names out = absurd (omega (arith, some))

-- a notification waits for nobody
notify_waits : (p : NotifyPhase) → rules.weight rules.Waiting (notifies.does p) ≡ 0
unfolding rules.weight
notify_waits (n.Notifying all) = refl
notify_waits (n.Loads all) = refl
notify_waits (n.Enters all word) = refl
notify_waits (n.Checks all word) = refl
notify_waits (n.Marks all) = refl
notify_waits (n.Moves all locked) = refl
notify_waits (n.MarksRest notice) = refl
notify_waits (n.Forgets notice) = refl
notify_waits (n.Leaves notice) = refl
notify_waits (n.Wakes count) = refl
notify_waits (n.Ends count) = refl
notify_waits n.Invalid = refl

nobody_idle : {X : Type 0} → 0 < rules.weight rules.Waiting rules.Idle → X
unfolding rules.weight
nobody_idle e = absurd (omega (arith, e))

-- what each of a list is, by standing there
pub all_of : (f : ℕ → Bool) (ws : List ℕ) → ((u : ℕ) → 0 < occurs u ws → f u ≡ true) → list_all f ws ≡ true
all_of f [] each = refl
all_of f (u ∷ ws) each = both _ _ (each u (omega (arith, occurs-cons u u ws, counted-same u)))
    (all_of f ws (λ x some. each x (omega (arith, some, occurs-cons x u ws))))

any_of : {A : Type 0} (f : A → Bool) (xs : List A) (i : ℕ) (x : A) → slice_get xs i ≡ Some x → f x ≡ true
    → list_any f xs ≡ true
any_of f [] i x at is = absurd (none-some x at)
any_of f (y ∷ ys) zero x at is = here (f y) (ap f (same_Some y x at) ∙ is)
  where
    here : (b : Bool) → b ≡ true → (b || list_any f ys) ≡ true
    here true e = refl
    here false e = absurd cc
any_of f (y ∷ ys) (suc i) x at is = later (f y) (any_of f ys i x at is)
  where
    later : (b : Bool) → list_any f ys ≡ true → (b || list_any f ys) ≡ true
    later true e = refl
    later false e = e

same_thread : (o : Option ℕ) (t u : ℕ) → is_the o t ≡ true → is_the o u ≡ true → t ≡ u
same_thread None t u e f = absurd cc
same_thread (Some v) t u e f = sym (eqb-true v t e) ∙ eqb-true v u f

has_entered : (x : Var) (t : ℕ) → is_the x.inside t ≡ true → is_entered (Some x) ≡ true
has_entered x t e = go x.inside e
  where
    go : (o : Option ℕ) → is_the o t ≡ true → is_some o ≡ true
    go None e = absurd cc
    go (Some v) e = refl

-- while a notification is in the section, none of a lock is open in its mutex's bucket
lock_closed : (j : Joint) (v t : ℕ) (x : Var) (lock : ℕ) → IsWhole j → var_at j v ≡ Some x → is_the x.inside t ≡ true
    → x.beside ≡ Some lock → open_at (state j.rows) (first_key lock) ≡ None
lock_closed j v t x lock h here inside beside = elim (h.sections (bucket_in (buckets j) lock)) [
  | inl e ↦ nobody (open_at (state j.rows) (first_key lock)) e
  | inr e ↦ both_ways _ (kept j v (bucket_in (buckets j) lock)
      (ap (λ (o : Option Var). keeps (buckets j) v o (bucket_in (buckets j) lock)) here
      ∙ keeps_beside (buckets j) v x lock (has_entered x t inside) beside)) e
]
  where
    nobody : (o : Option Section) → is_some o ≡ false → o ≡ None
    nobody None e = refl
    nobody (Some s) e = absurd cc

number_low : (n t : ℕ) (second : Bool) → t < n → cond second (n + t) t < 2 * n
number_low n t true low = omega (arith, low)
number_low n t false low = omega (arith, low)

-- One that waits in its list, to be moved to the mutex that the variable shows.
pub record Waiter (x : Var) (u : ℕ) : Type 0 where
  pub call : OpenCall
  pub here : var_call_at x u ≡ Some call
  pub phase : WaitPhase
  pub core : call.core ≡ core.Wait (record { phase = phase })
  pub away : back_of call.listed phase ≡ Away
  pub off : back_of false phase ≡ Asks
  pub word : x.word ≡ mutex_of call.call + 1

module _ (j : Joint) (h : IsWhole j) (v : ℕ) (x : Var) (at : var_at j v ≡ Some x) (known : KnownIn (Some x)) where
  pub here_too : (u : ℕ) (c : OpenCall) → var_call_at x u ≡ Some c → call_at j v u ≡ Some c
  here_too u c here = ap (λ (o : Option Var). call_in o u) at ∙ here

  pub thread_low : (u : ℕ) (c : OpenCall) → var_call_at x u ≡ Some c → u < length j.seats
  thread_low u c here = subst (λ m. u < m) (h.threads v x at)
      (slice_get_within x.calls u (Some c) (slot_of (slice_get x.calls u) here))
    where
      slot_of : (o : Option (Option OpenCall)) → option_and_then (λ (y : Option OpenCall). y) o ≡ Some c
          → o ≡ Some (Some c)
      slot_of None e = absurd (none-some c e)
      slot_of (Some y) e = ap Some e

  -- one in a call at the variable that waits in its list, where another is in the section
  by_core : (u : ℕ) (c : OpenCall) (k : Core) → var_call_at x u ≡ Some c → c.core ≡ k
      → 0 < rules.weight rules.Waiting (phase_by c.listed k) → rules.Agrees x.word (phase_by c.listed k)
      → is_inside_by c.listed k ≡ false → Stands j u c k → Waiter x u
  by_core u c (core.Notify k) here is some agrees out stands = absurd (omega (arith, some, notify_waits k.phase))
  by_core u c (core.Wait k) here is some agrees out stands =
      let (away, off, word) = waiting_case c.listed k.phase (mutex_of c.call) x.word some agrees stands.names out in
      record { call = c; here = here; phase = k.phase; core = is; away = away; off = off; word = word }

  by_call : (t u : ℕ) (o : Option OpenCall) → var_call_at x u ≡ o → 0 < rules.weight rules.Waiting (phase_in o)
      → rules.Agrees x.word (phase_in o) → is_the x.inside t ≡ true → u ≢ t → Waiter x u
  by_call t u None here some agrees inside other = nobody_idle some
  by_call t u (Some c) here some agrees inside other = by_core u c c.core here refl some agrees
      (outside (is_inside c) (known.0.seated u c here).section) (h.stands v u c (here_too u c here))
    where
      outside : (b : Bool) → b ≡ is_the x.inside u → b ≡ false
      outside true e = absurd (other (same_thread x.inside u t (sym e) inside))
      outside false e = refl

  pub waiter : (t u : ℕ) → is_the x.inside t ≡ true → u ≢ t → 0 < occurs u x.queue → Waiter x u
  waiter t u inside other some = by_slot (slice_get x.calls u) refl
      (subst (λ m. 0 < m)
      (known.1.lists u ∙ ap (at_index (rules.weight rules.Waiting)) (slice_get-map phase_in x.calls u)) some)
    where
      by_slot : (o : Option (Option OpenCall)) → slice_get x.calls u ≡ o → 0 < at_index (rules.weight rules.Waiting)
          (option_map phase_in o) → Waiter x u
      by_slot None is some = absurd (omega (arith, some))
      by_slot (Some o) is some =
          by_call t u o (ap (option_and_then (λ (y : Option OpenCall). y)) is) some
          (known.0.sound.agrees u (phase_in o) (slice_get-map phase_in x.calls u ∙ ap (option_map phase_in) is))
          inside other

  may_be_moved : (u : ℕ) → open_at (state j.rows) (first_key (x.word - 1)) ≡ None → Waiter x u
      → may_move j (x.word - 1) u ≡ true
  may_be_moved u free y =
      let stands : Waits j u y.call y.phase = subst (Stands j u y.call) y.core
      (h.stands v u y.call (here_too u y.call y.here)) in
      let low = thread_low u y.call y.here in
      let may = may_lock (state j.rows) (back_number j u) (mutex_of y.call.call)
      (subst (λ m. back_number j u < m) (sym h.numbers) (number_low (length j.seats) u (seat_at j u).second low))
      stands.mutex.kind
      (subst (λ (a : AtMutex). IsSo a (state j.rows) (back_number j u) (mutex_of y.call.call)) y.away stands.back) in
      both _ _ (lt-ltb u _ low)
      (both _ _ (subst (λ m. may_begin (state j.rows) (back_number j u) m call.Lock ≡ true) (omega (arith, y.word))
      may) (ap (λ (o : Option Section). not (is_some o)) free))

  -- whoever stands in its list may be moved, where a notification is in the section
  all_may : (t : ℕ) → is_the x.inside t ≡ true → x.beside ≡ Some (x.word - 1)
      → ((u : ℕ) → 0 < occurs u x.queue → u ≢ t)
      → list_all (may_move j (x.word - 1)) x.queue ≡ true
  all_may t inside beside others = all_of (may_move j (x.word - 1)) x.queue
      (λ u some. may_be_moved u (lock_closed j v t x (x.word - 1) h at inside beside)
      (waiter t u inside (others u some) some))

  -- a notification itself doesn't stand there
  pub not_itself : (t : ℕ) (c : OpenCall) → var_call_at x t ≡ Some c → (m : Marking c) → (u : ℕ) → 0 < occurs u x.queue
      → u ≢ t
  not_itself t c here m u some e = by_slot (slice_get x.calls t) refl here
    where
      weighs : 0 < at_index (rules.weight rules.Waiting) (slice_get (variable x).phases t)
      weighs = subst (λ (y : ℕ). 0 < at_index (rules.weight rules.Waiting) (slice_get (variable x).phases y)) e
          (subst (λ n. 0 < n) (known.1.lists u) some)

      by_slot : (o : Option (Option OpenCall)) → slice_get x.calls t ≡ o → option_and_then (λ (y : Option OpenCall). y)
          o ≡ Some c → ⊥
      by_slot None is e = absurd (none-some c e)
      by_slot (Some o) is e = absurd (omega (
        arith,
        weighs,
        ap (at_index (rules.weight rules.Waiting)) (slice_get-map phase_in x.calls t ∙ ap (option_map phase_in) is)
            ∙ ap (λ (y : Option OpenCall). rules.weight rules.Waiting (phase_in y)) e
            ∙ ap (λ (k : Core). rules.weight rules.Waiting (phase_by c.listed k)) m.is,
        notify_waits (n.Marks m.all),
      ))

  moves_all : (t : ℕ) (c : OpenCall) → var_call_at x t ≡ Some c → Marking c
      → list_all (may_move j (x.word - 1)) x.queue
      ≡ true
  moves_all t c here m =
      all_may t (sym (known.0.seated t c here).section ∙ ap (λ (k : Core). is_inside_by c.listed k) m.is)
      (marks_knows x t c m.all known.0 here m.is).1.2
      (not_itself t c here m)

-- WHAT A TURN NEEDS

-- what its thread's numbers are at the mutex then
abbrev Needs : Turn → AtMutex → AtMutex → Type 0
Needs turn.GivesUp front back = front ≡ Owns
Needs turn.LocksAgain front back = back ≡ Away
Needs turn.Follows front back = back ≡ Asks
Needs turn.Moves front back = ⊥
Needs x front back = Unit {0}

stood : (listed : Bool) (p : WaitPhase) → Needs (wait_turn listed p) (front_of p) (back_of listed p)
stood listed (w.Waiting k) = tt
stood listed w.Stranger = tt
stood listed w.GivingWay = tt
stood listed w.Looks = tt
stood listed (w.Enters k) = tt
stood listed (w.Checks k) = tt
stood listed w.Retreats = tt
stood listed (w.Appends k) = tt
stood listed (w.Shows k) = tt
stood listed (w.Rests k) = refl
stood listed (w.Unlocks k) = tt
stood true (w.Sleeps k) = tt
stood false (w.Sleeps k) = refl
stood true (w.Expires k) = tt
stood false (w.Expires k) = tt
stood true (w.Quits k) = tt
stood false (w.Quits k) = refl
stood listed w.Forgets = tt
stood listed w.Masks = tt
stood listed (w.Leaves true) = refl
stood listed (w.Leaves false) = tt
stood listed (w.Resumes token) = tt
stood listed w.Yields = tt
stood listed (w.Locks timed_out) = tt
stood listed (w.Ends a) = tt
stood listed w.Invalid = tt

-- a notification has no turn at a mutex
abbrev NotOfWait : Turn → Type 0
NotOfWait turn.GivesUp = ⊥
NotOfWait turn.LocksAgain = ⊥
NotOfWait turn.Follows = ⊥
NotOfWait x = Unit {0}

not_of_wait : (p : NotifyPhase) → NotOfWait (notify_turn p)
not_of_wait (n.Notifying all) = tt
not_of_wait (n.Loads all) = tt
not_of_wait (n.Enters all word) = tt
not_of_wait (n.Checks all word) = tt
not_of_wait (n.Marks all) = tt
not_of_wait (n.Moves all locked) = tt
not_of_wait (n.MarksRest notice) = tt
not_of_wait (n.Forgets notice) = tt
not_of_wait (n.Leaves notice) = tt
not_of_wait (n.Wakes count) = tt
not_of_wait (n.Ends count) = tt
not_of_wait n.Invalid = tt

module _ (j : Joint) (h : IsWhole j) (fits : FitsTogether (state j.rows)) (v t : ℕ) (c : OpenCall) where
  low_number : (second : Bool) → t < length j.seats → cond second (length j.seats + t) t < length (state j.rows).calls
  low_number second low = subst (λ m. cond second (length j.seats + t) t < m) (sym h.numbers)
      (number_low (length j.seats) t second low)

  by_turn : (p : WaitPhase) (x : Turn) → t < length j.seats → Waits j t c p → Needs x (front_of p) (back_of c.listed p)
      → turn_is_ready x j t v c ≡ true
  by_turn p turn.Sleeps low s need = refl
  by_turn p turn.Acts low s need = refl
  by_turn p turn.GivesUp low s need =
      may_unlock (state j.rows) (front_number j t) (mutex_of c.call) (low_number (not (seat_at j t).second) low)
      s.mutex.kind (subst (λ (a : AtMutex). IsSo a (state j.rows) (front_number j t) (mutex_of c.call)) need
      s.front)
  by_turn p turn.LocksAgain low s need =
      may_lock (state j.rows) (back_number j t) (mutex_of c.call) (low_number (seat_at j t).second low) s.mutex.kind
      (subst (λ (a : AtMutex). IsSo a (state j.rows) (back_number j t) (mutex_of c.call)) need s.back)
  by_turn p turn.Unlocks low s need = refl
  by_turn p turn.Follows low s need =
      is_there (state j.rows) (back_number j t) (mutex_of c.call) fits s.mutex.kind
      (subst (λ (a : AtMutex). IsSo a (state j.rows) (back_number j t) (mutex_of c.call)) need s.back)
  by_turn p turn.Locks low s need = refl
  by_turn p turn.ComesBack low s need = refl
  by_turn p turn.Hears low s need = refl
  by_turn p turn.Moves low s need = absurd need

  by_notice : (x : Turn) → (is_moving x ≡ true → may_move_all j (var_at j v) ≡ true) → NotOfWait x
      → turn_is_ready x j t v c ≡ true
  by_notice turn.Sleeps moves is = refl
  by_notice turn.Acts moves is = refl
  by_notice turn.GivesUp moves is = absurd is
  by_notice turn.LocksAgain moves is = absurd is
  by_notice turn.Unlocks moves is = refl
  by_notice turn.Follows moves is = absurd is
  by_notice turn.Locks moves is = refl
  by_notice turn.ComesBack moves is = refl
  by_notice turn.Hears moves is = refl
  by_notice turn.Moves moves is = moves refl

  at_var : (o : Option Var) → var_at j v ≡ o → KnownIn o → call_in o t ≡ Some c → (k : Core) → c.core ≡ k
      → Stands j t c k → turn_is_ready (turn_by c.listed k) j t v c ≡ true
  at_var None at known here k is stands = absurd (none-some c here)
  at_var (Some x) at known here (core.Wait k) is stands = by_turn k.phase (wait_turn c.listed k.phase)
      (thread_low j h v x at known t c here) stands (stood c.listed k.phase)
  at_var (Some x) at known here (core.Notify k) is stands =
      by_notice (notify_turn k.phase)
      (λ e. ap (λ (o : Option Var). may_move_all j o) at ∙ moves_all j h v x at known t c here
      (marking c (ap (λ (d : Core). is_moving (turn_by c.listed d)) is ∙ e))) (not_of_wait k.phase)

  pub turn_ready : KnownIn (var_at j v) → call_at j v t ≡ Some c → turn_is_ready (turn_of c) j t v c ≡ true
  turn_ready known here = at_var (var_at j v) refl known here c.core refl (h.stands v t c here)

-- so what a thread's step needs is so
pub is_ready_then : (j : Joint) (t : ℕ) → IsWhole j → PartsFit j → is_ready j t ≡ true
is_ready_then j t h fits = by_seat (seat_at j t).at refl
  where
    by_call : (v : ℕ) (o : Option OpenCall) → KnownIn (var_at j v) → call_at j v t ≡ o → call_is_ready o j t v ≡ true
    by_call v None known here = refl
    by_call v (Some c) known here = turn_ready j h fits.rows v t c known here

    by_seat : (o : Option ℕ) → (seat_at j t).at ≡ o → seat_is_ready o j t ≡ true
    by_seat None at = refl
    by_seat (Some v) at = by_call v (call_at j v t) (fits.vars v) refl

-- How a number owns a mutex, by where it is there; and that a wait that is answered leaves its thread owning it.
use Rattle.std.proofs.Common.{◌≡◌, ◌⊎◌, inl, inr, ℕ, zero, suc, ◌+◌, ◌<◌, Bool, true, false, not, cond, nat_lt, List}
use Rattle.std.proofs.Common.{length, Option, Some, None, slice_get, refl, sym, ap, ◌∙◌, subst}
use Rattle.std.specs.Prelude.{if◌then◌else◌}
use Rattle.std.specs.Option.{option_or}
use Rattle.std.proofs.lemmas.Bool.{lt-ltb}
use Rattle.std.proofs.lemmas.List.{length-set}
use Rattle.std.proofs.lemmas.Option.{none-some, same_Some}
use Rattle.parking_lot_protocol_waits.specs.declared.wait_act.WaitAnswer.{WaitAnswer}
use Rattle.parking_lot_protocol_waits.specs.declared.wait_act.WaitAnswer.TheVariants as end
use Rattle.parking_lot_protocol_waits.specs.declared.notify_core.NotifyPhase.{NotifyPhase}
use Rattle.parking_lot_protocol_waits.specs.declared.notify_core.NotifyPhase.TheVariants as n
use Rattle.parking_lot_protocol_waits.specs.declared.wait_core.WaitPhase.{WaitPhase}
use Rattle.parking_lot_protocol_waits.specs.declared.wait_core.WaitPhase.TheVariants as w
use Rattle.parking_lot_machine_sides.specs.declared.condvar.calls.CondvarCall.{CondvarCall}
use Rattle.parking_lot_machine_sides.specs.declared.condvar.calls.CondvarCall.TheVariants as call
use Rattle.parking_lot_machine_sides.specs.declared.condvar.calls.CondvarReply.{CondvarReply}
use Rattle.parking_lot_machine_sides.specs.declared.condvar.open_call.Core.{Core}
use Rattle.parking_lot_machine_sides.specs.declared.condvar.open_call.Core.TheVariants as core
use Rattle.parking_lot_machine_sides.specs.declared.condvar.open_call.OpenCall.{OpenCall}
use Rattle.parking_lot_machine_sides.specs.Condvar.Calls.{reply_by, reply_in_wait, reply_of}
use Rattle.parking_lot_machine_sides.specs.Condvar.Fitting.{IsNotify, Knows}
use Rattle.parking_lot_machine_sides.specs.Condvar.Machines.{State as Var}
use Rattle.parking_lot_machine_calls.specs.declared.calls.LockKind.{LockKind}
use Rattle.parking_lot_machine_calls.specs.declared.calls.LockKind.TheVariants as kind
use Rattle.parking_lot_machine_calls.specs.declared.calls.OwnMode.{OwnMode}
use Rattle.parking_lot_machine_calls.specs.declared.calls.OwnMode.TheVariants as mode
use Rattle.parking_lot_machine_calls.specs.declared.open_call.Call.{Call}
use Rattle.parking_lot_machine_calls.specs.declared.seat.Hold.{Hold}
use Rattle.parking_lot_machine_calls.specs.declared.seat.Hold.TheVariants as hold
use Rattle.parking_lot_machine_calls.specs.Beginnings.{excludes, owns_nothing}
use Rattle.parking_lot_machine.specs.RowFits.{FitsTogether}
use Rattle.parking_lot_machine.specs.Rows.{Rows, State, call_at as row_call_at, hold_at, lock_at, state}
use Rattle.parking_lot_machine.specs.Worlds.{mode_in}
use Rattle.parking_lot_machine_calls.specs.CallViews.{hold_mode}
use Rattle.parking_lot_machine.proofs.Viewing.{IsApart, apart_owner}
use Rattle.parking_lot_machine_waits.specs.declared.seat.Seat.{Seat}
use Rattle.parking_lot_machine_waits.specs.declared.turn.Turn.{Turn}
use Rattle.parking_lot_machine_waits.specs.declared.turn.Turn.TheVariants as turn
use Rattle.parking_lot_machine_waits.specs.Joint.{Joint, back_number, call_at, call_in, front_number, mode_at, nowhere}
use Rattle.parking_lot_machine_waits.specs.Joint.{number, seat_at, var_at}
use Rattle.parking_lot_machine_waits.specs.JointLaws.{PartsFit, WaitsEndOwning}
use Rattle.parking_lot_machine_waits.specs.JointSteps.{ActsAt, ActsIn, KnownIn, Turned}
use Rattle.parking_lot_machine_waits.specs.Turns.{is_wait, mutex_of, notify_turn, turn_by, turn_of, wait_turn}
use Rattle.parking_lot_machine_waits.specs.Whole.{Owns, Away, IsSo, IsWhole, Stands, Waits}
use Rattle.parking_lot_machine_waits.proofs.Keeping.{low_at, place_in}

-- BY WHERE A NUMBER IS AT A MUTEX

owns_it : (x : Hold) → excludes x ≡ true → x ≡ hold.Excludes
owns_it hold.Excludes e = refl
owns_it (hold.Shares n) e = absurd cc
owns_it hold.Upgrades e = absurd cc

owns_none : (x : Hold) → owns_nothing x ≡ true → x ≡ hold.Shares 0
owns_none (hold.Shares zero) e = refl
owns_none (hold.Shares (suc n)) e = absurd cc
owns_none hold.Excludes e = absurd cc
owns_none hold.Upgrades e = absurd cc

module _ (s : State) (fits : FitsTogether s) (n : ℕ) (mutex : slice_get s.kinds n ≡ Some kind.Mutex) (k : ℕ) where
  mode_of : row_call_at s k ≡ None → mode_in (lock_at s n) k ≡ hold_mode (Some kind.Mutex) (hold_at s k n)
  mode_of none = apart_owner s k fits n (subst (λ (o : Option Call). IsApart n o) (sym none) tt)
      ∙ ap (λ (o : Option LockKind). hold_mode o (hold_at s k n)) mutex

  pub owner : IsSo Owns s k n → mode_in (lock_at s n) k ≡ Some mode.Exclusive
  owner (none, owns) = mode_of (place_in (row_call_at s k) none) ∙ ap (λ (x : Hold). hold_mode (Some kind.Mutex) x)
      (owns_it (hold_at s k n) owns)

  pub no_owner : IsSo Away s k n → mode_in (lock_at s n) k ≡ None
  no_owner (none, owns) = mode_of (place_in (row_call_at s k) none) ∙ ap (λ (x : Hold). hold_mode (Some kind.Mutex) x)
      (owns_none (hold_at s k n) owns)

-- A WAIT IS ANSWERED

-- the one number owns it then, and the other doesn't
abbrev OneOwns : State → ℕ → ℕ → ℕ → Type 0
OneOwns s a b n = (mode_in (lock_at s n) a ≡ Some mode.Exclusive)
    ⊎ ((mode_in (lock_at s n) a ≡ None) × (mode_in (lock_at s n) b ≡ Some mode.Exclusive))

of_one : (o p : Option OwnMode) → (o ≡ Some mode.Exclusive) ⊎ ((o ≡ None) × (p ≡ Some mode.Exclusive))
    → option_or o p ≡ Some mode.Exclusive
of_one o p (inl e) = ap (λ (x : Option OwnMode). option_or x p) e
of_one o p (inr (e, f)) = ap (λ (x : Option OwnMode). option_or x p) e ∙ f

module _ (i : Joint) (t : ℕ) (c : OpenCall) (fits : FitsTogether (state i.rows)) where
  abbrev s : State
  s = state i.rows

  abbrev lock : ℕ
  lock = mutex_of c.call

  ends_so : (a : WaitAnswer) → Waits i t c (w.Ends a) → OneOwns s (front_number i t) (back_number i t) lock
      × OneOwns s (back_number i t) (front_number i t) lock
  ends_so end.WrongMutex z =
      let has = owner s fits lock z.mutex.kind (front_number i t) z.front in
      (inl has, inr (no_owner s fits lock z.mutex.kind (back_number i t) z.back, has))
  ends_so end.Woken z =
      let has = owner s fits lock z.mutex.kind (back_number i t) z.back in
      (inr (no_owner s fits lock z.mutex.kind (front_number i t) z.front, has), inl has)
  ends_so end.TimedOut z =
      let has = owner s fits lock z.mutex.kind (back_number i t) z.back in
      (inr (no_owner s fits lock z.mutex.kind (front_number i t) z.front, has), inl has)
  ends_so end.WrongLot z = absurd z.front

  in_order : (second : Bool) → (seat_at i t).second ≡ second → OneOwns s (front_number i t) (back_number i t) lock
      × OneOwns s (back_number i t) (front_number i t) lock → OneOwns s (number i t false) (number i t true) lock
  in_order true e x = subst (λ (b : Bool). OneOwns s (number i t (not b)) (number i t b) lock) e x.0
  in_order false e x = subst (λ (b : Bool). OneOwns s (number i t b) (number i t (not b)) lock) e x.1

  owns_then : (a : WaitAnswer) → t < length i.seats → Waits i t c (w.Ends a) → mode_at i t lock ≡ Some mode.Exclusive
  owns_then a low z =
      ap (λ (b : Bool). cond b (option_or (mode_in (lock_at s lock) t) (mode_in (lock_at s lock) (number i t true)))
      None) (lt-ltb t (length i.seats) low)
      ∙ of_one (mode_in (lock_at s lock) t) (mode_in (lock_at s lock) (number i t true))
      (in_order (seat_at i t).second refl (ends_so a z))

-- who is answered in a wait was at its end
ends_by : (p : WaitPhase) (reply : CondvarReply) → Some reply ≡ reply_in_wait p → (a : WaitAnswer) × (p ≡ w.Ends a)
ends_by (w.Ends a) reply e = (a, refl)
ends_by p reply e = absurd cc

no_notice : (c : CondvarCall) → is_wait c ≡ true → IsNotify c → ⊥
no_notice (call.Wait m) e is = is
no_notice (call.WaitUntil m) e is = is
no_notice call.NotifyOne e is = absurd cc
no_notice call.NotifyAll e is = absurd cc

-- who leaves the section to act at the mutex is not at its end
not_at_end : (listed : Bool) (p : WaitPhase) (reply : CondvarReply) (x : Turn) → Some reply ≡ reply_in_wait p
    → wait_turn listed p ≡ x → turn.Acts ≡ x
not_at_end listed p reply x says is = let (a, ends) = ends_by p reply says in ap (wait_turn listed) (sym ends) ∙ is

no_turn_of_notice : (p : NotifyPhase) → (notify_turn p ≡ turn.GivesUp → ⊥) × (notify_turn p ≡ turn.LocksAgain → ⊥)
no_turn_of_notice (n.Marks all) = (λ e. absurd cc, λ e. absurd cc)
no_turn_of_notice p = (λ e. absurd cc, λ e. absurd cc)

-- how a thread owns a lock, by the locks and how many threads there are
abbrev mode_over : Rows → ℕ → ℕ → ℕ → Option OwnMode
mode_over r n t lock =
    (if nat_lt t n then option_or (mode_in (lock_at (state r) lock) t) (mode_in (lock_at (state r) lock) (n + t)) else
    None)

module _ (i j : Joint) (t v : ℕ) (c : OpenCall) (reply : CondvarReply) (h : IsWhole i) (fits : PartsFit i)
    (here : call_at i v t ≡ Some c) (waits : is_wait c.call ≡ true) where
  replies : (o y : Option Var) → var_at i v ≡ o → ActsIn t (Some reply) o y → Some reply ≡ reply_of c
  replies None y at acts = absurd acts
  replies (Some x) None at acts = absurd acts
  replies (Some x) (Some y) at acts = acts.replies
      ∙ ap reply_of (same_Some acts.call c (sym acts.here ∙ ap (λ (z : Option Var). call_in z t) (sym at) ∙ here))

  -- it is a wait, at its end
  at_end : (o : Option Var) → KnownIn o → call_in o t ≡ Some c → (k : Core) → c.core ≡ k
      → Some reply ≡ reply_by c.call k → Stands i t c k → (a : WaitAnswer) × Waits i t c (w.Ends a)
  at_end None known there k e says stands = absurd (none-some c there)
  at_end (Some x) known there (core.Wait k) e says stands =
      let (a, ends) = ends_by k.phase reply says in
      (a, subst (Waits i t c) ends stands)
  at_end (Some x) known there (core.Notify k) e says stands =
      absurd (no_notice c.call waits
      (subst (λ (k : Core). Knows c.call c.listed (length x.calls) x.word x.beside (length x.queue) c.taken k) e
      (known.0.seated t c there).knows).0)

  ended : Some reply ≡ reply_of c → (a : WaitAnswer) × Waits i t c (w.Ends a)
  ended says = at_end (var_at i v) (fits.vars v) here c.core refl says (h.stands v t c here)

  owned : Some reply ≡ reply_of c → mode_at i t (mutex_of c.call) ≡ Some mode.Exclusive
  owned says = let (a, z) = ended says in owns_then i t c fits.rows a (low_at i h v t c here) z

  -- the locks are the same, and so many threads are there
  still_owns : j.rows ≡ i.rows → length j.seats ≡ length i.seats → mode_at i t (mutex_of c.call) ≡ Some mode.Exclusive
      → mode_at j t (mutex_of c.call) ≡ Some mode.Exclusive
  still_owns rows count owns = ap (λ (r : Rows). mode_over r (length j.seats) t (mutex_of c.call)) rows
      ∙ ap (λ (n : ℕ). mode_over i.rows n t (mutex_of c.call)) count ∙ owns

  -- an answer comes by an act that leaves the locks alone
  acted : ActsAt t v (Some reply) i j → j.rows ≡ i.rows → length j.seats ≡ length i.seats
      → mode_at j t (mutex_of c.call) ≡ Some mode.Exclusive
  acted (y, acts, vars) rows count = still_owns rows count (owned (replies (var_at i v) y refl acts))

  unanswered : {X : Type 0} → ◌≡◌ {A = Option CondvarReply} (Some reply) None → X
  unanswered e = absurd (none-some reply (sym e))

  no_such : {x : Turn} (k : Core) → turn_by c.listed k ≡ x → Some reply ≡ reply_by c.call k → (x ≡ turn.GivesUp → ⊥)
      × (x ≡ turn.LocksAgain → ⊥)
  no_such {x} (core.Wait k) is says = let acts = not_at_end c.listed k.phase reply x says is in
      (λ e. absurd cc, λ e. absurd cc)
  no_such {x} (core.Notify k) is says = let none = no_turn_of_notice k.phase in
      (λ e. none.0 (is ∙ e), λ e. none.1 (is ∙ e))

  by_turn : (x : Turn) (fair : Bool) → turn_of c ≡ x → length j.seats ≡ length i.seats
      → Turned x t v fair c (Some reply) i j → mode_at j t (mutex_of c.call) ≡ Some mode.Exclusive
  by_turn turn.Sleeps fair is count g = absurd g
  by_turn turn.Acts fair is count (acts, rows) = acted acts rows count
  by_turn turn.GivesUp fair is count (acts, begins) =
      absurd ((no_such c.core is (replies (var_at i v) acts.0 refl acts.1)).0 refl)
  by_turn turn.LocksAgain fair is count (acts, begins) =
      absurd ((no_such c.core is (replies (var_at i v) acts.0 refl acts.1)).1 refl)
  by_turn turn.Unlocks fair is count g = unanswered g.0
  by_turn turn.Locks fair is count g = unanswered g.0
  by_turn turn.Follows fair is count g = unanswered g.0
  by_turn turn.ComesBack fair is count g = unanswered g.0
  by_turn turn.Hears fair is count g = unanswered g.0
  by_turn turn.Moves fair is count g = unanswered g.0

pub ends_owning : WaitsEndOwning
ends_owning t v fair reply i j h fits x waits =
    by_turn i j t v x.call reply h fits x.here waits (turn_of x.call) fair refl
    (ap (λ (ss : List Seat). length ss) x.seats ∙ length-set i.seats t nowhere) x.turned

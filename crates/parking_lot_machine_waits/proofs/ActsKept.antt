-- What a thread does at a variable alone leaves a machine whole: an act of its own there, or being told of one.
use Rattle.std.proofs.Common.{◌≡◌, ◌≢◌, ◌⊎◌, ◌||◌, inl, inr, ℕ, zero, suc, ◌+◌, ◌==◌, ◌<◌, Bool, true, false, not}
use Rattle.std.proofs.Common.{cond}
use Rattle.std.proofs.Common.{is_some, option_map, List, [], ◌∷◌, length, Option, Some, None, slice_get, slice_set}
use Rattle.std.proofs.Common.{refl, sym}
use Rattle.std.proofs.Common.{ap, ◌∙◌, subst, eqb-true}
use Rattle.std.specs.Option.{option_map_or, unwrap_or}
use Rattle.std.proofs.lemmas.List.{length-set}
use Rattle.std.proofs.lemmas.Option.{none-some, same_Some}
use Rattle.parking_lot_protocol_waits.specs.declared.wait_core.WaitPhase.{WaitPhase}
use Rattle.parking_lot_protocol_waits.specs.declared.wait_core.WaitPhase.TheVariants as w
use Rattle.parking_lot_protocol_waits.specs.declared.notify_core.NotifyPhase.{NotifyPhase}
use Rattle.parking_lot_protocol_waits.specs.declared.notify_core.NotifyPhase.TheVariants as n
use Rattle.parking_lot_machine_sides.specs.declared.condvar.open_call.Core.{Core}
use Rattle.parking_lot_machine_sides.specs.declared.condvar.open_call.Core.TheVariants as core
use Rattle.parking_lot_machine_sides.specs.declared.condvar.open_call.OpenCall.{OpenCall}
use Rattle.parking_lot_machine_sides.specs.Condvar.Machines.{State as Var, call_in as var_call_in, can_step, may_step}
use Rattle.parking_lot_machine_sides.specs.Condvar.OwnSteps.{beside_after_notify, beside_after_wait}
use Rattle.parking_lot_machine_sides.specs.Condvar.OwnSteps.{inside_after_notify, inside_after_wait, stepped_by}
use Rattle.parking_lot_machine_sides.specs.Condvar.Turns.{enters, enters_beside, enters_beside_by, enters_by, is_own}
use Rattle.parking_lot_machine_sides.specs.Condvar.Turns.{is_own_by, notify_enters, notify_enters_beside, wait_enters}
use Rattle.parking_lot_machine_sides.specs.Condvar.Turns.{wait_is_own}
use Rattle.parking_lot_machine_sides.proofs.CondvarFacts.Slots.{call_here, within}
use Rattle.parking_lot_machine.specs.Rows.{Rows, call_at as row_call_at, state}
use Rattle.parking_lot_machine_waits.specs.declared.seat.Seat.{Seat}
use Rattle.parking_lot_machine_waits.specs.declared.turn.Turn.TheVariants as turn
use Rattle.parking_lot_machine_waits.specs.Joint.{Joint, back_number, bucket_in, buckets, call_at, call_in}
use Rattle.parking_lot_machine_waits.specs.Joint.{enters_mutex, enters_var, front_number, is_kept, is_open_in, is_shut}
use Rattle.parking_lot_machine_waits.specs.Joint.{is_that, keeps, nowhere, number, shuts_out, var_at, var_goes}
use Rattle.parking_lot_machine_waits.specs.Turns.{mutex_of, notify_turn}
use Rattle.parking_lot_machine_waits.specs.Whole.{Apart, AtMutex, IsSo, IsWhole, Notifies, Waits, back_of, front_of}
use Rattle.parking_lot_machine_waits.specs.Whole.{named}
use Rattle.parking_lot_machine_waits.proofs.Hearing.{both_true}
use Rattle.parking_lot_machine_waits.proofs.Keepers.{Fewer, which_kept}
use Rattle.parking_lot_machine_waits.proofs.Keeping.{Anew, AreShut, is, is_not, low_at, now_open, rows_same, seats_at}
use Rattle.parking_lot_machine_waits.proofs.Keeping.{var_elsewhere, var_here, var_shut, vars_at, whole_still}
use Rattle.parking_lot_machine_waits.proofs.Seating.{anew_free, goes_on}

-- WHICH SECTIONS ARE OPEN

-- It enters no section; or it does, and the mutex beside is then the one that it enters with.
abbrev pub Opens : Bool → Option ℕ → Option ℕ → Option ℕ → Option ℕ → Option ℕ → Type 0
Opens enters with o beside p after = ((enters ≡ true) × (after ≡ with))
    ⊎ (is_some p ≡ true → (is_some o ≡ true) × (after ≡ beside))

wait_opens : (listed : Bool) (t : ℕ) (p : WaitPhase) (o beside : Option ℕ) → wait_is_own listed p ≡ true
    → Opens (wait_enters listed p) None o beside (inside_after_wait t p o) (beside_after_wait p beside)
wait_opens listed t (w.Enters k) o beside own = inl (refl, refl)
wait_opens listed t (w.Expires k) o beside own = inl (own, refl)
wait_opens listed t w.Retreats o beside own = inr (λ e. absurd cc)
wait_opens listed t (w.Rests k) o beside own = inr (λ e. absurd cc)
wait_opens listed t (w.Leaves here) o beside own = inr (λ e. absurd cc)
wait_opens listed t p o beside own = inr (λ e. (e, refl))

pub notify_opens : (t : ℕ) (p : NotifyPhase) (o beside : Option ℕ)
    → Opens (notify_enters p) (notify_enters_beside p) o beside (inside_after_notify t p o)
    (beside_after_notify p beside)
notify_opens t (n.Enters all word) o beside = inl (refl, refl)
notify_opens t (n.Leaves notice) o beside = inr (λ e. absurd cc)
notify_opens t p o beside = inr (λ e. (e, refl))

call_opens : (x : Var) (t : ℕ) (c : OpenCall) (k : Core) → is_own_by c.listed k ≡ true
    → Opens (enters_by c.listed k) (enters_beside_by k) x.inside x.beside (stepped_by k x t c).inside
    (stepped_by k x t c).beside
call_opens x t c (core.Wait k) own = wait_opens c.listed t k.phase x.inside x.beside own
call_opens x t c (core.Notify k) own = notify_opens t k.phase x.inside x.beside

module _ (i j : Joint) (v : ℕ) (x y : Var) (h : IsWhole i) (at : var_at i v ≡ Some x)
    (vars : j.vars ≡ slice_set i.vars v (Some y)) where
  same_apart : (same : j.rows ≡ i.rows) → Apart (state j.rows) i
  same_apart same = subst (λ (r : Rows). Apart (state r) i) (sym same) h.sections

  same_buckets : (same : j.rows ≡ i.rows) → buckets j ≡ buckets i
  same_buckets same = ap (λ (r : Rows). (state r).lot.buckets) same

  pub fewer_shut : Fewer x y → j.rows ≡ i.rows → AreShut j
  fewer_shut fewer same = var_shut i j h (same_buckets same) v x y at vars fewer (same_apart same)

  -- where it isn't kept out, no section is open in either bucket
  neither_out : (a b : Bool) → not (a || b) ≡ true → (a ≡ false) × (b ≡ false)
  neither_out true b e = absurd cc
  neither_out false true e = absurd cc
  neither_out false false e = (refl, refl)

  shut_there : (o : Option ℕ) (b : ℕ) → shuts_out i o ≡ false → is_that o b ≡ true
      → (is_open_in (state i.rows) b ≡ false) × (is_kept i b ≡ false)
  shut_there None b e f = absurd cc
  shut_there (Some a) b e f =
      both_out (is_open_in (state i.rows) b) (is_kept i b)
      (subst (λ (k : ℕ). is_shut i k ≡ false) (sym (eqb-true b a f)) e)
    where
      both_out : (p q : Bool) → (p || q) ≡ false → (p ≡ false) × (q ≡ false)
      both_out true q e = absurd cc
      both_out false q e = (refl, e)

  entered : (b : Bool) → b ≡ true → cond b (Some (bucket_in (buckets i) v)) None ≡ Some (bucket_in (buckets i) v)
  entered true e = refl
  entered false e = absurd cc

  -- A thread has made its own act there, which enters no bucket in which a section is open.
  pub acted_shut : (t : ℕ) (c : OpenCall) → call_in (Some x) t ≡ Some c → y ≡ stepped_by c.core x t c
      → var_goes i v t c (Some x) ≡ true → j.rows ≡ i.rows → AreShut j
  acted_shut t c here became goes same = by (call_opens x t c c.core own)
    where
      own : is_own c ≡ true
      own = (both_true _ _ (ap (λ (o : Option OpenCall). option_map_or (may_step x.inside) o false) (sym here)
          ∙ (both_true _ _ goes).0)).0

      out : (shuts_out i (enters_var (buckets i) v c) ≡ false) × (shuts_out i (enters_mutex (buckets i) c) ≡ false)
      out = neither_out (shuts_out i (enters_var (buckets i) v c)) (shuts_out i (enters_mutex (buckets i) c))
          (both_true (can_step x t)
          (not (shuts_out i (enters_var (buckets i) v c) || shuts_out i (enters_mutex (buckets i) c))) goes).1

      here_shut : enters c ≡ true → shuts_out i (Some (bucket_in (buckets i) v)) ≡ false
      here_shut e = ap (shuts_out i) (sym (entered (enters c) e)) ∙ out.0

      free : (enters c ≡ true) × ((stepped_by c.core x t c).beside ≡ enters_beside c) → (b : ℕ)
          → keeps (buckets i) v (Some y) b ≡ true → (is_open_in (state i.rows) b ≡ false) × (is_kept i b ≡ false)
      free opened b k = elim (which_kept (buckets i) v y b k) [
        | inl that ↦ shut_there (Some (bucket_in (buckets i) v)) b (here_shut opened.0) that
        | inr that ↦ shut_there (enters_mutex (buckets i) c) b out.1
            (ap (λ (o : Option ℕ). is_that (option_map (bucket_in (buckets i)) o) b)
            (sym (ap (λ (z : Var). z.beside) became ∙ opened.1)) ∙ that)
      ]

      by : Opens (enters c) (enters_beside c) x.inside x.beside (stepped_by c.core x t c).inside
          (stepped_by c.core x t c).beside → AreShut j
      by (inl opened) = now_open i j h (same_buckets same) v x (Some y) at vars
          (λ b k. let (locks, vars) = free opened b k in
          (ap (λ (r : Rows). is_open_in (state r) b) same ∙ locks, vars)) (same_apart same)
      by (inr fewer) = fewer_shut (subst (λ (z : Var). Fewer x z) (sym became) fewer) same

-- WHERE A WAIT GOES ON

-- Its two numbers are at the mutex as they were.
pub record Onto (listed after : Bool) (m : ℕ) (p q : WaitPhase) : Type 0 where
  pub names : named p m ≡ m → named q m ≡ m
  pub front : front_of q ≡ front_of p
  pub back : back_of after q ≡ back_of listed p

-- WHERE THE LOCKS AND THE SEATS ARE THE SAME

pub rebuilt : (j : Joint) (rows : Rows) (vars : List (Option Var)) (seats : List Seat) → j.rows ≡ rows → j.vars ≡ vars
    → j.seats ≡ seats → IsWhole (record { rows = rows; vars = vars; seats = seats }) → IsWhole j
rebuilt j rows vars seats e f g = subst IsWhole (λ i. record { rows = sym e i; vars = sym f i; seats = sym g i })

module _ (i : Joint) (t v : ℕ) (c : OpenCall) (x y : Var) (h : IsWhole i) (here : call_at i v t ≡ Some c)
    (at : var_at i v ≡ Some x) where
  abbrev pub goes : Joint
  goes = record i { vars = slice_set i.vars v (Some y) }

  still_plain : (d : OpenCall) → y.calls ≡ slice_set x.calls t (Some d) → (m : ℕ) → var_at i m ≡ None
      → var_at goes m ≡ None
  still_plain d calls = (vars_at i goes t v x y (Some d) at calls refl).plain

  -- a wait goes on
  pub waits_on : (after : Bool) (p q : WaitPhase) → Onto c.listed after (mutex_of c.call) p q → Waits i t c p
      → y.calls ≡ slice_set x.calls t (Some (record c { core = core.Wait (record { phase = q }); listed = after }))
      → AreShut goes → IsWhole goes
  waits_on after p q onto z calls shut = goes_on i goes t v c h here refl (rows_same i goes (is t) refl) h.holds shut x
      y _ at calls refl (record {
        names = onto.names z.names;
        mutex = record { kind = z.mutex.kind; plain = still_plain _ calls _ z.mutex.plain };
        front = subst (λ (a : AtMutex). IsSo a (state i.rows) (front_number i t) (mutex_of c.call)) (sym onto.front)
            z.front;
        back = subst (λ (a : AtMutex). IsSo a (state i.rows) (back_number i t) (mutex_of c.call))
            (sym onto.back) z.back;
      })

  -- and so does a notification
  pub notifies_on : (p q : NotifyPhase) (taken : ℕ) → notify_turn q ≢ turn.Sleeps → Notifies i t p
      → y.calls ≡ slice_set x.calls t (Some (record c { core = core.Notify (record { phase = q }); taken = taken }))
      → AreShut goes → IsWhole goes
  notifies_on p q taken turns z calls shut = goes_on i goes t v c h here refl (rows_same i goes (is t) refl) h.holds
      shut x y _ at calls refl (record { first = z.first; second = z.second; turns = turns })

  -- or a call there is over
  abbrev pub gone : Joint
  gone = record i { vars = slice_set i.vars v (Some y); seats = slice_set i.seats t nowhere }

  left_seat : (ss : List Seat) (u : ℕ) → (unwrap_or (slice_get (slice_set ss u nowhere) u) nowhere).at ≡ None
  left_seat [] u = refl
  left_seat (s ∷ ss) zero = refl
  left_seat (s ∷ ss) (suc u) = left_seat ss u

  low : t < length x.calls
  low = within x.calls t c (ap (λ (z : Option Var). call_in z t) (sym at) ∙ here)

  pub over : ((second : Bool) → row_call_at (state i.rows) (number i t second) ≡ None)
      → y.calls ≡ slice_set x.calls t None → AreShut gone → IsWhole gone
  over none calls shut =
      whole_still i gone (is t) h
      (record {
        rows = rows_same i gone (is t) refl;
        vars = vars_at i gone t v x y None at calls refl;
        seats = seats_at i gone t nowhere refl;
        low = λ u e. subst (λ (m : ℕ). m < length i.seats)
            (sym (eqb-true u t e)) (low_at i h v t c here);
      })
      (λ u e. subst (λ (m : ℕ). Anew gone m) (sym (eqb-true u t e))
      (anew_free gone t (left_seat i.seats t) (λ u. nobody u (u == v) refl) (inl (idle false))
      (λ second d is. absurd (none-some d (sym (idle second) ∙ is)))))
      shut h.holds
    where
      idle : (second : Bool) → row_call_at (state i.rows) (number gone t second) ≡ None
      idle second = ap (λ (m : ℕ). row_call_at (state i.rows) (cond second (m + t) t)) (length-set i.seats t nowhere)
          ∙ none second

      was_there : (u : ℕ) (o : Option OpenCall) → call_at i u t ≡ o → u ≢ v → o ≡ None
      was_there u None e ne = refl
      was_there u (Some d) e ne = absurd (ne (same_Some u v (sym (h.seated u t d e) ∙ h.seated v t c here)))

      nobody : (u : ℕ) (b : Bool) → (u == v) ≡ b → call_at gone u t ≡ None
      nobody u true e =
          ap (λ (m : ℕ). call_at gone m t) (eqb-true u v e) ∙ ap (λ (z : Option Var). call_in z t)
          (var_here i gone v x (Some y) at refl)
          ∙ ap (λ (cs : List (Option OpenCall)). var_call_in cs t) calls ∙ call_here x.calls t None low
      nobody u false e = ap (λ (z : Option Var). call_in z t) (var_elsewhere i gone v u (Some y) (is_not v u e) refl)
          ∙ was_there u (call_at i u t) refl (is_not v u e)

-- Each step leaves the locks and variables, where calls are, who is in one, and closed sections.
use Rattle.std.proofs.Common.{◌≡◌, ◌≢◌, ◌⊎◌, inl, inr, ℕ, zero, suc, ◌+◌, ◌<◌, Bool, true, false, not, cond, ◌&&◌}
use Rattle.std.proofs.Common.{◌||◌}
use Rattle.std.proofs.Common.{is_some, is_none, List, [], ◌∷◌, length, Option, Some, None, slice_get, slice_set, refl}
use Rattle.std.proofs.Common.{sym, ap, ◌∙◌, subst, eqb-true, option_map, ◌==◌}
use Rattle.std.specs.Option.{unwrap_or}
use Rattle.std.proofs.lemmas.Bool.{cases_eq, lt-ltb, ltb-true}
use Rattle.std.proofs.lemmas.Option.{same_Some}
use Rattle.parking_lot_protocol_waits.specs.declared.notify_core.NotifyPhase.TheVariants as n
use Rattle.parking_lot_protocol_waits.specs.declared.wait_core.WaitPhase.{WaitPhase}
use Rattle.parking_lot_protocol_waits.specs.declared.wait_core.WaitPhase.TheVariants as w
use Rattle.parking_lot_machine_sides.specs.declared.condvar.calls.CondvarCall.{CondvarCall}
use Rattle.parking_lot_machine_sides.specs.declared.condvar.calls.CondvarReply.{CondvarReply}
use Rattle.parking_lot_machine_sides.specs.declared.condvar.open_call.Core.{Core}
use Rattle.parking_lot_machine_sides.specs.declared.condvar.open_call.Core.TheVariants as core
use Rattle.parking_lot_machine_sides.specs.declared.condvar.open_call.OpenCall.{OpenCall}
use Rattle.parking_lot_machine_sides.specs.declared.condvar.outside.Outside.{Outside}
use Rattle.parking_lot_machine_sides.specs.Condvar.Machines.{State as Var}
use Rattle.parking_lot_machine_sides.specs.Condvar.OwnSteps.{beside_after_wait, inside_after_wait, stepped_by}
use Rattle.parking_lot_machine_sides.specs.Condvar.Turns as var_turns
use Rattle.parking_lot_machine_sides.specs.Condvar.Turns.{wait_enters}
use Rattle.parking_lot_machine.specs.Rows.{call_at as row_call_at, state}
use Rattle.parking_lot_machine_waits.specs.declared.seat.Seat.{Seat}
use Rattle.parking_lot_machine_waits.specs.declared.turn.Turn.{Turn}
use Rattle.parking_lot_machine_waits.specs.declared.turn.Turn.TheVariants as turn
use Rattle.parking_lot_machine_waits.specs.Joint.{Joint, any_keeps, bucket_in, buckets, call_at, call_in}
use Rattle.parking_lot_machine_waits.specs.Joint.{enters_mutex, is_kept, is_shut, is_that, is_var, keeps}
use Rattle.parking_lot_machine_waits.specs.Joint.{keeps_at, nowhere, number, seat_at, var_at, var_in}
use Rattle.parking_lot_machine_waits.specs.JointMoves.{is_free}
use Rattle.parking_lot_machine_waits.specs.JointSides.{is_busy}
use Rattle.parking_lot_machine_waits.specs.JointStays.{Leaves}
use Rattle.parking_lot_machine_waits.specs.JointSteps.{ActsAt, ActsIn, BeginsIn, HearsAt, HearsIn}
use Rattle.parking_lot_machine_waits.specs.Moving.{AreTaken, NotifiesIn}
use Rattle.parking_lot_machine_waits.specs.Turns.{turn_by, turn_of, wait_turn}
use Rattle.parking_lot_machine_waits.proofs.ActsKept.{Opens, notify_opens}
use Rattle.parking_lot_machine_waits.proofs.Hearing.{both_true}
use Rattle.parking_lot_machine_waits.proofs.Keepers.{Fewer, both_ways, fewer_keeps, keeper, kept, which_kept}
use Rattle.parking_lot_machine_waits.proofs.Keeping.{is_not, var_elsewhere}
use Rattle.parking_lot_machine_waits.proofs.Leaving.{Left}
use Rattle.parking_lot_machine_waits.proofs.Moves.{apart}

-- ONE VARIABLE IS WRITTEN

either_false : (a b : Bool) → (a || b) ≡ false → (a ≡ false) × (b ≡ false)
either_false true b e = absurd cc
either_false false b e = (refl, e)

or_false : (a b : Bool) → a ≡ false → b ≡ false → (a || b) ≡ false
or_false true b e f = absurd cc
or_false false b e f = f

-- what stands where one was written is that, or what stood there
here_or : (xs : List (Option Var)) (v : ℕ) (y : Option Var) → (var_in (slice_set xs v y) v ≡ y)
    ⊎ (var_in (slice_set xs v y) v ≡ var_in xs v)
here_or [] v y = inr refl
here_or (x ∷ xs) zero y = inl refl
here_or (x ∷ xs) (suc v) y = here_or xs v y

some_set : (xs : List (Option Var)) (v u : ℕ) (y : Option Var) → is_some y ≡ is_some (var_in xs v)
    → is_some (var_in (slice_set xs v y) u) ≡ is_some (var_in xs u)
some_set [] v u y e = refl
some_set (x ∷ xs) zero zero y e = e
some_set (x ∷ xs) zero (suc u) y e = refl
some_set (x ∷ xs) (suc v) zero y e = refl
some_set (x ∷ xs) (suc v) (suc u) y e = some_set xs v u y e

-- variable v stays one, and of m buckets it keeps none that it didn't keep, but those that are entered
pub record Stays (m v : ℕ) (enters : ℕ → Bool) (o p : Option Var) : Type 0 where
  pub there : is_some p ≡ is_some o
  pub shut : (b : ℕ) → enters b ≡ false → keeps m v o b ≡ false → keeps m v p b ≡ false

pub record VarsLeft (enters : ℕ → Bool) (i j : Joint) : Type 0 where
  pub variables : (v : ℕ) → is_var j v ≡ is_var i v
  pub shut : buckets j ≡ buckets i → (b : ℕ) → enters b ≡ false → is_kept i b ≡ false → is_kept j b ≡ false

not_keeping : (j : Joint) (v b : ℕ) → is_kept j b ≡ false → keeps_at j v b ≡ false
not_keeping j v b shut = go (keeps_at j v b) refl
  where
    go : (x : Bool) → keeps_at j v b ≡ x → keeps_at j v b ≡ false
    go true e = both_ways (is_kept j b) (kept j v b e) shut
    go false e = e

pub vars_written : (enters : ℕ → Bool) (i j : Joint) (v : ℕ) (y : Option Var)
    → Stays (buckets i) v enters (var_at i v) y → j.vars ≡ slice_set i.vars v y → VarsLeft enters i j
vars_written enters i j v y h e = record {
  variables = λ u. ap (λ (vs : List (Option Var)). is_some (var_in vs u)) e ∙ some_set i.vars v u y h.there;
  shut = λ same b out shut. go same b out shut (is_kept j b) refl;
}
  where
    by_keeper : buckets j ≡ buckets i → (b : ℕ) → enters b ≡ false → is_kept i b ≡ false → (w : ℕ) (x : Bool)
        → (w == v) ≡ x → keeps_at j w b ≡ true → ⊥
    by_keeper same b out shut w true is at = elim (here_or i.vars v y) [
      | inl new ↦ both_ways (keeps (buckets i) v y b)
          (ap (λ (m : ℕ). keeps m v y b) (sym same)
          ∙ (ap (λ (o : Option Var). keeps (buckets j) v o b) (sym (ap (λ vs. var_in vs v) e ∙ new))
          ∙ (ap (λ (n : ℕ). keeps_at j n b) (sym (eqb-true w v is)) ∙ at)))
          (h.shut b out (not_keeping i v b shut))
      | inr old ↦ both_ways (keeps_at i v b)
          (ap (λ (m : ℕ). keeps m v (var_at i v) b) (sym same)
          ∙ (ap (λ (o : Option Var). keeps (buckets j) v o b) (sym (ap (λ vs. var_in vs v) e ∙ old))
          ∙ (ap (λ (n : ℕ). keeps_at j n b) (sym (eqb-true w v is)) ∙ at)))
          (not_keeping i v b shut)
    ]
    by_keeper same b out shut w false is at =
        both_ways (keeps_at i w b)
        (ap (λ (m : ℕ). keeps m w (var_at i w) b) (sym same)
        ∙ (ap (λ (o : Option Var). keeps (buckets j) w o b) (sym (var_elsewhere i j v w y (is_not v w is) e)) ∙ at))
        (not_keeping i w b shut)

    go : buckets j ≡ buckets i → (b : ℕ) → enters b ≡ false → is_kept i b ≡ false → (x : Bool) → is_kept j b ≡ x
        → is_kept j b ≡ false
    go same b out shut true f = let (w, at) = keeper j b f in absurd (by_keeper same b out shut w (w == v) refl at)
    go same b out shut false f = f

pub vars_kept : (enters : ℕ → Bool) (i j : Joint) → j.vars ≡ i.vars → VarsLeft enters i j
vars_kept enters i j e =
    record {
      variables = λ u. ap (λ (vs : List (Option Var)). is_some (var_in vs u)) e;
      shut = λ same b out shut. ap (λ (vs : List (Option Var)). any_keeps (buckets j) vs b (length vs)) e
          ∙ (ap (λ (m : ℕ). any_keeps m i.vars b (length i.vars)) same ∙ shut);
    }

-- WHAT A VARIABLE KEEPS

not_more : (m v : ℕ) (x y : Var) (b : ℕ) → Fewer x y → keeps m v (Some x) b ≡ false → keeps m v (Some y) b ≡ false
not_more m v x y b fewer shut = go (keeps m v (Some y) b) refl
  where
    go : (k : Bool) → keeps m v (Some y) b ≡ k → keeps m v (Some y) b ≡ false
    go true e = both_ways (keeps m v (Some x) b) (fewer_keeps m v x y b fewer e) shut
    go false e = e

same_section : (m v : ℕ) (enters : ℕ → Bool) (x y : Var) → y.inside ≡ x.inside → y.beside ≡ x.beside
    → Stays m v enters (Some x) (Some y)
same_section m v enters x y e f = record {
  there = refl;
  shut = λ b out shut. not_more m v x y b (λ some. (ap (λ (o : Option ℕ). is_some o) (sym e) ∙ some, f)) shut;
}

-- its turn is one at the variable
abbrev pub is_act : Turn → Bool
is_act turn.Acts = true
is_act turn.GivesUp = true
is_act turn.LocksAgain = true
is_act t = false

wait_out : (listed : Bool) (t : ℕ) (p : WaitPhase) (o beside : Option ℕ) → is_act (wait_turn listed p) ≡ true
    → Opens (wait_enters listed p) None o beside (inside_after_wait t p o) (beside_after_wait p beside)
wait_out listed t (w.Enters k) o beside act = inl (refl, refl)
wait_out true t (w.Expires k) o beside act = inl (refl, refl)
wait_out false t (w.Expires k) o beside act = absurd cc
wait_out listed t w.Retreats o beside act = inr (λ e. absurd cc)
wait_out listed t (w.Rests k) o beside act = inr (λ e. absurd cc)
wait_out listed t (w.Leaves here) o beside act = inr (λ e. absurd cc)
wait_out listed t p o beside act = inr (λ e. (e, refl))

core_out : (t : ℕ) (x : Var) (c : OpenCall) (k : Core) → is_act (turn_by c.listed k) ≡ true
    → Opens (var_turns.enters_by c.listed k) (var_turns.enters_beside_by k) x.inside x.beside
    (stepped_by k x t c).inside (stepped_by k x t c).beside
core_out t x c (core.Wait k) act = wait_out c.listed t k.phase x.inside x.beside act
core_out t x c (core.Notify k) act = notify_opens t k.phase x.inside x.beside

-- the buckets that a call's act enters, where it enters
abbrev pub acts_enter : ℕ → ℕ → OpenCall → ℕ → Bool
acts_enter m v c b = var_turns.enters c && (is_that (enters_mutex m c) b || is_that (Some (bucket_in m v)) b)

acts_in : (m v t : ℕ) (reply : Option CondvarReply) (c : OpenCall) (o p : Option Var) → call_in o t ≡ Some c
    → is_act (turn_of c) ≡ true → ActsIn t reply o p → Stays m v (acts_enter m v c) o p
acts_in m v t reply c (Some x) (Some y) here act h = record {
  there = refl;
  shut = λ b out shut. by b out shut (core_out t x c c.core act);
}
  where
    became : y ≡ stepped_by c.core x t c
    became = h.became ∙ ap (λ (d : OpenCall). stepped_by d.core x t d) (same_Some h.call c (sym h.here ∙ here))

    neither : (e : Bool) → e ≡ true → (k l : Bool) → (e && (k || l)) ≡ false → (k ≡ false) × (l ≡ false)
    neither true f true l out = absurd cc
    neither true f false l out = (refl, out)
    neither false f k l out = absurd cc

    by : (b : ℕ) → acts_enter m v c b ≡ false → keeps m v (Some x) b ≡ false
        → Opens (var_turns.enters c) (var_turns.enters_beside c) x.inside x.beside (stepped_by c.core x t c).inside
        (stepped_by c.core x t c).beside → keeps m v (Some y) b ≡ false
    by b out shut (inr fewer) = not_more m v x y b (subst (λ (z : Var). Fewer x z) (sym became) fewer) shut
    by b out shut (inl opened) = go (keeps m v (Some y) b) refl
      where
        none : (is_that (enters_mutex m c) b ≡ false) × (is_that (Some (bucket_in m v)) b ≡ false)
        none = neither (var_turns.enters c) opened.0 _ _ out

        go : (k : Bool) → keeps m v (Some y) b ≡ k → keeps m v (Some y) b ≡ false
        go false e = e
        go true e = elim (which_kept m v y b e) [
          | inl that ↦ both_ways (is_that (Some (bucket_in m v)) b) that none.1
          | inr that ↦ both_ways (is_that (enters_mutex m c) b)
              (ap (λ (o : Option ℕ). is_that (option_map (bucket_in m) o) b)
              (sym (ap (λ (z : Var). z.beside) became ∙ opened.1)) ∙ that) none.0
        ]
acts_in m v t reply c (Some x) None here act h = absurd h
acts_in m v t reply c None p here act h = absurd h

hears_in : (m v : ℕ) (enters : ℕ → Bool) (t : ℕ) (seen : Outside) (o p : Option Var) → HearsIn t seen o p
    → Stays m v enters o p
hears_in m v enters t seen (Some x) (Some y) h = same_section m v enters x y (ap (λ (z : Var). z.inside) h.became)
    (ap (λ (z : Var). z.beside) h.became)
hears_in m v enters t seen (Some x) None h = absurd h
hears_in m v enters t seen None p h = absurd h

pub begins_in : (m v : ℕ) (enters : ℕ → Bool) (t : ℕ) (c : CondvarCall) (o p : Option Var) → BeginsIn t c o p
    → Stays m v enters o p
begins_in m v enters t c (Some x) (Some y) h = same_section m v enters x y (ap (λ (z : Var). z.inside) h.became)
    (ap (λ (z : Var). z.beside) h.became)
begins_in m v enters t c (Some x) None h = absurd h
begins_in m v enters t c None p h = absurd h

taken_inside : (t n : ℕ) (x y : Var) → AreTaken t n x y → (y.inside ≡ x.inside) × (y.beside ≡ x.beside)
taken_inside t zero x y e = (ap (λ (z : Var). z.inside) e, ap (λ (z : Var). z.beside) e)
taken_inside t (suc n) x y (z, before, v, last) =
    let was = taken_inside t n x z before in (
      ap (λ (u : Var). u.inside) last.became ∙ was.0,
      ap (λ (u : Var). u.beside) last.became ∙ was.1,
    )

pub notifies_in : (m v : ℕ) (enters : ℕ → Bool) (t : ℕ) (locked : Bool) (n : ℕ) (o p : Option Var)
    → NotifiesIn t locked n o p → Stays m v enters o p
notifies_in m v enters t locked n (Some x) (Some y) h =
    let taken = taken_inside t n h.marked h.taken h.takes in
    same_section m v enters x y
    (ap (λ (z : Var). z.inside) h.tells.became ∙ taken.0 ∙ ap (λ (z : Var). z.inside) h.looks.became)
    (ap (λ (z : Var). z.beside) h.tells.became ∙ taken.1 ∙ ap (λ (z : Var). z.beside) h.looks.became)
notifies_in m v enters t locked n (Some x) None h = absurd h
notifies_in m v enters t locked n None p h = absurd h

pub acts_left : (i j : Joint) (t v : ℕ) (c : OpenCall) (reply : Option CondvarReply) → call_at i v t ≡ Some c
    → is_act (turn_of c) ≡ true → ActsAt t v reply i j → VarsLeft (acts_enter (buckets i) v c) i j
acts_left i j t v c reply here act (y, acts, vars) = vars_written (acts_enter (buckets i) v c) i j v y
    (acts_in (buckets i) v t reply c (var_at i v) y here act acts) vars

pub hears_left : (enters : ℕ → Bool) (i j : Joint) (t v : ℕ) (seen : Outside) → HearsAt t v seen i j
    → VarsLeft enters i j
hears_left enters i j t v seen (y, hears, vars) =
    vars_written enters i j v y (hears_in (buckets i) v enters t seen (var_at i v) y hears) vars

-- WHO IS IN A CALL

-- a number of thread t, or of one that has a seat
abbrev pub Own : Joint → ℕ → ℕ → Type 0
Own i t k = (u : ℕ) × (second : Bool) × (k ≡ number i u second) × (u < length i.seats)
    × ((u ≡ t) ⊎ ((seat_at i u).at ≢ None))

pub own_first : (i : Joint) (t : ℕ) (second : Bool) → t < length i.seats → Own i t (number i t second)
own_first i t second low = (t, second, refl, low, inl refl)

-- the seats of others are as they were
pub record SeatsLeft (t : ℕ) (i j : Joint) : Type 0 where
  pub count : length j.seats ≡ length i.seats
  pub others : (u : ℕ) → u ≢ t → seat_at j u ≡ seat_at i u

is_nobody : {X : Type 0} (o : Option X) → is_none o ≡ true → o ≡ None
is_nobody None e = refl
is_nobody (Some x) e = absurd cc

pub both : (a b : Bool) → a ≡ true → b ≡ true → (a && b) ≡ true
both true b x y = y
both false b x y = absurd cc

module _ (i j : Joint) (t : ℕ) (asked : Option ℕ) (e : ℕ → Bool) (er : Option ℕ) (ev : ℕ → Bool)
    (rows : Left (Own i t) asked er (state i.rows) (state j.rows)) (vars : VarsLeft ev i j) (seats : SeatsLeft t i j)
    (locks_out : (b : ℕ) → e b ≡ false → is_that er b ≡ false) (vars_out : (b : ℕ) → e b ≡ false → ev b ≡ false) where
  not_own : (u : ℕ) (second : Bool) → u ≢ t → u < length i.seats → (seat_at i u).at ≡ None → Own i t (number i u second)
      → ⊥
  not_own u second ne low none (x, other, same, there, inl is) = apart (length i.seats) u x second other low there
      (λ e'. ne (e' ∙ is)) same
  not_own u second ne low none (x, other, same, there, inr seated) = elim (cases_eq u x) [
    | inl is ↦ seated (ap (λ y. (seat_at i y).at) (sym is) ∙ none)
    | inr ne2 ↦ apart (length i.seats) u x second other low there ne2 same
  ]

  idle_still : (u : ℕ) (second : Bool) → u ≢ t → u < length i.seats → (seat_at i u).at ≡ None
      → row_call_at (state i.rows) (number i u second) ≡ None → row_call_at (state j.rows) (number j u second) ≡ None
  idle_still u second ne low none idle = ap (λ (m : ℕ). row_call_at (state j.rows) (cond second (m + u) u)) seats.count
      ∙ elim (rows.fresh (number i u second) idle) [
        | inl still ↦ still
        | inr own ↦ absurd (not_own u second ne low none own)
      ]

  free_still : (u : ℕ) → u ≢ t → u < length i.seats → is_free i u ≡ true → is_free j u ≡ true
  free_still u ne low free =
      let (seat, idle) = both_true _ _ free in
      let (first, second) = both_true _ _ idle in
      let none = is_nobody (seat_at i u).at seat in
      both _ _ (ap (λ (x : Seat). is_none x.at) (seats.others u ne) ∙ seat)
      (both _ _ (ap is_none (idle_still u false ne low none (is_nobody _ first)))
      (ap is_none (idle_still u true ne low none (is_nobody _ second))))

  not_both : (b : Bool) → b ≡ true → not b ≡ true → ⊥
  not_both true e f = cc
  not_both false e f = cc

  busy_before : (u : ℕ) → u ≢ t → is_busy j u ≡ true → is_busy i u ≡ true
  busy_before u ne busy =
      let (low, used) = both_true _ _ busy in
      let less = subst (λ (m : ℕ). u < m) seats.count (ltb-true u (length j.seats) low) in
      both _ _ (lt-ltb u (length i.seats) less) (by_free (is_free i u) refl less used)
    where
      by_free : (b : Bool) → is_free i u ≡ b → u < length i.seats → not (is_free j u) ≡ true → not (is_free i u) ≡ true
      by_free false e less used = ap not e
      by_free true e less used = absurd (not_both (is_free j u) (free_still u ne less e) used)

  stay_closed : (b : ℕ) → e b ≡ false → is_shut i b ≡ false → is_shut j b ≡ false
  stay_closed b out closed =
      let (locks, variables) = either_false _ _ closed in
      or_false _ _ (rows.shut b (locks_out b out) locks)
      (vars.shut rows.buckets b (vars_out b out) variables)

  pub leaves : Leaves t e asked i j
  leaves = record {
    kinds = rows.kinds;
    threads = seats.count;
    variables = vars.variables;
    calls = rows.calls;
    busy = busy_before;
    same_buckets = rows.buckets;
    closed = stay_closed;
  }

pub seats_left : (t : ℕ) (i j : Joint) → j.seats ≡ i.seats → SeatsLeft t i j
seats_left t i j e =
    record {
      count = ap (λ (ss : List Seat). length ss) e;
      others = λ u ne. ap (λ (ss : List Seat). unwrap_or (slice_get ss u) nowhere) e;
    }

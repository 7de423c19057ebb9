-- What one in no call at a variable does at the locks leaves a machine whole: it begins a call, makes a step, or its
-- deadline comes.
use Rattle.std.proofs.Common.{◌≡◌, ◌≢◌, ◌⊎◌, inl, inr, ℕ, zero, suc, ◌+◌, ◌*◌, ◌==◌, ◌<◌, Bool, true, false, not, cond}
use Rattle.std.proofs.Common.{nat_lt, is_some, is_none, List, [], ◌∷◌, length, Option, Some, None, option_map}
use Rattle.std.proofs.Common.{slice_get, slice_set, refl, sym, ap, ◌∙◌, subst, arith, eqb-true}
use Rattle.std.specs.Option.{option_and_then, option_map_or, unwrap_or}
use Rattle.std.proofs.lemmas.Bool.{cases_lt, ltb-true}
use Rattle.std.proofs.lemmas.List.{length-set}
use Rattle.std.proofs.lemmas.Option.{none-some, same_Some, slice_get_past}
use Rattle.parking_lot_protocol.specs.declared.act.CoreAnswer.{CoreAnswer}
use Rattle.parking_lot_protocol.specs.declared.act.CoreAnswer.TheVariants as answer
use Rattle.parking_lot_protocol.specs.declared.mutex_phase.MutexPhase.{MutexPhase}
use Rattle.parking_lot_protocol.specs.declared.mutex_phase.MutexPhase.TheVariants as m
use Rattle.parking_lot_machine_sides.specs.Condvar.Machines.{State as Var}
use Rattle.parking_lot_machine_sides.proofs.CondvarFacts.Slots.{call_elsewhere, call_here}
use Rattle.parking_lot_machine_calls.specs.declared.calls.LockCall.{LockCall}
use Rattle.parking_lot_machine_calls.specs.declared.calls.LockKind.{LockKind}
use Rattle.parking_lot_machine_calls.specs.declared.calls.LockKind.TheVariants as kind
use Rattle.parking_lot_machine_calls.specs.declared.open_call.Call.{Call}
use Rattle.parking_lot_machine_calls.specs.declared.seat.Core.{Core as RowCore}
use Rattle.parking_lot_machine_calls.specs.declared.seat.Core.TheVariants as row_core
use Rattle.parking_lot_machine_calls.specs.declared.seat.Hold.{Hold}
use Rattle.parking_lot_machine_calls.specs.declared.seat.Hold.TheVariants as hold
use Rattle.parking_lot_machine_calls.specs.Beginnings.{excludes, owns_nothing}
use Rattle.parking_lot_machine_calls.specs.Kinds.{AsMutex, AsRw, Manner, manner_of}
use Rattle.parking_lot_machine_calls.specs.LateCalls.{late_of}
use Rattle.parking_lot_machine.specs.Machines as rows
use Rattle.parking_lot_machine.specs.RowActs.{answered, with_call}
use Rattle.parking_lot_machine_calls.specs.CallActs.{hold_after, mutex_hold_after}
use Rattle.parking_lot_machine.specs.RowFits.{FitsTogether}
use Rattle.parking_lot_machine_calls.specs.CallKinds.{IsOfKind}
use Rattle.parking_lot_machine.specs.Rows.{State, call_at as row_call_at, hold_at, hold_in, state}
use Rattle.parking_lot_machine_waits.specs.declared.seat.Seat.{Seat}
use Rattle.parking_lot_machine_waits.specs.Joint.{Joint, asking_number, buckets, busy_by, busy_number, call_enters}
use Rattle.parking_lot_machine_waits.specs.Joint.{call_in, has_by_second, is_kept, is_open_in, is_that, is_var, keeps}
use Rattle.parking_lot_machine_waits.specs.Joint.{keeps_out, nowhere, number, row_goes, seat_at, var_at, var_in}
use Rattle.parking_lot_machine_waits.specs.JointMoves.{is_free, may_ask}
use Rattle.parking_lot_machine_waits.specs.JointSteps.{IsAsked}
use Rattle.parking_lot_machine_waits.specs.Whole.{Apart, IsIn, IsWhole, asks, asks_on, gives, place_of}
use Rattle.parking_lot_machine_waits.proofs.Hearing.{both_true}
use Rattle.parking_lot_machine_waits.proofs.Keeping.{Anew, AreShut, HoldsWhole, RowsKept, Stays, fewer_open, has_place}
use Rattle.parking_lot_machine_waits.proofs.Keeping.{is, is_not, none_still, rows_by, seats_same, untouched, vars_same}
use Rattle.parking_lot_machine_waits.proofs.Keeping.{whole_still}
use Rattle.parking_lot_machine_waits.proofs.Places.{Goes, Kept, Over, cells_apart, kept_same, over_same, stepped_goes}
use Rattle.parking_lot_machine_waits.proofs.Seating.{anew_free, free_at}
use Rattle.parking_lot_machine_waits.proofs.Stages.{Onward, Still}

-- A NUMBER'S CALL IS WRITTEN

pub written_stays : (s u : State) (k : ℕ) (c : Call) → u ≡ with_call s k c → (l : ℕ) → l ≢ k → Stays s u l
written_stays s u k c e l ne =
    untouched s u l (ap (λ (y : State). row_call_at y l) e ∙ call_elsewhere s.calls k l (Some c) ne)
    (λ m. ap (λ (y : State). hold_at y l m) e)

pub written_rows : (i j : Joint) (t : ℕ) (b : Bool) (c : Call) → state j.rows ≡ with_call (state i.rows) (number i t b)
    c → RowsKept i j (is t)
written_rows i j t b c e =
    rows_by i j t b (ap (λ (y : State). length y.calls) e ∙ length-set (state i.rows).calls (number i t b) (Some c))
    (ap (λ (y : State). y.kinds) e) (ap (λ (y : State). y.lot.buckets) e)
    (written_stays (state i.rows) (state j.rows) (number i t b) c e)

pub written_holds : (s u : State) (k : ℕ) (c : Call) → u ≡ with_call s k c → HoldsWhole s → HoldsWhole u
written_holds s u k c e h = subst HoldsWhole (sym e) h

pub written_here : (s u : State) (k : ℕ) (c : Call) → u ≡ with_call s k c → k < length s.calls
    → row_call_at u k ≡ Some c
written_here s u k c e low = ap (λ (y : State). row_call_at y k) e ∙ call_here s.calls k (Some c) low

pub kept_holds : (s u : State) → u.kinds ≡ s.kinds → u.holds ≡ s.holds → HoldsWhole s → HoldsWhole u
kept_holds s u kinds holds h k n kind =
    subst (λ (x : Hold). (excludes x ≡ true) ⊎ (owns_nothing x ≡ true))
    (sym (ap (λ (hs : List Hold). hold_in hs (length u.kinds) k n) holds
    ∙ ap (λ (ks : List LockKind). hold_in s.holds (length ks) k n) kinds))
    (h k n (ap (λ (ks : List LockKind). slice_get ks n) (sym kinds) ∙ kind))

-- SECTIONS

-- where the variables are the same
pub same_shut : (i j : Joint) → IsWhole i → j.vars ≡ i.vars → buckets j ≡ buckets i → Apart (state j.rows) i → AreShut j
same_shut i j h vars same sections =
    fewer_open i j h (λ v b e. ap (λ (m : ℕ). keeps m v (var_at i v) b) (sym same)
    ∙ (ap (λ (vs : List (Option Var)). keeps (buckets j) v (var_in vs v) b) (sym vars) ∙ e)) sections

-- where no section of a lock is opened
pub written_sections : (i j : Joint) (k : ℕ) (c : Call) → IsWhole i → state j.rows ≡ with_call (state i.rows) k c
    → Apart (state j.rows) i
written_sections i j k c h e = subst (λ (y : State). Apart y i) (sym e) h.sections

-- TWO NUMBERS

pub own_apart : (n t : ℕ) (b : Bool) → t < n → cond (not b) (n + t) t ≢ cond b (n + t) t
own_apart n t true low e = omega (arith, low, e)
own_apart n t false low e = omega (arith, low, e)

pub number_low : (i : Joint) → IsWhole i → (t : ℕ) (b : Bool) → t < length i.seats
    → number i t b < length (state i.rows).calls
number_low i h t true low = omega (arith, h.numbers, low)
number_low i h t false low = omega (arith, h.numbers, low)

pub one_or_other : (b second : Bool) → (second ≡ b) ⊎ (second ≡ not b)
one_or_other true true = inl refl
one_or_other true false = inr refl
one_or_other false true = inr refl
one_or_other false false = inl refl

-- ONE THAT HAS NO SEAT

module _ (i j : Joint) (t : ℕ) (h : IsWhole i) (low : t < length i.seats) (free : (seat_at i t).at ≡ None)
    (vars : j.vars ≡ i.vars) (seats : j.seats ≡ i.seats) where
  same_number : (second : Bool) → number j t second ≡ number i t second
  same_number second = ap (λ (ss : List Seat). cond second (length ss + t) t) seats

  low_of : (u : ℕ) → is t u ≡ true → u < length i.seats
  low_of u e = subst (λ (n : ℕ). n < length i.seats) (sym (eqb-true u t e)) low

  at_number : (second : Bool) → row_call_at (state j.rows) (number i t second) ≡ None
      → row_call_at (state j.rows) (number j t second) ≡ None
  at_number second e = ap (λ (n : ℕ). row_call_at (state j.rows) n) (same_number second) ∙ e

  one_of : (b : Bool) → row_call_at (state j.rows) (number i t (not b)) ≡ None
      → (row_call_at (state j.rows) (number j t false) ≡ None) ⊎ (row_call_at (state j.rows) (number j t true) ≡ None)
  one_of true e = inl (at_number false e)
  one_of false e = inr (at_number true e)

  plain : (m : ℕ) → var_at i m ≡ None → var_at j m ≡ None
  plain m e = ap (λ (vs : List (Option Var)). var_in vs m) vars ∙ e

  -- one of its numbers is in another call then, and the other in none
  pub free_whole : (b : Bool) → RowsKept i j (is t) → row_call_at (state j.rows) (number i t (not b)) ≡ None
      → ((c : Call) → row_call_at (state j.rows) (number i t b) ≡ Some c → var_at i c.lock ≡ None)
      → HoldsWhole (state j.rows) → Apart (state j.rows) i → IsWhole j
  free_whole b rows other own holds sections =
      whole_still i j (is t) h
      (record { rows = rows; vars = vars_same i j (is t) vars; seats = seats_same i j (is t) seats; low = low_of })
      (λ u e. subst (Anew j) (sym (eqb-true u t e))
      (anew_free j t (ap (λ (ss : List Seat). (unwrap_or (slice_get ss t) nowhere).at) seats ∙ free)
      (λ v. ap (λ (vs : List (Option Var)). call_in (var_in vs v) t) vars ∙ free_at i h t free v) (one_of b other)
      clear))
      (same_shut i j h vars rows.buckets sections) holds
    where
      moved : (c : Call) (x y : Bool) → x ≡ y → row_call_at (state j.rows) (number j t x) ≡ Some c
          → row_call_at (state j.rows) (number i t y) ≡ Some c
      moved c x y e here = subst (λ (z : Bool). row_call_at (state j.rows) (number i t z) ≡ Some c) e
          (ap (λ (n : ℕ). row_call_at (state j.rows) n) (sym (same_number x)) ∙ here)

      clear : (second : Bool) (c : Call) → row_call_at (state j.rows) (number j t second) ≡ Some c
          → var_at j c.lock ≡ None
      clear second c here = elim (one_or_other b second) [
        | inl e ↦ plain c.lock (own c (moved c second b e here))
        | inr e ↦ absurd (none-some c (sym other ∙ moved c second (not b) e here))
      ]

pub is_nobody : {X : Type 0} (o : Option X) → is_none o ≡ true → o ≡ None
is_nobody None e = refl
is_nobody (Some x) e = absurd cc

pub is_no_var : {X : Type 0} (o : Option X) → not (is_some o) ≡ true → o ≡ None
is_no_var None e = refl
is_no_var (Some x) e = absurd cc

-- one that may ask so may begin that by the number by which it asks
pub may_there : (j : Joint) (t lock : ℕ) (c : LockCall) → may_ask j t lock c ≡ true
    → rows.may_begin (state j.rows) (asking_number j t lock) lock c ≡ true
may_there j t lock c may =
    (both_true (not (is_var j lock)) _ (both_true (is_free j t) _ (both_true (nat_lt t (length j.seats)) _ may).1).1).1

-- It begins a call there.
module _ (i j : Joint) (t lock : ℕ) (c : LockCall) (h : IsWhole i) (may : may_ask i t lock c ≡ true)
    (x : IsAsked t lock c i j) where
  abbrev by : Bool
  by = has_by_second i t lock

  low : t < length i.seats
  low = ltb-true t (length i.seats) (both_true _ _ may).0

  freely : is_free i t ≡ true
  freely = (both_true _ _ (both_true _ _ may).1).0

  nowhere_else : (second : Bool) → row_call_at (state i.rows) (number i t second) ≡ None
  nowhere_else true = is_nobody _ (both_true _ _ (both_true _ _ freely).1).1
  nowhere_else false = is_nobody _ (both_true _ _ (both_true _ _ freely).1).0

  no_variable : var_at i lock ≡ None
  no_variable = is_no_var _ (both_true _ _ (both_true _ _ (both_true _ _ may).1).1).0

  pub ask_keeps : IsWhole j
  ask_keeps =
      free_whole i j t h low (is_nobody _ (both_true _ _ freely).0) x.vars x.seats by
      (written_rows i j t by _ x.begins.became)
      (none_still _ _ _ (written_stays _ _ (number i t by) _ x.begins.became (number i t (not by))
      (own_apart (length i.seats) t by low)) (nowhere_else (not by)))
      (λ d here. subst (λ (m : ℕ). var_at i m ≡ None)
      (ap (λ (e : Call). e.lock)
      (same_Some _ d (sym (written_here _ _ (number i t by) _ x.begins.became (number_low i h t by low)) ∙ here)))
      no_variable)
      (written_holds _ _ _ _ x.begins.became h.holds) (written_sections i j _ _ h x.begins.became)

-- THE NUMBER THAT IS BUSY

busy_case : (i : Joint) (t : ℕ) → IsWhole i → (seat_at i t).at ≡ None → (o : Option Call)
    → row_call_at (state i.rows) t ≡ o
    → (b : Bool) × (busy_number i t ≡ number i t b) × (row_call_at (state i.rows) (number i t (not b)) ≡ None)
busy_case i t h free None e = (true, ap (λ (p : Option Call). busy_by p t (number i t true)) e, e)
busy_case i t h free (Some c) e = (false, ap (λ (p : Option Call). busy_by p t (number i t true)) e, other)
  where
    other : row_call_at (state i.rows) (number i t true) ≡ None
    other = elim (h.one t free) [ inl a ↦ absurd (none-some c (sym a ∙ e)) | inr a ↦ a ]

pub busy : (i : Joint) (t : ℕ) → IsWhole i → (seat_at i t).at ≡ None → (b : Bool) × (busy_number i t ≡ number i t b)
    × (row_call_at (state i.rows) (number i t (not b)) ≡ None)
busy i t h free = busy_case i t h free (row_call_at (state i.rows) t) refl

-- WHAT A STEP LEAVES

in_on : (sort : RowCore → Bool) (s u : State) (k m : ℕ) → IsIn sort s k m
    → ((c d : RowCore) → Still c d → sort c ≡ true → sort d ≡ true) → Onward (row_call_at s k) (row_call_at u k)
    → IsIn sort u k m
in_on sort s u k m x keeps on =
    let go = subst (λ (o : Option Call). Onward o (row_call_at u k)) x.here on in
    record {
      call = go.call;
      here = go.here;
      lock = go.lock ∙ x.lock;
      is = keeps x.call.core go.call.core go.still x.is;
    }

-- each number stays where none's call is over
pub kept_stays : {b : Option ℕ} (s u : State) → Kept b s u → (k : ℕ) → Stays s u k
kept_stays s u x k = record {
  same = kept_same s u x k;
  giving = λ m at. in_on gives s u k m at (λ c d still. still.gives) (x.calls.each k);
  asking = λ m at. in_on asks s u k m at (λ c d still. still.asks) (x.calls.each k);
  asking_on = λ m at. in_on asks_on s u k m at (λ c d still. still.asks_on) (x.calls.each k);
}

no_kind : {X : Type 0} (o : Option LockKind) (m : Manner) → manner_of o ≡ Some m → o ≡ None → X
no_kind o m is e = absurd (none-some m (sym (ap manner_of e) ∙ is))

no_lock : {X : Type 0} (o : Option LockKind) (c : RowCore) → IsOfKind o c → o ≡ None → X
no_lock o (row_core.Mutex k) is e = no_kind o AsMutex is e
no_lock o (row_core.Late p) is e = no_kind o AsMutex is e
no_lock o (row_core.Rw k) is e = no_kind o AsRw is e
no_lock o (row_core.LateRw p) is e = no_kind o AsRw is e
no_lock o (row_core.Upgrade k) is e = no_kind o AsRw is e

pub lock_low : (s : State) (t : ℕ) (c : Call) → FitsTogether s → row_call_at s t ≡ Some c → c.lock < length s.kinds
lock_low s t c fits here = elim (cases_lt c.lock (length s.kinds)) [
  | inl b ↦ b
  | inr b ↦ no_lock (slice_get s.kinds c.lock) c.core (fits.rules.kinds t c here) (slice_get_past s.kinds c.lock b)
]

-- and each other one where one's is over
pub over_stays : (s u : State) (t : ℕ) (a : CoreAnswer) → FitsTogether s → (x : Over t a s u) → (k : ℕ) → k ≢ t
    → Stays s u k
over_stays s u t a fits x k ne =
    untouched s u k (ap (λ (y : State). row_call_at y k) x.became ∙ call_elsewhere s.calls t k None ne)
    (over_same s u t a x (lock_low s t x.call fits x.here) k ne).holds

-- A mutex is owned whole, or not at all, by one whose call there is over.
after_phase : (p : MutexPhase) → (excludes (mutex_hold_after p) ≡ true) ⊎ (owns_nothing (mutex_hold_after p) ≡ true)
after_phase (m.Ends answer.Owned) = inl refl
after_phase (m.Ends answer.Refused) = inr refl
after_phase (m.Ends answer.Released) = inr refl
after_phase p = inr refl

after_call : (n : ℕ) (c : RowCore) → IsOfKind (Some kind.Mutex) c → (excludes (hold_after n c) ≡ true)
    ⊎ (owns_nothing (hold_after n c) ≡ true)
after_call n (row_core.Mutex k) is = after_phase k.phase
after_call n (row_core.Late p) is = inr refl
after_call n (row_core.Rw k) is = absurd cc
after_call n (row_core.LateRw p) is = absurd cc
after_call n (row_core.Upgrade k) is = absurd cc

abbrev Whole : Hold → Type 0
Whole x = (excludes x ≡ true) ⊎ (owns_nothing x ≡ true)

-- what stands where one was written is that, or what stood there
written_or : (xs : List Hold) (at k : ℕ) (x : Hold) → (slice_get (slice_set xs at x) k ≡ slice_get xs k)
    ⊎ ((k ≡ at) × (slice_get (slice_set xs at x) k ≡ Some x))
written_or [] at k x = inl refl
written_or (y ∷ ys) zero zero x = inr (refl, refl)
written_or (y ∷ ys) zero (suc k) x = inl refl
written_or (y ∷ ys) (suc at) zero x = inl refl
written_or (y ∷ ys) (suc at) (suc k) x = elim (written_or ys at k x) [ inl e ↦ inl e | inr e ↦ inr (ap suc e.0, e.1) ]

same_cell : (n x i t l : ℕ) → i < n → l < n → x * n + i ≡ t * n + l → i ≡ l
same_cell n x i t l bi bl e = go (x == t) refl
  where
    go : (b : Bool) → (x == t) ≡ b → i ≡ l
    go true f = omega (arith, e, ap (λ (y : ℕ). y * n) (eqb-true x t f))
    go false f = absurd (cells_apart n x i t l bi bl (is_not t x f) e)

pub over_holds : (s u : State) (t : ℕ) (a : CoreAnswer) → FitsTogether s → Over t a s u → HoldsWhole s → HoldsWhole u
over_holds s u t a fits x h = subst HoldsWhole (sym x.became) at
  where
    within : (k n : ℕ) → n < length s.kinds → slice_get s.kinds n ≡ Some kind.Mutex
        → Whole (option_map_or (λ (y : Hold). y) (slice_get s.holds (k * length s.kinds + n)) (hold.Shares 0))
        → Whole (option_map_or (λ (y : Hold). y) (slice_get (answered s t x.call).holds (k * length s.kinds + n))
        (hold.Shares 0))
    within k n low kind was =
        elim (written_or s.holds (t * length s.kinds + x.call.lock) (k * length s.kinds + n)
        (hold_after x.call.others x.call.core)) [
          | inl e ↦ subst (λ (o : Option Hold). Whole (option_map_or (λ (y : Hold). y) o (hold.Shares 0))) (sym e) was
          | inr e ↦ subst (λ (o : Option Hold). Whole (option_map_or (λ (y : Hold). y) o (hold.Shares 0))) (sym e.1)
              (after_call x.call.others x.call.core (subst (λ (o : Option LockKind). IsOfKind o x.call.core)
              (ap (slice_get s.kinds)
              (sym (same_cell (length s.kinds) k n t x.call.lock low (lock_low s t x.call fits x.here) e.0)) ∙ kind)
              (fits.rules.kinds t x.call x.here)))
        ]

    at : HoldsWhole (answered s t x.call)
    at k n kind = by (nat_lt n (length s.kinds)) refl (h k n kind)
      where
        by : (b : Bool) → nat_lt n (length s.kinds) ≡ b
            → Whole (cond b (option_map_or (λ (y : Hold). y) (slice_get s.holds (k * length s.kinds + n))
            (hold.Shares 0)) (hold.Shares 0))
            → Whole (cond b (option_map_or (λ (y : Hold). y)
            (slice_get (answered s t x.call).holds (k * length s.kinds + n)) (hold.Shares 0)) (hold.Shares 0))
        by true e was = within k n (ltb-true n (length s.kinds) e) kind was
        by false e was = was

-- No section of a variable is open in the bucket of one of a lock, where a bucket is entered in which none is.
pub one_section : (i : Joint) (enters : Option ℕ) (s u : State)
    → ((b : ℕ) → is_that enters b ≡ false → is_open_in s b ≡ false → is_open_in u b ≡ false)
    → not (keeps_out i enters) ≡ true → Apart s i → Apart u i
one_section i enters s u closed may apart b = elim (apart b) [
  | inl none ↦ by (is_that enters b) refl none
  | inr shut ↦ inr shut
]
  where
    kept_not : (o : Option ℕ) → not (keeps_out i o) ≡ true → is_that o b ≡ true → is_kept i b ≡ false
    kept_not None may that = absurd cc
    kept_not (Some a) may that = subst (λ (k : ℕ). is_kept i k ≡ false) (sym (eqb-true b a that))
        (is_not_so (is_kept i a) may)
      where
        is_not_so : (x : Bool) → not x ≡ true → x ≡ false
        is_not_so true e = absurd cc
        is_not_so false e = refl

    by : (x : Bool) → is_that enters b ≡ x → is_open_in s b ≡ false
        → (is_open_in u b ≡ false) ⊎ (is_kept i b ≡ false)
    by true that none = inr (kept_not enters may that)
    by false other none = inl (closed b other none)

-- It makes a step there, or its deadline comes.
module _ (i j : Joint) (t : ℕ) (h : IsWhole i) (fits : FitsTogether (state i.rows)) (low : t < length i.seats)
    (free : (seat_at i t).at ≡ None) (vars : j.vars ≡ i.vars) (seats : j.seats ≡ i.seats) where
  abbrev s : State
  s = state i.rows

  abbrev u : State
  u = state j.rows

  still_clear : (k : ℕ) (c : Call) → place_of u k ≡ place_of s k → row_call_at u k ≡ Some c → var_at i c.lock ≡ None
  still_clear k c e here =
      let (d, was, lock) = has_place (row_call_at s k) c.lock (sym e ∙ ap (option_map (λ (y : Call). y.lock)) here) in
      subst (λ (m : ℕ). var_at i m ≡ None) lock (h.rows k d was)

  went : (b : Bool) → row_call_at s (number i t (not b)) ≡ None → (a : Option CoreAnswer) (enters : Option ℕ)
      → not (keeps_out i enters) ≡ true → Goes a enters (number i t b) s u → IsWhole j
  went b other None enters may x =
      free_whole i j t h low free vars seats b
      (rows_by i j t b x.calls.count x.kinds x.buckets (λ k ne. kept_stays s u x k))
      (none_still s u _ (kept_stays s u x _) other)
      (λ c here. still_clear _ c (kept_same s u x _).place here) (kept_holds s u x.kinds x.holds h.holds)
      (one_section i enters s u x.closed may h.sections)
  went b other (Some a) enters may x =
      free_whole i j t h low free vars seats b
      (rows_by i j t b (ap (λ (y : State). length y.calls) x.became ∙ length-set s.calls (number i t b) None)
      (ap (λ (y : State). y.kinds) x.became) (ap (λ (y : State). y.lot.buckets) x.became)
      (over_stays s u (number i t b) a fits x))
      (none_still s u _ (over_stays s u (number i t b) a fits x _ (own_apart (length i.seats) t b low)) other)
      (λ c here. absurd (none-some c
      (sym (ap (λ (y : State). row_call_at y (number i t b)) x.became ∙ call_here s.calls (number i t b) None
      (number_low i h t b low)) ∙ here)))
      (over_holds s u (number i t b) a fits x h.holds)
      (subst (λ (y : State). Apart y i) (sym x.became) h.sections)

  pub step_keeps : (fair : Bool) (a : Option CoreAnswer) → row_goes i (busy_number i t) ≡ true
      → rows.IsStepped (busy_number i t) fair a s u → IsWhole j
  step_keeps fair a can x =
      let (b, at, other) = busy i t h free in
      went b other a (call_enters (buckets i) x.call)
      (ap (λ (o : Option Call). not (keeps_out i (option_and_then (call_enters (buckets i)) o))) (sym x.here)
      ∙ (both_true _ _ can).1)
      (subst (λ (k : ℕ). Goes a (call_enters (buckets i) x.call) k s u) at
      (stepped_goes s u (busy_number i t) fair a fits x))

  pub deadline_keeps : rows.IsExpired (busy_number i t) s u → IsWhole j
  deadline_keeps x =
      let (b, at, other) = busy i t h free in
      let became = subst (λ (k : ℕ). u ≡ with_call s k (record x.call { core = late_of x.call.core })) at x.became in
      free_whole i j t h low free vars seats b (written_rows i j t b _ became)
      (none_still s u _ (written_stays s u (number i t b) _ became _ (own_apart (length i.seats) t b low)) other)
      (λ d here. subst (λ (m : ℕ). var_at i m ≡ None)
      (ap (λ (e : Call). e.lock)
      (same_Some _ d (sym (written_here s u (number i t b) _ became (number_low i h t b low)) ∙ here)))
      (h.rows (busy_number i t) x.call x.here))
      (written_holds s u (number i t b) _ became h.holds) (written_sections i j (number i t b) _ h became)

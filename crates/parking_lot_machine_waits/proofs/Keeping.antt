-- A machine stays whole where a step changes only what some threads have, and each of these stands as its wait says.
use Rattle.std.proofs.Common.{◌≡◌, ◌≢◌, ◌⊎◌, ◌||◌, inl, inr, ℕ, zero, suc, ◌+◌, ◌-◌, ◌*◌, ◌==◌, ◌<◌, ◌≤◌, Bool, true}
use Rattle.std.proofs.Common.{false, not, cond, List, [], ◌∷◌, length, Option, Some, None, option_map, slice_get}
use Rattle.std.proofs.Common.{slice_set, refl, sym, ap, ◌∙◌, subst, arith, eq-eqb, eqb-true}
use Rattle.std.specs.List.{list_any}
use Rattle.std.specs.Option.{option_and_then, unwrap_or}
use Rattle.std.proofs.lemmas.Bool.{cases_lt}
use Rattle.std.proofs.lemmas.List.{length-set}
use Rattle.std.proofs.lemmas.Option.{none-some, same_Some, slice_get_past}
use Rattle.parking_lot_rules.proofs.Indexed.{get-set_other}
use Rattle.parking_lot_machine_sides.specs.declared.condvar.open_call.Core.{Core}
use Rattle.parking_lot_machine_sides.specs.declared.condvar.open_call.Core.TheVariants as core
use Rattle.parking_lot_machine_sides.specs.declared.condvar.open_call.OpenCall.{OpenCall}
use Rattle.parking_lot_machine_sides.specs.Condvar.Machines.{State as Var, call_in as var_call_in}
use Rattle.parking_lot_machine_sides.proofs.CondvarFacts.Slots.{call_elsewhere, call_here, within}
use Rattle.parking_lot_machine_calls.specs.declared.calls.LockKind.{LockKind}
use Rattle.parking_lot_machine_calls.specs.declared.calls.LockKind.TheVariants as kind
use Rattle.parking_lot_machine_calls.specs.declared.open_call.Call.{Call}
use Rattle.parking_lot_machine_calls.specs.declared.seat.Core.{Core as RowCore}
use Rattle.parking_lot_machine_calls.specs.Beginnings.{excludes, owns_nothing}
use Rattle.parking_lot_machine.specs.Rows.{Rows, State, call_at as row_call_at, hold_at, state}
use Rattle.parking_lot_machine_waits.specs.declared.seat.Seat.{Seat}
use Rattle.parking_lot_machine_waits.specs.Joint.{Joint, back_number, buckets, call_at, call_in, front_number}
use Rattle.parking_lot_machine_waits.specs.Joint.{is_entered, is_kept, is_open_at_variables, is_open_in, keeps}
use Rattle.parking_lot_machine_waits.specs.Joint.{keeps_at}
use Rattle.parking_lot_machine_waits.specs.Joint.{nowhere, number, seat_at, var_at, var_in}
use Rattle.parking_lot_machine_waits.specs.Turns.{mutex_of}
use Rattle.parking_lot_machine_waits.specs.Whole.{AtMutex, Owns, Away, Gives, Asks, AsksOn, Never, IsIn, IsMutex, IsSo}
use Rattle.parking_lot_machine_waits.specs.Whole.{IsWhole, Stands, asks, asks_on, back_of, front_of, gives}
use Rattle.parking_lot_machine_waits.specs.Whole.{Apart}
use Rattle.parking_lot_machine_waits.proofs.Keepers.{Fewer, both_ways, fewer_keeps, is_in, keeper, kept}
use Rattle.parking_lot_machine_waits.proofs.Places.{Same}

-- WHAT STAYS OF A NUMBER

-- It is in a call where it was, for what it was, and owns what it owned.
pub record Stays (s u : State) (k : ℕ) : Type 0 where
  pub same : Same s u k
  pub giving : (m : ℕ) → IsIn gives s k m → IsIn gives u k m
  pub asking : (m : ℕ) → IsIn asks s k m → IsIn asks u k m
  pub asking_on : (m : ℕ) → IsIn asks_on s k m → IsIn asks_on u k m

pub in_still : (sort : RowCore → Bool) (s u : State) (k m : ℕ) → row_call_at u k ≡ row_call_at s k → IsIn sort s k m
    → IsIn sort u k m
in_still sort s u k m e x = record { call = x.call; here = e ∙ x.here; lock = x.lock; is = x.is }

-- where its call is the same
pub untouched : (s u : State) (k : ℕ) → row_call_at u k ≡ row_call_at s k → ((m : ℕ) → hold_at u k m ≡ hold_at s k m)
    → Stays s u k
untouched s u k e holds = record {
  same = record { place = ap (option_map (λ (c : Call). c.lock)) e; holds = holds };
  giving = λ m. in_still gives s u k m e;
  asking = λ m. in_still asks s u k m e;
  asking_on = λ m. in_still asks_on s u k m e;
}

-- and where it stays twice
pub stays_on : (s m u : State) (k : ℕ) → Stays s m k → Stays m u k → Stays s u k
stays_on s m u k x y = record {
  same = record { place = y.same.place ∙ x.same.place; holds = λ n. y.same.holds n ∙ x.same.holds n };
  giving = λ n at. y.giving n (x.giving n at);
  asking = λ n at. y.asking n (x.asking n at);
  asking_on = λ n at. y.asking_on n (x.asking_on n at);
}

pub so_still : (a : AtMutex) (s u : State) (k m : ℕ) → Stays s u k → IsSo a s k m → IsSo a u k m
so_still Owns s u k m x (none, owns) = (x.same.place ∙ none, ap excludes (x.same.holds m) ∙ owns)
so_still Away s u k m x (none, owns) = (x.same.place ∙ none, ap owns_nothing (x.same.holds m) ∙ owns)
so_still Gives s u k m x at = x.giving m at
so_still Asks s u k m x at = x.asking m at
so_still AsksOn s u k m x at = x.asking_on m at
so_still Never s u k m x never = never

pub place_in : (o : Option Call) → option_map (λ (c : Call). c.lock) o ≡ None → o ≡ None
place_in None e = refl
place_in (Some c) e = absurd cc

pub has_place : (o : Option Call) (m : ℕ) → option_map (λ (c : Call). c.lock) o ≡ Some m → (c : Call) × (o ≡ Some c)
    × (c.lock ≡ m)
has_place None m e = absurd cc
has_place (Some c) m e = (c, refl, same_Some c.lock m e)

pub none_still : (s u : State) (k : ℕ) → Stays s u k → row_call_at s k ≡ None → row_call_at u k ≡ None
none_still s u k x e = place_in (row_call_at u k) (x.same.place ∙ ap (option_map (λ (c : Call). c.lock)) e)

-- WHAT A STEP LEAVES, BUT FOR SOME THREADS

-- of the locks
pub record RowsKept (i j : Joint) (mine : ℕ → Bool) : Type 0 where
  pub count : length (state j.rows).calls ≡ length (state i.rows).calls
  pub kinds : (state j.rows).kinds ≡ (state i.rows).kinds
  pub buckets : buckets j ≡ buckets i
  pub others : (k : ℕ) → ((t : ℕ) (second : Bool) → mine t ≡ true → k ≢ number i t second)
      → Stays (state i.rows) (state j.rows) k

-- of the variables
pub record VarsKept (i j : Joint) (mine : ℕ → Bool) : Type 0 where
  pub calls : (v u : ℕ) → mine u ≡ false → call_at j v u ≡ call_at i v u
  pub plain : (v : ℕ) → var_at i v ≡ None → var_at j v ≡ None
  pub there : (v : ℕ) (y : Var) → var_at j v ≡ Some y → (x : Var) × (var_at i v ≡ Some x)
      × (length y.calls ≡ length x.calls)

-- of the seats
pub record SeatsKept (i j : Joint) (mine : ℕ → Bool) : Type 0 where
  pub count : length j.seats ≡ length i.seats
  pub seats : (u : ℕ) → mine u ≡ false → seat_at j u ≡ seat_at i u

pub record Frame (i j : Joint) (mine : ℕ → Bool) : Type 0 where
  pub rows : RowsKept i j mine
  pub vars : VarsKept i j mine
  pub seats : SeatsKept i j mine
  -- each of them is a thread
  pub low : (t : ℕ) → mine t ≡ true → t < length i.seats

-- what holds afterwards of each of those threads
pub record Anew (j : Joint) (t : ℕ) : Type 0 where
  pub seated : (v : ℕ) (c : OpenCall) → call_at j v t ≡ Some c → (seat_at j t).at ≡ Some v
  pub stands : (v : ℕ) (c : OpenCall) → call_at j v t ≡ Some c → Stands j t c c.core
  pub sits : (v : ℕ) → (seat_at j t).at ≡ Some v → (c : OpenCall) × (call_at j v t ≡ Some c)
  pub one : (seat_at j t).at ≡ None → (row_call_at (state j.rows) (number j t false) ≡ None)
      ⊎ (row_call_at (state j.rows) (number j t true) ≡ None)
  pub rows : (second : Bool) (c : Call) → row_call_at (state j.rows) (number j t second) ≡ Some c
      → var_at j c.lock ≡ None

-- and of no thread alone
abbrev pub HoldsWhole : State → Type 0
HoldsWhole s = (k m : ℕ) → slice_get s.kinds m ≡ Some kind.Mutex → (excludes (hold_at s k m) ≡ true)
    ⊎ (owns_nothing (hold_at s k m) ≡ true)

pub record AreShut (j : Joint) : Type 0 where
  pub sections : Apart (state j.rows) j
  pub alone : (v u b : ℕ) → keeps_at j v b ≡ true → keeps_at j u b ≡ true → v ≡ u

-- THE NUMBERS OF THE OTHERS

first_apart : (n k t : ℕ) (second : Bool) → k < n → k ≢ t → k ≢ cond second (n + t) t
first_apart n k t true low ne e = omega (arith, low, e)
first_apart n k t false low ne e = ne e

second_apart : (n k t : ℕ) (second : Bool) → n ≤ k → t < n → k - n ≢ t → k ≢ cond second (n + t) t
second_apart n k t true high low ne e = ne (omega (arith, e))
second_apart n k t false high low ne e = omega (arith, high, low, e)

differs : (f : ℕ → Bool) (a b : ℕ) → f a ≡ false → f b ≡ true → a ≢ b
differs f a b off on e = go (f b) (ap f (sym e) ∙ off) on
  where
    go : (x : Bool) → x ≡ false → x ≡ true → ⊥
    go true e f = absurd cc
    go false e f = absurd cc

module _ (i j : Joint) (mine : ℕ → Bool) (f : Frame i j mine) where
  abbrev Of : ℕ → Type 0
  Of k = (t : ℕ) × (second : Bool) × (mine t ≡ true) × (k ≡ number j t second)

  as_first : (k : ℕ) (b : Bool) → mine k ≡ b → k < length i.seats → Of k ⊎ Stays (state i.rows) (state j.rows) k
  as_first k true e low = inl (k, false, e, refl)
  as_first k false e low =
      inr (f.rows.others k (λ t second m. first_apart (length i.seats) k t second low (differs mine k t e m)))

  as_second : (k : ℕ) (b : Bool) → mine (k - length i.seats) ≡ b → length i.seats ≤ k → Of k
      ⊎ Stays (state i.rows) (state j.rows) k
  as_second k true e high = inl (k - length i.seats, true, e, omega (arith, high, f.seats.count))
  as_second k false e high =
      inr (f.rows.others k
      (λ t second m. second_apart (length i.seats) k t second high (f.low t m)
      (differs mine (k - length i.seats) t e m)))

  -- whose number that is, or that it stays
  who : (k : ℕ) → Of k ⊎ Stays (state i.rows) (state j.rows) k
  who k = elim (cases_lt k (length i.seats)) [
    | inl b ↦ as_first k (mine k) refl b
    | inr b ↦ as_second k (mine (k - length i.seats)) refl b
  ]

  -- the two numbers of one of the others stay
  pub numbers_stay : (t : ℕ) (second : Bool) → t < length i.seats → mine t ≡ false
      → Stays (state i.rows) (state j.rows) (number j t second)
  numbers_stay t second low e = subst (λ (n : ℕ). Stays (state i.rows) (state j.rows) (cond second (n + t) t))
      (sym f.seats.count) (at second)
    where
      at : (second : Bool) → Stays (state i.rows) (state j.rows) (number i t second)
      at false = f.rows.others t (λ u second m. first_apart (length i.seats) t u second low (differs mine t u e m))
      at true = f.rows.others (length i.seats + t)
          (λ u second m. second_apart (length i.seats) (length i.seats + t) u second (omega arith) (f.low u m)
          (λ e'. differs mine t u e m (omega (arith, e'))))

-- ONE OF THE OTHERS

-- whoever is in a call at a variable is a thread
pub low_at : (i : Joint) → IsWhole i → (v u : ℕ) (c : OpenCall) → call_at i v u ≡ Some c → u < length i.seats
low_at i h v u c here = go (var_at i v) refl here
  where
    go : (o : Option Var) → var_at i v ≡ o → call_in o u ≡ Some c → u < length i.seats
    go None at e = absurd (none-some c e)
    go (Some x) at e = subst (λ m. u < m) (h.threads v x at) (within x.calls u c e)

module _ (i j : Joint) (mine : ℕ → Bool) (h : IsWhole i) (f : Frame i j mine) where
  mutex_still : (m : ℕ) → IsMutex i m → IsMutex j m
  mutex_still m x = record {
    kind = ap (λ (ks : List LockKind). slice_get ks m) f.rows.kinds ∙ x.kind;
    plain = f.vars.plain m x.plain;
  }

  number_still : (t : ℕ) (second : Bool) → number j t second ≡ number i t second
  number_still t second = ap (λ (n : ℕ). cond second (n + t) t) f.seats.count

  same_so : (a : AtMutex) (k l m : ℕ) → k ≡ l → Stays (state i.rows) (state j.rows) k → IsSo a (state i.rows) l m
      → IsSo a (state j.rows) k m
  same_so a k l m e x so = so_still a (state i.rows) (state j.rows) k m x
      (subst (λ (n : ℕ). IsSo a (state i.rows) n m) (sym e) so)

  stand_still : (t : ℕ) (c : OpenCall) (k : Core) → t < length i.seats → mine t ≡ false → Stands i t c k
      → Stands j t c k
  stand_still t c (core.Notify k) low e s = record {
    first = none_still _ _ _ (numbers_stay i j mine f t false low e)
        (ap (λ (n : ℕ). row_call_at (state i.rows) n) (number_still t false) ∙ s.first);
    second = none_still _ _ _ (numbers_stay i j mine f t true low e)
        (ap (λ (n : ℕ). row_call_at (state i.rows) n) (number_still t true) ∙ s.second);
    turns = s.turns;
  }
  stand_still t c (core.Wait k) low e s =
      let seat = f.seats.seats t e in
      record {
        names = s.names;
        mutex = mutex_still (mutex_of c.call) s.mutex;
        front = same_so (front_of k.phase) (front_number j t) (front_number i t) (mutex_of c.call)
            (ap (λ (x : Seat). number j t (not x.second)) seat ∙ number_still t _) (numbers_stay i j mine f t _ low e)
            s.front;
        back = same_so (back_of c.listed k.phase) (back_number j t) (back_number i t) (mutex_of c.call)
            (ap (λ (x : Seat). number j t x.second) seat ∙ number_still t _) (numbers_stay i j mine f t _ low e) s.back;
      }

  row_still : (k : ℕ) (c : Call) → Stays (state i.rows) (state j.rows) k → row_call_at (state j.rows) k ≡ Some c
      → var_at j c.lock ≡ None
  row_still k c x here =
      let (d, was, lock) = has_place (row_call_at (state i.rows) k) c.lock
      (sym x.same.place ∙ ap (option_map (λ (y : Call). y.lock)) here) in
      f.vars.plain c.lock (subst (λ (m : ℕ). var_at i m ≡ None) lock (h.rows k d was))

  abbrev OneAtMost : ℕ → Type 0
  OneAtMost t = (row_call_at (state j.rows) (number j t false) ≡ None)
      ⊎ (row_call_at (state j.rows) (number j t true) ≡ None)

  none_at : (t : ℕ) (second : Bool) → t < length i.seats → mine t ≡ false
      → row_call_at (state i.rows) (number i t second) ≡ None → row_call_at (state j.rows) (number j t second) ≡ None
  none_at t second low e none = none_still _ _ _ (numbers_stay i j mine f t second low e)
      (ap (λ (n : ℕ). row_call_at (state i.rows) n) (number_still t second) ∙ none)

-- THE WHOLE

no_call : (s : State) (k : ℕ) → length s.calls ≤ k → row_call_at s k ≡ None
no_call s k b = ap (λ (o : Option (Option Call)). option_and_then (λ (c : Option Call). c) o)
    (slice_get_past s.calls k b)

module _ (i j : Joint) (mine : ℕ → Bool) (h : IsWhole i) (f : Frame i j mine)
    (anew : (t : ℕ) → mine t ≡ true → Anew j t) where
  numbers : length (state j.rows).calls ≡ 2 * length j.seats
  numbers = f.rows.count ∙ h.numbers ∙ ap (λ (n : ℕ). 2 * n) (sym f.seats.count)

  threads : (v : ℕ) (y : Var) → var_at j v ≡ Some y → length y.calls ≡ length j.seats
  threads v y at = let (x, was, same) = f.vars.there v y at in same ∙ h.threads v x was ∙ sym f.seats.count

  seated : (v t : ℕ) (c : OpenCall) (b : Bool) → mine t ≡ b → call_at j v t ≡ Some c → (seat_at j t).at ≡ Some v
  seated v t c true e here = (anew t e).seated v c here
  seated v t c false e here = ap (λ (x : Seat). x.at) (f.seats.seats t e)
      ∙ h.seated v t c (sym (f.vars.calls v t e) ∙ here)

  stands : (v t : ℕ) (c : OpenCall) (b : Bool) → mine t ≡ b → call_at j v t ≡ Some c → Stands j t c c.core
  stands v t c true e here = (anew t e).stands v c here
  stands v t c false e here = let was = sym (f.vars.calls v t e) ∙ here in stand_still i j mine h f t c c.core
      (low_at i h v t c was) e (h.stands v t c was)

  sits : (v t : ℕ) (b : Bool) → mine t ≡ b → (seat_at j t).at ≡ Some v → (c : OpenCall) × (call_at j v t ≡ Some c)
  sits v t true e at = (anew t e).sits v at
  sits v t false e at = let (c, here) = h.sits v t (ap (λ (x : Seat). x.at) (sym (f.seats.seats t e)) ∙ at) in
      (c, f.vars.calls v t e ∙ here)

  one : (t : ℕ) (b : Bool) → mine t ≡ b → t < length i.seats → (seat_at j t).at ≡ None → OneAtMost i j mine h f t
  one t true e low at = (anew t e).one at
  one t false e low at = elim (h.one t (ap (λ (x : Seat). x.at) (sym (f.seats.seats t e)) ∙ at)) [
    | inl a ↦ inl (none_at i j mine h f t false low e a)
    | inr a ↦ inr (none_at i j mine h f t true low e a)
  ]

  one_of : (t : ℕ) → (seat_at j t).at ≡ None → OneAtMost i j mine h f t
  one_of t at = elim (cases_lt t (length i.seats)) [
    | inl b ↦ one t (mine t) refl b at
    | inr b ↦ inr (no_call (state j.rows) (number j t true) (omega (arith, numbers, f.seats.count, b)))
  ]

  clear : (k : ℕ) (c : Call) → row_call_at (state j.rows) k ≡ Some c → var_at j c.lock ≡ None
  clear k c here = elim (who i j mine f k) [
    | inl x ↦ (anew x.0 x.2).rows x.1 c (ap (λ (n : ℕ). row_call_at (state j.rows) n) (sym x.3) ∙ here)
    | inr x ↦ row_still i j mine h f k c x here
  ]

  -- So all stands as it should.
  pub whole_still : AreShut j → HoldsWhole (state j.rows) → IsWhole j
  whole_still shut holds = record {
    numbers = numbers;
    threads = threads;
    seated = λ v t c here. seated v t c (mine t) refl here;
    stands = λ v t c here. stands v t c (mine t) refl here;
    sits = λ v t at. sits v t (mine t) refl at;
    one = one_of;
    rows = clear;
    holds = holds;
    sections = shut.sections;
    alone = shut.alone;
  }

-- WHERE THE LOCKS, THE VARIABLES OR THE SEATS ARE THE SAME

pub rows_same : (i j : Joint) (mine : ℕ → Bool) → j.rows ≡ i.rows → RowsKept i j mine
rows_same i j mine e = record {
  count = ap (λ (r : Rows). length (state r).calls) e;
  kinds = ap (λ (r : Rows). (state r).kinds) e;
  buckets = ap (λ (r : Rows). (state r).lot.buckets) e;
  others = λ k ne. untouched (state i.rows) (state j.rows) k (ap (λ (r : Rows). row_call_at (state r) k) e)
      (λ m. ap (λ (r : Rows). hold_at (state r) k m) e);
}

pub vars_same : (i j : Joint) (mine : ℕ → Bool) → j.vars ≡ i.vars → VarsKept i j mine
vars_same i j mine e = record {
  calls = λ v u out. ap (λ (vs : List (Option Var)). call_in (var_in vs v) u) e;
  plain = λ v none. ap (λ (vs : List (Option Var)). var_in vs v) e ∙ none;
  there = λ v y at. (y, sym (ap (λ (vs : List (Option Var)). var_in vs v) e) ∙ at, refl);
}

pub seats_same : (i j : Joint) (mine : ℕ → Bool) → j.seats ≡ i.seats → SeatsKept i j mine
seats_same i j mine e =
    record {
      count = ap (λ (ss : List Seat). length ss) e;
      seats = λ u out. ap (λ (ss : List Seat). unwrap_or (slice_get ss u) nowhere) e;
    }

-- WHERE ONE THREAD'S ARE WRITTEN

abbrev pub is : ℕ → ℕ → Bool
is t u = u == t

pub is_not : (t u : ℕ) → is t u ≡ false → u ≢ t
is_not t u e same = go (u == t) (eq-eqb u t same) e
  where
    go : (b : Bool) → b ≡ true → b ≡ false → ⊥
    go true e f = absurd cc
    go false e f = absurd cc

-- of the locks one number's call, or two
pub rows_by : (i j : Joint) (t : ℕ) (b : Bool) → length (state j.rows).calls ≡ length (state i.rows).calls
    → (state j.rows).kinds ≡ (state i.rows).kinds → buckets j ≡ buckets i
    → ((k : ℕ) → k ≢ number i t b → Stays (state i.rows) (state j.rows) k) → RowsKept i j (is t)
rows_by i j t b count kinds same others = record {
  count = count;
  kinds = kinds;
  buckets = same;
  others = λ k ne. others k (ne t b (eq-eqb t t refl));
}

pub seats_at : (i j : Joint) (t : ℕ) (x : Seat) → j.seats ≡ slice_set i.seats t x → SeatsKept i j (is t)
seats_at i j t x e = record {
  count = ap (λ (ss : List Seat). length ss) e ∙ length-set i.seats t x;
  seats = λ u out. ap (λ (ss : List Seat). unwrap_or (slice_get ss u) nowhere) e
      ∙ ap (λ (o : Option Seat). unwrap_or o nowhere) (get-set_other i.seats t u x (λ e'. is_not t u out (sym e')));
}

-- the variable that is written, and others
pub var_here : (i j : Joint) (v : ℕ) (x : Var) (y : Option Var) → var_at i v ≡ Some x → j.vars ≡ slice_set i.vars v y
    → var_at j v ≡ y
var_here i j v x y at e = ap (λ (vs : List (Option Var)). var_in vs v) e ∙ call_here i.vars v y (within i.vars v x at)

pub var_elsewhere : (i j : Joint) (v w : ℕ) (y : Option Var) → w ≢ v → j.vars ≡ slice_set i.vars v y
    → var_at j w ≡ var_at i w
var_elsewhere i j v w y ne e = ap (λ (vs : List (Option Var)). var_in vs w) e ∙ call_elsewhere i.vars v w y ne

-- of one variable the calls of some threads
module _ (i j : Joint) (mine : ℕ → Bool) (v : ℕ) (x y : Var) (at : var_at i v ≡ Some x)
    (count : length y.calls ≡ length x.calls)
    (same : (u : ℕ) → mine u ≡ false → var_call_in y.calls u ≡ var_call_in x.calls u)
    (vars : j.vars ≡ slice_set i.vars v (Some y)) where
  call_still : (w u : ℕ) (b : Bool) → (w == v) ≡ b → mine u ≡ false → call_at j w u ≡ call_at i w u
  call_still w u true e out = subst (λ (n : ℕ). call_at j n u ≡ call_at i n u) (sym (eqb-true w v e))
      (ap (λ (z : Option Var). call_in z u) (var_here i j v x (Some y) at vars) ∙ same u out
      ∙ sym (ap (λ (z : Option Var). call_in z u) at))
  call_still w u false e out = ap (λ (z : Option Var). call_in z u) (var_elsewhere i j v w (Some y) (is_not v w e) vars)

  plain_still : (w : ℕ) (b : Bool) → (w == v) ≡ b → var_at i w ≡ None → var_at j w ≡ None
  plain_still w true e none = absurd (none-some x (sym none ∙ ap (λ (n : ℕ). var_at i n) (eqb-true w v e) ∙ at))
  plain_still w false e none = var_elsewhere i j v w (Some y) (is_not v w e) vars ∙ none

  there_still : (w : ℕ) (z : Var) (b : Bool) → (w == v) ≡ b → var_at j w ≡ Some z → (q : Var) × (var_at i w ≡ Some q)
      × (length z.calls ≡ length q.calls)
  there_still w z true e here =
      let that = eqb-true w v e in
      let is_y = same_Some z y (sym here ∙ ap (λ (n : ℕ). var_at j n) that ∙ var_here i j v x (Some y) at vars) in
      (x, ap (λ (n : ℕ). var_at i n) that ∙ at, ap (λ (p : Var). length p.calls) is_y ∙ count)
  there_still w z false e here = (z, sym (var_elsewhere i j v w (Some y) (is_not v w e) vars) ∙ here, refl)

  pub vars_among : VarsKept i j mine
  vars_among = record {
    calls = λ w u out. call_still w u (w == v) refl out;
    plain = λ w none. plain_still w (w == v) refl none;
    there = λ w z here. there_still w z (w == v) refl here;
  }

-- or one call
pub vars_at : (i j : Joint) (t v : ℕ) (x y : Var) (o : Option OpenCall) → var_at i v ≡ Some x
    → y.calls ≡ slice_set x.calls t o → j.vars ≡ slice_set i.vars v (Some y) → VarsKept i j (is t)
vars_at i j t v x y o at calls vars =
    vars_among i j (is t) v x y at (ap (λ (cs : List (Option OpenCall)). length cs) calls ∙ length-set x.calls t o)
    (λ u no. ap (λ (cs : List (Option OpenCall)). var_call_in cs u) calls
    ∙ call_elsewhere x.calls t u o (is_not t u no)) vars

-- WHICH SECTIONS ARE OPEN

pub open_at : (vars : List (Option Var)) (v : ℕ) → is_entered (var_in vars v) ≡ true → list_any is_entered vars ≡ true
open_at [] v e = absurd cc
open_at (x ∷ xs) zero e = go (is_entered x) e
  where
    go : (b : Bool) → b ≡ true → (b || list_any is_entered xs) ≡ true
    go true e = refl
    go false e = absurd cc
open_at (x ∷ xs) (suc v) e = go (is_entered x) (open_at xs v e)
  where
    go : (b : Bool) → list_any is_entered xs ≡ true → (b || list_any is_entered xs) ≡ true
    go true e = refl
    go false e = e

-- no bucket is kept that wasn't, and in none that was is a section of a lock open
pub fewer_open : (i j : Joint) → IsWhole i → ((v b : ℕ) → keeps_at j v b ≡ true → keeps_at i v b ≡ true)
    → Apart (state j.rows) i → AreShut j
fewer_open i j h fewer sections = record {
  sections = λ b. elim (sections b) [ inl e ↦ inl e | inr e ↦ inr (still b (is_kept j b) refl e) ];
  alone = λ v u b x y. h.alone v u b (fewer v b x) (fewer u b y);
}
  where
    still : (b : ℕ) (x : Bool) → is_kept j b ≡ x → is_kept i b ≡ false → is_kept j b ≡ false
    still b true e shut = let (v, at) = keeper j b e in both_ways (is_kept i b) (kept i v b (fewer v b at)) shut
    still b false e shut = e

-- ONE VARIABLE IS WRITTEN

module _ (i j : Joint) (same : buckets j ≡ buckets i) (v : ℕ) (x : Var) (y : Option Var) (at : var_at i v ≡ Some x)
    (vars : j.vars ≡ slice_set i.vars v y) where
  -- what it keeps, and what others do
  keeps_here : (w b : ℕ) → (w == v) ≡ true → keeps_at j w b ≡ true → keeps (buckets i) v y b ≡ true
  keeps_here w b e a =
      ap (λ (m : ℕ). keeps m v y b) (sym same)
      ∙ (ap (λ (o : Option Var). keeps (buckets j) v o b) (sym (var_here i j v x y at vars))
      ∙ (ap (λ (n : ℕ). keeps_at j n b) (sym (eqb-true w v e)) ∙ a))

  keeps_elsewhere : (w b : ℕ) → (w == v) ≡ false → keeps_at j w b ≡ true → keeps_at i w b ≡ true
  keeps_elsewhere w b e a =
      ap (λ (m : ℕ). keeps m w (var_at i w) b) (sym same)
      ∙ (ap (λ (o : Option Var). keeps (buckets j) w o b) (sym (var_elsewhere i j v w y (is_not v w e) vars)) ∙ a)

-- it keeps no more than it did
pub var_shut : (i j : Joint) → IsWhole i → buckets j ≡ buckets i → (v : ℕ) (x y : Var) → var_at i v ≡ Some x
    → j.vars ≡ slice_set i.vars v (Some y) → Fewer x y → Apart (state j.rows) i → AreShut j
var_shut i j h same v x y at vars less sections = fewer_open i j h (λ w b e. go w b (w == v) refl e) sections
  where
    go : (w b : ℕ) (is_it : Bool) → (w == v) ≡ is_it → keeps_at j w b ≡ true → keeps_at i w b ≡ true
    go w b true e a =
        ap (λ (n : ℕ). keeps_at i n b) (eqb-true w v e)
        ∙ (ap (λ (o : Option Var). keeps (buckets i) v o b) at
        ∙ fewer_keeps (buckets i) v x y b less (keeps_here i j same v x (Some y) at vars w b e a))
    go w b false e a = keeps_elsewhere i j same v x (Some y) at vars w b e a

-- or it keeps buckets in which no section was open
pub now_open : (i j : Joint) → IsWhole i → buckets j ≡ buckets i → (v : ℕ) (x : Var) (y : Option Var)
    → var_at i v ≡ Some x → j.vars ≡ slice_set i.vars v y
    → ((b : ℕ) → keeps (buckets i) v y b ≡ true → (is_open_in (state j.rows) b ≡ false) × (is_kept i b ≡ false))
    → Apart (state j.rows) i → AreShut j
now_open i j h same v x y at vars free sections = record {
  sections = λ b. by (is_kept j b) b refl;
  alone = λ w u b p q. only w u b (which w b (w == v) refl p) (which u b (u == v) refl q);
}
  where
    Which : ℕ → ℕ → Type 0
    Which w b = ((w ≡ v) × (keeps (buckets i) v y b ≡ true)) ⊎ (keeps_at i w b ≡ true)

    which : (w b : ℕ) (is_it : Bool) → (w == v) ≡ is_it → keeps_at j w b ≡ true → Which w b
    which w b true e a = inl (eqb-true w v e, keeps_here i j same v x y at vars w b e a)
    which w b false e a = inr (keeps_elsewhere i j same v x y at vars w b e a)

    locks_shut : (w b : ℕ) → Which w b → (is_open_in (state j.rows) b ≡ false) ⊎ (is_kept j b ≡ false)
    locks_shut w b (inl here) = inl (free b here.1).0
    locks_shut w b (inr there) = elim (sections b)
        [ inl e ↦ inl e | inr e ↦ both_ways (is_kept i b) (kept i w b there) e ]

    by : (k : Bool) (b : ℕ) → is_kept j b ≡ k → (is_open_in (state j.rows) b ≡ false) ⊎ (is_kept j b ≡ false)
    by true b e = let (w, a) = keeper j b e in locks_shut w b (which w b (w == v) refl a)
    by false b e = inr e

    only : (w u b : ℕ) → Which w b → Which u b → w ≡ u
    only w u b (inl here) (inl too) = here.0 ∙ sym too.0
    only w u b (inl here) (inr there) = both_ways (is_kept i b) (kept i u b there) (free b here.1).1
    only w u b (inr there) (inl here) = both_ways (is_kept i b) (kept i w b there) (free b here.1).1
    only w u b (inr p) (inr q) = h.alone w u b p q

-- where no section of a variable is open none is kept
pub none_kept : (j : Joint) (b : ℕ) → is_open_at_variables j ≡ false → is_kept j b ≡ false
none_kept j b shut = go (is_kept j b) refl
  where
    go : (x : Bool) → is_kept j b ≡ x → is_kept j b ≡ false
    go true e =
        let (v, at) = keeper j b e in
        both_ways (is_open_at_variables j) (open_at j.vars v (is_in (buckets j) v (var_at j v) b at)) shut
    go false e = e

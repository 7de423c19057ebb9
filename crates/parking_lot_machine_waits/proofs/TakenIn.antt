-- What it leaves of each number at the locks that waiters are moved to a mutex: those ask for it, and all others stay.
use Rattle.parking_lot_machine_waits.specs.Joint.{is_open_in}
use Rattle.parking_lot_machine_waits.proofs.AnySections.{joined_shut}
use Rattle.parking_lot_machine.specs.Rows.{first_key}
use Rattle.std.proofs.Common.{◌≡◌, ◌≢◌, ℕ, ◌==◌, ◌<◌, ◌||◌, Bool, true, false, List, [], ◌∷◌, length, Option, Some}
use Rattle.std.proofs.Common.{slice_set, refl, sym, ap, ◌∙◌, subst, eq-eqb, eqb-true}
use Rattle.std.specs.List.{list_any}
use Rattle.std.proofs.lemmas.Bool.{or_left, or_right}
use Rattle.std.proofs.lemmas.List.{length-set}
use Rattle.parking_lot_machine_sides.specs.Condvar.Machines.{State as Var}
use Rattle.parking_lot_machine_calls.specs.declared.calls.LockKind.{LockKind}
use Rattle.parking_lot_machine_calls.specs.declared.open_call.Call.{Call}
use Rattle.parking_lot_machine.specs.Rows.{State, call_at, hold_at, hold_in}
use Rattle.parking_lot_machine_waits.specs.declared.seat.Seat.{Seat}
use Rattle.parking_lot_machine_waits.specs.Moving.{AreMoved, AreMovedAs, back_in, timed_in}
use Rattle.parking_lot_machine_waits.specs.Whole.{IsIn, asks}
use Rattle.parking_lot_machine_waits.proofs.Ending.{roused_asking, taken_asking}
use Rattle.parking_lot_machine_waits.proofs.Keeping.{Stays, is_not, stays_on, untouched}
use Rattle.parking_lot_machine_waits.proofs.Stages.{call_of}
use Rattle.parking_lot_rules.proofs.Slots.{set_elsewhere}
use Rattle.parking_lot_machine_waits.proofs.TakenOff.{member}

-- the number with which one of them sleeps
abbrev pub moves : List Seat → ℕ → List ℕ → Bool
moves seats k ws = list_any (λ w. k == back_in seats w) ws

abbrev pub Now : Bool → ℕ → State → State → ℕ → Type 0
Now true lock s u k = IsIn asks u k lock
Now false lock s u k = Stays s u k

pub record RowsMoved (seats : List Seat) (lock : ℕ) (ws : List ℕ) (s u : State) : Type 0 where
  pub count : length u.calls ≡ length s.calls
  pub kinds : u.kinds ≡ s.kinds
  pub holds : u.holds ≡ s.holds
  pub buckets : u.lot.buckets ≡ s.lot.buckets
  pub closed : (b : ℕ) → is_open_in s b ≡ false → is_open_in u b ≡ false
  pub each : (k : ℕ) → Now (moves seats k ws) lock s u k

-- each of them is a thread's
abbrev pub AreLow : List Seat → List ℕ → State → Type 0
AreLow seats ws s = (w : ℕ) → member w ws ≡ true → back_in seats w < length s.calls

module _ (seats : List Seat) (x : Var) (lock : ℕ) where
  nobody_moved : (s u : State) → u ≡ s → RowsMoved seats lock [] s u
  nobody_moved s u e = record {
    count = ap (λ (y : State). length y.calls) e;
    kinds = ap (λ (y : State). y.kinds) e;
    holds = ap (λ (y : State). y.holds) e;
    buckets = ap (λ (y : State). y.lot.buckets) e;
    closed = λ b none. ap (λ (y : State). is_open_in y b) e ∙ none;
    each = λ k. untouched s u k (ap (λ (y : State). call_at y k) e) (λ m. ap (λ (y : State). hold_at y k m) e);
  }

  -- the first is moved, and then the rest
  one_moved : (w : ℕ) (ws : List ℕ) (s m u : State) (d : Call) → m.calls ≡ slice_set s.calls (back_in seats w) (Some d)
      → m.kinds ≡ s.kinds → m.holds ≡ s.holds → m.lot.buckets ≡ s.lot.buckets
      → ((b : ℕ) → is_open_in s b ≡ false → is_open_in m b ≡ false)
      → IsIn asks m (back_in seats w) lock
      → RowsMoved seats lock ws m u → RowsMoved seats lock (w ∷ ws) s u
  one_moved w ws s m u d calls kinds holds buckets closed asking rest = record {
    count = rest.count ∙ ap (λ (cs : List (Option Call)). length cs) calls ∙ length-set s.calls (back_in seats w)
        (Some d);
    kinds = rest.kinds ∙ kinds;
    holds = rest.holds ∙ holds;
    buckets = rest.buckets ∙ buckets;
    closed = λ b e. rest.closed b (closed b e);
    each = λ k. join k (k == back_in seats w) (moves seats k ws) refl (rest.each k);
  }
    where
      stays_first : (k : ℕ) → k ≢ back_in seats w → Stays s m k
      stays_first k ne =
          untouched s m k (ap (λ (cs : List (Option Call)). call_of cs k) calls
          ∙ set_elsewhere s.calls (back_in seats w) k (Some d) ne)
          (λ n. ap (λ hs. hold_in hs (length m.kinds) k n) holds
          ∙ ap (λ (ks : List LockKind). hold_in s.holds (length ks) k n) kinds)

      join : (k : ℕ) (b c : Bool) → (k == back_in seats w) ≡ b → Now c lock m u k → Now (b || c) lock s u k
      join k true true e y = y
      join k true false e y =
          y.asking lock (subst (λ (n : ℕ). IsIn asks m n lock) (sym (eqb-true k (back_in seats w) e)) asking)
      join k false true e y = y
      join k false false e y = stays_on s m u k (stays_first k (is_not (back_in seats w) k e)) y

  first_low : (w : ℕ) (ws : List ℕ) (s : State) → AreLow seats (w ∷ ws) s → back_in seats w < length s.calls
  first_low w ws s low = low w (or_left (w == w) (member w ws) (eq-eqb w w refl))

  rest_low : (w : ℕ) (ws : List ℕ) (s m : State) → length m.calls ≡ length s.calls → AreLow seats (w ∷ ws) s
      → AreLow seats ws m
  rest_low w ws s m count low v is = subst (λ (n : ℕ). back_in seats v < n) (sym count)
      (low v (or_right (w == v) (member v ws) is))

  -- all are moved into the list
  all_moved : (ws : List ℕ) (s u : State) → AreLow seats ws s → AreMoved seats x lock ws s u
      → RowsMoved seats lock ws s u
  all_moved [] s u low e = nobody_moved s u e
  all_moved (w ∷ ws) s u low (m, taken, rest) =
      let count = ap (λ (y : State). length y.calls) taken.became ∙ length-set s.calls (back_in seats w) _ in
      one_moved w ws s m u _ (ap (λ (y : State). y.calls) taken.became) (ap (λ (y : State). y.kinds) taken.became)
      (ap (λ (y : State). y.holds) taken.became)
      (ap (λ (y : State). y.lot.buckets) taken.became)
      (λ b none. ap (λ (y : State). is_open_in y b) taken.became
      ∙ joined_shut s.lot (first_key lock) b none (back_in seats w))
      (taken_asking s m (back_in seats w) lock (timed_in x w) taken (first_low w ws s low))
      (all_moved ws m u (rest_low w ws s m count low) rest)

  -- or the first is woken
  pub rows_moved : (locked : Bool) (ws : List ℕ) (s u : State) → AreLow seats ws s
      → AreMovedAs locked seats x lock ws s u → RowsMoved seats lock ws s u
  rows_moved true ws s u low moved = all_moved ws s u low moved
  rows_moved false [] s u low e = nobody_moved s u e
  rows_moved false (w ∷ ws) s u low (m, roused, rest) =
      let count = ap (λ (y : State). length y.calls) roused.became ∙ length-set s.calls (back_in seats w) _ in
      one_moved w ws s m u _ (ap (λ (y : State). y.calls) roused.became) (ap (λ (y : State). y.kinds) roused.became)
      (ap (λ (y : State). y.holds) roused.became) (ap (λ (y : State). y.lot.buckets) roused.became)
      (λ b none. ap (λ (y : State). is_open_in y b) roused.became ∙ none)
      (roused_asking s m (back_in seats w) lock false roused (first_low w ws s low))
      (all_moved ws m u (rest_low w ws s m count low) rest)

  -- WHICH NUMBERS THOSE ARE

  pub is_moved : (w : ℕ) (ws : List ℕ) → member w ws ≡ true → moves seats (back_in seats w) ws ≡ true
  is_moved w [] e = absurd cc
  is_moved w (v ∷ ws) e = by (v == w) refl (is_moved w ws) e
    where
      by : (b : Bool) → (v == w) ≡ b → (member w ws ≡ true → moves seats (back_in seats w) ws ≡ true)
          → (b || member w ws) ≡ true → ((back_in seats w == back_in seats v) || moves seats (back_in seats w) ws)
          ≡ true
      by true s rest e = or_left (back_in seats w == back_in seats v) (moves seats (back_in seats w) ws)
          (eq-eqb _ _ (ap (back_in seats) (sym (eqb-true v w s))))
      by false s rest e = or_right (back_in seats w == back_in seats v) (moves seats (back_in seats w) ws) (rest e)

  pub moved_by : (k : ℕ) (ws : List ℕ) → moves seats k ws ≡ true → (w : ℕ) × (member w ws ≡ true)
      × (k ≡ back_in seats w)
  moved_by k [] e = absurd cc
  moved_by k (v ∷ ws) e = by (k == back_in seats v) refl (moved_by k ws) e
    where
      by : (b : Bool) → (k == back_in seats v) ≡ b
          → (moves seats k ws ≡ true → (w : ℕ) × (member w ws ≡ true) × (k ≡ back_in seats w))
          → (b || moves seats k ws) ≡ true → (w : ℕ) × (member w (v ∷ ws) ≡ true) × (k ≡ back_in seats w)
      by true s rest e = (v, or_left (v == v) (member v ws) (eq-eqb v v refl), eqb-true k (back_in seats v) s)
      by false s rest e = let (w, is, at) = rest e in (w, or_right (v == w) (member w ws) is, at)

  -- one of them asks for the mutex, and a number of nobody among them stays
  pub now_asks : (w : ℕ) (ws : List ℕ) (s u : State) → RowsMoved seats lock ws s u → member w ws ≡ true
      → IsIn asks u (back_in seats w) lock
  now_asks w ws s u r e = subst (λ b. Now b lock s u (back_in seats w)) (is_moved w ws e) (r.each (back_in seats w))

  pub now_stays : (k : ℕ) (ws : List ℕ) (s u : State) → RowsMoved seats lock ws s u
      → ((w : ℕ) → member w ws ≡ true → k ≢ back_in seats w) → Stays s u k
  now_stays k ws s u r ne = by (moves seats k ws) refl (r.each k)
    where
      by : (b : Bool) → moves seats k ws ≡ b → Now b lock s u k → Stays s u k
      by true e y = let (w, is, at) = moved_by k ws e in absurd (ne w is at)
      by false e y = y

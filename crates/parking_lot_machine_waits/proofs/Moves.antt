-- Whom a notification takes may be moved to the mutex, one after another.
use Rattle.parking_lot_machine.specs.Rows.{first_key}
use Rattle.parking_lot_machine.specs.Rows.{open_at}
use Rattle.std.proofs.Common.{◌≡◌, ◌≢◌, ℕ, zero, suc, ◌+◌, ◌-◌, ◌%◌, ◌==◌, ◌<◌, ◌≤◌, Bool, true, false, not, cond}
use Rattle.std.proofs.Common.{nat_lt, ◌&&◌, is_some, is_none, List, [], ◌∷◌, length, take, Option, Some, None}
use Rattle.std.proofs.Common.{slice_get, slice_set, refl, sym, ap, ◌∙◌, subst, arith, eqb-true}
use Rattle.std.specs.List.{list_all}
use Rattle.std.specs.Option.{option_and_then, unwrap_or}
use Rattle.std.proofs.lemmas.Bool.{ltb-true}
use Rattle.std.proofs.lemmas.List.{length-set}
use Rattle.parking_lot_machine_sides.specs.declared.condvar.calls.CondvarCall.{CondvarCall}
use Rattle.parking_lot_machine_sides.specs.Condvar.MachineLaws.{ListIsWaiters}
use Rattle.parking_lot_machine_sides.specs.Condvar.Machines.{State as Var, variable}
use Rattle.parking_lot_rules.specs.Lists.{at_index, occurs}
use Rattle.parking_lot_rules.specs.Variable as rules
use Rattle.parking_lot_rules.proofs.Indexed.{get-set_other}
use Rattle.parking_lot_rules.proofs.Waiting.{counted, counted-same, occurs-cons}
use Rattle.parking_lot_machine_calls.specs.declared.calls.LockCall.TheVariants as call
use Rattle.parking_lot_machine_calls.specs.declared.calls.LockKind.{LockKind}
use Rattle.parking_lot_machine_calls.specs.declared.open_call.Call.{Call}
use Rattle.parking_lot_machine_calls.specs.declared.seat.Hold.{Hold}
use Rattle.parking_lot_machine_calls.specs.Beginnings.{is_allowed}
use Rattle.parking_lot_machine_calls.specs.Calls.{takes}
use Rattle.parking_lot_machine_calls.specs.Kinds.{kind_in}
use Rattle.parking_lot_machine.specs.Requeues.{IsAttended, IsRousedIn, IsTakenIn, may_rouse_in}
use Rattle.parking_lot_machine.specs.Rows.{State, hold_in, state, word_at}
use Rattle.parking_lot_machine_waits.specs.declared.seat.Seat.{Seat}
use Rattle.parking_lot_machine_waits.specs.Joint.{Joint, lock_of, nowhere}
use Rattle.parking_lot_machine_waits.specs.Ready.{may_move_all}
use Rattle.parking_lot_machine_waits.specs.JointSteps.{KnownIn, MayMoveIn, is_locked, takes_now}
use Rattle.parking_lot_machine_waits.specs.Moving.{MayMove, MayMoveAs, back_in, taken_of, timed_in}
use Rattle.parking_lot_machine_waits.proofs.Hearing.{both_true}

both : (a b : Bool) → a ≡ true → b ≡ true → (a && b) ≡ true
both true b x y = y
both false b x y = absurd cc

-- EACH OF THEM MAY BE MOVED WHILE OTHERS ARE

-- what a number may ask, by what the machine has of it
abbrev asks : ℕ → Option (Option Call) → List LockKind → List Hold → ℕ → ℕ → Bool
asks n o kinds holds w lock = nat_lt w n
    && (is_none (option_and_then (λ c. c) o)
    && (takes (slice_get kinds lock) call.Lock && is_allowed (kind_in kinds lock) (hold_in holds (length kinds) w lock)
    call.Lock))

still : (s u : State) (v w lock : ℕ) (c : Call) → u.calls ≡ slice_set s.calls v (Some c) → u.kinds ≡ s.kinds
    → u.holds ≡ s.holds → open_at u (first_key lock) ≡ None → w ≢ v → may_rouse_in s w lock ≡ true
    → may_rouse_in u w lock ≡ true
still s u v w lock c calls kinds holds free ne may =
    let was = both_true _ _ may in
    both _ _
    (ap (λ (cs : List (Option Call)). asks (length cs) (slice_get cs w) u.kinds u.holds w lock) calls
    ∙ ap (λ n. asks n (slice_get (slice_set s.calls v (Some c)) w) u.kinds u.holds w lock)
    (length-set s.calls v (Some c))
    ∙ ap (λ o. asks (length s.calls) o u.kinds u.holds w lock) (get-set_other s.calls v w (Some c) (λ e. ne (sym e)))
    ∙ ap (λ ks. asks (length s.calls) (slice_get s.calls w) ks u.holds w lock) kinds
    ∙ ap (λ hs. asks (length s.calls) (slice_get s.calls w) s.kinds hs w lock) holds
    ∙ was.0)
    (ap (λ o. not (is_some o)) free)

still_taken : (s u : State) (v w lock : ℕ) (timed : Bool) → IsTakenIn v lock timed s u → w ≢ v
    → may_rouse_in s w lock ≡ true → may_rouse_in u w lock ≡ true
still_taken s u v w lock timed x ne may = still s u v w lock _ (ap (λ (y : State). y.calls) x.became)
    (ap (λ (y : State). y.kinds) x.became) (ap (λ (y : State). y.holds) x.became) x.free ne may

still_roused : (s u : State) (v w lock : ℕ) (timed : Bool) → IsRousedIn v lock timed s u → w ≢ v
    → may_rouse_in s w lock ≡ true → may_rouse_in u w lock ≡ true
still_roused s u v w lock timed x ne may = still s u v w lock _ (ap (λ (y : State). y.calls) x.became)
    (ap (λ (y : State). y.kinds) x.became) (ap (λ (y : State). y.holds) x.became) x.free ne may

-- NUMBERS OF DIFFERENT THREADS DIFFER

pub apart : (n a b : ℕ) (x y : Bool) → a < n → b < n → a ≢ b → cond x (n + a) a ≢ cond y (n + b) b
apart n a b true true la lb ne e = ne (omega (arith, e))
apart n a b false false la lb ne e = ne e
apart n a b true false la lb ne e = omega (arith, e, lb)
apart n a b false true la lb ne e = omega (arith, e, la)

module _ (seats : List Seat) (x : Var) (lock : ℕ) where
  backs_apart : (a b : ℕ) → a < length seats → b < length seats → a ≢ b → back_in seats a ≢ back_in seats b
  backs_apart a b = apart (length seats) a b (unwrap_or (slice_get seats a) nowhere).second
      (unwrap_or (slice_get seats b) nowhere).second

  abbrev may : State → ℕ → Bool
  may s w = nat_lt w (length seats) && may_rouse_in s (back_in seats w) lock

  -- none twice
  abbrev Once : List ℕ → Type 0
  Once ws = (u : ℕ) → occurs u ws ≤ 1

  not_first : (w : ℕ) (ws : List ℕ) → Once (w ∷ ws) → occurs w ws ≡ 0
  not_first w ws once = omega (arith, once w, occurs-cons w w ws, counted-same w)

  once_rest : (w : ℕ) (ws : List ℕ) → Once (w ∷ ws) → Once ws
  once_rest w ws once u = omega (arith, once u, occurs-cons u w ws)

  is_other : (v w : ℕ) (ws : List ℕ) → occurs v (w ∷ ws) ≡ 0 → w ≢ v
  is_other v w ws none e =
      omega (arith, none, occurs-cons v w ws, subst (λ (y : ℕ). counted v y ≡ 1) (sym e) (counted-same v))

  -- those behind one that is moved
  all_still : (s u : State) (v : ℕ) → v < length seats
      → ((w : ℕ) → w < length seats → w ≢ v → may_rouse_in s (back_in seats w) lock ≡ true
      → may_rouse_in u (back_in seats w) lock ≡ true)
      → (ws : List ℕ) → occurs v ws ≡ 0 → list_all (may s) ws ≡ true → list_all (may u) ws ≡ true
  all_still s u v low stays [] none all = refl
  all_still s u v low stays (w ∷ ws) none all =
      let here = both_true _ _ all in
      let this = both_true _ _ here.0 in
      let other : w ≢ v = is_other v w ws none in
      both _ _ (both _ _ this.0 (stays w (ltb-true w (length seats) this.0) other this.1))
      (all_still s u v low stays ws (omega (arith, none, occurs-cons v w ws)) here.1)

  pub may_rest : (ws : List ℕ) (s : State) → Once ws → list_all (may s) ws ≡ true → IsAttended s lock
      → MayMove seats x lock ws s
  may_rest [] s once all attended = tt
  may_rest (w ∷ ws) s once all attended =
      let here = both_true _ _ all in
      let this = both_true _ _ here.0 in
      let low = ltb-true w (length seats) this.0 in (
        low,
        record { may = this.1; attended = attended },
        λ u taken. may_rest ws u (once_rest w ws once)
            (all_still s u w low
            (λ y b ne m. still_taken s u (back_in seats w) (back_in seats y) lock (timed_in x w) taken
            (backs_apart y w b low ne) m) ws (not_first w ws once) here.1)
            taken.attended,
      )

  pub may_all : (locked : Bool) (ws : List ℕ) (s : State) → Once ws → list_all (may s) ws ≡ true
      → (locked ≡ true → IsAttended s lock) → MayMoveAs locked seats x lock ws s
  may_all true ws s once all attended = may_rest ws s once all (attended refl)
  may_all false [] s once all attended = tt
  may_all false (w ∷ ws) s once all attended =
      let here = both_true _ _ all in
      let this = both_true _ _ here.0 in
      let low = ltb-true w (length seats) this.0 in (
        low,
        this.1,
        λ u roused. may_rest ws u (once_rest w ws once)
            (all_still s u w low
            (λ y b ne m. still_roused s u (back_in seats w) (back_in seats y) lock false roused
            (backs_apart y w b low ne) m) ws (not_first w ws once) here.1)
            roused.attended,
      )

  once_take : (n : ℕ) (ws : List ℕ) → Once ws → Once (take n ws)
  once_take zero ws once u = omega arith
  once_take (suc n) [] once u = omega arith
  once_take (suc n) (w ∷ ws) once u = omega (arith, occurs-cons u w ws, occurs-cons u w (take n ws), few n ws)
    where
      few : (n : ℕ) (ws : List ℕ) → occurs u (take n ws) ≤ occurs u ws
      few zero ws = omega arith
      few (suc n) [] = omega arith
      few (suc n) (v ∷ vs) = omega (arith, occurs-cons u v vs, occurs-cons u v (take n vs), few n vs)

  all_take : (s : State) (n : ℕ) (ws : List ℕ) → list_all (may s) ws ≡ true → list_all (may s) (take n ws) ≡ true
  all_take s zero ws all = refl
  all_take s (suc n) [] all = refl
  all_take s (suc n) (w ∷ ws) all = (let here = both_true _ _ all in both _ _ here.0 (all_take s n ws here.1))

waits_once : (x : Var) → ListIsWaiters x → (u : ℕ) → occurs u x.queue ≤ 1
unfolding rules.weight
waits_once x lists u = omega (arith, lists u, few (slice_get (variable x).phases u))
  where
    few : (o : Option rules.Phase) → at_index (rules.weight rules.Waiting) o ≤ 1
    few None = omega arith
    few (Some (rules.Joined k)) = omega arith
    few (Some (rules.Queued k s)) = omega arith
    few (Some p) = omega arith

attended_at : (s : State) (lock : ℕ) → (word_at s lock % 2 == 1) ≡ true → IsAttended s lock
attended_at s lock e = omega (arith, eqb-true (word_at s lock % 2) 1 e)

pub may_moves : (j : Joint) (o : Option Var) (c : CondvarCall) → KnownIn o → may_move_all j o ≡ true
    → MayMoveIn o (is_locked j (lock_of o)) j.seats (lock_of o) (takes_now c o) (state j.rows)
may_moves j None c known all = absurd cc
may_moves j (Some x) c known all =
    let n = taken_of c (length x.queue) in
    may_all j.seats x (x.word - 1) (is_locked j (x.word - 1)) (take n x.queue) (state j.rows)
    (once_take j.seats x (x.word - 1) n x.queue (waits_once x known.1.lists))
    (all_take j.seats x (x.word - 1) (state j.rows) n x.queue all)
    (λ e. attended_at (state j.rows) (x.word - 1) e)

-- A machine where nobody has done anything is whole.
use Rattle.parking_lot_machine_waits.proofs.Keepers.{is_in}
use Rattle.std.proofs.Common.{◌≡◌, inl, inr, ℕ, zero, suc, ◌+◌, ◌*◌, Bool, true, false, cond, nat_lt, List, [], ◌∷◌}
use Rattle.std.proofs.Common.{◌++◌, length, map, replicate, Option, Some, None, slice_get, refl, sym, ap, ◌∙◌}
use Rattle.std.specs.Option.{option_and_then, option_map_or, unwrap_or}
use Rattle.std.proofs.lemmas.Option.{none-some, same_Some}
use Rattle.parking_lot_machine_sides.specs.declared.condvar.open_call.OpenCall.{OpenCall}
use Rattle.parking_lot_machine_sides.specs.Condvar.Machines.{State as Var, at_rest as var_at_rest}
use Rattle.parking_lot_machine_sides.specs.Condvar.Machines.{call_at as var_call_at}
use Rattle.parking_lot_machine_calls.specs.declared.calls.LockKind.{LockKind}
use Rattle.parking_lot_machine_calls.specs.declared.open_call.Call.{Call}
use Rattle.parking_lot_machine_calls.specs.declared.seat.Hold.{Hold}
use Rattle.parking_lot_machine_calls.specs.declared.seat.Hold.TheVariants as hold
use Rattle.parking_lot_machine_calls.specs.Beginnings.{owns_nothing}
use Rattle.parking_lot_machine.specs.Machines.{at_rest}
use Rattle.parking_lot_machine.specs.Rows.{State, call_at as row_call_at, hold_at, state}
use Rattle.parking_lot_machine_waits.specs.declared.seat.Seat.{Seat}
use Rattle.parking_lot_machine_waits.specs.Joint.{Joint, buckets, call_at, call_in, is_entered, is_open_in}
use Rattle.parking_lot_machine_waits.specs.Joint.{nowhere, number, seat_at, var_at}
use Rattle.parking_lot_machine_waits.specs.Joint.{var_in}
use Rattle.parking_lot_machine_waits.specs.JointSteps.{AreKnown, KnownIn, var_of}
use Rattle.parking_lot_machine_waits.specs.JointProgress.{GiversAreOut}
use Rattle.parking_lot_machine_waits.specs.Whole.{IsWhole}

count : {X : Type 0} (n : ℕ) (x : X) → length (replicate n x) ≡ n
count zero x = refl
count (suc n) x = ap suc (count n x)

-- variables that are known, and one more
pub known_more : (xs : List (Option Var)) (y : Option Var) → AreKnown xs → KnownIn y → AreKnown (xs ++ y ∷ [])
known_more [] y h k zero = k
known_more [] y h k (suc v) = tt
known_more (x ∷ xs) y h k zero = h zero
known_more (x ∷ xs) y h k (suc v) = known_more xs y (λ u. h (suc u)) k v

-- what is read of a list where all are the same
read : {X Y : Type 0} (f : Option X → Y) (n k : ℕ) (x : X) (y : Y) → f None ≡ y → f (Some x) ≡ y
    → f (slice_get (replicate n x) k) ≡ y
read f zero k x y out at = out
read f (suc n) zero x y out at = at
read f (suc n) (suc k) x y out at = read f n k x y out at

-- each variable is at rest
rests : (n : ℕ) (variables : List Bool) (v : ℕ) (x : Var) → var_in (map (var_of n) variables) v ≡ Some x
    → x ≡ var_at_rest n
rests n [] v x e = absurd (none-some x e)
rests n (true ∷ vs) zero x e = sym (same_Some (var_at_rest n) x e)
rests n (false ∷ vs) zero x e = absurd (none-some x e)
rests n (b ∷ vs) (suc v) x e = rests n vs v x e

module _ (j : Joint) (n : ℕ) (kinds : List LockKind) (variables : List Bool)
    (rows : state j.rows ≡ at_rest true (2 * n) kinds) (vars : j.vars ≡ map (var_of n) variables)
    (seats : j.seats ≡ replicate n nowhere) where
  var_rests : (v : ℕ) (x : Var) → var_at j v ≡ Some x → x ≡ var_at_rest n
  var_rests v x e = rests n variables v x (ap (λ (vs : List (Option Var)). var_in vs v) (sym vars) ∙ e)

  nobody : (v t : ℕ) (c : OpenCall) → call_at j v t ≡ Some c → ⊥
  nobody v t c here = go (var_at j v) refl here
    where
      go : (o : Option Var) → var_at j v ≡ o → call_in o t ≡ Some c → ⊥
      go None e at = absurd (none-some c at)
      go (Some x) e at =
          absurd (none-some c (sym (read (option_and_then (λ (o : Option OpenCall). o)) n t None None refl refl)
          ∙ ap (λ (y : Var). var_call_at y t) (sym (var_rests v x e)) ∙ at))

  not_entered : (v : ℕ) (o : Option Var) → var_at j v ≡ o → is_entered o ≡ false
  not_entered v None e = refl
  not_entered v (Some x) e = ap (λ (y : Var). is_entered (Some y)) (var_rests v x e)

  unseated : (t : ℕ) → (seat_at j t).at ≡ None
  unseated t = ap (λ (ss : List Seat). (unwrap_or (slice_get ss t) nowhere).at) seats
      ∙ read (λ (o : Option Seat). (unwrap_or o nowhere).at) n t nowhere None refl refl

  no_call : (k : ℕ) → row_call_at (state j.rows) k ≡ None
  no_call k = ap (λ (s : State). row_call_at s k) rows ∙ read (option_and_then (λ (o : Option Call). o)) (2 * n) k None
      None refl refl

  owns : (k m : ℕ) → hold_at (state j.rows) k m ≡ hold.Shares 0
  owns k m = ap (λ (s : State). hold_at s k m) rows ∙ by (nat_lt m (length kinds))
    where
      by : (b : Bool) → cond b
          (option_map_or (λ (h : Hold). h) (slice_get (at_rest true (2 * n) kinds).holds (k * length kinds + m))
          (hold.Shares 0)) (hold.Shares 0) ≡ hold.Shares 0
      by true = read (λ (o : Option Hold). option_map_or (λ (h : Hold). h) o (hold.Shares 0)) (2 * n * length kinds)
          (k * length kinds + m) (hold.Shares 0) (hold.Shares 0) refl refl
      by false = refl

  both_ways : {X : Type 0} (b : Bool) → b ≡ true → b ≡ false → X
  both_ways true e f = absurd cc
  both_ways false e f = absurd cc

  pub new_whole : IsWhole j
  new_whole = record {
    numbers = ap (λ (s : State). length s.calls) rows ∙ count (2 * n) None
        ∙ ap (λ (m : ℕ). 2 * m) (sym (ap (λ (ss : List Seat). length ss) seats ∙ count n nowhere));
    threads = λ v x e. ap (λ (y : Var). length y.calls) (var_rests v x e) ∙ count n None
        ∙ sym (ap (λ (ss : List Seat). length ss) seats ∙ count n nowhere);
    seated = λ v t c here. absurd (nobody v t c here);
    stands = λ v t c here. absurd (nobody v t c here);
    sits = λ v t at. absurd (none-some v (sym (unseated t) ∙ at));
    one = λ t at. inl (no_call (number j t false));
    rows = λ k c here. absurd (none-some c (sym (no_call k) ∙ here));
    holds = λ k m e. inr (ap owns_nothing (owns k m));
    sections = λ b. inl (ap (λ (s : State). is_open_in s b) rows);
    alone = λ v u b e f. both_ways (is_entered (var_at j v)) (is_in (buckets j) v (var_at j v) b e)
        (not_entered v (var_at j v) refl);
  }

  pub new_givers : GiversAreOut j
  new_givers v t m c here is = absurd (nobody v t c here)

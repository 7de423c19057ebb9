-- A new world is whole.
use Rattle.std.proofs.Common.{◌≡◌, ℕ, zero, suc, ◌*◌, arith, ◌&&◌, not, nat_lt, inr, Bool, true, false, is_some}
use Rattle.std.proofs.Common.{is_none, map}
use Rattle.std.proofs.Common.{length, List, [], ◌∷◌, replicate, Option, None, slice_get, refl, sym, ap, ◌∙◌}
use Rattle.std.specs.Option.{option_and_then, option_map_or, unwrap_or}
use Rattle.std.proofs.lemmas.List.{length-replicate}
use Rattle.std.proofs.lemmas.Option.{none-some}
use Rattle.parking_lot_core_model.specs.Buckets.{buckets_for, slot, threads_with}
use Rattle.parking_lot_machine_sides.specs.Condvar.Machines.{State as Var}
use Rattle.parking_lot_machine_sides.specs.Once.OnceActs as once
use Rattle.parking_lot_machine_sides.specs.Once.Onces.{Onces}
use Rattle.parking_lot_machine_sides.specs.Once.Onces as onces
use Rattle.parking_lot_machine_waits.specs.declared.seat.Seat.{Seat}
use Rattle.parking_lot_machine_waits.specs.Joint.{nowhere, number, var_in}
use Rattle.parking_lot_machine_waits.specs.JointSides.{is_busy}
use Rattle.parking_lot_machine_waits.specs.JointSteps.{var_of}
use Rattle.parking_lot_machine.specs.Machines as rows
use Rattle.parking_lot_machine.specs.Rows.{State, call_at, state}
use Rattle.parking_lot_world.specs.declared.calls.LockKind.{LockKind}
use Rattle.parking_lot_world.specs.WorldCalls.{is_variable, row_kind}
use Rattle.parking_lot_world.specs.Worlds.{IsWhole, Shown}
use Rattle.parking_lot_world.proofs.Whole.{both_ways}

nobody : {C : Type 0} (n t : ℕ) → option_and_then (λ (c : Option C). c) (slice_get (replicate n None) t) ≡ None
nobody zero t = refl
nobody (suc n) zero = refl
nobody (suc n) (suc t) = nobody n t

unseated : (n t : ℕ) → unwrap_or (slice_get (replicate n nowhere) t) nowhere ≡ nowhere
unseated zero t = refl
unseated (suc n) zero = refl
unseated (suc n) (suc t) = unseated n t

-- a place is a variable where its lock is one
var_there : (n : ℕ) (kinds : List LockKind) (v : ℕ) → is_some (var_in (map (var_of n) (map is_variable kinds)) v)
    ≡ option_map_or is_variable (slice_get kinds v) false
var_there n [] v = refl
var_there n (k ∷ ks) zero = at (is_variable k)
  where
    at : (b : Bool) → is_some (var_of n b) ≡ b
    at true = refl
    at false = refl
var_there n (k ∷ ks) (suc v) = var_there n ks v

none_of : (a b c d : Bool) → a ≡ true → b ≡ true → c ≡ true → (d && not (a && (b && c))) ≡ false
none_of true true true true e f g = refl
none_of true true true false e f g = refl
none_of false b c d e f g = absurd cc
none_of true false c d e f g = absurd cc
none_of true true false d e f g = absurd cc

same_threads : (n : ℕ) → n ≡ threads_with true (2 * n)
same_threads n = omega arith

module _ (w : Shown) (threads : ℕ)
    (rows_new : state w.waits.rows ≡ rows.at_rest true (2 * threads) (map row_kind w.kinds))
    (vars : w.waits.vars ≡ map (var_of threads) (map is_variable w.kinds))
    (seats : w.waits.seats ≡ replicate threads nowhere)
    (onces_new : w.onces ≡ once.at_rest threads (length w.kinds)) (answers : w.answers ≡ replicate threads None) where
  as_many : length w.answers ≡ threads
  as_many = ap length answers ∙ length-replicate threads None

  no_call : (k : ℕ) → call_at (state w.waits.rows) k ≡ None
  no_call k = ap (λ (s : State). call_at s k) rows_new ∙ nobody (2 * threads) k

  not_busy : (t : ℕ) → is_busy w.waits t ≡ false
  not_busy t = none_of _ _ _ (nat_lt t (length w.waits.seats))
      (ap (λ (ss : List Seat). is_none (unwrap_or (slice_get ss t) nowhere).at) seats
      ∙ ap (λ (x : Seat). is_none x.at) (unseated threads t))
      (ap is_none (no_call t)) (ap is_none (no_call (number w.waits t true)))

  pub new_whole : IsWhole w
  new_whole = record {
    wait_threads = ap length seats ∙ length-replicate threads nowhere ∙ sym as_many;
    once_threads = ap (λ (s : Onces). length s.calls) onces_new ∙ length-replicate threads None ∙ sym as_many;
    row_kinds = ap (λ (s : State). s.kinds) rows_new;
    variables = λ v. ap (λ (vs : List (Option Var)). is_some (var_in vs v)) vars ∙ var_there threads w.kinds v;
    once_count = ap (λ (s : Onces). length s.words) onces_new ∙ length-replicate (length w.kinds) 0;
    apart = λ t busy. both_ways (is_busy w.waits t) busy (not_busy t);
    at_locks = λ k c here. absurd (none-some c (sym (no_call k) ∙ here));
    at_onces = λ t c is. absurd
        (none-some c (sym (ap (λ (s : Onces). onces.call_at s t) onces_new ∙ nobody threads t) ∙ is));
    buckets = ap (λ (s : Onces). length s.inside) onces_new ∙ length-replicate (buckets_for threads) None
        ∙ ap buckets_for (same_threads threads) ∙ sym (ap (λ (s : State). s.lot.buckets) rows_new);
    sections = λ b. inr (ap (λ (s : Onces). slot s.inside b) onces_new ∙ nobody (buckets_for threads) b);
  }

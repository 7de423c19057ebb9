-- A call that begins at a variable leaves a machine whole.
use Rattle.std.proofs.Common.{◌≡◌, ◌≢◌, inl, inr, ℕ, ◌+◌, ◌<◌, Bool, true, false, not, cond, nat_lt, ◌&&◌, ◌||◌}
use Rattle.std.proofs.Common.{is_none, is_some, List, length, Option, Some, None, option_map, slice_get, slice_set}
use Rattle.std.proofs.Common.{refl, sym, ap, ◌∙◌, subst, eqb-true}
use Rattle.std.specs.Option.{unwrap_or}
use Rattle.std.proofs.lemmas.Bool.{ltb-true}
use Rattle.std.proofs.lemmas.List.{length-set}
use Rattle.std.proofs.lemmas.Option.{none-some}
use Rattle.parking_lot_rules.proofs.Indexed.{get-set_same}
use Rattle.parking_lot_machine_sides.specs.declared.condvar.calls.CondvarCall.{CondvarCall}
use Rattle.parking_lot_machine_sides.specs.declared.condvar.calls.CondvarCall.TheVariants as call
use Rattle.parking_lot_machine_sides.specs.Condvar.Calls.{call_for}
use Rattle.parking_lot_machine_sides.specs.Condvar.Machines.{State as Var}
use Rattle.parking_lot_machine_sides.specs.Condvar.Steps as vars
use Rattle.parking_lot_machine_sides.proofs.CondvarFacts.Slots.{has_slot}
use Rattle.parking_lot_machine_calls.specs.declared.calls.LockCall.TheVariants as lock_call
use Rattle.parking_lot_machine_calls.specs.declared.calls.LockKind.{LockKind}
use Rattle.parking_lot_machine_calls.specs.declared.calls.LockKind.TheVariants as kind
use Rattle.parking_lot_machine_calls.specs.declared.calls.OwnMode.TheVariants as mode
use Rattle.parking_lot_machine_calls.specs.declared.open_call.Call.{Call}
use Rattle.parking_lot_machine_calls.specs.Beginnings.{excludes, is_allowed, owns_nothing}
use Rattle.parking_lot_machine_calls.specs.Calls.{takes}
use Rattle.parking_lot_machine_calls.specs.Kinds.{kind_in}
use Rattle.parking_lot_machine.specs.Machines.{may_begin}
use Rattle.parking_lot_machine.specs.RowFits.{FitsTogether}
use Rattle.parking_lot_machine.specs.Rows.{Rows, State, call_at as row_call_at, hold_at, state}
use Rattle.parking_lot_machine.specs.SoundLaws.{Always, OwnersAgree, agrees}
use Rattle.parking_lot_machine_waits.specs.declared.seat.Seat.{Seat}
use Rattle.parking_lot_machine_waits.specs.Joint.{Joint, back_number, front_number, has_by_second}
use Rattle.parking_lot_machine_waits.specs.Joint.{nowhere, number, seat_at, var_at}
use Rattle.parking_lot_machine_waits.specs.JointMoves.{has_mutex, is_free, is_mutex, may_call, may_call_at}
use Rattle.parking_lot_machine_waits.specs.JointSteps.{BeginsIn, IsCalled, waits_by_second}
use Rattle.parking_lot_machine_waits.specs.Turns.{is_wait, mutex_of}
use Rattle.parking_lot_machine_waits.specs.Whole.{Apart, Owns, Away, IsMutex, IsSo, IsWhole, Stands, place_of}
use Rattle.parking_lot_machine_waits.proofs.Hearing.{both_true}
use Rattle.parking_lot_machine_waits.proofs.Keeping.{Anew, HoldsWhole, is, rows_same, seats_at, var_shut, vars_at}
use Rattle.parking_lot_machine_waits.proofs.Keeping.{whole_still}
use Rattle.parking_lot_machine_waits.proofs.LocksKept.{is_no_var, is_nobody, own_apart}
use Rattle.parking_lot_machine_waits.proofs.Owning.{owner}
use Rattle.parking_lot_machine_waits.proofs.Seating.{anew_seated, free_at, only_there, written}

-- NO TWO NUMBERS OWN A MUTEX

no_two : agrees mode.Exclusive mode.Exclusive ≡ true → ⊥
no_two e = absurd cc

pub two_owners : Always OwnersAgree → (s : State) → FitsTogether s → (n : ℕ) → slice_get s.kinds n ≡ Some kind.Mutex
    → (k l : ℕ) → k ≢ l → IsSo Owns s k n → IsSo Owns s l n → ⊥
two_owners agree s fits n mutex k l ne a b =
    no_two (agree s fits n k l mode.Exclusive mode.Exclusive ne (owner s fits n mutex k a) (owner s fits n mutex l b))

-- THE CALL THAT BEGINS

-- whoever may give a mutex up owns it
abbrev MayOf : State → ℕ → ℕ → Bool
MayOf s k n = is_none (row_call_at s k)
    && (takes (slice_get s.kinds n) lock_call.Unlock && is_allowed (kind_in s.kinds n) (hold_at s k n) lock_call.Unlock)

may_give_up : (s : State) (k n : ℕ) → may_begin s k n lock_call.Unlock ≡ true → excludes (hold_at s k n) ≡ true
may_give_up s k n may =
    let rest : MayOf s k n ≡ true = (both_true (nat_lt k (length s.calls)) (MayOf s k n) may).1 in
    (both_true _ _ (both_true _ _ rest).1).1

not_not : (b : Bool) → not (not b) ≡ b
not_not true = refl
not_not false = refl

of_kind : (o : Option LockKind) → is_mutex o ≡ true → o ≡ Some kind.Mutex
of_kind None e = absurd cc
of_kind (Some kind.Mutex) e = refl
of_kind (Some kind.FairMutex) e = absurd cc
of_kind (Some kind.Rw) e = absurd cc
of_kind (Some kind.RwRecursive) e = absurd cc

module _ (agree : Always OwnersAgree) (i j : Joint) (t v : ℕ) (c : CondvarCall) (h : IsWhole i)
    (fits : FitsTogether (state i.rows)) (may : may_call_at i t v c ≡ true) (rows : j.rows ≡ i.rows)
    (seats : j.seats ≡ slice_set i.seats t (record { at = Some v; second = waits_by_second i t c })) where
  low : t < length i.seats
  low = ltb-true t (length i.seats) (both_true _ _ may).0

  freely : is_free i t ≡ true
  freely = (both_true _ _ (both_true _ _ may).1).0

  unseated : (seat_at i t).at ≡ None
  unseated = is_nobody _ (both_true _ _ freely).0

  nowhere_else : (second : Bool) → row_call_at (state i.rows) (number i t second) ≡ None
  nowhere_else true = is_nobody _ (both_true _ _ (both_true _ _ freely).1).1
  nowhere_else false = is_nobody _ (both_true _ _ (both_true _ _ freely).1).0

  others : (is_free i t && (may_call (var_at i v) t c && (not (is_wait c) || has_mutex i t (mutex_of c)))) ≡ true
  others = (both_true _ _ may).1

  has : (not (is_wait c) || has_mutex i t (mutex_of c)) ≡ true
  has = (both_true _ _ (both_true _ _ others).1).1

  seated : seat_at j t ≡ record { at = Some v; second = waits_by_second i t c }
  seated =
      let (old, was) = has_slot i.seats t low in
      ap (λ (ss : List Seat). unwrap_or (slice_get ss t) nowhere) seats ∙ ap (λ (o : Option Seat). unwrap_or o nowhere)
      (get-set_same i.seats t old (record { at = Some v; second = waits_by_second i t c }) was)

  same_number : (second : Bool) → number j t second ≡ number i t second
  same_number second = ap (λ (n : ℕ). cond second (n + t) t)
      (ap (λ (ss : List Seat). length ss) seats ∙ length-set i.seats t _)

  none_there : (second : Bool) → row_call_at (state j.rows) (number j t second) ≡ None
  none_there second = ap (λ (r : Rows). row_call_at (state r) (number j t second)) rows
      ∙ ap (λ (n : ℕ). row_call_at (state i.rows) n) (same_number second) ∙ nowhere_else second

  -- of a wait with mutex n
  module _ (n : ℕ) (second : waits_by_second i t c ≡ not (has_by_second i t n)) (owns : has_mutex i t n ≡ true) where
    abbrev by : Bool
    by = has_by_second i t n

    mutex_here : slice_get (state i.rows).kinds n ≡ Some kind.Mutex
    mutex_here = of_kind _ (both_true _ _ owns).0

    owned : excludes (hold_at (state i.rows) (number i t by) n) ≡ true
    owned = may_give_up (state i.rows) (number i t by) n (both_true _ _ (both_true _ _ owns).1).1

    in_none : (b : Bool) → place_of (state i.rows) (number i t b) ≡ None
    in_none b = ap (option_map (λ (d : Call). d.lock)) (nowhere_else b)

    -- the other number owns nothing of it
    away : owns_nothing (hold_at (state i.rows) (number i t (not by)) n) ≡ true
    away = elim (h.holds (number i t (not by)) n mutex_here) [
      | inl e ↦
          absurd (two_owners agree (state i.rows) fits n mutex_here (number i t (not by)) (number i t by)
          (own_apart (length i.seats) t by low) (in_none (not by), e) (in_none by, owned))
      | inr e ↦ e
    ]

    front_is : front_number j t ≡ number i t by
    front_is = ap (λ (x : Seat). number j t (not x.second)) seated ∙ ap (λ (b : Bool). number j t (not b)) second
        ∙ ap (number j t) (not_not by) ∙ same_number by

    back_is : back_number j t ≡ number i t (not by)
    back_is = ap (λ (x : Seat). number j t x.second) seated ∙ ap (number j t) second ∙ same_number (not by)

    pub front_owns : IsSo Owns (state j.rows) (front_number j t) n
    front_owns =
        subst (λ (r : Rows). IsSo Owns (state r) (front_number j t) n) (sym rows)
        (subst (λ (k : ℕ). IsSo Owns (state i.rows) k n) (sym front_is) (in_none by, owned))

    pub back_away : IsSo Away (state j.rows) (back_number j t) n
    back_away =
        subst (λ (r : Rows). IsSo Away (state r) (back_number j t) n) (sym rows)
        (subst (λ (k : ℕ). IsSo Away (state i.rows) k n) (sym back_is) (in_none (not by), away))

    pub with_mutex : (var_at i n ≡ None → var_at j n ≡ None) → IsMutex j n
    with_mutex plain =
        record {
          kind = ap (λ (r : Rows). slice_get (state r).kinds n) rows ∙ mutex_here;
          plain = plain (is_no_var _ (both_true _ _ (both_true _ _ owns).1).0);
        }

  stand : (d : CondvarCall) → c ≡ d → ((n : ℕ) → var_at i n ≡ None → var_at j n ≡ None)
      → Stands j t (call_for d) (call_for d).core
  stand call.NotifyOne e plain = record { first = none_there false; second = none_there true; turns = λ f. absurd cc }
  stand call.NotifyAll e plain = record { first = none_there false; second = none_there true; turns = λ f. absurd cc }
  stand (call.Wait n) e plain =
      let second = ap (waits_by_second i t) e in
      let owns = ap (λ (d : CondvarCall). not (is_wait d) || has_mutex i t (mutex_of d)) (sym e) ∙ has in
      record {
        names = refl;
        mutex = with_mutex n second owns (plain n);
        front = front_owns n second owns;
        back = back_away n second owns;
      }
  stand (call.WaitUntil n) e plain =
      let second = ap (waits_by_second i t) e in
      let owns = ap (λ (d : CondvarCall). not (is_wait d) || has_mutex i t (mutex_of d)) (sym e) ∙ has in
      record {
        names = refl;
        mutex = with_mutex n second owns (plain n);
        front = front_owns n second owns;
        back = back_away n second owns;
      }

  begun_whole : (x y : Var) → var_at i v ≡ Some x → vars.IsBegun t c x y → j.vars ≡ slice_set i.vars v (Some y)
      → IsWhole j
  begun_whole x y at begins written_vars =
      let calls = ap (λ (z : Var). z.calls) begins.became in
      let kept = vars_at i j t v x y (Some (call_for c)) at calls written_vars in
      let here = written i j t v x y (call_for c) at calls written_vars
      (subst (λ (n : ℕ). t < n) (sym (h.threads v x at)) low) in
      whole_still i j (is t) h
      (record {
        rows = rows_same i j (is t) rows;
        vars = kept;
        seats = seats_at i j t _ seats;
        low = λ u e. subst (λ (n : ℕ). n < length i.seats) (sym (eqb-true u t e)) low;
      })
      (λ u e. subst (Anew j) (sym (eqb-true u t e))
      (anew_seated j t v (call_for c) (ap (λ (z : Seat). z.at) seated) here
      (only_there i j t v x y (call_for c) at calls written_vars
      (λ w d there. absurd (none-some d (sym (free_at i h t unseated w) ∙ there))))
      (stand c refl kept.plain)))
      (var_shut i j h (ap (λ (r : Rows). (state r).lot.buckets) rows) v x y at written_vars
      (λ e. (ap (λ (z : Var). is_some z.inside) (sym begins.became) ∙ e, ap (λ (z : Var). z.beside) begins.became))
      (subst (λ (r : Rows). Apart (state r) i) (sym rows) h.sections))
      (subst (λ (r : Rows). HoldsWhole (state r)) (sym rows) h.holds)

-- It begins there.
pub call_keeps : Always OwnersAgree → (i j : Joint) (t v : ℕ) (c : CondvarCall) → IsWhole i
    → FitsTogether (state i.rows) → may_call_at i t v c ≡ true → IsCalled t v c i j → IsWhole j
call_keeps agree i j t v c h fits may x = go (var_at i v) x.begins.0 refl x.begins.1 x.begins.2
  where
    go : (o y : Option Var) → var_at i v ≡ o → BeginsIn t c o y → j.vars ≡ slice_set i.vars v y → IsWhole j
    go None y at b e = absurd b
    go (Some a) None at b e = absurd b
    go (Some a) (Some y) at b e = begun_whole agree i j t v c h fits may x.rows x.seats a y at b e

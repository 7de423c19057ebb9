-- Whoever may make a step at locks and condition variables, or whose deadline may come there, is in a call there.
use Rattle.std.proofs.Common.{◌≡◌, ℕ, Bool, true, false, not, ◌&&◌, nat_lt, is_none, length, Option, Some, None, refl}
use Rattle.std.proofs.Common.{sym, ap, ◌∙◌}
use Rattle.parking_lot_machine_calls.specs.declared.open_call.Call.{Call}
use Rattle.parking_lot_machine.specs.Machines as rows
use Rattle.parking_lot_machine.specs.Rows.{call_at, state}
use Rattle.parking_lot_machine_waits.specs.Joint.{Joint, busy_by, busy_number, number, row_goes, seat_at}
use Rattle.parking_lot_machine_waits.specs.JointMoves.{may_expire, may_expire_at, may_go, may_go_at}
use Rattle.parking_lot_machine_waits.specs.JointSides.{is_busy}
use Rattle.parking_lot_world.proofs.Whole.{both_true, both_ways}

all_three : (a b : Bool) → a ≡ true → b ≡ false → (a && not b) ≡ true
all_three true false e f = refl
all_three true true e f = absurd cc
all_three false b e f = absurd cc

first_not : (a b : Bool) → a ≡ false → (a && b) ≡ false
first_not true b e = absurd cc
first_not false b e = refl

last_not : (a b : Bool) → b ≡ false → (a && b) ≡ false
last_not true b e = e
last_not false b e = refl

-- one that has a seat, and one of whose numbers is in a call
pub seated_busy : (j : Joint) (t v : ℕ) → nat_lt t (length j.seats) ≡ true → (seat_at j t).at ≡ Some v
    → is_busy j t ≡ true
seated_busy j t v low seat = all_three _ _ low (first_not _ _ (ap (λ (o : Option ℕ). is_none o) seat))

pub called_busy : (j : Joint) (t : ℕ) (b : Bool) (c : Call) → nat_lt t (length j.seats) ≡ true
    → call_at (state j.rows) (number j t b) ≡ Some c → is_busy j t ≡ true
called_busy j t true c low here =
    all_three _ _ low (last_not _ _ (last_not _ _ (ap (λ (o : Option Call). is_none o) here)))
called_busy j t false c low here =
    all_three _ _ low (last_not _ _ (first_not _ _ (ap (λ (o : Option Call). is_none o) here)))

at_lock : (j : Joint) (t : ℕ) (c : Call) → nat_lt t (length j.seats) ≡ true → call_at (state j.rows) (busy_number j t)
    ≡ Some c → is_busy j t ≡ true
at_lock j t c low here = go (call_at (state j.rows) t) refl
  where
    go : (o : Option Call) → call_at (state j.rows) t ≡ o → is_busy j t ≡ true
    go (Some d) e = called_busy j t false d low e
    go None e = called_busy j t true c low
        (ap (λ (o : Option Call). call_at (state j.rows) (busy_by o t (number j t true))) (sym e) ∙ here)

moves_busy : (j : Joint) (t : ℕ) → nat_lt t (length j.seats) ≡ true → row_goes j (busy_number j t) ≡ true
    → is_busy j t ≡ true
moves_busy j t low goes = go (call_at (state j.rows) (busy_number j t)) refl
  where
    can : rows.can_move (state j.rows) (busy_number j t) ≡ true
    can = (both_true _ _ goes).0

    go : (o : Option Call) → call_at (state j.rows) (busy_number j t) ≡ o → is_busy j t ≡ true
    go (Some c) e = at_lock j t c low e
    go None e = both_ways (rows.can_move (state j.rows) (busy_number j t)) can (ap (rows.can_move_in (state j.rows)) e)

late_busy : (j : Joint) (t : ℕ) → nat_lt t (length j.seats) ≡ true → rows.may_expire (state j.rows) (busy_number j t)
    ≡ true → is_busy j t ≡ true
late_busy j t low may = go (call_at (state j.rows) (busy_number j t)) refl
  where
    go : (o : Option Call) → call_at (state j.rows) (busy_number j t) ≡ o → is_busy j t ≡ true
    go (Some c) e = at_lock j t c low e
    go None e = both_ways (rows.may_expire (state j.rows) (busy_number j t)) may (ap rows.may_expire_in e)

pub goes_busy : (j : Joint) (t : ℕ) → may_go j t ≡ true → is_busy j t ≡ true
goes_busy j t may = go (seat_at j t).at refl
  where
    low : nat_lt t (length j.seats) ≡ true
    low = (both_true _ _ may).0

    go : (o : Option ℕ) → (seat_at j t).at ≡ o → is_busy j t ≡ true
    go (Some v) seat = seated_busy j t v low seat
    go None seat = moves_busy j t low (ap (λ (o : Option ℕ). may_go_at o j t) (sym seat) ∙ (both_true _ _ may).1)

pub expires_busy : (j : Joint) (t : ℕ) → may_expire j t ≡ true → is_busy j t ≡ true
expires_busy j t may = go (seat_at j t).at refl
  where
    low : nat_lt t (length j.seats) ≡ true
    low = (both_true _ _ may).0

    go : (o : Option ℕ) → (seat_at j t).at ≡ o → is_busy j t ≡ true
    go (Some v) seat = seated_busy j t v low seat
    go None seat = late_busy j t low (ap (λ (o : Option ℕ). may_expire_at o j t) (sym seat) ∙ (both_true _ _ may).1)

-- and one that has no seat, and none of whose numbers is in a call, is in none
pub free_idle : (j : Joint) (t : ℕ) → (seat_at j t).at ≡ None → call_at (state j.rows) (number j t false) ≡ None
    → call_at (state j.rows) (number j t true) ≡ None → is_busy j t ≡ false
free_idle j t seat first second = by (nat_lt t (length j.seats)) (seat_at j t).at (call_at (state j.rows) t)
    (call_at (state j.rows) (number j t true)) seat first second
  where
    by : (b : Bool) (o : Option ℕ) (p q : Option Call) → o ≡ None → p ≡ None → q ≡ None
        → (b && not (is_none o && (is_none p && is_none q))) ≡ false
    by true None None None e f g = refl
    by false None None None e f g = refl
    by b (Some y) p q e f g = absurd cc
    by b None (Some y) q e f g = absurd cc
    by b None None (Some y) e f g = absurd cc

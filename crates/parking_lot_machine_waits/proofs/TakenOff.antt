-- What a notification leaves of the calls at its variable: those whom it has taken are off the list, its own has gone
-- on, and others stay.
use Rattle.std.proofs.Common.{◌≡◌, ◌≢◌, ℕ, zero, suc, ◌-◌, ◌==◌, ◌<◌, ◌≤◌, ◌||◌, Bool, true, false, not, cond, nat_lt}
use Rattle.std.proofs.Common.{◌&&◌, List, [], ◌∷◌, ◌++◌, length, take, drop, remove, Option, Some, None, option_map}
use Rattle.std.proofs.Common.{slice_get, slice_set, refl, sym, ap, ◌∙◌, arith, eqb-true}
use Rattle.std.specs.List.{list_any}
use Rattle.std.proofs.Math.Bool.{or-false}
use Rattle.std.proofs.lemmas.List.{length-set}
use Rattle.std.proofs.lemmas.Option.{none-some, same_Some}
use Rattle.parking_lot_rules.specs.Lists.{occurs}
use Rattle.parking_lot_rules.proofs.Waiting.{counted, occurs-cons}
use Rattle.parking_lot_protocol_waits.specs.declared.notify_core.Notice.{Notice}
use Rattle.parking_lot_protocol_waits.specs.declared.notify_core.NotifyPhase.{NotifyPhase}
use Rattle.parking_lot_protocol_waits.specs.declared.notify_core.NotifyPhase.TheVariants as notice
use Rattle.parking_lot_protocol_waits.specs.NotifyTable.{moved_to}
use Rattle.parking_lot_machine_sides.specs.declared.condvar.open_call.Core.{Core}
use Rattle.parking_lot_machine_sides.specs.declared.condvar.open_call.Core.TheVariants as core
use Rattle.parking_lot_machine_sides.specs.declared.condvar.open_call.OpenCall.{OpenCall}
use Rattle.parking_lot_machine_sides.specs.Condvar.Calls.{off_list}
use Rattle.parking_lot_machine_sides.specs.Condvar.Machines.{State as Var, call_at as var_call_at}
use Rattle.parking_lot_machine_sides.specs.Condvar.Machines.{call_in as var_call_in, is_left}
use Rattle.parking_lot_machine_sides.specs.Condvar.Outsides.{told, told_by, woken_of}
use Rattle.parking_lot_machine_sides.specs.Condvar.Steps.{IsTaken}
use Rattle.parking_lot_machine_sides.proofs.CondvarFacts.Slots.{call_elsewhere, call_here, within}
use Rattle.parking_lot_machine_waits.specs.declared.turn.Turn.TheVariants as turn
use Rattle.parking_lot_machine_waits.specs.Moving.{AreTaken, Notifies, moved_of}
use Rattle.parking_lot_machine_waits.specs.Turns.{notify_turn}
use Rattle.parking_lot_machine_waits.proofs.Keeping.{is_not}
use Rattle.parking_lot_machine_waits.proofs.Notifying.{looked, taken_all}

-- WHO STANDS IN A LIST

abbrev pub member : ℕ → List ℕ → Bool
member u ws = list_any (λ w. w == u) ws

member_push : (u w : ℕ) (ws : List ℕ) → member u (ws ++ w ∷ []) ≡ (member u ws || (w == u))
member_push u w [] = or-false (w == u)
member_push u w (v ∷ ws) = by (v == u) (member_push u w ws)
  where
    by : (b : Bool) → member u (ws ++ w ∷ []) ≡ (member u ws || (w == u))
        → (b || member u (ws ++ w ∷ [])) ≡ ((b || member u ws) || (w == u))
    by true e = refl
    by false e = e

-- one of the first of a list stands there
pub member_occurs : (u n : ℕ) (q : List ℕ) → member u (take n q) ≡ true → 0 < occurs u q
member_occurs u zero q e = absurd cc
member_occurs u (suc n) [] e = absurd cc
member_occurs u (suc n) (v ∷ q) e = by (v == u) refl (member_occurs u n q) e
  where
    by : (b : Bool) → (v == u) ≡ b → (member u (take n q) ≡ true → 0 < occurs u q) → (b || member u (take n q)) ≡ true
        → 0 < occurs u (v ∷ q)
    by true s rest e = let one : counted u v ≡ 1 = ap (λ b. cond b 1 0) s in omega (arith, occurs-cons u v q, one)
    by false s rest e = omega (arith, occurs-cons u v q, rest e)

-- the next of a list is taken
take_next : (n w : ℕ) (q : List ℕ) → slice_get (drop n q) 0 ≡ Some w → take (suc n) q ≡ take n q ++ w ∷ []
take_next zero w [] e = absurd (none-some w e)
take_next zero w (v ∷ q) e = ap (λ x. x ∷ []) (same_Some v w e)
take_next (suc n) w [] e = absurd (none-some w e)
take_next (suc n) w (v ∷ q) e = ap (λ xs. v ∷ xs) (take_next n w q e)

drop_next : (n : ℕ) (q : List ℕ) → remove (drop n q) 0 ≡ drop (suc n) q
drop_next zero [] = refl
drop_next zero (v ∷ q) = refl
drop_next (suc n) [] = refl
drop_next (suc n) (v ∷ q) = drop_next n q

pub take_length : (n : ℕ) (q : List ℕ) → take (length (take n q)) q ≡ take n q
take_length zero q = refl
take_length (suc n) [] = refl
take_length (suc n) (v ∷ q) = ap (λ xs. v ∷ xs) (take_length n q)

pub length_low : (n : ℕ) (q : List ℕ) → length (take n q) ≤ length q
length_low zero q = omega arith
length_low (suc n) [] = omega arith
length_low (suc n) (v ∷ q) = omega (arith, length_low n q)

-- OFF THE LIST

abbrev pub off_if : Bool → Option OpenCall → Option OpenCall
off_if true o = option_map off_list o
off_if false o = o

off_twice : (b : Bool) (o : Option OpenCall) → option_map off_list (off_if b o) ≡ off_if (b || true) o
off_twice true None = refl
off_twice true (Some c) = refl
off_twice false o = refl

off_once : (b : Bool) (o : Option OpenCall) → off_if b o ≡ off_if (b || false) o
off_once true o = refl
off_once false o = refl

set_off : (calls : List (Option OpenCall)) (w : ℕ)
    → var_call_in (slice_set calls w (option_map off_list (var_call_in calls w))) w ≡ option_map off_list
    (var_call_in calls w)
set_off [] w = refl
set_off (c ∷ calls) zero = refl
set_off (c ∷ calls) (suc w) = set_off calls w

-- so many were taken, of the others
pub record TakenSo (t n : ℕ) (x z : Var) : Type 0 where
  pub queue : z.queue ≡ drop n x.queue
  pub count : length z.calls ≡ length x.calls
  pub inside : z.inside ≡ x.inside
  pub beside : z.beside ≡ x.beside
  pub others : (u : ℕ) → u ≢ t → var_call_at z u ≡ off_if (member u (take n x.queue)) (var_call_at x u)

taken_next : (t n w : ℕ) (x y z : Var) → TakenSo t n x y → IsTaken t w y z → TakenSo t (suc n) x z
taken_next t n w x y z k s = record {
  queue = ap (λ (v : Var). v.queue) s.became ∙ ap (λ q. remove q 0) k.queue ∙ drop_next n x.queue;
  count = ap (λ (v : Var). length v.calls) s.became
      ∙ length-set (slice_set y.calls w (option_map off_list (var_call_in y.calls w))) t _ ∙ length-set y.calls w _
      ∙ k.count;
  inside = ap (λ (v : Var). v.inside) s.became ∙ k.inside;
  beside = ap (λ (v : Var). v.beside) s.became ∙ k.beside;
  others = λ u ne. ap (λ (v : Var). var_call_at v u) s.became
      ∙ call_elsewhere (slice_set y.calls w (option_map off_list (var_call_in y.calls w))) t u _ ne
      ∙ by u ne (w == u) refl;
}
  where
    now : (u : ℕ) → member u (take (suc n) x.queue) ≡ (member u (take n x.queue) || (w == u))
    now u = ap (member u) (take_next n w x.queue (ap (λ q. slice_get q 0) (sym k.queue) ∙ s.first))
        ∙ member_push u w (take n x.queue)

    by : (u : ℕ) → u ≢ t → (b : Bool) → (w == u) ≡ b
        → var_call_in (slice_set y.calls w (option_map off_list (var_call_in y.calls w))) u ≡ off_if
        (member u (take (suc n) x.queue)) (var_call_at x u)
    by u ne true e =
        ap (λ v. var_call_in (slice_set y.calls v (option_map off_list (var_call_in y.calls v))) u) (eqb-true w u e)
        ∙ set_off y.calls u ∙ ap (option_map off_list) (k.others u ne)
        ∙ off_twice (member u (take n x.queue)) (var_call_at x u) ∙ ap (λ b. off_if b (var_call_at x u))
        (sym (now u ∙ ap (λ b. member u (take n x.queue) || b) e))
    by u ne false e =
        call_elsewhere y.calls w u _ (λ f. is_not u w e (sym f)) ∙ k.others u ne
        ∙ off_once (member u (take n x.queue)) (var_call_at x u) ∙ ap (λ b. off_if b (var_call_at x u))
        (sym (now u ∙ ap (λ b. member u (take n x.queue) || b) e))

taken_so : (t n : ℕ) (x z : Var) → AreTaken t n x z → TakenSo t n x z
taken_so t zero x z e = record {
  queue = ap (λ (v : Var). v.queue) e;
  count = ap (λ (v : Var). length v.calls) e;
  inside = ap (λ (v : Var). v.inside) e;
  beside = ap (λ (v : Var). v.beside) e;
  others = λ u ne. ap (λ (v : Var). var_call_at v u) e;
}
taken_so t (suc n) x z (y, before, w, s) = taken_next t n w x y z (taken_so t n x y before) s

-- THE WHOLE NOTIFICATION

moved_turn : (locked left : Bool) (a b : ℕ) → notify_turn (moved_to locked a b left) ≢ turn.Sleeps
moved_turn locked left a b = by (not locked && nat_lt 0 b) left _
  where
    by : (c left : Bool) (x : Notice)
        → notify_turn (cond c (notice.MarksRest x) (cond left (notice.Leaves x) (notice.Forgets x))) ≢ turn.Sleeps
    by true left x e = absurd cc
    by false true x e = absurd cc
    by false false x e = absurd cc

-- so many were taken, and the notification goes on
pub record Notified (t n : ℕ) (x y : Var) : Type 0 where
  pub count : length y.calls ≡ length x.calls
  pub inside : y.inside ≡ x.inside
  pub beside : y.beside ≡ x.beside
  pub others : (u : ℕ) → u ≢ t → var_call_at y u ≡ off_if (member u (take n x.queue)) (var_call_at x u)
  pub call : OpenCall
  pub here : var_call_at y t ≡ Some call
  pub phase : NotifyPhase
  pub core : call.core ≡ core.Notify (record { phase = phase })
  pub turns : notify_turn phase ≢ turn.Sleeps

pub notified : (t : ℕ) (all locked : Bool) (c : OpenCall) (n : ℕ) (x y : Var) → var_call_at x t ≡ Some c
    → c.core ≡ core.Notify (record { phase = notice.Marks all }) → c.taken ≡ 0 → n ≤ length x.queue
    → Notifies t locked n x y → Notified t n x y
notified t all locked c n x y here is none low s =
    let so = taken_so t n s.marked s.taken s.takes in
    let mine = taken_all t all locked n 0 (length x.queue) s.marked s.taken
    (looked t all locked c x s.marked here is none s.looks) low s.takes in
    let same : s.tells.call ≡ mine.call = same_Some s.tells.call mine.call (sym s.tells.here ∙ mine.here) in
    let now : s.tells.call.core ≡ core.Notify (record { phase = notice.Moves all locked }) =
    ap (λ (d : OpenCall). d.core) same ∙ mine.core in
    record {
      count = ap (λ (v : Var). length v.calls) s.tells.became ∙ length-set s.taken.calls t _ ∙ so.count
          ∙ ap (λ (v : Var). length v.calls) s.looks.became ∙ length-set x.calls t _;
      inside = ap (λ (v : Var). v.inside) s.tells.became ∙ so.inside ∙ ap (λ (v : Var). v.inside) s.looks.became;
      beside = ap (λ (v : Var). v.beside) s.tells.became ∙ so.beside ∙ ap (λ (v : Var). v.beside) s.looks.became;
      others = λ u ne. (
          ap (λ (v : Var). var_call_at v u) s.tells.became ∙ call_elsewhere s.taken.calls t u _ ne ∙ so.others u ne
          ∙ ap (λ q. off_if (member u (take n q)) (var_call_at s.marked u)) (ap (λ (v : Var). v.queue) s.looks.became)
          ∙ ap (off_if (member u (take n x.queue)))
          (ap (λ (v : Var). var_call_at v u) s.looks.became ∙ call_elsewhere x.calls t u _ ne)
          );
      call = told s.tells.call s.taken.queue (moved_of locked n);
      here = ap (λ (v : Var). var_call_at v t) s.tells.became
          ∙ call_here s.taken.calls t _ (within s.taken.calls t s.tells.call s.tells.here);
      phase = moved_to locked (woken_of locked n) (n - woken_of locked n) (is_left s.taken.queue);
      core = ap (λ (k : Core). (told_by s.tells.call (is_left s.taken.queue) (moved_of locked n) k).core) now;
      turns = moved_turn locked (is_left s.taken.queue) (woken_of locked n) (n - woken_of locked n);
    }

-- One thread after its step: in no call at a variable, or in one where it stands as that says. All others stay.
use Rattle.std.proofs.Common.{◌≡◌, ◌⊎◌, ℕ, ◌==◌, ◌<◌, Bool, true, false, not, List, length, Option, Some, None}
use Rattle.std.proofs.Common.{option_map, slice_get, slice_set, refl, sym, ap, ◌∙◌, subst, eqb-true}
use Rattle.std.specs.Option.{unwrap_or}
use Rattle.std.proofs.lemmas.Option.{none-some, same_Some}
use Rattle.parking_lot_machine_sides.specs.declared.condvar.open_call.Core.{Core}
use Rattle.parking_lot_machine_sides.specs.declared.condvar.open_call.Core.TheVariants as core
use Rattle.parking_lot_machine_sides.specs.declared.condvar.open_call.OpenCall.{OpenCall}
use Rattle.parking_lot_machine_sides.specs.Condvar.Machines.{State as Var, call_in as var_call_in}
use Rattle.parking_lot_machine_sides.proofs.CondvarFacts.Slots.{call_here, within}
use Rattle.parking_lot_machine_calls.specs.declared.open_call.Call.{Call}
use Rattle.parking_lot_machine.specs.Rows.{State, call_at as row_call_at, state}
use Rattle.parking_lot_machine_waits.specs.declared.seat.Seat.{Seat}
use Rattle.parking_lot_machine_waits.specs.Joint.{Joint, back_number, call_at, call_in, front_number, nowhere, number}
use Rattle.parking_lot_machine_waits.specs.Joint.{seat_at, var_at, var_in}
use Rattle.parking_lot_machine_waits.specs.Turns.{mutex_of}
use Rattle.parking_lot_machine_waits.specs.Whole.{AtMutex, Owns, Away, Gives, Asks, AsksOn, Never, IsMutex, IsSo}
use Rattle.parking_lot_machine_waits.specs.Whole.{IsWhole, Stands, back_of, front_of}
use Rattle.parking_lot_machine_waits.proofs.Keeping.{Anew, AreShut, HoldsWhole, RowsKept, is, is_not, low_at}
use Rattle.parking_lot_machine_waits.proofs.Keeping.{seats_same, var_elsewhere, var_here, vars_at, vars_same}
use Rattle.parking_lot_machine_waits.proofs.Keeping.{whole_still}

-- NUMBERS

-- a number that is somehow at a mutex is in a call there alone
so_there : (a : AtMutex) (s : State) (k m : ℕ) (c : Call) → IsSo a s k m → row_call_at s k ≡ Some c → c.lock ≡ m
so_there Owns s k m c (none, owns) here =
    absurd (none-some c.lock (sym none ∙ ap (λ (o : Option Call). option_map (λ (d : Call). d.lock) o) here))
so_there Away s k m c (none, owns) here =
    absurd (none-some c.lock (sym none ∙ ap (λ (o : Option Call). option_map (λ (d : Call). d.lock) o) here))
so_there Gives s k m c x here = ap (λ (d : Call). d.lock) (same_Some c x.call (sym here ∙ x.here)) ∙ x.lock
so_there Asks s k m c x here = ap (λ (d : Call). d.lock) (same_Some c x.call (sym here ∙ x.here)) ∙ x.lock
so_there AsksOn s k m c x here = ap (λ (d : Call). d.lock) (same_Some c x.call (sym here ∙ x.here)) ∙ x.lock
so_there Never s k m c x here = absurd x

-- A number of a thread that stands so is in a call at a plain mutex, if at all.
pub stands_mutex : (j : Joint) (t : ℕ) (c : OpenCall) (k : Core) → Stands j t c k → (second : Bool) (d : Call)
    → row_call_at (state j.rows) (number j t second) ≡ Some d → IsMutex j d.lock
stands_mutex j t c (core.Notify k) s true d here = absurd (none-some d (sym s.second ∙ here))
stands_mutex j t c (core.Notify k) s false d here = absurd (none-some d (sym s.first ∙ here))
stands_mutex j t c (core.Wait k) s second d here = go second (seat_at j t).second refl here
  where
    mutex_at : d.lock ≡ mutex_of c.call → IsMutex j d.lock
    mutex_at e = subst (IsMutex j) (sym e) s.mutex

    back : row_call_at (state j.rows) (back_number j t) ≡ Some d → IsMutex j d.lock
    back here = mutex_at
        (so_there (back_of c.listed k.phase) (state j.rows) (back_number j t) (mutex_of c.call) d s.back here)

    front : row_call_at (state j.rows) (front_number j t) ≡ Some d → IsMutex j d.lock
    front here = mutex_at
        (so_there (front_of k.phase) (state j.rows) (front_number j t) (mutex_of c.call) d s.front here)

    by_seat : (x y : Bool) → (seat_at j t).second ≡ x → y ≡ not x → row_call_at (state j.rows) (number j t y) ≡ Some d
        → IsMutex j d.lock
    by_seat x y e f here =
        front (ap (λ (b : Bool). row_call_at (state j.rows) (number j t (not b))) e
        ∙ ap (λ (b : Bool). row_call_at (state j.rows) (number j t b)) (sym f) ∙ here)

    go : (y x : Bool) → (seat_at j t).second ≡ x → row_call_at (state j.rows) (number j t y) ≡ Some d → IsMutex j d.lock
    go true true e here = back (ap (λ (b : Bool). row_call_at (state j.rows) (number j t b)) e ∙ here)
    go false false e here = back (ap (λ (b : Bool). row_call_at (state j.rows) (number j t b)) e ∙ here)
    go true false e here = by_seat false true e refl here
    go false true e here = by_seat true false e refl here

stands_clear : (j : Joint) (t : ℕ) (c : OpenCall) (k : Core) → Stands j t c k → (second : Bool) (d : Call)
    → row_call_at (state j.rows) (number j t second) ≡ Some d → var_at j d.lock ≡ None
stands_clear j t c k s second d here = (stands_mutex j t c k s second d here).plain

-- WHERE THE THREAD IS

-- in no call at a variable
pub anew_free : (j : Joint) (t : ℕ) → (seat_at j t).at ≡ None → ((v : ℕ) → call_at j v t ≡ None)
    → (row_call_at (state j.rows) (number j t false) ≡ None) ⊎ (row_call_at (state j.rows) (number j t true) ≡ None)
    → ((second : Bool) (c : Call) → row_call_at (state j.rows) (number j t second) ≡ Some c → var_at j c.lock ≡ None)
    → Anew j t
anew_free j t seat none one rows = record {
  seated = λ v c here. absurd (none-some c (sym (none v) ∙ here));
  stands = λ v c here. absurd (none-some c (sym (none v) ∙ here));
  sits = λ v at. absurd (none-some v (sym seat ∙ at));
  one = λ at. one;
  rows = rows;
}

-- in one at v, and at no other
pub anew_seated : (j : Joint) (t v : ℕ) (c : OpenCall) → (seat_at j t).at ≡ Some v → call_at j v t ≡ Some c
    → ((w : ℕ) (d : OpenCall) → call_at j w t ≡ Some d → w ≡ v) → Stands j t c c.core → Anew j t
anew_seated j t v c seat here only stands = record {
  seated = λ w d at. seat ∙ ap Some (sym (only w d at));
  stands = λ w d at. subst (λ (e : OpenCall). Stands j t e e.core)
      (same_Some c d (sym here ∙ ap (λ (u : ℕ). call_at j u t) (sym (only w d at)) ∙ at)) stands;
  sits = λ w at. (c, ap (λ (u : ℕ). call_at j u t) (sym (same_Some v w (sym seat ∙ at))) ∙ here);
  one = λ at. absurd (none-some v (sym at ∙ seat));
  rows = stands_clear j t c c.core stands;
}

-- who has no seat is in no call at a variable
pub free_at : (i : Joint) → IsWhole i → (t : ℕ) → (seat_at i t).at ≡ None → (v : ℕ) → call_at i v t ≡ None
free_at i h t free v = go (call_at i v t) refl
  where
    go : (o : Option OpenCall) → call_at i v t ≡ o → call_at i v t ≡ None
    go None e = e
    go (Some c) e = absurd (none-some v (sym free ∙ h.seated v t c e))

-- the call that is written is there, and none at another variable
module _ (i j : Joint) (t v : ℕ) (x y : Var) (d : OpenCall) (at : var_at i v ≡ Some x)
    (calls : y.calls ≡ slice_set x.calls t (Some d)) (vars : j.vars ≡ slice_set i.vars v (Some y)) where
  pub written : t < length x.calls → call_at j v t ≡ Some d
  written low = ap (λ (z : Option Var). call_in z t) (var_here i j v x (Some y) at vars)
      ∙ ap (λ (cs : List (Option OpenCall)). var_call_in cs t) calls ∙ call_here x.calls t (Some d) low

  pub only_there : ((w : ℕ) (e : OpenCall) → call_at i w t ≡ Some e → w ≡ v) → (w : ℕ) (e : OpenCall)
      → call_at j w t ≡ Some e → w ≡ v
  only_there was w e here = go (w == v) refl
    where
      go : (b : Bool) → (w == v) ≡ b → w ≡ v
      go true f = eqb-true w v f
      go false f = was w e
          (ap (λ (z : Option Var). call_in z t) (sym (var_elsewhere i j v w (Some y) (is_not v w f) vars)) ∙ here)

-- ONE IN A CALL AT A VARIABLE GOES ON THERE

module _ (i j : Joint) (t v : ℕ) (c : OpenCall) (h : IsWhole i) (here : call_at i v t ≡ Some c)
    (seats : j.seats ≡ i.seats) (rows : RowsKept i j (is t)) (holds : HoldsWhole (state j.rows)) (shut : AreShut j)
  where
    seat : (seat_at j t).at ≡ Some v
    seat = ap (λ (ss : List Seat). (unwrap_or (slice_get ss t) nowhere).at) seats ∙ h.seated v t c here

    only : (w : ℕ) (e : OpenCall) → call_at i w t ≡ Some e → w ≡ v
    only w e at = same_Some w v (sym (h.seated w t e at) ∙ h.seated v t c here)

    low_of : (u : ℕ) → is t u ≡ true → u < length i.seats
    low_of u e = subst (λ (n : ℕ). n < length i.seats) (sym (eqb-true u t e)) (low_at i h v t c here)

    anew_of : Anew j t → (u : ℕ) → is t u ≡ true → Anew j u
    anew_of x u e = subst (Anew j) (sym (eqb-true u t e)) x

    -- its call there is another then
    pub goes_on : (x y : Var) (d : OpenCall) → var_at i v ≡ Some x → y.calls ≡ slice_set x.calls t (Some d)
        → j.vars ≡ slice_set i.vars v (Some y) → Stands j t d d.core → IsWhole j
    goes_on x y d at calls vars stands =
        let low = within x.calls t c (ap (λ (z : Option Var). call_in z t) (sym at) ∙ here) in
        whole_still i j (is t) h
        (record {
          rows = rows;
          vars = vars_at i j t v x y (Some d) at calls vars;
          seats = seats_same i j (is t) seats;
          low = low_of;
        })
        (anew_of (anew_seated j t v d seat (written i j t v x y d at calls vars low)
        (only_there i j t v x y d at calls vars only) stands)) shut holds

    -- or is the same
    pub stays_there : j.vars ≡ i.vars → Stands j t c c.core → IsWhole j
    stays_there vars stands =
        let same : (w : ℕ) → call_at j w t ≡ call_at i w t =
        λ w. ap (λ (vs : List (Option Var)). call_in (var_in vs w) t)
        vars in
        whole_still i j (is t) h
        (record { rows = rows; vars = vars_same i j (is t) vars; seats = seats_same i j (is t) seats; low = low_of })
        (anew_of (anew_seated j t v c seat (same v ∙ here) (λ w e at. only w e (sym (same w) ∙ at)) stands)) shut holds

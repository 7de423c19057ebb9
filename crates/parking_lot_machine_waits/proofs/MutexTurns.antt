-- What a wait does at its mutex leaves a machine whole: it gives it up, and locks it again.
use Rattle.std.proofs.Common.{◌≡◌, ◌≢◌, ℕ, ◌+◌, ◌<◌, Bool, true, not, cond, is_some, List, length, Option}
use Rattle.std.proofs.Common.{Some, None, slice_get, slice_set, refl, sym, ap, ◌∙◌, subst}
use Rattle.std.specs.Option.{unwrap_or}
use Rattle.std.proofs.lemmas.Option.{none-some, same_Some}
use Rattle.parking_lot_protocol_waits.specs.declared.wait_core.WaitPhase.{WaitPhase}
use Rattle.parking_lot_protocol_waits.specs.declared.wait_core.WaitPhase.TheVariants as w
use Rattle.parking_lot_protocol_waits.specs.WaitTable.{next_phase}
use Rattle.parking_lot_machine_sides.specs.declared.condvar.calls.CondvarReply.{CondvarReply}
use Rattle.parking_lot_machine_sides.specs.declared.condvar.open_call.Core.{Core}
use Rattle.parking_lot_machine_sides.specs.declared.condvar.open_call.Core.TheVariants as core
use Rattle.parking_lot_machine_sides.specs.declared.condvar.open_call.OpenCall.{OpenCall}
use Rattle.parking_lot_machine_sides.specs.declared.condvar.outside.Outside.{Outside}
use Rattle.parking_lot_machine_sides.specs.Condvar.Calls.{reply_by, reply_in_wait, reply_of}
use Rattle.parking_lot_machine_sides.specs.Condvar.Fitting.{Knows}
use Rattle.parking_lot_machine_sides.specs.Condvar.Machines.{State as Var, is_left}
use Rattle.parking_lot_machine_sides.specs.Condvar.Outsides.{told, told_by, wait_hears}
use Rattle.parking_lot_machine_sides.specs.Condvar.OwnSteps.{inside_after_wait, queue_after_wait, stepped, stepped_by}
use Rattle.parking_lot_machine_sides.specs.Condvar.OwnSteps.{wait_goes, wait_sees}
use Rattle.parking_lot_machine_sides.specs.Condvar.Steps as vars
use Rattle.parking_lot_machine_calls.specs.declared.calls.LockCall.TheVariants as call
use Rattle.parking_lot_machine_calls.specs.declared.calls.LockKind.{LockKind}
use Rattle.parking_lot_machine.specs.Machines as rows
use Rattle.parking_lot_machine.specs.Rows.{State, state}
use Rattle.parking_lot_machine_waits.specs.declared.seat.Seat.{Seat}
use Rattle.parking_lot_machine_waits.specs.Joint.{Joint, back_number, call_at, call_in, front_number}
use Rattle.parking_lot_machine_waits.specs.Joint.{nowhere, seat_at, var_at}
use Rattle.parking_lot_machine_waits.specs.JointLaws.{PartsFit}
use Rattle.parking_lot_machine_waits.specs.JointSteps.{ActsAt, ActsIn, HearsAt, HearsIn, KnownIn, freed}
use Rattle.parking_lot_machine_waits.specs.Turns.{mutex_of}
use Rattle.parking_lot_machine_waits.specs.Whole.{Apart, AtMutex, Away, Gives, AsksOn, IsMutex, IsSo, IsWhole, Stands}
use Rattle.parking_lot_machine_waits.specs.Whole.{Waits}
use Rattle.parking_lot_machine_waits.specs.Whole.{away_or_asks, back_of, front_of, named}
use Rattle.parking_lot_machine_waits.proofs.Ending.{begun_asking, begun_giving}
use Rattle.parking_lot_machine_waits.proofs.Keeping.{HoldsWhole, RowsKept, Stays, is, low_at, so_still, var_shut}
use Rattle.parking_lot_machine_waits.proofs.Keeping.{vars_at}
use Rattle.parking_lot_machine_waits.proofs.LocksKept.{number_low, own_apart, written_holds, written_rows}
use Rattle.parking_lot_machine_waits.proofs.LocksKept.{written_sections, written_stays}
use Rattle.parking_lot_machine_waits.proofs.Seating.{goes_on}

-- WHAT A WAIT IS AFTER AN ACT

-- the same call with another phase
abbrev pub with_phase : OpenCall → WaitPhase → OpenCall
with_phase c p = record c { core = core.Wait (record { phase = p }) }

-- one that was told of an act elsewhere
pub told_is : (c : OpenCall) (queue : List ℕ) (seen : Outside) (p : WaitPhase)
    → c.core ≡ core.Wait (record { phase = p }) → told c queue seen ≡ with_phase c (next_phase p (wait_hears seen))
told_is c queue seen p e = ap (told_by c (is_left queue) seen) e

-- A WAIT'S TWO NUMBERS

module _ (i j : Joint) (t : ℕ) (seats : j.seats ≡ i.seats) where
  pub back_same : back_number j t ≡ back_number i t
  back_same = ap (λ (ss : List Seat). cond (unwrap_or (slice_get ss t) nowhere).second (length ss + t) t) seats

  pub front_same : front_number j t ≡ front_number i t
  front_same = ap (λ (ss : List Seat). cond (not (unwrap_or (slice_get ss t) nowhere).second) (length ss + t) t) seats

  -- where they stay
  pub back_still : (a : AtMutex) (n : ℕ) → Stays (state i.rows) (state j.rows) (back_number i t)
      → IsSo a (state i.rows) (back_number i t) n → IsSo a (state j.rows) (back_number j t) n
  back_still a n x so = subst (λ (k : ℕ). IsSo a (state j.rows) k n) (sym back_same)
      (so_still a (state i.rows) (state j.rows) (back_number i t) n x so)

  pub front_still : (a : AtMutex) (n : ℕ) → Stays (state i.rows) (state j.rows) (front_number i t)
      → IsSo a (state i.rows) (front_number i t) n → IsSo a (state j.rows) (front_number j t) n
  front_still a n x so = subst (λ (k : ℕ). IsSo a (state j.rows) k n) (sym front_same)
      (so_still a (state i.rows) (state j.rows) (front_number i t) n x so)

  -- and where one of them is so now
  pub back_now : (a : AtMutex) (n : ℕ) → IsSo a (state j.rows) (back_number i t) n
      → IsSo a (state j.rows) (back_number j t) n
  back_now a n so = subst (λ (k : ℕ). IsSo a (state j.rows) k n) (sym back_same) so

  pub front_now : (a : AtMutex) (n : ℕ) → IsSo a (state j.rows) (front_number i t) n
      → IsSo a (state j.rows) (front_number j t) n
  front_now a n so = subst (λ (k : ℕ). IsSo a (state j.rows) k n) (sym front_same) so

pub mutex_stays : (i j : Joint) (n : ℕ) → (state j.rows).kinds ≡ (state i.rows).kinds
    → (var_at i n ≡ None → var_at j n ≡ None) → IsMutex i n → IsMutex j n
mutex_stays i j n kinds plain x =
    record { kind = ap (λ (ks : List LockKind). slice_get ks n) kinds ∙ x.kind; plain = plain x.plain }

pub front_differs : (i : Joint) (t : ℕ) → t < length i.seats → front_number i t ≢ back_number i t
front_differs i t = own_apart (length i.seats) t (seat_at i t).second

pub back_differs : (i : Joint) (t : ℕ) → t < length i.seats → back_number i t ≢ front_number i t
back_differs i t low e = front_differs i t low (sym e)

none_open : (o : Option ℕ) → o ≡ None → is_some o ≡ true → ⊥
none_open None e f = absurd cc
none_open (Some k) e f = absurd cc

-- A WAIT AT ITS MUTEX

module _ (i j : Joint) (t v : ℕ) (c : OpenCall) (p : WaitPhase) (h : IsWhole i) (fits : PartsFit i)
    (here : call_at i v t ≡ Some c) (core_is : c.core ≡ core.Wait (record { phase = p })) where
  abbrev s : State
  s = state i.rows

  abbrev u : State
  u = state j.rows

  abbrev lock : ℕ
  lock = mutex_of c.call

  pub stood : Waits i t c p
  stood = subst (Stands i t c) core_is (h.stands v t c here)

  low : t < length i.seats
  low = low_at i h v t c here

  -- it stands so at phase q, with the same call there
  module _ (q : WaitPhase) (rows : RowsKept i j (is t)) (plain : (n : ℕ) → var_at i n ≡ None → var_at j n ≡ None) where
    pub stands_at : named q lock ≡ lock → IsSo (front_of q) u (front_number j t) lock
        → IsSo (back_of c.listed q) u (back_number j t) lock → Waits j t (with_phase c q) q
    stands_at names front back =
        record {
          names = names;
          mutex = mutex_stays i j lock rows.kinds (plain lock) stood.mutex;
          front = front;
          back = back;
        }

  -- TOLD OF WHAT WAS DONE THERE

  module _ (seats : j.seats ≡ i.seats) (rows : RowsKept i j (is t)) (holds : HoldsWhole u)
      (sections : Apart u i) where
    abbrev Stood : OpenCall → Type 0
    Stood d = Stands j t d d.core

    heard_in : (seen : Outside) (x y : Var) → var_at i v ≡ Some x → vars.IsTold t seen x y
        → j.vars ≡ slice_set i.vars v (Some y)
        → (((n : ℕ) → var_at i n ≡ None → var_at j n ≡ None) → Waits j t (with_phase c (next_phase p (wait_hears seen)))
        (next_phase p (wait_hears seen))) → IsWhole j
    heard_in seen x y at told_so vars stands =
        let same = same_Some told_so.call c (sym told_so.here ∙ ap (λ (z : Option Var). call_in z t) (sym at) ∙ here) in
        let d = told c x.queue seen in
        let calls : y.calls ≡ slice_set x.calls t (Some d) = ap (λ (z : Var). z.calls) told_so.became
        ∙ ap (λ (b : OpenCall). slice_set x.calls t (Some (told b x.queue seen))) same in
        goes_on i j t v c h here seats rows holds
        (var_shut i j h rows.buckets v x y at vars
        (λ e. (ap (λ (z : Var). is_some z.inside) (sym told_so.became) ∙ e, ap (λ (z : Var). z.beside) told_so.became))
        sections) x
        y d at calls vars
        (subst Stood (sym (told_is c x.queue seen p core_is))
        (stands (vars_at i j t v x y (Some d) at calls vars).plain))

    -- it stands as its next phase says, once it was told
    pub heard_whole : (seen : Outside) → HearsAt t v seen i j
        → (((n : ℕ) → var_at i n ≡ None → var_at j n ≡ None) → Waits j t (with_phase c (next_phase p (wait_hears seen)))
        (next_phase p (wait_hears seen))) → IsWhole j
    heard_whole seen (y, hears, vars) stands = go (var_at i v) y refl hears vars
      where
        go : (o y : Option Var) → var_at i v ≡ o → HearsIn t seen o y → j.vars ≡ slice_set i.vars v y → IsWhole j
        go None y at b e = absurd b
        go (Some x) None at b e = absurd b
        go (Some x) (Some y) at b e = heard_in seen x y at b e stands

  -- AN ACT AT THE VARIABLE, WHICH LEAVES ITS SECTION

  module _ (rows : RowsKept i j (is t)) (holds : HoldsWhole u)
      (sections : Apart u i) (reply : Option CondvarReply)
      (seats : j.seats ≡ freed t reply i.seats) (q : WaitPhase)
      (goes : (x : Var) → wait_goes c (record { phase = p })
      (wait_sees x.word (is_left (queue_after_wait t p x.queue)) p) p ≡ Some (with_phase c q))
      (closed : (x : Var) → inside_after_wait t p x.inside ≡ None) (silent : reply_in_wait p ≡ None) where
    abbrev Stands_as : Type 0
    Stands_as = j.seats ≡ i.seats → ((n : ℕ) → var_at i n ≡ None → var_at j n ≡ None) → Waits j t (with_phase c q) q

    acted_in : (x y : Var) → var_at i v ≡ Some x → vars.IsStepped t reply x y → j.vars ≡ slice_set i.vars v (Some y)
        → Stands_as → IsWhole j
    acted_in x y at act vars stands =
        let same = same_Some act.call c (sym act.here ∙ ap (λ (z : Option Var). call_in z t) (sym at) ∙ here) in
        let is_now : y ≡ stepped_by (core.Wait (record { phase = p })) x t c = act.became ∙ ap (stepped x t) same
        ∙ ap (λ (k : Core). stepped_by k x t c) core_is in
        let none : reply ≡ None = act.replies ∙ ap reply_of same ∙ ap (reply_by c.call) core_is ∙ silent in
        let stays : j.seats ≡ i.seats = seats ∙ ap (λ (r : Option CondvarReply). freed t r i.seats) none in
        let calls : y.calls ≡ slice_set x.calls t (Some (with_phase c q)) = ap (λ (z : Var). z.calls) is_now
        ∙ ap (slice_set x.calls t) (goes x) in
        goes_on i j t v c h here stays rows holds
        (var_shut i j h rows.buckets v x y at vars
        (λ e. absurd (none_open (y.inside) (ap (λ (z : Var). z.inside) is_now ∙ closed x) e)) sections) x y
        (with_phase c q) at calls vars
        (stands stays (vars_at i j t v x y (Some (with_phase c q)) at calls vars).plain)

    pub acted_whole : ActsAt t v reply i j → Stands_as → IsWhole j
    acted_whole (y, acts, vars) stands = go (var_at i v) y refl acts vars
      where
        go : (o y : Option Var) → var_at i v ≡ o → ActsIn t reply o y → j.vars ≡ slice_set i.vars v y → IsWhole j
        go None y at b e = absurd b
        go (Some x) None at b e = absurd b
        go (Some x) (Some y) at b e = acted_in x y at b e stands

-- IT BEGINS TO GIVE THE MUTEX UP

-- one that leaves the section to do so stands in the list
rests_listed : (o : Option Var) (t : ℕ) (c : OpenCall) (n : ℕ) → KnownIn o → call_in o t ≡ Some c
    → c.core ≡ core.Wait (record { phase = w.Rests n }) → c.listed ≡ true
rests_listed None t c n known here is = absurd (none-some c here)
rests_listed (Some x) t c n known here is =
    (subst (λ (k : Core). Knows c.call c.listed (length x.calls) x.word x.beside (length x.queue) c.taken k) is
    (known.0.seated t c here).knows).1

pub gives_up : (i j : Joint) (t v n : ℕ) (c : OpenCall) (reply : Option CondvarReply) → IsWhole i → PartsFit i
    → call_at i v t ≡ Some c → c.core ≡ core.Wait (record { phase = w.Rests n }) → j.seats ≡ freed t reply i.seats
    → ActsAt t v reply i j → rows.IsBegun (front_number i t) (mutex_of c.call) call.Unlock (state i.rows) (state j.rows)
    → IsWhole j
gives_up i j t v n c reply h fits here is seats acts x =
    let low = low_at i h v t c here in
    let rows = written_rows i j t (not (seat_at i t).second) _ x.became in
    let stood = stood i j t v c (w.Rests n) h fits here is in
    acted_whole i j t v c (w.Rests n) h fits here is rows (written_holds _ _ _ _ x.became h.holds)
    (written_sections i j _ _ h x.became) reply seats (w.Unlocks n) (λ y. refl) (λ y. refl) refl acts
    (λ seats plain. stands_at i j t v c (w.Rests n) h fits here is (w.Unlocks n) rows plain stood.names
    (front_now i j t seats Gives (mutex_of c.call) (begun_giving _ _ (front_number i t) _ x (number_low i h t _ low)))
    (subst (λ (b : Bool). IsSo (away_or_asks b) (state j.rows) (back_number j t) (mutex_of c.call))
    (sym (rests_listed (var_at i v) t c n (fits.vars v) here is))
    (back_still i j t seats Away (mutex_of c.call) (written_stays _ _ _ _ x.became _ (back_differs i t low))
    stood.back)))

-- IT BEGINS TO LOCK IT AGAIN

pub locks_again : (i j : Joint) (t v : ℕ) (c : OpenCall) (reply : Option CondvarReply) → IsWhole i → PartsFit i
    → call_at i v t ≡ Some c → c.core ≡ core.Wait (record { phase = w.Leaves true }) → j.seats ≡ freed t reply i.seats
    → ActsAt t v reply i j → rows.IsBegun (back_number i t) (mutex_of c.call) call.Lock (state i.rows) (state j.rows)
    → IsWhole j
locks_again i j t v c reply h fits here is seats acts x =
    let low = low_at i h v t c here in
    let rows = written_rows i j t (seat_at i t).second _ x.became in
    let stood = stood i j t v c (w.Leaves true) h fits here is in
    acted_whole i j t v c (w.Leaves true) h fits here is rows (written_holds _ _ _ _ x.became h.holds)
    (written_sections i j _ _ h x.became) reply seats (w.Locks true) (λ y. refl) (λ y. refl) refl acts
    (λ seats plain. stands_at i j t v c (w.Leaves true) h fits here is (w.Locks true) rows plain refl
    (front_still i j t seats Away (mutex_of c.call) (written_stays _ _ _ _ x.became _ (front_differs i t low))
    stood.front)
    (back_now i j t seats AsksOn (mutex_of c.call) (begun_asking _ _ (back_number i t) _ x (number_low i h t _ low))))

-- Who is in a section, and who is awake.
use Rattle.std.proofs.Common.{◌≡◌, ◌⊎◌, inl, inr, ℕ, zero, suc, ◌&&◌, ◌||◌, Bool, true, false, not, cond, is_some}
use Rattle.std.proofs.Common.{List, [], ◌∷◌, Option, Some, None, slice_get, refl, sym, ap, ◌∙◌}
use Rattle.std.specs.List.{list_any}
use Rattle.std.proofs.lemmas.Option.{none-some, same_Some}
use Rattle.parking_lot_core_model.specs.declared.parking.ParkToken.{ParkToken}
use Rattle.parking_lot_core_model.specs.Places.{place_at}
use Rattle.parking_lot_protocol.specs.declared.act.ActResult.TheVariants as seen
use Rattle.parking_lot_machine_calls.specs.declared.seat.LatePhase.{LatePhase}
use Rattle.parking_lot_machine_calls.specs.Stances.{Asleep, Doing, In, Out, Stance, core_act, lying, sleeper_stance}
use Rattle.parking_lot_machine_calls.specs.Stances.{stance}
use Rattle.parking_lot_machine_calls.specs.declared.late_rw.LateRwPhase.{LateRwPhase}
use Rattle.parking_lot_machine_calls.proofs.Stancing.{leads_by}
use Rattle.parking_lot_machine.specs.RowFits.{FitsTogether, Stands as RowStands}
use Rattle.parking_lot_machine.specs.Rows.{open_at, State, call_at as row_call_at}
use Rattle.parking_lot_machine.proofs.LotActs.{seat_of}
use Rattle.parking_lot_machine_waits.specs.Joint.{act_bucket, call_enters, core_enters, is_entered}
use Rattle.parking_lot_protocol.specs.declared.act.Act.{Act}
use Rattle.parking_lot_protocol.specs.declared.act.CoreAnswer.{CoreAnswer}
use Rattle.parking_lot_protocol.specs.declared.mutex_phase.MutexPhase.{MutexPhase}
use Rattle.parking_lot_protocol.specs.declared.mutex_phase.MutexPhase.TheVariants as m
use Rattle.parking_lot_protocol.specs.MutexTable as of_mutex
use Rattle.parking_lot_machine_sides.specs.Condvar.Machines.{State as Var}
use Rattle.parking_lot_machine_calls.specs.declared.open_call.Call.{Call}
use Rattle.parking_lot_machine_calls.specs.declared.seat.Core.{Core as RowCore}
use Rattle.parking_lot_machine_calls.specs.declared.seat.Core.TheVariants as row_core
use Rattle.parking_lot_machine.specs.Machines.{sleeps}
use Rattle.parking_lot_machine_waits.specs.Whole.{gives, phase_gives}

-- BOOLS

pub may_act : (own e n l : Bool) → own ≡ true → (e ≡ false) ⊎ (n ≡ true) → l ≡ false
    → ((own && (not e || n)) && not l) ≡ true
may_act own e n true x y z = absurd cc
may_act true true n false x (inl y) z = absurd cc
may_act true false n false x (inl y) z = refl
may_act true true true false x (inr y) z = refl
may_act true true false false x (inr y) z = absurd cc
may_act true false n false x (inr y) z = refl
may_act false e n false x y z = absurd cc

pub and_too : (a e : Bool) → a ≡ true → e ≡ false → (a && not e) ≡ true
and_too true true x y = absurd cc
and_too true false x y = refl
and_too false e x y = absurd cc

pub outside_too : (a e strict : Bool) → a ≡ true → e ≡ false → (a && not (e && strict)) ≡ true
outside_too a true strict x y = absurd cc
outside_too a false strict x y = and_too a false x refl

pub not_strict : (e strict : Bool) → strict ≡ false → (e && strict) ≡ false
not_strict true strict lax = lax
not_strict false strict lax = refl

pub not_entering : (e : Bool) → not (e && true) ≡ true → e ≡ false
not_entering true x = absurd cc
not_entering false x = refl

-- WHO IS IN A SECTION

out_in : {k : ℕ} {how : Doing} → Out ≡ In k how → ⊥
out_in e = cc

asleep_in : {k i : ℕ} {park : ParkToken} {how : Doing} → Asleep k park ≡ In i how → ⊥
asleep_in e = cc

act_inside : (n : ℕ) (d : Call) (c : RowCore) (a : Act) (k : ℕ) (how : Doing) → core_act c ≡ a → stance c ≡ In k how
    → act_bucket n d a ≡ None
act_inside n d c (Act.Enter key) k how e is =
    absurd (out_in (sym (leads_by c (Act.Enter key) 0 seen.Entered e tt).0 ∙ is))
act_inside n d c Act.Load k how e is = refl
act_inside n d c (Act.Exchange from to) k how e is = refl
act_inside n d c (Act.Add by) k how e is = refl
act_inside n d c (Act.FetchAnd keep) k how e is = refl
act_inside n d c Act.Spin k how e is = refl
act_inside n d c (Act.Section next) k how e is = refl
act_inside n d c Act.Sleep k how e is = refl
act_inside n d c (Act.Done answer) k how e is = refl

-- whoever lies in a list is in none
lying_in : (a : Stance) (k : ℕ) (how : Doing) → lying a ≡ In k how → ⊥
lying_in Out k how e = cc
lying_in (In key doing) k how e = cc
lying_in (Asleep key park) k how e = cc

-- one that is in a section of a lock enters none
pub inside_enters_none : (s : State) → FitsTogether s → (t : ℕ) (d : Call) → row_call_at s t ≡ Some d → (key : ℕ)
    → s.lot.inside t ≡ Some key → call_enters s.lot.buckets d ≡ None
inside_enters_none s h t d here key in_it =
    go (stance d.core) refl (seat_of s h.lots t d (stance d.core) here refl)
  where
    by_core : (c : RowCore) (k : ℕ) (how : Doing) → stance c ≡ In k how → core_enters s.lot.buckets d c ≡ None
    by_core (row_core.Mutex m) k how is = act_inside s.lot.buckets d (row_core.Mutex m) _ k how refl is
    by_core (row_core.Rw m) k how is = act_inside s.lot.buckets d (row_core.Rw m) _ k how refl is
    by_core (row_core.Upgrade m) k how is = act_inside s.lot.buckets d (row_core.Upgrade m) _ k how refl is
    by_core (row_core.Late LatePhase.Expires) k how is = absurd (asleep_in is)
    by_core (row_core.Late p) k how is = refl
    by_core (row_core.LateRw (LateRwPhase.Expires z)) k how is = absurd (lying_in (sleeper_stance z) k how is)
    by_core (row_core.LateRw p) k how is = refl

    go : (a : Stance) → stance d.core ≡ a
        → RowStands t d.lock a d.spot (place_at s.lot.places t) (s.lot.inside t) (open_at s)
        → call_enters s.lot.buckets d ≡ None
    go Out e st = absurd (none-some key (sym st.1 ∙ in_it))
    go (In k how) e st = by_core d.core k how e
    go (Asleep k park) e st = absurd (none-some key (sym st.1 ∙ in_it))

-- WHO IS AWAKE

gives_awake : (p : MutexPhase) → phase_gives p ≡ true → sleeps (of_mutex.act_of p) ≡ false
gives_awake m.Sleeps e = absurd cc
gives_awake (m.Finishes g) e = either g.again
  where
    either : (b : Bool) → sleeps (cond b Act.Load (Act.Done CoreAnswer.Released)) ≡ false
    either true = refl
    either false = refl
gives_awake p e = refl

pub giver_awake : (k : RowCore) → gives k ≡ true → sleeps (core_act k) ≡ false
giver_awake (row_core.Mutex c) e = gives_awake c.phase e
giver_awake (row_core.Late p) e = absurd cc
giver_awake (row_core.Rw c) e = absurd cc
giver_awake (row_core.LateRw p) e = absurd cc
giver_awake (row_core.Upgrade c) e = absurd cc

-- a variable whose section is open
pub open_somewhere : (vars : List (Option Var)) → list_any is_entered vars ≡ true → (v : ℕ) × (x : Var)
    × (slice_get vars v ≡ Some (Some x)) × (is_some x.inside ≡ true)
open_somewhere [] e = absurd cc
open_somewhere (None ∷ vars) e = (let (v, x, at, some) = open_somewhere vars e in (suc v, x, at, some))
open_somewhere (Some x ∷ vars) e = go (is_some x.inside) refl (λ f. open_somewhere vars f)
  where
    go : (b : Bool) → is_some x.inside ≡ b
        → (list_any is_entered vars ≡ true → (v : ℕ) × (y : Var) × (slice_get vars v ≡ Some (Some y))
        × (is_some y.inside ≡ true)) → (v : ℕ) × (y : Var) × (slice_get (Some x ∷ vars) v ≡ Some (Some y))
        × (is_some y.inside ≡ true)
    go true is others = (zero, x, refl, is)
    go false is others =
        (let (v, y, at, some) = others (sym (ap (λ b. b || list_any is_entered vars) is) ∙ e) in (suc v, y, at, some))

-- and none is
pub shut_each : (vars : List (Option Var)) (v : ℕ) (x : Var) → list_any is_entered vars ≡ false
    → slice_get vars v ≡ Some (Some x) → x.inside ≡ None
shut_each [] v x e at = absurd (none-some (Some x) at)
shut_each (o ∷ vars) zero x e at =
    go x.inside (first (is_some x.inside)
    (sym (ap (λ p. is_entered p || list_any is_entered vars) (same_Some o (Some x) at)) ∙ e))
  where
    first : (b : Bool) → (b || list_any is_entered vars) ≡ false → b ≡ false
    first true e = absurd cc
    first false e = refl

    go : (p : Option ℕ) → is_some p ≡ false → p ≡ None
    go None e = refl
    go (Some u) e = absurd cc
shut_each (o ∷ vars) (suc v) x e at = shut_each vars v x (later (is_entered o) e) at
  where
    later : (b : Bool) → (b || list_any is_entered vars) ≡ false → list_any is_entered vars ≡ false
    later true e = absurd cc
    later false e = e

pub some_of : {X : Type 0} (o : Option X) → is_some o ≡ true → (x : X) × (o ≡ Some x)
some_of None e = absurd cc
some_of (Some x) e = (x, refl)

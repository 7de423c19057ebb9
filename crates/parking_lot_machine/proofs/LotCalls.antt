-- The lot refuses no call that an act makes.
use Rattle.std.proofs.Common.{◌≡◌, ◌≢◌, ◌≤◌, ℕ, ◌&&◌, inl, inr, Bool, true, false, cond, Option, Some, None}
use Rattle.std.proofs.Common.{is_some, length, slice_get, refl, sym, ap, ◌∙◌, subst, eq-eqb}
use Rattle.std.specs.List.{position_or_len}
use Rattle.std.specs.Option.{option_map, option_map_or, option_and_then}
use Rattle.std.proofs.lemmas.Bool.{eqb-false, eqb-true}
use Rattle.parking_lot_core_model.specs.declared.fault.LotFault.{LotFault}
use Rattle.parking_lot_core_model.specs.declared.fault.LotFault.TheVariants.{Busy, WrongStatus}
use Rattle.parking_lot_core_model.specs.declared.parking.UnparkToken.{UnparkToken}
use Rattle.parking_lot_core_model.specs.declared.place.Phase.{Phase}
use Rattle.parking_lot_core_model.specs.declared.place.Place.{Place}
use Rattle.parking_lot_core_model.specs.declared.place.Place.TheVariants.{Running, Taken}
use Rattle.parking_lot_core_model.specs.declared.place.Section.{Section}
use Rattle.parking_lot_core_model.specs.declared.place.Sleep.{Sleep}
use Rattle.parking_lot_core_model.specs.declared.place.ThreadStatus.TheVariants as status
use Rattle.parking_lot_core_model.specs.declared.place.Waiter.{Waiter}
use Rattle.parking_lot_core_model.specs.Machine.{Machine, enter_fault, step_fault, resume_fault_at, section_of}
use Rattle.parking_lot_core_model.specs.Machine.{any_phase, changed_at, runs, busy, is_in, token_of}
use Rattle.parking_lot_core_model.specs.Machine as core_lot
use Rattle.parking_lot_core_model.specs.Places.{place_at, is_due, roused, status_of, may_check, may_join, may_take}
use Rattle.parking_lot_core_model.specs.Places.{may_store}
use Rattle.parking_lot_core_model.proofs.Numbers.{first_passes}
use Rattle.parking_lot_core_model.proofs.Sounds.{place_at-set_same}
use Rattle.parking_lot_protocol.specs.declared.act.Act.{Act}
use Rattle.parking_lot_protocol.specs.declared.act.SectionAct.TheVariants as section
use Rattle.parking_lot_protocol.specs.declared.act.ActResult.TheVariants as seen
use Rattle.parking_lot_machine_calls.specs.declared.open_call.Call.{Call}
use Rattle.parking_lot_machine_calls.specs.declared.seat.Wakeup.{Wakeup}
use Rattle.parking_lot_machine.specs.Rows.{State, call_at, is_by, taken_by}
use Rattle.parking_lot_machine_calls.specs.Stances.{Doing, Looks, TurnsBack, Joins, Joined, Takes, Stores, Tells}
use Rattle.parking_lot_machine_calls.specs.Stances.{Stance, Out, In, core_act, stance}
use Rattle.parking_lot_machine_calls.specs.StanceLaws.{LeavesFor}
use Rattle.parking_lot_machine_calls.specs.CallActs.{key_of}
use Rattle.parking_lot_machine.specs.RowFits.{HasCome, LotFits}
use Rattle.parking_lot_machine.specs.LotLaws.{IsTaking, IsDue, IsWaiter, Asks, LotNeverRefuses}
use Rattle.parking_lot_machine.proofs.Indexing.{set_twice}
use Rattle.parking_lot_machine_calls.proofs.Stancing.{leads_by, small_key}
use Rattle.parking_lot_machine.proofs.Carrying.{taken_by-count}
use Rattle.parking_lot_machine.specs.RowActs.{key_in}
use Rattle.parking_lot_machine.proofs.LotActs.{key_is, seat_of}
use Rattle.parking_lot_machine.proofs.LotTakes.{sleeper}
use Rattle.parking_lot_machine.proofs.LotWakes.{due_place, other}

-- one that runs may enter where no section is open in the key's bucket
may_enter : (m : Machine) (t key : ℕ) → core_lot.open_at m key ≡ None → m.inside t ≡ None
    → place_at m.places t ≡ Some Running → enter_fault m t key ≡ None
may_enter m t key free out runs_now =
    ap (λ (p : Option Place). cond
    (runs (option_map (λ place. cond (is_in m t) status.InSection (status_of (token_of m) place)) p)) (busy key m)
    (Some WrongStatus)) runs_now
    ∙ (ap (λ (o : Option ℕ). cond (runs (Some (cond (is_some o) status.InSection status.Running))) (busy key m)
    (Some WrongStatus)) out
    ∙ ap (λ (o : Option Section). cond (is_some o) (Some Busy) None) free)

-- a section is its thread's
pub own_section : (m : Machine) (t key : ℕ) (o : Section) → m.inside t ≡ Some key → core_lot.open_at m key ≡ Some o
    → section_of m t ≡ Some o
own_section m t key o in_it there = ap (option_and_then (core_lot.open_at m)) in_it ∙ there

-- and makes the steps that it may make
pub may_step : (m : Machine) (t key : ℕ) (o : Section) (may : Phase → Bool) → m.inside t ≡ Some key
    → core_lot.open_at m key ≡ Some o → may o.phase ≡ true → step_fault may m t ≡ None
may_step m t key o may in_it there fits =
    ap (λ (x : Option Section). cond (option_map_or (λ s. may s.phase) x false) None (Some WrongStatus))
    (own_section m t key o in_it there)
    ∙ ap (λ (b : Bool). cond b None (Some WrongStatus)) fits

steps_in : (s : State) (t : ℕ) (c : Call) → LotFits s → call_at s t ≡ Some c
    → (k : ℕ) (how : Doing) (may : Phase → Bool) → stance c.core ≡ In k how
    → ((o : Section) → HasCome how o.phase o.token → may o.phase ≡ true) → step_fault may s.lot t ≡ None
steps_in s t c h here k how may from fits =
    let seat = seat_of s h t c (In k how) here from in
    may_step s.lot t (key_of c k) seat.0 may seat.6 seat.1 (fits seat.0 seat.4)

-- the section that a call is in
pub inside_key : (s : State) (t : ℕ) (c : Call) (k : ℕ) (how : Doing) → LotFits s → call_at s t ≡ Some c
    → stance c.core ≡ In k how → (o : Section) × (section_of s.lot t ≡ Some o) × (o.key ≡ key_in c)
inside_key s t c k how h here from =
    let seat = seat_of s h t c (In k how) here from in
    (seat.0, own_section s.lot t (key_of c k) seat.0 seat.6 seat.1, seat.3 ∙ sym (key_is c k how from))

takes : (s : State) (t : ℕ) (c : Call) (a : Act) → IsTaking a → Asks s t c a → step_fault may_take s.lot t ≡ None
takes s t c (Act.Section section.TakeFirst) taking x =
    let l = leads_by c.core (Act.Section section.TakeFirst) 0 (seen.Took None false) x.2 tt in
    steps_in s t c x.0 x.1 l.0 Takes may_take l.1 (λ o come. come)
takes s t c (Act.Section (section.TakeNext sum)) taking x =
    let l = leads_by c.core (Act.Section (section.TakeNext sum)) 0 (seen.Took None false) x.2 tt in
    steps_in s t c x.0 x.1 l.0 Takes may_take l.1 (λ o come. come)
takes s t c a taking x = absurd taking

leaves : (s : State) (t : ℕ) (c : Call) → Asks s t c (Act.Section section.Leave) → step_fault any_phase s.lot t ≡ None
leaves s t c x = go (leads_by c.core (Act.Section section.Leave) 0 seen.Made x.2 tt)
  where
    go : {b : Stance} {n m : ℕ} → LeavesFor (stance c.core) b n m → step_fault any_phase s.lot t ≡ None
    go (inl l) = steps_in s t c x.0 x.1 l.0 TurnsBack any_phase l.1 (λ o come. refl)
    go (inr (inl l)) = steps_in s t c x.0 x.1 l.0 (Joined l.1) any_phase l.2 (λ o come. refl)
    go (inr (inr l)) = steps_in s t c x.0 x.1 l.0 (Tells l.1) any_phase l.2 (λ o come. refl)

pub leaves_in : (s : State) (t : ℕ) (c : Call) → LotFits s → call_at s t ≡ Some c
    → core_act c.core ≡ Act.Section section.Leave → (o : Section) × (section_of s.lot t ≡ Some o) × (o.key ≡ key_in c)
leaves_in s t c h here asked = go (leads_by c.core (Act.Section section.Leave) 0 seen.Made asked tt)
  where
    go : {b : Stance} {n m : ℕ} → LeavesFor (stance c.core) b n m
        → (o : Section) × (section_of s.lot t ≡ Some o) × (o.key ≡ key_in c)
    go (inl l) = inside_key s t c l.0 TurnsBack h here l.1
    go (inr (inl l)) = inside_key s t c l.0 (Joined l.1) h here l.2
    go (inr (inr l)) = inside_key s t c l.0 (Tells l.1) h here l.2

waiters : (s : State) (t : ℕ) (c : Call) (k nth : ℕ) (w : Waiter) → LotFits s → call_at s t ≡ Some c
    → stance c.core ≡ In k Takes → slice_get (s.lot.queues (key_of c k)) nth ≡ Some w → IsWaiter s t k c w
waiters s t c k nth w h here from at =
    let z = sleeper s t c h here k nth w (small_key c.core k Takes from) from at in
    record {
      call = z.call;
      there = z.there;
      lock = z.lock;
      listed = z.listed;
      asleep = z.asleep;
      other = eqb-false w.thread t z.other;
      sleep = z.sleep;
      place = z.place;
      late = z.late;
    }

-- one that is due goes on
may_resume : (entry : ℕ → Option LotFault) (token : UnparkToken) (key : ℕ) (sleep : Sleep) → sleep.late ≡ false
    → resume_fault_at entry (Some (Taken token key sleep true)) ≡ None
may_resume entry token key sleep late = ap (λ (b : Bool). cond b (entry key) None) late

is_due_at : (e : Wakeup) (token : UnparkToken) (key : ℕ) (sleep : Sleep) → sleep.mark ≡ e.mark
    → is_due e.mark (Taken token key sleep false) ≡ true
is_due_at e token key sleep same = ap (λ (b : Bool). b && true) (eq-eqb sleep.mark e.mark same)

due_of : (s : State) (t : ℕ) (e : Wakeup) (d : Call) → e.thread ≢ t → call_at s e.thread ≡ Some d
    → (token : UnparkToken) (key : ℕ) (sleep : Sleep)
    → place_at s.lot.places e.thread ≡ Some (Taken token key sleep false) → sleep.late ≡ false → sleep.mark ≡ e.mark
    → IsDue s t e
due_of s t e d apart there token key sleep place late mark =
    let m : Machine = changed_at roused s.lot e.thread in
    let now : place_at m.places e.thread ≡ Some (Taken token key sleep true) =
    place_at-set_same s.lot.places e.thread (Taken token key sleep false)
    (option_map roused (place_at s.lot.places e.thread)) place ∙ ap (option_map roused) place in
    record {
      other = apart;
      call = d;
      there = there;
      token = token;
      key = key;
      sleep = sleep;
      place = place;
      due = ap (λ (p : Option Place). option_map_or (is_due e.mark) p false) place
          ∙ is_due_at e token key sleep mark;
      woken = now;
      goes_on = ap (resume_fault_at (λ (i : ℕ). busy i m)) now
          ∙ may_resume (λ (i : ℕ). busy i m) token key sleep late;
      runs = set_twice s.lot.places e.thread (option_map roused (place_at s.lot.places e.thread)) (Some Running);
    }

wakes_as : (s : State) (t : ℕ) (c : Call) → LotFits s → call_at s t ≡ Some c → stance c.core ≡ Out → (e : Wakeup)
    → slice_get s.wakes (position_or_len (is_by t) s.wakes) ≡ Some e → e.by ≡ t → IsDue s t e
wakes_as s t c h here from e first by_t =
    let taken = h.woken (position_or_len (is_by t) s.wakes) e first in
    let d = due_place s t c h here e taken.call first by_t taken.here from in
    due_of s t e taken.call (eqb-false e.thread t (other s t c h here e taken.call first by_t taken.here from))
    taken.here d.0 d.1 d.2 d.3 d.4 d.5

wakes : (s : State) (t : ℕ) (c : Call) → Asks s t c (Act.Section section.Wake) → 1 ≤ length (taken_by s.wakes t)
    → (e : Wakeup) × (slice_get s.wakes (position_or_len (is_by t) s.wakes) ≡ Some e) × (e.by ≡ t) × IsDue s t e
wakes s t c x some =
    let first = first_passes (is_by t) s.wakes (subst (λ (n : ℕ). 1 ≤ n) (taken_by-count s.wakes t) some) in
    let by_t = eqb-true first.0.by t first.2 in
    let l = leads_by c.core (Act.Section section.Wake) 0 seen.Made x.2 tt in
    (first.0, first.1, by_t, wakes_as s t c x.0 x.1 l.0 first.0 first.1 by_t)

pub lot_never_refuses : LotNeverRefuses
lot_never_refuses = record {
  enters = λ s t c k x free.
      let l = leads_by c.core (Act.Enter k) 0 seen.Entered x.2 tt in
      let seat = seat_of s x.0 t c Out x.1 l.0 in
      may_enter s.lot t (key_of c k) free seat.1 seat.0;
  checks = λ s t c x.
      let l = leads_by c.core (Act.Section section.Check) 0 (seen.Word 0) x.2 refl in
      steps_in s t c x.0 x.1 l.0 Looks may_check l.1 (λ o come. ap may_check come);
  appends = λ s t c token x.
      let l = leads_by c.core (Act.Section (section.Append token)) 0 seen.Made x.2 tt in
      steps_in s t c x.0 x.1 l.0 (Joins token) may_join l.2 (λ o come. ap may_join come);
  takes = takes;
  stores = λ s t c plain fair x.
      let l = leads_by c.core (Act.Section (section.Store plain fair)) 0 (seen.Stored false) x.2 tt in
      steps_in s t c x.0 x.1 l.0 Stores may_store l.1 (λ o come. come);
  masks = λ s t c keep x.
      let l = leads_by c.core (Act.FetchAnd keep) 0 (seen.Before 0) x.2 refl in
      steps_in s t c x.0 x.1 l.0 Stores may_store l.1 (λ o come. come);
  leaves = leaves;
  inside = λ s t c k how h here from.
      let seat = seat_of s h t c (In k how) here from in
      record {
        section = seat.0;
        there = seat.1;
        own = own_section s.lot t (key_of c k) seat.0 seat.6 seat.1;
        key = seat.3;
      };
  waiters = waiters;
  wakes = wakes;
}

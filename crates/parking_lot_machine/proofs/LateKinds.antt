-- A call whose moment passes, by the kind of its lock: where it stands, what it stands on, and which step of the rules
-- its own acts are.
use Rattle.std.proofs.Common.{◌≡◌, ℕ, ◌+◌, ◌≤◌, ◌||◌, Bool, true, false, cond, List, Option, Some, None, is_some, refl}
use Rattle.std.proofs.Common.{sym, ap, ◌∙◌, subst, arith}
use Rattle.parking_lot_core_model.specs.declared.parking.ParkToken.{ParkToken}
use Rattle.parking_lot_core_model.specs.declared.place.Waiter.{Waiter}
use Rattle.parking_lot_rules.specs.Classes.{bit}
use Rattle.parking_lot_rules.specs.Plain.{from, to}
use Rattle.parking_lot_rules.specs.Roles.{Back, Late, Mark}
use Rattle.parking_lot_rules.specs.Steps.{listing_from, listing_to}
use Rattle.parking_lot_protocol.specs.RwRules as of_rw
use Rattle.parking_lot_protocol.specs.declared.act.Act.{Act}
use Rattle.parking_lot_protocol.specs.declared.act.ActResult.TheVariants as seen
use Rattle.parking_lot_protocol.specs.declared.act.SectionAct.TheVariants as section
use Rattle.parking_lot_protocol.specs.declared.mutex_phase.MutexPhase.{MutexPhase}
use Rattle.parking_lot_protocol.specs.declared.rw_phase.LockMode.{LockMode}
use Rattle.parking_lot_machine_calls.specs.CallViews.{IsReadySleeper}
use Rattle.parking_lot_machine_calls.specs.Kinds.{Manner}
use Rattle.parking_lot_machine_calls.specs.LateCalls.{comes_late, is_back, is_pending, is_sleeping, late_of}
use Rattle.parking_lot_machine_calls.specs.LateCalls.{sleeps_in_time, found_as}
use Rattle.parking_lot_machine_calls.specs.LateRoles.{expires_as, late_rw_role, quitting_as, reenters_as, sleeper_role}
use Rattle.parking_lot_machine_calls.specs.LateRoles.{sleeper_wants, stays, expires_taken_as, finds_as}
use Rattle.parking_lot_machine.specs.Ranks.{View, core_steps, late_cost, late_rw_steps, quits_steps, sleeper_steps}
use Rattle.parking_lot_machine.specs.Rounds.{rounds}
use Rattle.parking_lot_machine.specs.RowFits.{IsPrepared, KnowsList, late_rw_prepared, sleeper_prepared}
use Rattle.parking_lot_machine_calls.specs.CallKinds.{IsOfManner}
use Rattle.parking_lot_machine_calls.specs.Stances.{Asleep, In, Joined, Stores, Takes, Tells, back_as, core_act}
use Rattle.parking_lot_machine_calls.specs.Stances.{core_next, has_begun, late_rw_act, late_rw_stance, sign, lying}
use Rattle.parking_lot_machine_calls.specs.Stances.{pending_from, quits_as, sleeper_asleep, stance, taken_count}
use Rattle.parking_lot_machine_calls.specs.declared.late_rw.LateRwPhase.{LateRwPhase}
use Rattle.parking_lot_machine_calls.specs.declared.late_rw.RwSleeper.{RwSleeper}
use Rattle.parking_lot_machine_calls.specs.declared.seat.Core.{Core}
use Rattle.parking_lot_machine_calls.specs.declared.seat.LatePhase.{LatePhase}
use Rattle.parking_lot_machine.proofs.KindTable.{as_call, rw_call}
use Rattle.parking_lot_machine.proofs.Sleepers.{by_sleeper, ready_sleeper, seeking, sleeps_there, takes_nobody, wanting}
use Rattle.parking_lot_machine.proofs.Sleepers.{no_hold}

-- THE MOMENT PASSES

-- what a core says whose moment passes, before and after
pub record Lapses (recursive : Bool) (n : ℕ) (x : Core) : Type 0 where
  pub key : ℕ
  pub park : ParkToken
  pub lies : stance x ≡ Asleep key park
  pub lies_on : stance (late_of x) ≡ Asleep key park
  pub act : core_act x ≡ Act.Sleep
  pub act_on : core_act (late_of x) ≡ Act.Sleep
  pub none : taken_count x ≡ 0
  pub none_on : taken_count (late_of x) ≡ 0
  pub prepared : IsPrepared recursive n (late_of x)
  pub knows : (queues : ℕ → List Waiter) (j : ℕ) → KnowsList (late_of x) queues j
  pub kind : (m : Option Manner) → IsOfManner m x → IsOfManner m (late_of x)
  pub begun : has_begun (late_of x) ≡ true
  pub few : rounds x ≤ 10 → rounds (late_of x) ≤ 10
  pub costs : (m : ℕ) (v : View) → core_steps m v (late_of x) ≤ core_steps m v x + late_cost m x

simple_lapses : (recursive : Bool) (n : ℕ) (c : _) → sleeper_asleep (RwSleeper.Simple c) ≡ true
    → IsPrepared recursive n (Core.Rw c) → Lapses recursive n (Core.Rw c)
simple_lapses recursive n c e h =
    let k = RwSleeper.Simple c in
    let r = ready_sleeper recursive n k h in
    let at = sleeps_there k r e in
    record {
      key = at.0;
      park = at.1;
      lies = at.2;
      lies_on = ap lying at.2;
      act = by_sleeper (λ k. core_act (rw_call (as_call k)) ≡ Act.Sleep) (λ want. refl) (λ rounds. refl)
          (λ want i. refl) (λ rounds. refl) k r e;
      act_on = refl;
      none = takes_nobody k r e;
      none_on = refl;
      prepared = (e, h);
      knows = λ queues j. tt;
      kind = λ m z. z;
      begun = refl;
      few = λ z. z;
      costs = λ m v. omega arith;
    }

upgrade_lapses : (recursive : Bool) (n : ℕ) (c : _) → sleeper_asleep (RwSleeper.Upgradable c) ≡ true
    → IsPrepared recursive n (Core.Upgrade c) → Lapses recursive n (Core.Upgrade c)
upgrade_lapses recursive n c e h =
    let k = RwSleeper.Upgradable c in
    let r = ready_sleeper recursive n k h in
    let at = sleeps_there k r e in
    record {
      key = at.0;
      park = at.1;
      lies = at.2;
      lies_on = ap lying at.2;
      act = by_sleeper (λ k. core_act (rw_call (as_call k)) ≡ Act.Sleep) (λ want. refl) (λ rounds. refl)
          (λ want i. refl) (λ rounds. refl) k r e;
      act_on = refl;
      none = takes_nobody k r e;
      none_on = refl;
      prepared = (e, h);
      knows = λ queues j. tt;
      kind = λ m z. z;
      begun = refl;
      few = λ z. z;
      costs = λ m v. omega arith;
    }

mutex_lapses : (recursive : Bool) (n : ℕ) (p : MutexPhase) → is_sleeping p ≡ true
    → IsPrepared recursive n (Core.Mutex (record { phase = p }))
    → Lapses recursive n (Core.Mutex (record { phase = p }))
mutex_lapses recursive n MutexPhase.Sleeps e h = record {
  key = 0;
  park = record { 0 = 0 };
  lies = refl;
  lies_on = refl;
  act = refl;
  act_on = refl;
  none = refl;
  none_on = refl;
  prepared = h;
  knows = λ queues j. tt;
  kind = λ m z. z;
  begun = refl;
  few = λ z. omega arith;
  costs = λ m v. omega arith;
}
mutex_lapses recursive n p e h = absurd cc

pub lapses : (recursive : Bool) (n : ℕ) (x : Core) → sleeps_in_time x ≡ true → IsPrepared recursive n x
    → Lapses recursive n x
lapses recursive n (Core.Mutex k) e h = mutex_lapses recursive n k.phase e h
lapses recursive n (Core.Rw k) e h = simple_lapses recursive n k e h
lapses recursive n (Core.Upgrade k) e h = upgrade_lapses recursive n k e h
lapses recursive n (Core.Late p) e h = absurd cc
lapses recursive n (Core.LateRw p) e h = absurd cc

-- IT COMES BACK, AND TAKES ITSELF OUT

-- where one stands whose moment has passed
pub record Comes (recursive : Bool) (n : ℕ) (x : Core) : Type 0 where
  pub park : ParkToken
  pub lies : stance x ≡ Asleep (bit (is_pending x)) park
  pub back : stance (core_next x seen.Entered) ≡ In (bit (is_pending x)) (Joined park)
  pub act : core_act x ≡ Act.Sleep
  pub act_on : core_act (core_next x seen.Entered) ≡ Act.Sleep
  pub none : taken_count x ≡ 0
  pub none_on : taken_count (core_next x seen.Entered) ≡ 0
  pub prepared : IsPrepared recursive n (core_next x seen.Entered)
  pub knows : (queues : ℕ → List Waiter) (j : ℕ) → KnowsList (core_next x seen.Entered) queues j

late_comes_on : (recursive : Bool) (n : ℕ) (p : LatePhase) → comes_late (Core.Late p) ≡ true
    → IsPrepared recursive n (Core.Late p) → Comes recursive n (Core.Late p)
late_comes_on recursive n LatePhase.Expires e h =
    record {
      park = record { 0 = 0 };
      lies = refl;
      back = refl;
      act = refl;
      act_on = refl;
      none = refl;
      none_on = refl;
      prepared = h;
      knows = λ queues j. tt;
    }
late_comes_on recursive n p e h = absurd cc

tardy_comes_on : (recursive : Bool) (n : ℕ) (p : LateRwPhase) → comes_late (Core.LateRw p) ≡ true
    → IsPrepared recursive n (Core.LateRw p) → Comes recursive n (Core.LateRw p)
tardy_comes_on recursive n (LateRwPhase.Expires k) e h =
    let at = sleeps_there k (ready_sleeper recursive n k h.1) h.0 in
    record {
      park = at.1;
      lies = ap lying at.2 ∙ ap (λ key. Asleep key at.1) (sym at.3);
      back = ap back_as at.2 ∙ ap (λ key. In key (Joined at.1)) (sym at.3);
      act = refl;
      act_on = refl;
      none = refl;
      none_on = refl;
      prepared = h;
      knows = λ queues j. tt;
    }
tardy_comes_on recursive n p e h = absurd cc

pub comes : (recursive : Bool) (n : ℕ) (x : Core) → comes_late x ≡ true → IsPrepared recursive n x → Comes recursive n x
comes recursive n (Core.Late p) e h = late_comes_on recursive n p e h
comes recursive n (Core.LateRw p) e h = tardy_comes_on recursive n p e h
comes recursive n (Core.Mutex k) e h = absurd cc
comes recursive n (Core.Rw k) e h = absurd cc
comes recursive n (Core.Upgrade k) e h = absurd cc

-- and one that is back
pub record IsBack (recursive : Bool) (n : ℕ) (x : Core) : Type 0 where
  pub park : ParkToken
  pub stands : stance x ≡ In (bit (is_pending x)) (Joined park)
  pub act : core_act x ≡ Act.Sleep
  pub none : taken_count x ≡ 0

late_backs : (recursive : Bool) (n : ℕ) (p : LatePhase) → is_back (Core.Late p) ≡ true
    → IsBack recursive n (Core.Late p)
late_backs recursive n LatePhase.Quits e = record { park = record { 0 = 0 }; stands = refl; act = refl; none = refl }
late_backs recursive n p e = absurd cc

tardy_backs : (recursive : Bool) (n : ℕ) (p : LateRwPhase) → is_back (Core.LateRw p) ≡ true
    → IsPrepared recursive n (Core.LateRw p) → IsBack recursive n (Core.LateRw p)
tardy_backs recursive n (LateRwPhase.Quits k) e h =
    let at = sleeps_there k (ready_sleeper recursive n k h.1) h.0 in
    record {
      park = at.1;
      stands = ap back_as at.2 ∙ ap (λ key. In key (Joined at.1)) (sym at.3);
      act = refl;
      none = refl;
    }
tardy_backs recursive n p e h = absurd cc

pub backs : (recursive : Bool) (n : ℕ) (x : Core) → is_back x ≡ true → IsPrepared recursive n x → IsBack recursive n x
backs recursive n (Core.Late p) e h = late_backs recursive n p e
backs recursive n (Core.LateRw p) e h = tardy_backs recursive n p e h
backs recursive n (Core.Mutex k) e h = absurd cc
backs recursive n (Core.Rw k) e h = absurd cc
backs recursive n (Core.Upgrade k) e h = absurd cc

-- WHAT IT IS TO A READER-WRITER LOCK

-- and where another has taken it
abbrev pub PlaysOff : ℕ → List ℕ → RwSleeper → ℕ → Mark → Type 0
PlaysOff n us k by mark =
    let o = pending_from k in
    let m = sleeper_wants k in
    let off = sleeper_role n (of_rw.Off by mark) us k in
    (off ≡ from (expires_taken_as o m by mark)) × (stays Late off ≡ to (expires_taken_as o m by mark))
    × (stays Late off ≡ from (finds_as o m by mark)) × (stays Back off ≡ to (finds_as o m by mark))

abbrev Plays : ℕ → List ℕ → RwSleeper → Type 0
Plays n us k =
    let o = pending_from k in
    let m = sleeper_wants k in
    (sleeper_role n of_rw.Listed us k ≡ from (expires_as o m))
    × (stays Late (sleeper_role n of_rw.Listed us k) ≡ to (expires_as o m))
    × (stays Late (sleeper_role n of_rw.Listed us k) ≡ from (reenters_as o m))
    × (stays Back (sleeper_role n of_rw.Listed us k) ≡ to (reenters_as o m))
    × ((left : Bool) (i : ℕ) → (stays Back (sleeper_role n of_rw.Listed us k) ≡ listing_from (quitting_as o m left i))
    × ((at : of_rw.QueuePosition) → late_rw_role n at us (quits_as o left) ≡ listing_to (quitting_as o m left i)))
    × ((by : ℕ) (mark : Mark) → PlaysOff n us k by mark)

wants_quit : (us : List ℕ) (want : LockMode) (left : Bool) (i : ℕ)
    → (stays Back (sleeper_role 0 of_rw.Listed us (wanting want)) ≡ listing_from
    (quitting_as None (of_rw.mode_of want) left i))
    × ((at : of_rw.QueuePosition) → late_rw_role 0 at us (quits_as None left) ≡ listing_to
    (quitting_as None (of_rw.mode_of want) left i))
wants_quit us want true i = (refl, λ at. refl)
wants_quit us want false i = (refl, λ at. refl)

seeks_quit : (us : List ℕ) (want : LockMode) (left : Bool) (i : ℕ)
    → (stays Back (sleeper_role 0 of_rw.Listed us (seeking want)) ≡ listing_from
    (quitting_as None (sleeper_wants (seeking want)) left i))
    × ((at : of_rw.QueuePosition) → late_rw_role 0 at us (quits_as None left) ≡ listing_to
    (quitting_as None (sleeper_wants (seeking want)) left i))
seeks_quit us want true i = (refl, λ at. refl)
seeks_quit us want false i = (refl, λ at. refl)

pub sleeper_plays : (recursive : Bool) (n : ℕ) (us : List ℕ) (k : RwSleeper) → sleeper_asleep k ≡ true
    → sleeper_prepared recursive n k → Plays n us k
sleeper_plays recursive n us k e h =
    subst (λ m. Plays m us k) (sym (no_hold recursive n k e h))
    (by_sleeper (Plays 0 us) (λ want. (refl, refl, refl, refl, wants_quit us want, λ by mark. (refl, refl, refl, refl)))
    (λ rounds. (refl, refl, refl, refl, λ left i. (refl, λ at. refl), λ by mark. (refl, refl, refl, refl)))
    (λ want i. (refl, refl, refl, refl, seeks_quit us want, λ by mark. (refl, refl, refl, refl)))
    (λ rounds. (refl, refl, refl, refl, λ left i. (refl, λ at. refl), λ by mark. (refl, refl, refl, refl))) k
    (ready_sleeper recursive n k h) e)

-- OFF ITS LIST

-- what it says then; others are left in the list or not
pub record Quits (recursive : Bool) (n : ℕ) (x : Core) (left : Bool) : Type 0 where
  pub to : stance (core_next x (seen.Took None left)) ≡ In (bit (is_pending x))
      (cond (left || is_pending x) (Tells (sign false)) Stores)
  pub none : taken_count (core_next x (seen.Took None left)) ≡ 0
  pub wakes : core_act (core_next x (seen.Took None left)) ≡ Act.Section section.Wake → ⊥
  pub takes : (key : ℕ) → stance (core_next x (seen.Took None left)) ≡ In key Takes → ⊥
  pub prepared : IsPrepared recursive n (core_next x (seen.Took None left))
  pub knows : (queues : ℕ → List Waiter) (j : ℕ) → KnowsList (core_next x (seen.Took None left)) queues j

late_quits : (recursive : Bool) (n : ℕ) (p : LatePhase) (left : Bool) → is_back (Core.Late p) ≡ true
    → IsPrepared recursive n (Core.Late p) → Quits recursive n (Core.Late p) left
late_quits recursive n LatePhase.Quits true e h =
    record { to = refl; none = refl; wakes = λ w. cc; takes = λ key w. cc; prepared = h; knows = λ queues j. tt }
late_quits recursive n LatePhase.Quits false e h =
    record { to = refl; none = refl; wakes = λ w. cc; takes = λ key w. cc; prepared = h; knows = λ queues j. tt }
late_quits recursive n p left e h = absurd cc

-- by the list that it stood in
record QuitsAs (recursive : Bool) (n : ℕ) (o : Option Bool) (left : Bool) : Type 0 where
  to : late_rw_stance (quits_as o left) ≡ In (bit (is_some o)) (cond (left || is_some o) (Tells (sign false)) Stores)
  wakes : late_rw_act (quits_as o left) ≡ Act.Section section.Wake → ⊥
  takes : (key : ℕ) → late_rw_stance (quits_as o left) ≡ In key Takes → ⊥
  prepared : late_rw_prepared recursive n (quits_as o left)

quits_by : (recursive : Bool) (n : ℕ) (o : Option Bool) (left : Bool) → n ≡ 0 → QuitsAs recursive n o left
quits_by recursive n None true z = record { to = refl; wakes = λ w. cc; takes = λ key w. cc; prepared = z }
quits_by recursive n None false z = record { to = refl; wakes = λ w. cc; takes = λ key w. cc; prepared = z }
quits_by recursive n (Some from) true z = record { to = refl; wakes = λ w. cc; takes = λ key w. cc; prepared = z }
quits_by recursive n (Some from) false z = record { to = refl; wakes = λ w. cc; takes = λ key w. cc; prepared = z }

tardy_quits : (recursive : Bool) (n : ℕ) (p : LateRwPhase) (left : Bool) → is_back (Core.LateRw p) ≡ true
    → IsPrepared recursive n (Core.LateRw p) → Quits recursive n (Core.LateRw p) left
tardy_quits recursive n (LateRwPhase.Quits k) left e h =
    let by = quits_by recursive n (pending_from k) left (no_hold recursive n k h.0 h.1) in
    record {
      to = by.to;
      none = refl;
      wakes = by.wakes;
      takes = by.takes;
      prepared = by.prepared;
      knows = λ queues j. tt;
    }
tardy_quits recursive n p left e h = absurd cc

pub quits_so : (recursive : Bool) (n : ℕ) (x : Core) → is_back x ≡ true → (left : Bool) → IsPrepared recursive n x
    → Quits recursive n x left
quits_so recursive n (Core.Late p) e left h = late_quits recursive n p left e h
quits_so recursive n (Core.LateRw p) e left h = tardy_quits recursive n p left e h
quits_so recursive n (Core.Mutex k) e left h = absurd cc
quits_so recursive n (Core.Rw k) e left h = absurd cc
quits_so recursive n (Core.Upgrade k) e left h = absurd cc

-- BOTH ARE PAID FOR

late_less : (n : ℕ) (v w : View) (p : LatePhase) → comes_late (Core.Late p) ≡ true
    → core_steps n v (core_next (Core.Late p) seen.Entered) + 1 ≤ core_steps n w (Core.Late p)
late_less n v w LatePhase.Expires e = omega arith
late_less n v w p e = absurd cc

tardy_less : (n : ℕ) (v w : View) (p : LateRwPhase) → comes_late (Core.LateRw p) ≡ true
    → core_steps n v (core_next (Core.LateRw p) seen.Entered) + 1 ≤ core_steps n w (Core.LateRw p)
tardy_less n v w (LateRwPhase.Expires k) e = omega arith
tardy_less n v w p e = absurd cc

pub returns_less : (n : ℕ) (v w : View) (x : Core) → comes_late x ≡ true → core_steps n v (core_next x seen.Entered) + 1
    ≤ core_steps n w x
returns_less n v w (Core.Late p) e = late_less n v w p e
returns_less n v w (Core.LateRw p) e = tardy_less n v w p e
returns_less n v w (Core.Mutex k) e = absurd cc
returns_less n v w (Core.Rw k) e = absurd cc
returns_less n v w (Core.Upgrade k) e = absurd cc

late_falls : (n : ℕ) (v w : View) (p : LatePhase) (left : Bool) → is_back (Core.Late p) ≡ true
    → core_steps n v (core_next (Core.Late p) (seen.Took None left)) + 1 ≤ core_steps n w (Core.Late p)
late_falls n v w LatePhase.Quits true e = omega arith
late_falls n v w LatePhase.Quits false e = omega arith
late_falls n v w p left e = absurd cc

quits_fall : (n : ℕ) (v : View) (o : Option Bool) (left : Bool) → late_rw_steps n v (quits_as o left) + 1 ≤ quits_steps
    n o
quits_fall n v None true = omega arith
quits_fall n v None false = omega arith
quits_fall n v (Some from) left = omega arith

tardy_falls : (n : ℕ) (v w : View) (p : LateRwPhase) (left : Bool) → is_back (Core.LateRw p) ≡ true
    → core_steps n v (core_next (Core.LateRw p) (seen.Took None left)) + 1 ≤ core_steps n w (Core.LateRw p)
tardy_falls n v w (LateRwPhase.Quits k) left e = quits_fall n v (pending_from k) left
tardy_falls n v w p left e = absurd cc

pub quits_less : (n : ℕ) (v w : View) (x : Core) (left : Bool) → is_back x ≡ true
    → core_steps n v (core_next x (seen.Took None left)) + 1 ≤ core_steps n w x
quits_less n v w (Core.Late p) left e = late_falls n v w p left e
quits_less n v w (Core.LateRw p) left e = tardy_falls n v w p left e
quits_less n v w (Core.Mutex k) left e = absurd cc
quits_less n v w (Core.Rw k) left e = absurd cc
quits_less n v w (Core.Upgrade k) left e = absurd cc

-- what one sees doesn't count while it sleeps
slept_same : (n : ℕ) (v w : View) (k : RwSleeper) → IsReadySleeper k → sleeper_asleep k ≡ true
    → sleeper_steps n v k ≡ sleeper_steps n w k
slept_same n v w k r e = by_sleeper (λ k. sleeper_steps n v k ≡ sleeper_steps n w k) (λ want. refl) (λ rounds. refl)
    (λ want i. refl) (λ rounds. refl) k r e

late_finds_less : (n : ℕ) (v w : View) (p : LatePhase) (by : ℕ) (handed : Bool) → comes_late (Core.Late p) ≡ true
    → core_steps n v (found_as by handed (Core.Late p)) + 1 ≤ core_steps n w (Core.Late p)
late_finds_less n v w LatePhase.Expires by handed e = omega arith
late_finds_less n v w p by handed e = absurd cc

tardy_finds_less : (n : ℕ) (v w : View) (p : LateRwPhase) (by : ℕ) (handed : Bool) → comes_late (Core.LateRw p) ≡ true
    → (recursive : Bool) (m : ℕ) → IsPrepared recursive m (Core.LateRw p)
    → core_steps n v (found_as by handed (Core.LateRw p)) + 1 ≤ core_steps n w (Core.LateRw p)
tardy_finds_less n v w (LateRwPhase.Expires k) by handed e recursive m h =
    omega (arith, slept_same n v w k (ready_sleeper recursive m k h.1) h.0)
tardy_finds_less n v w p by handed e recursive m h = absurd cc

pub finds_less : (n : ℕ) (v w : View) (x : Core) (by : ℕ) (handed : Bool) → comes_late x ≡ true
    → (recursive : Bool) (m : ℕ) → IsPrepared recursive m x → core_steps n v (found_as by handed x) + 1 ≤ core_steps n w
    x
finds_less n v w (Core.Late p) by handed e recursive m h = late_finds_less n v w p by handed e
finds_less n v w (Core.LateRw p) by handed e recursive m h = tardy_finds_less n v w p by handed e recursive m h
finds_less n v w (Core.Mutex k) by handed e recursive m h = absurd cc
finds_less n v w (Core.Rw k) by handed e recursive m h = absurd cc
finds_less n v w (Core.Upgrade k) by handed e recursive m h = absurd cc

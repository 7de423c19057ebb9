-- The cores of calls with deadlines, of machines and of threads, go the same way.
use Rattle.std.proofs.Common.{◌≡◌, ℕ, not, Bool, true, false, Some, None, refl, subst}
use Rattle.std.proofs.lemmas.Option.{same_Some}
use Rattle.parking_lot_core_model.specs.declared.parking.UnparkToken.{UnparkToken}
use Rattle.parking_lot_protocol.specs.Acts.{Gives}
use Rattle.parking_lot_protocol.specs.declared.act.ActResult.{ActResult}
use Rattle.parking_lot_protocol.specs.declared.act.ActResult.TheVariants.{Before, Entered, Made, Took, Woken}
use Rattle.parking_lot_protocol.specs.declared.mutex_phase.MutexPhase.{MutexPhase}
use Rattle.parking_lot_protocol.specs.declared.mutex_phase.MutexPhase.TheVariants as mx
use Rattle.parking_lot_protocol.specs.declared.rw_phase.RwPhase.{RwPhase}
use Rattle.parking_lot_protocol.specs.declared.rw_phase.RwPhase.TheVariants as r
use Rattle.parking_lot_protocol_rw.specs.Timed.TimedTable as rw
use Rattle.parking_lot_protocol_rw.specs.declared.timed.timed_phase.TimedRwPhase.{TimedRwPhase}
use Rattle.parking_lot_protocol_rw.specs.declared.timed.timed_phase.TimedRwPhase.TheVariants as rw_phase
use Rattle.parking_lot_protocol.specs.Timed.TimedTable as mutex
use Rattle.parking_lot_protocol.specs.declared.timed.timed_act.TimedSeen.TheVariants.{Expired, Left, Quit, Reentered}
use Rattle.parking_lot_protocol.specs.declared.timed.timed_act.TimedSeen.TheVariants.{WasTaken}
use Rattle.parking_lot_protocol.specs.declared.timed.timed_core.TimedMutexPhase.{TimedMutexPhase}
use Rattle.parking_lot_protocol.specs.declared.timed.timed_core.TimedMutexPhase.TheVariants as phase
use Rattle.parking_lot_protocol_rw.specs.UpgradeRules.{IsDraining, IsReady, IsSeeking}
use Rattle.parking_lot_protocol_rw.specs.declared.upgrade_core.UpgradeCore.{UpgradeCore}
use Rattle.parking_lot_protocol_rw.specs.declared.upgrade_phase.UpgradePhase.{UpgradePhase}
use Rattle.parking_lot_protocol_rw.specs.declared.upgrade_phase.UpgradePhase.TheVariants as u
use Rattle.parking_lot_machine_calls.specs.CallKinds.{IsOfWorld}
use Rattle.parking_lot_machine_calls.specs.CallViews.{HasSlept, IsInOrder, IsLateInOrder}
use Rattle.parking_lot_machine_calls.specs.LateCalls.{comes_late, found_as, is_back, is_sleeping, late_comes}
use Rattle.parking_lot_machine_calls.specs.LateCalls.{late_is_back, late_of, late_rw_comes, late_rw_is_back}
use Rattle.parking_lot_machine_calls.specs.LateCalls.{sleeps_in_time}
use Rattle.parking_lot_machine_calls.specs.Stances.{core_act, core_next, late_act, late_next, late_rw_act, late_rw_next}
use Rattle.parking_lot_machine_calls.specs.Stances.{pending_from, quits_as, resumed_as, rw_asleep, sign, simple_pending}
use Rattle.parking_lot_machine_calls.specs.Stances.{sleeper_asleep, upgrade_asleep, upgrade_pending}
use Rattle.parking_lot_machine_calls.specs.declared.late_rw.LateRwPhase.{LateRwPhase}
use Rattle.parking_lot_machine_calls.specs.declared.late_rw.LateRwPhase.TheVariants as late_rw
use Rattle.parking_lot_machine_calls.specs.declared.late_rw.RwSleeper.{RwSleeper}
use Rattle.parking_lot_machine_calls.specs.declared.late_rw.RwSleeper.TheVariants as sleeper
use Rattle.parking_lot_machine_calls.specs.declared.seat.Core.{Core}
use Rattle.parking_lot_machine_calls.specs.declared.seat.Core.TheVariants as core
use Rattle.parking_lot_machine_calls.specs.declared.seat.LatePhase.{LatePhase}
use Rattle.parking_lot_machine_calls.specs.declared.seat.LatePhase.TheVariants as late
use Rattle.parking_lot_machine.proofs.CallLawsFacts.Quitting.{frees_awake, owes_awake}
use Rattle.parking_lot_world.specs.CallLaws.SameCores.{CoresAreTheSame, act_as, hears_as, late_as, late_hears}
use Rattle.parking_lot_world.specs.CallLaws.SameCores.{late_rw_as, late_rw_hears, mutex_as, rw_as, sleeper_as}

-- where it is at a phase, what is said of the phase
at_phase : {P : Type 0} (Q : P → Type 0) (p q : P) → Some q ≡ Some p → Q q → Q p
at_phase Q p q e x = subst Q (same_Some q p e) x

-- AT A MUTEX

mutex_acts : (k : Core) (p : TimedMutexPhase) → mutex_as k ≡ Some p → mutex.act_of p ≡ act_as k
mutex_acts (core.Mutex c) p e = at_phase (λ q. mutex.act_of q ≡ act_as (core.Mutex c)) p _ e refl
mutex_acts (core.Late l) p e = at_phase (λ q. mutex.act_of q ≡ act_as (core.Late l)) p _ e (acts_so l)
  where
    acts_so : (l : LatePhase) → mutex.act_of (late_as l) ≡ act_as (core.Late l)
    acts_so late.Expires = refl
    acts_so late.Quits = refl
    acts_so late.Masks = refl
    acts_so late.Leaves = refl
    acts_so late.GivesUp = refl
    acts_so (late.WasTaken by handed) = refl
mutex_acts k p e = absurd cc

late_told : (l : LatePhase) (word : ℕ) (s : ActResult) → late_comes l ≡ false → late_is_back l ≡ false
    → Gives (late_act l) word s → mutex_as (late_next l s) ≡ Some (mutex.next_phase (late_as l) (late_hears l s))
late_told late.Masks word (Before w) comes back g = refl
late_told late.Leaves word Made comes back g = refl
late_told (late.WasTaken by handed) word Made comes back g = refl
late_told late.Expires word s comes back g = absurd cc
late_told late.Quits word s comes back g = absurd cc
late_told l word s comes back g = absurd g

mutex_told : (k : Core) (p : TimedMutexPhase) (word : ℕ) (s : ActResult) → mutex_as k ≡ Some p → IsInOrder k
    → comes_late k ≡ false → is_back k ≡ false → Gives (core_act k) word s
    → mutex_as (core_next k s) ≡ Some (mutex.next_phase p (hears_as k s))
mutex_told (core.Mutex c) p word s e so comes back g =
    at_phase (λ q. mutex_as (core_next (core.Mutex c) s) ≡ Some (mutex.next_phase q (hears_as (core.Mutex c) s))) p _ e
    refl
mutex_told (core.Late l) p word s e so comes back g =
    at_phase (λ q. mutex_as (late_next l s) ≡ Some (mutex.next_phase q (late_hears l s))) p _ e
    (late_told l word s comes back g)
mutex_told k p word s e so comes back g = absurd cc

mutex_expires : (k : Core) (p : TimedMutexPhase) → mutex_as k ≡ Some p → IsInOrder k → sleeps_in_time k ≡ true
    → mutex_as (late_of k) ≡ Some (mutex.next_phase p Expired)
mutex_expires (core.Mutex c) p e so asleep = at_phase (λ q. Some phase.Expires ≡ Some (mutex.next_phase q Expired)) p _
    e (by c.phase asleep)
  where
    by : (m : MutexPhase) → is_sleeping m ≡ true
        → Some phase.Expires ≡ Some (mutex.next_phase (phase.Asks (record { phase = m })) Expired)
    by mx.Sleeps asleep = refl
    by m asleep = absurd cc
mutex_expires k p e so asleep = absurd cc

mutex_reenters : (k : Core) (p : TimedMutexPhase) → mutex_as k ≡ Some p → comes_late k ≡ true
    → mutex_as (core_next k Entered) ≡ Some (mutex.next_phase p Reentered)
mutex_reenters (core.Late late.Expires) p e comes =
    at_phase (λ q. Some phase.Quits ≡ Some (mutex.next_phase q Reentered)) p _ e refl
mutex_reenters k p e comes = absurd cc

mutex_quits : (k : Core) (p : TimedMutexPhase) (left : Bool) → mutex_as k ≡ Some p → IsInOrder k → is_back k ≡ true
    → mutex_as (core_next k (Took None left)) ≡ Some (mutex.next_phase p (Quit (not left)))
mutex_quits (core.Late late.Quits) p true e so back =
    at_phase (λ q. Some phase.Leaves ≡ Some (mutex.next_phase q (Quit false))) p _ e refl
mutex_quits (core.Late late.Quits) p false e so back =
    at_phase (λ q. Some phase.Masks ≡ Some (mutex.next_phase q (Quit true))) p _ e refl
mutex_quits k p left e so back = absurd cc

mutex_finds : (k : Core) (p : TimedMutexPhase) (by : ℕ) (handed : Bool) → mutex_as k ≡ Some p → comes_late k ≡ true
    → mutex_as (found_as by handed k) ≡ Some (mutex.next_phase (mutex.next_phase p Reentered) (WasTaken (sign handed)))
mutex_finds (core.Late late.Expires) p by handed e comes =
    at_phase (λ q. Some (phase.Resumes (sign handed)) ≡ Some
    (mutex.next_phase (mutex.next_phase q Reentered) (WasTaken (sign handed)))) p _ e refl
mutex_finds k p by handed e comes = absurd cc

mutex_wakes : (k : Core) (p : TimedMutexPhase) (token : UnparkToken) → mutex_as k ≡ Some p → IsInOrder k
    → comes_late k ≡ true → mutex_as (core_next k (Woken token)) ≡ Some
    (mutex.next_phase (mutex.next_phase (mutex.next_phase p Reentered) (WasTaken token)) Left)
mutex_wakes (core.Late late.Expires) p token e so comes =
    at_phase (λ q. mutex_as (late_next late.Expires (Woken token)) ≡ Some
    (mutex.next_phase (mutex.next_phase (mutex.next_phase q Reentered) (WasTaken token)) Left)) p _ e refl
mutex_wakes k p token e so comes = absurd cc

-- AT A READER-WRITER LOCK

rw_acts : (k : Core) (p : TimedRwPhase) → rw_as k ≡ Some p → rw.act_of p ≡ act_as k
rw_acts (core.Rw c) p e = at_phase (λ q. rw.act_of q ≡ act_as (core.Rw c)) p _ e refl
rw_acts (core.Upgrade c) p e = at_phase (λ q. rw.act_of q ≡ act_as (core.Upgrade c)) p _ e refl
rw_acts (core.LateRw l) p e = at_phase (λ q. rw.act_of q ≡ act_as (core.LateRw l)) p _ e (acts_so l)
  where
    acts_so : (l : LateRwPhase) → rw.act_of (late_rw_as l) ≡ act_as (core.LateRw l)
    acts_so (late_rw.Expires k) = refl
    acts_so (late_rw.Quits k) = refl
    acts_so late_rw.Masks = refl
    acts_so late_rw.Leaves = refl
    acts_so late_rw.GivesUp = refl
    acts_so (late_rw.LeavesPending from) = refl
    acts_so (late_rw.WasTaken k by handed) = refl
rw_acts k p e = absurd cc

-- one that slept goes on as it is told
resumes : (k : RwSleeper) (handed b : Bool) → b ≡ true
    → rw_as (resumed_as b k handed) ≡ Some (rw.next_phase (rw_phase.Resumes (sleeper_as k) (sign handed)) Left)
resumes (sleeper.Simple c) handed true e = refl
resumes (sleeper.Upgradable c) handed true e = refl
resumes k handed false e = absurd cc

late_rw_told : (l : LateRwPhase) (word : ℕ) (s : ActResult) → IsLateInOrder l → late_rw_comes l ≡ false
    → late_rw_is_back l ≡ false → Gives (late_rw_act l) word s
    → rw_as (late_rw_next l s) ≡ Some (rw.next_phase (late_rw_as l) (late_rw_hears l s))
late_rw_told late_rw.Masks word (Before w) so comes back g = refl
late_rw_told late_rw.Leaves word Made so comes back g = refl
late_rw_told (late_rw.LeavesPending from) word Made so comes back g = refl
late_rw_told (late_rw.WasTaken k by handed) word Made so comes back g = resumes k handed (sleeper_asleep k) so.0
late_rw_told (late_rw.Expires k) word s so comes back g = absurd cc
late_rw_told (late_rw.Quits k) word s so comes back g = absurd cc
late_rw_told l word s so comes back g = absurd g

rw_told : (k : Core) (p : TimedRwPhase) (word : ℕ) (s : ActResult) → rw_as k ≡ Some p → IsInOrder k
    → comes_late k ≡ false → is_back k ≡ false → Gives (core_act k) word s
    → rw_as (core_next k s) ≡ Some (rw.next_phase p (hears_as k s))
rw_told (core.Rw c) p word s e so comes back g =
    at_phase (λ q. rw_as (core_next (core.Rw c) s) ≡ Some (rw.next_phase q (hears_as (core.Rw c) s))) p _ e refl
rw_told (core.Upgrade c) p word s e so comes back g =
    at_phase (λ q. rw_as (core_next (core.Upgrade c) s) ≡ Some (rw.next_phase q (hears_as (core.Upgrade c) s))) p _ e
    refl
rw_told (core.LateRw l) p word s e so comes back g =
    at_phase (λ q. rw_as (late_rw_next l s) ≡ Some (rw.next_phase q (late_rw_hears l s))) p _ e
    (late_rw_told l word s so comes back g)
rw_told k p word s e so comes back g = absurd cc

-- who sleeps
inner_expires : (from : Bool) (q : RwPhase) (k : UpgradeCore) → rw_asleep q ≡ true
    → Some (rw_phase.Expires k) ≡ Some (rw.expires_as k (rw.inner_sleeper from q))
inner_expires from (r.Sleeps want) k e = refl
inner_expires from (r.DrainSleeps rounds) k e = refl
inner_expires from q k e = absurd cc

upgrade_expires : (q : UpgradePhase) → upgrade_asleep q ≡ true → IsReady q → IsOfWorld q
    → Some (rw_phase.Expires (record { phase = q })) ≡ Some (rw.expires (record { phase = q }))
upgrade_expires (u.Seeks c) e ready world = inner_expires false c.phase _ e
upgrade_expires (u.Drains c) e ready world = inner_expires true c.phase _ e
upgrade_expires (u.Frees way c) e ready world = absurd (frees_awake c.phase e ready)
upgrade_expires (u.Owes kept answer c) e ready world = absurd (owes_awake c.phase e ready)
upgrade_expires (u.Plain c) e ready world = absurd world
upgrade_expires q e ready world = absurd cc

rw_expires : (k : Core) (p : TimedRwPhase) → rw_as k ≡ Some p → IsInOrder k → sleeps_in_time k ≡ true
    → rw_as (late_of k) ≡ Some (rw.next_phase p Expired)
rw_expires (core.Rw c) p e so asleep =
    at_phase (λ q. Some (rw_phase.Expires (record { phase = u.Plain c })) ≡ Some (rw.next_phase q Expired)) p _ e
    (inner_expires false c.phase _ asleep)
rw_expires (core.Upgrade c) p e so asleep = at_phase (λ q. Some (rw_phase.Expires c) ≡ Some (rw.next_phase q Expired)) p
    _ e (upgrade_expires c.phase asleep so.0 so.1)
rw_expires k p e so asleep = absurd cc

rw_reenters : (k : Core) (p : TimedRwPhase) → rw_as k ≡ Some p → comes_late k ≡ true
    → rw_as (core_next k Entered) ≡ Some (rw.next_phase p Reentered)
rw_reenters (core.LateRw (late_rw.Expires k)) p e comes =
    at_phase (λ q. Some (rw_phase.Quits (sleeper_as k)) ≡ Some (rw.next_phase q Reentered)) p _ e refl
rw_reenters k p e comes = absurd cc

-- who takes itself off its list
simple_quits : (q : RwPhase) (left : Bool) → rw_asleep q ≡ true → Some (late_rw_as (quits_as (simple_pending q) left))
    ≡ Some (rw.quits_as (rw.inner_sleeper false q) (not left))
simple_quits (r.Sleeps want) true e = refl
simple_quits (r.Sleeps want) false e = refl
simple_quits (r.DrainSleeps rounds) left e = refl
simple_quits q left e = absurd cc

seeks_quits : (q : RwPhase) (left : Bool) → rw_asleep q ≡ true → IsSeeking q → Some (late_rw_as (quits_as None left))
    ≡ Some (rw.quits_as (rw.inner_sleeper false q) (not left))
seeks_quits (r.Sleeps want) true e ready = refl
seeks_quits (r.Sleeps want) false e ready = refl
seeks_quits (r.DrainSleeps rounds) left e ready = absurd ready
seeks_quits q left e ready = absurd cc

drains_quits : (q : RwPhase) (left : Bool) → rw_asleep q ≡ true → IsDraining q
    → Some (late_rw_as (quits_as (Some true) left)) ≡ Some (rw.quits_as (rw.inner_sleeper true q) (not left))
drains_quits (r.DrainSleeps rounds) left e ready = refl
drains_quits (r.Sleeps want) left e ready = absurd ready
drains_quits q left e ready = absurd cc

upgrade_quits : (q : UpgradePhase) (left : Bool) → upgrade_asleep q ≡ true → IsReady q → IsOfWorld q
    → Some (late_rw_as (quits_as (upgrade_pending q) left)) ≡ Some (rw.quits (record { phase = q }) (not left))
upgrade_quits (u.Seeks c) left e ready world = seeks_quits c.phase left e ready.0
upgrade_quits (u.Drains c) left e ready world = drains_quits c.phase left e ready.0
upgrade_quits (u.Frees way c) left e ready world = absurd (frees_awake c.phase e ready)
upgrade_quits (u.Owes kept answer c) left e ready world = absurd (owes_awake c.phase e ready)
upgrade_quits (u.Plain c) left e ready world = absurd world
upgrade_quits q left e ready world = absurd cc

sleeper_quits : (k : RwSleeper) (left : Bool) → HasSlept k → Some (late_rw_as (quits_as (pending_from k) left)) ≡ Some
    (rw.quits (sleeper_as k) (not left))
sleeper_quits (sleeper.Simple c) left so = simple_quits c.phase left so.0
sleeper_quits (sleeper.Upgradable c) left so = upgrade_quits c.phase left so.0 so.1.0 so.1.1

rw_quits : (k : Core) (p : TimedRwPhase) (left : Bool) → rw_as k ≡ Some p → IsInOrder k → is_back k ≡ true
    → rw_as (core_next k (Took None left)) ≡ Some (rw.next_phase p (Quit (not left)))
rw_quits (core.LateRw (late_rw.Quits k)) p left e so back =
    at_phase (λ q. Some (late_rw_as (quits_as (pending_from k) left)) ≡ Some (rw.next_phase q (Quit (not left)))) p _ e
    (sleeper_quits k left so)
rw_quits k p left e so back = absurd cc

rw_finds : (k : Core) (p : TimedRwPhase) (by : ℕ) (handed : Bool) → rw_as k ≡ Some p → comes_late k ≡ true
    → rw_as (found_as by handed k) ≡ Some (rw.next_phase (rw.next_phase p Reentered) (WasTaken (sign handed)))
rw_finds (core.LateRw (late_rw.Expires k)) p by handed e comes =
    at_phase (λ q. Some (rw_phase.Resumes (sleeper_as k) (sign handed)) ≡ Some
    (rw.next_phase (rw.next_phase q Reentered) (WasTaken (sign handed)))) p _ e refl
rw_finds k p by handed e comes = absurd cc

woken_so : (k : RwSleeper) (token : UnparkToken) → rw_as (late_rw_next (late_rw.Expires k) (Woken token)) ≡ Some
    (rw.next_phase (rw_phase.Resumes (sleeper_as k) token) Left)
woken_so (sleeper.Simple c) token = refl
woken_so (sleeper.Upgradable c) token = refl

rw_wakes : (k : Core) (p : TimedRwPhase) (token : UnparkToken) → rw_as k ≡ Some p → IsInOrder k → comes_late k ≡ true
    → rw_as (core_next k (Woken token)) ≡ Some
    (rw.next_phase (rw.next_phase (rw.next_phase p Reentered) (WasTaken token)) Left)
rw_wakes (core.LateRw (late_rw.Expires k)) p token e so comes =
    at_phase (λ q. rw_as (late_rw_next (late_rw.Expires k) (Woken token)) ≡ Some
    (rw.next_phase (rw.next_phase (rw.next_phase q Reentered) (WasTaken token)) Left)) p _ e (woken_so k token)
rw_wakes k p token e so comes = absurd cc

pub cores_are_the_same : CoresAreTheSame
cores_are_the_same = record {
  begins = λ kind. record { lock = refl; read = refl; write = refl; upgradable = refl; upgrade = refl };
  at_mutex = record {
    acts = mutex_acts;
    told = mutex_told;
    expires = mutex_expires;
    reenters = mutex_reenters;
    quits = mutex_quits;
    finds = mutex_finds;
    wakes = mutex_wakes;
  };
  at_rw = record {
    acts = rw_acts;
    told = rw_told;
    expires = rw_expires;
    reenters = rw_reenters;
    quits = rw_quits;
    finds = rw_finds;
    wakes = rw_wakes;
  };
}

-- A kind of locks, as the machine shows one; and what a thread does at one lock leaves the other locks as they are.
use Rattle.std.proofs.Common.{◌≡◌, ◌≢◌, ℕ, ◌+◌, ◌*◌, ◌<◌, ◌⊎◌, inl, inr, cond, List, length, Option, Some, None}
use Rattle.std.proofs.Common.{slice_get, slice_set, refl, sym, ap, ◌∙◌, arith, eq-eqb, ◌∷◌, Bool, true, false, [], ◌≤◌}
use Rattle.std.proofs.lemmas.Bool.{ne_eqb}
use Rattle.std.proofs.lemmas.Option.{none-some, slice_get_within}
use Rattle.parking_lot_core_model.specs.Machine.{threads_of}
use Rattle.parking_lot_core_model.specs.declared.parking.ParkToken.{ParkToken}
use Rattle.parking_lot_rules.specs.Roles.{Idle, Role, Shares, Stay}
use Rattle.parking_lot_rules.specs.Roles.{Asleep as AsleepStill, Late as LateStill}
use Rattle.parking_lot_rules.specs.Classes.{inside as inside_of}
use Rattle.parking_lot_core_model.specs.declared.parking.UnparkToken.{UnparkToken}
use Rattle.parking_lot_protocol.specs.declared.act.ActResult.{ActResult}
use Rattle.parking_lot_protocol.specs.declared.act.SectionAct.TheVariants as section
use Rattle.parking_lot_protocol.specs.MutexTable as mutex_table
use Rattle.parking_lot_protocol.specs.RwTable as rw_table
use Rattle.parking_lot_protocol_rw.specs.UpgradeRoles as of_upgrade
use Rattle.parking_lot_protocol_rw.specs.UpgradeTable as upgrade_table
use Rattle.parking_lot_protocol_rw.specs.declared.upgrade_core.UpgradeCore.{UpgradeCore}
use Rattle.parking_lot_protocol_rw.specs.declared.upgrade_phase.UpgradePhase.{UpgradePhase}
use Rattle.parking_lot_machine_calls.specs.declared.seat.WakeResult.{WakeResult}
use Rattle.parking_lot_rules.specs.Clauses.{word_of}
use Rattle.parking_lot_rules.specs.Lock.{Lock}
use Rattle.parking_lot_rules.specs.Mutex as mutex
use Rattle.parking_lot_rules.specs.Any.{AnyLock, Rw, Mx}
use Rattle.parking_lot_protocol.specs.MutexRules as of_mutex
use Rattle.parking_lot_protocol.specs.RwRules as of_rw
use Rattle.parking_lot_protocol.specs.declared.mutex_core.MutexCore.{MutexCore}
use Rattle.parking_lot_protocol.specs.declared.mutex_phase.MutexPhase.{MutexPhase}
use Rattle.parking_lot_protocol.specs.declared.rw_core.RwCore.{RwCore}
use Rattle.parking_lot_protocol.specs.declared.rw_phase.RwPhase.{RwPhase}
use Rattle.parking_lot_machine_calls.specs.declared.calls.LockKind.{LockKind}
use Rattle.parking_lot_machine_calls.specs.declared.open_call.Call.{Call}
use Rattle.parking_lot_machine_calls.specs.declared.late_rw.LateRwPhase.{LateRwPhase}
use Rattle.parking_lot_machine_calls.specs.declared.late_rw.RwSleeper.{RwSleeper}
use Rattle.parking_lot_machine_calls.specs.declared.seat.LatePhase.{LatePhase}
use Rattle.parking_lot_machine_calls.specs.declared.seat.Core.{Core}
use Rattle.parking_lot_machine_calls.specs.declared.seat.Hold.{Hold}
use Rattle.parking_lot_machine_calls.specs.declared.seat.QueuePosition.{QueuePosition}
use Rattle.parking_lot_machine_calls.specs.Kinds.{Manner, AsMutex, AsRw, manner_of}
use Rattle.parking_lot_machine_calls.specs.LateRoles.{late_rw_role, sleeper_role, stays}
use Rattle.parking_lot_machine.specs.RowFits.{IsCounted, IsInside}
use Rattle.parking_lot_machine_calls.specs.CallKinds.{IsOfKind, IsOfManner}
use Rattle.parking_lot_machine.specs.Rows.{State, word_at, hold_at, call_at, everybody, taken_by, rw_role_in}
use Rattle.parking_lot_machine.specs.Rows.{mutex_role_in, mutex_word_of, any_lock, lock_as, lock_at, queue_at}
use Rattle.parking_lot_machine_calls.specs.CallRoles.{owned_of, owns_mutex, rw_spot, mutex_spot, first_of_all, mark_of}
use Rattle.parking_lot_machine_calls.specs.CallRoles.{late_role, rw_core_role, mutex_core_role, mutex_role}
use Rattle.parking_lot_machine_calls.specs.Stances.{Asleep, core_next, late_next, late_rw_stance, late_stance, lying}
use Rattle.parking_lot_machine_calls.specs.Stances.{mutex_stance, pending_from, quits_as, rw_stance, seeks_stance}
use Rattle.parking_lot_machine_calls.specs.Stances.{sleeper_stance, stance, upgrade_stance, mutex_taken, sign}
use Rattle.parking_lot_machine_calls.specs.Stances.{resumed_as, sleeper_asleep}
use Rattle.parking_lot_rules.proofs.Everybody.{all, change-all, get-all, same-all}
use Rattle.parking_lot_protocol.specs.declared.act.Act.{Act}

-- What the machine shows of a kind of locks. C is the core of a call at one, R what a thread is to it, and L the lock
-- of the rules. A thread is what its call's core plays, beside so many other holds, at that place in the lists, with
-- those taken; and else what it owns makes it.
pub record Kind (C R L : Type 0) : Type 1 where
  pub manner : Manner
  pub core : C → Core
  pub of_kind : (o : Option LockKind) (k : C) → IsOfKind o (core k) → manner_of o ≡ Some manner
  pub only : (x : Core) → IsOfManner (Some manner) x → (k : C) × (x ≡ core k)
  pub idle : Hold → R
  pub plays : ℕ → QueuePosition → List ℕ → C → R
  pub role_in : ℕ → List ℕ → Hold → Option Call → R
  pub none : (i : ℕ) (us : List ℕ) (h : Hold) → role_in i us h None ≡ idle h
  pub here : (i : ℕ) (us : List ℕ) (h : Hold) (c : Call) (k : C) → c.core ≡ core k → c.lock ≡ i
      → role_in i us h (Some c) ≡ plays c.others c.spot us k
  pub away : (i : ℕ) (us : List ℕ) (h : Hold) (c : Call) → c.lock ≢ i → role_in i us h (Some c) ≡ idle h
  -- where one stood matters only while it sleeps
  pub listed : (n : ℕ) (us : List ℕ) (k : C) (at : QueuePosition)
      → ((key : ℕ) (token : ParkToken) → stance (core k) ≡ Asleep key token → at ≡ QueuePosition.Listed)
      → plays n at us k ≡ plays n QueuePosition.Listed us k
  -- the lock of a word, of what all are to it, and of its two lists
  pub lock : ℕ → List R → List ℕ → List ℕ → L
  pub any : L → AnyLock
  pub shows : (s : State) (i : ℕ) (o : Option LockKind) → manner_of o ≡ Some manner
      → any_lock o s i ≡ any
      (lock (word_at s i) (everybody (λ t. role_in i (taken_by s.wakes t) (hold_at s t i) (call_at s t)) s)
      (queue_at s (2 * i)) (queue_at s (2 * i + 1)))

-- THE TWO KINDS

pub rw_listed : (n : ℕ) (us : List ℕ) (q : RwPhase) (at : QueuePosition)
    → ((k : ℕ) (token : ParkToken) → rw_stance q ≡ Asleep k token → at ≡ QueuePosition.Listed)
    → of_rw.role n (rw_spot at) us q ≡ of_rw.role n of_rw.Listed us q
rw_listed n us (RwPhase.Sleeps want) at h = ap (λ x. of_rw.role n (rw_spot x) us (RwPhase.Sleeps want)) (h _ _ refl)
rw_listed n us (RwPhase.DrainSleeps rounds) at h = ap (λ x. of_rw.role n (rw_spot x) us (RwPhase.DrainSleeps rounds))
    (h _ _ refl)
rw_listed n us q at h = refl

seeks_listed : (n : ℕ) (us : List ℕ) (q : RwPhase) (at : QueuePosition)
    → ((k : ℕ) (token : ParkToken) → seeks_stance q ≡ Asleep k token → at ≡ QueuePosition.Listed)
    → of_upgrade.does (rw_spot at) us (UpgradePhase.Seeks (record { phase = q })) ≡ of_upgrade.does of_rw.Listed us
    (UpgradePhase.Seeks (record { phase = q }))
seeks_listed n us (RwPhase.Sleeps want) at h =
    ap (λ x. of_upgrade.does (rw_spot x) us (UpgradePhase.Seeks (record { phase = RwPhase.Sleeps want }))) (h _ _ refl)
seeks_listed n us (RwPhase.DrainSleeps rounds) at h =
    ap (λ x. of_upgrade.does (rw_spot x) us (UpgradePhase.Seeks (record { phase = RwPhase.DrainSleeps rounds })))
    (h _ _ refl)
seeks_listed n us q at h = refl

pub upgrade_listed : (n : ℕ) (us : List ℕ) (p : UpgradePhase) (at : QueuePosition)
    → ((k : ℕ) (token : ParkToken) → upgrade_stance p ≡ Asleep k token → at ≡ QueuePosition.Listed)
    → of_upgrade.role n (rw_spot at) us p ≡ of_upgrade.role n of_rw.Listed us p
upgrade_listed n us (UpgradePhase.Plain core) at h = rw_listed n us core.phase at h
upgrade_listed n us (UpgradePhase.Seeks core) at h = ap (λ x. record { owns = Shares 0; does = x })
    (seeks_listed n us core.phase at h)
upgrade_listed n us (UpgradePhase.Drains core) at h =
    ap (λ (r : Role). record {
      owns = of_upgrade.owns n (UpgradePhase.Drains core);
      does = of_upgrade.for_upgrade r.does;
    }) (rw_listed n us core.phase at h)
upgrade_listed n us (UpgradePhase.Frees way core) at h =
    ap (λ (r : Role). record {
      owns = of_upgrade.owns n (UpgradePhase.Frees way core);
      does = of_upgrade.for_release r.does;
    }) (rw_listed n us core.phase at h)
upgrade_listed n us (UpgradePhase.Owes hold end core) at h =
    ap (λ (r : Role). record { owns = of_upgrade.owns n (UpgradePhase.Owes hold end core); does = r.does })
    (rw_listed n us core.phase at h)
upgrade_listed n us p at h = refl

pub mutex_listed : (us : List ℕ) (q : MutexPhase) (at : QueuePosition)
    → ((k : ℕ) (token : ParkToken) → mutex_stance q ≡ Asleep k token → at ≡ QueuePosition.Listed)
    → mutex_role (mutex_spot at) us q ≡ mutex_role of_mutex.Listed us q
mutex_listed us MutexPhase.Sleeps at h = ap (λ x. mutex_role (mutex_spot x) us MutexPhase.Sleeps) (h _ _ refl)
mutex_listed us q at h = refl

-- who has taken as many as its phase says is to the mutex what the phase says
pub role_by : (at : of_mutex.QueuePosition) (us : List ℕ) (p : MutexPhase) → length us ≡ mutex_taken p
    → mutex_role at us p ≡ of_mutex.role at (first_of_all us) p
role_by at us (MutexPhase.Wakes giving) e = one us e
  where
    one : (us : List ℕ) → length us ≡ 1 → mutex_role at us (MutexPhase.Wakes giving) ≡ of_mutex.role at
        (first_of_all us) (MutexPhase.Wakes giving)
    one [] e = absurd (omega (arith, e))
    one (v ∷ []) e = refl
    one (v ∷ w ∷ us) e = absurd (omega (arith, e))
role_by at us p e = refl

-- and one that is to wake nobody has taken as many
pub mutex_exact : (threads n : ℕ) (k : MutexCore) → IsCounted threads n (Core.Mutex k)
    → (mutex_table.act_of k.phase ≡ Act.Section section.Wake → ⊥) → n ≡ mutex_taken k.phase
mutex_exact threads n k h ne = by_phase k.phase h.most h.all ne
  where
    by_phase : (p : MutexPhase) → n ≤ mutex_taken p → (IsInside (mutex_stance p) → n ≡ mutex_taken p)
        → (mutex_table.act_of p ≡ Act.Section section.Wake → ⊥) → n ≡ mutex_taken p
    by_phase (MutexPhase.Stores giving took left) most all ne = all tt
    by_phase (MutexPhase.Leaves giving took handed) most all ne = all tt
    by_phase (MutexPhase.Wakes giving) most all ne = absurd (ne refl)
    by_phase p most all ne = omega (arith, most)

-- a call at a mutex, in time or late
pub data MutexCall : Type 0 where
  Plain : MutexCore → MutexCall
  Late : LatePhase → MutexCall

abbrev pub mutex_call : MutexCall → Core
mutex_call (Plain k) = Core.Mutex k
mutex_call (Late p) = Core.Late p

abbrev pub mutex_plays : QueuePosition → List ℕ → MutexCall → mutex.Role
mutex_plays at us (Plain k) = mutex_role (mutex_spot at) us k.phase
mutex_plays at us (Late p) = late_role (mutex_spot at) p

pub plays_so : (at : QueuePosition) (us : List ℕ) (k : MutexCall) → mutex_core_role at us (mutex_call k) ≡ mutex_plays
    at us k
plays_so at us (Plain k) = refl
plays_so at us (Late p) = refl

pub mutex_manner : (o : Option Manner) (k : MutexCall) → IsOfManner o (mutex_call k) → o ≡ Some AsMutex
mutex_manner o (Plain k) e = e
mutex_manner o (Late p) e = e

late_listed : (p : LatePhase) (at : QueuePosition)
    → ((key : ℕ) (token : ParkToken) → late_stance p ≡ Asleep key token → at ≡ QueuePosition.Listed)
    → late_role (mutex_spot at) p ≡ late_role of_mutex.Listed p
late_listed LatePhase.Expires at h = ap (λ x. late_role (mutex_spot x) LatePhase.Expires) (h _ _ refl)
late_listed p at h = refl

pub mutex_stays : (us : List ℕ) (k : MutexCall) (at : QueuePosition)
    → ((key : ℕ) (token : ParkToken) → stance (mutex_call k) ≡ Asleep key token → at ≡ QueuePosition.Listed)
    → mutex_plays at us k ≡ mutex_plays QueuePosition.Listed us k
mutex_stays us (Plain k) at h = mutex_listed us k.phase at h
mutex_stays us (Late p) at h = late_listed p at h

-- a call at a reader-writer lock, of shared and exclusive holds or of the upgradable one, or one whose moment has
-- passed
pub data RwCall : Type 0 where
  Simple : RwCore → RwCall
  Upgradable : UpgradeCore → RwCall
  Tardy : LateRwPhase → RwCall

abbrev pub rw_call : RwCall → Core
rw_call (Simple k) = Core.Rw k
rw_call (Upgradable k) = Core.Upgrade k
rw_call (Tardy p) = Core.LateRw p

pub rw_manner : (o : Option Manner) (k : RwCall) → IsOfManner o (rw_call k) → o ≡ Some AsRw
rw_manner o (Simple k) e = e
rw_manner o (Upgradable k) e = e
rw_manner o (Tardy p) e = e

pub rw_only : (x : Core) → IsOfManner (Some AsRw) x → (k : RwCall) × (x ≡ rw_call k)
rw_only (Core.Rw k) e = (Simple k, refl)
rw_only (Core.Upgrade k) e = (Upgradable k, refl)
rw_only (Core.LateRw p) e = (Tardy p, refl)
rw_only (Core.Mutex k) e = absurd cc
rw_only (Core.Late p) e = absurd cc

-- one that slept before its moment passed
abbrev pub as_call : RwSleeper → RwCall
as_call (RwSleeper.Simple k) = Simple k
as_call (RwSleeper.Upgradable k) = Upgradable k

abbrev pub sleeper_next : RwSleeper → ActResult → RwCall
sleeper_next (RwSleeper.Simple k) told = Simple (record k { phase = rw_table.next_phase k.phase told })
sleeper_next (RwSleeper.Upgradable k) told = Upgradable (record k { phase = upgrade_table.next_phase k.phase told })

abbrev pub resumed_call : Bool → RwSleeper → Bool → RwCall
resumed_call true k handed = sleeper_next k (ActResult.Woken (sign handed))
resumed_call false k handed = Simple (record { phase = RwPhase.Invalid })

abbrev pub tardy_next : LateRwPhase → ActResult → RwCall
tardy_next (LateRwPhase.Expires k) (ActResult.Woken token) = sleeper_next k (ActResult.Woken token)
tardy_next (LateRwPhase.Expires k) ActResult.Entered = Tardy (LateRwPhase.Quits k)
tardy_next (LateRwPhase.Quits k) (ActResult.Took token left) = Tardy (quits_as (pending_from k) left)
tardy_next LateRwPhase.Masks (ActResult.Before word) = Tardy LateRwPhase.Leaves
tardy_next LateRwPhase.Leaves ActResult.Made = Tardy LateRwPhase.GivesUp
tardy_next (LateRwPhase.LeavesPending from) ActResult.Made =
    Upgradable (record { phase = UpgradePhase.YieldLoads from })
tardy_next (LateRwPhase.WasTaken k by handed) ActResult.Made = resumed_call (sleeper_asleep k) k handed
tardy_next p told = Simple (record { phase = RwPhase.Invalid })

-- what follows what one is told
abbrev pub rw_next : RwCall → ActResult → RwCall
rw_next (Simple k) told = Simple (record k { phase = rw_table.next_phase k.phase told })
rw_next (Upgradable k) told = Upgradable (record k { phase = upgrade_table.next_phase k.phase told })
rw_next (Tardy p) told = tardy_next p told

resumed_is : (b : Bool) (k : RwSleeper) (handed : Bool) → resumed_as b k handed ≡ rw_call (resumed_call b k handed)
resumed_is true (RwSleeper.Simple k) handed = refl
resumed_is true (RwSleeper.Upgradable k) handed = refl
resumed_is false k handed = refl

tardy_is : (p : LateRwPhase) (told : ActResult) → core_next (Core.LateRw p) told ≡ rw_call (tardy_next p told)
tardy_is (LateRwPhase.Expires (RwSleeper.Simple k)) (ActResult.Woken token) = refl
tardy_is (LateRwPhase.Expires (RwSleeper.Upgradable k)) (ActResult.Woken token) = refl
tardy_is (LateRwPhase.Expires k) ActResult.Entered = refl
tardy_is (LateRwPhase.Quits k) (ActResult.Took token left) = refl
tardy_is LateRwPhase.Masks (ActResult.Before word) = refl
tardy_is LateRwPhase.Leaves ActResult.Made = refl
tardy_is (LateRwPhase.LeavesPending from) ActResult.Made = refl
tardy_is (LateRwPhase.WasTaken k by handed) ActResult.Made = resumed_is (sleeper_asleep k) k handed
tardy_is p told = refl

pub next_is : (k : RwCall) (told : ActResult) → core_next (rw_call k) told ≡ rw_call (rw_next k told)
next_is (Simple k) told = refl
next_is (Upgradable k) told = refl
next_is (Tardy p) told = tardy_is p told

pub mutex_only : (x : Core) → IsOfManner (Some AsMutex) x → (k : MutexCall) × (x ≡ mutex_call k)
mutex_only (Core.Mutex k) e = (Plain k, refl)
mutex_only (Core.Late p) e = (Late p, refl)
mutex_only (Core.Rw k) e = absurd cc
mutex_only (Core.Upgrade k) e = absurd cc
mutex_only (Core.LateRw p) e = absurd cc

sleeper_listed : (n : ℕ) (us : List ℕ) (k : RwSleeper) (at : QueuePosition)
    → ((key : ℕ) (token : ParkToken) → sleeper_stance k ≡ Asleep key token → at ≡ QueuePosition.Listed)
    → sleeper_role n (rw_spot at) us k ≡ sleeper_role n of_rw.Listed us k
sleeper_listed n us (RwSleeper.Simple k) at h = rw_listed n us k.phase at h
sleeper_listed n us (RwSleeper.Upgradable k) at h = upgrade_listed n us k.phase at h

tardy_listed : (n : ℕ) (us : List ℕ) (p : LateRwPhase) (at : QueuePosition)
    → ((key : ℕ) (token : ParkToken) → late_rw_stance p ≡ Asleep key token → at ≡ QueuePosition.Listed)
    → late_rw_role n (rw_spot at) us p ≡ late_rw_role n of_rw.Listed us p
tardy_listed n us (LateRwPhase.Expires k) at h =
    ap (stays LateStill) (sleeper_listed n us k at (λ key token e. h key token (ap lying e)))
tardy_listed n us p at h = refl

pub call_listed : (n : ℕ) (us : List ℕ) (k : RwCall) (at : QueuePosition)
    → ((key : ℕ) (token : ParkToken) → stance (rw_call k) ≡ Asleep key token → at ≡ QueuePosition.Listed)
    → rw_core_role n at us (rw_call k) ≡ rw_core_role n QueuePosition.Listed us (rw_call k)
call_listed n us (Simple k) at h = rw_listed n us k.phase at h
call_listed n us (Upgradable k) at h = upgrade_listed n us k.phase at h
call_listed n us (Tardy p) at h = tardy_listed n us p at h

abbrev pub of_rws : Kind RwCall Role Lock
of_rws = record {
  manner = AsRw;
  core = rw_call;
  of_kind = λ o k e. rw_manner (manner_of o) k e;
  only = rw_only;
  idle = λ h. record { owns = owned_of h; does = Idle };
  plays = λ n at us k. rw_core_role n at us (rw_call k);
  role_in = rw_role_in;
  none = λ i us h. refl;
  here = λ i us h c k e at. ap
      (λ b. cond b (rw_core_role c.others c.spot us c.core) (record { owns = owned_of h; does = Idle }))
      (eq-eqb c.lock i at) ∙ ap (rw_core_role c.others c.spot us) e;
  away = λ i us h c ne. ap
      (λ b. cond b (rw_core_role c.others c.spot us c.core) (record { owns = owned_of h; does = Idle }))
      (ne_eqb c.lock i ne);
  listed = λ n us k at h. call_listed n us k at h;
  lock = λ x rs first second. record { word = word_of x; roles = rs; first = first; second = second };
  any = Rw;
  shows = λ s i o e. ap (λ (q : Option Manner). lock_as q s i) e;
}

abbrev pub of_mutexes : Kind MutexCall mutex.Role mutex.Mutex
of_mutexes = record {
  manner = AsMutex;
  core = mutex_call;
  of_kind = λ o k e. mutex_manner (manner_of o) k e;
  only = mutex_only;
  idle = λ h. record { owns = owns_mutex h; does = mutex.Idle };
  plays = λ n at us k. mutex_plays at us k;
  role_in = mutex_role_in;
  none = λ i us h. refl;
  here = λ i us h c k e at. ap
      (λ b. cond b (mutex_core_role c.spot us c.core) (record { owns = owns_mutex h; does = mutex.Idle }))
      (eq-eqb c.lock i at) ∙ ap (mutex_core_role c.spot us) e ∙ plays_so c.spot us k;
  away = λ i us h c ne. ap
      (λ b. cond b (mutex_core_role c.spot us c.core) (record { owns = owns_mutex h; does = mutex.Idle }))
      (ne_eqb c.lock i ne);
  listed = λ n us k at h. mutex_stays us k at h;
  lock = λ x rs first second. record { word = mutex_word_of x; roles = rs; queue = first };
  any = Mx;
  shows = λ s i o e. ap (λ (q : Option Manner). lock_as q s i) e;
}

-- one that sleeps at a mutex, in its list or off it, in time or late
abbrev pub SleepsSo : MutexCall → Type 0
SleepsSo k =
    (stay : Stay) × (inside_of stay ≡ 0)
    × ((us : List ℕ) → mutex_plays QueuePosition.Listed us k ≡ mutex.doing (mutex.Queued stay))
    × ((by : ℕ) (said : WakeResult) (us : List ℕ) → mutex_plays (QueuePosition.Off by said) us k ≡ mutex.doing
    (mutex.Taken by (mark_of said) stay))

plain_sleeps : (p : MutexPhase) (key : ℕ) (token : ParkToken) → mutex_stance p ≡ Asleep key token
    → SleepsSo (Plain (record { phase = p }))
plain_sleeps MutexPhase.Sleeps key token e = (AsleepStill, refl, λ us. refl, λ by said us. refl)
plain_sleeps p key token e = absurd cc

late_sleeps : (p : LatePhase) (key : ℕ) (token : ParkToken) → late_stance p ≡ Asleep key token → SleepsSo (Late p)
late_sleeps LatePhase.Expires key token e = (LateStill, refl, λ us. refl, λ by said us. refl)
late_sleeps p key token e = absurd cc

pub sleeps_so : (k : MutexCall) (key : ℕ) (token : ParkToken) → stance (mutex_call k) ≡ Asleep key token → SleepsSo k
sleeps_so (Plain k) key token e = plain_sleeps k.phase key token e
sleeps_so (Late p) key token e = late_sleeps p key token e

-- and what it is once it is woken
abbrev pub woken_plain : UnparkToken → MutexCall
woken_plain token = Plain (record { phase = mutex_table.next_phase MutexPhase.Sleeps (ActResult.Woken token) })

plain_woken : (p : MutexPhase) (key : ℕ) (token : ParkToken) (said : UnparkToken) → mutex_stance p ≡ Asleep key token
    → core_next (Core.Mutex (record { phase = p })) (ActResult.Woken said) ≡ mutex_call (woken_plain said)
plain_woken MutexPhase.Sleeps key token said e = refl
plain_woken p key token said e = absurd cc

late_woken : (p : LatePhase) (key : ℕ) (token : ParkToken) (said : UnparkToken) → late_stance p ≡ Asleep key token
    → late_next p (ActResult.Woken said) ≡ mutex_call (woken_plain said)
late_woken LatePhase.Expires key token said e = refl
late_woken p key token said e = absurd cc

pub woken_so : (k : MutexCall) (key : ℕ) (token : ParkToken) (said : UnparkToken)
    → stance (mutex_call k) ≡ Asleep key token → core_next (mutex_call k) (ActResult.Woken said) ≡ mutex_call
    (woken_plain said)
woken_so (Plain k) key token said e = plain_woken k.phase key token said e
woken_so (Late p) key token said e = late_woken p key token said e

-- ONE LOCK

-- the thread is at lock j, or at none
abbrev pub IsThere : ℕ → Option Call → Type 0
IsThere j None = Unit {0}
IsThere j (Some c) = c.lock ≡ j

-- What is the same beyond lock j, where threads act there.
pub record Elsewhere (j : ℕ) (s u : State) : Type 0 where
  pub kinds : u.kinds ≡ s.kinds
  pub threads : length u.calls ≡ length s.calls
  pub words : (i : ℕ) → i ≢ j → word_at u i ≡ word_at s i
  pub queues : (i k : ℕ) → i ≢ j → k < 2 → u.lot.queues (2 * i + k) ≡ s.lot.queues (2 * i + k)
  pub holds : (x i : ℕ) → i ≢ j → hold_at u x i ≡ hold_at s x i
  pub calls : (x : ℕ) → ((call_at u x ≡ call_at s x) × (taken_by u.wakes x ≡ taken_by s.wakes x))
      ⊎ (IsThere j (call_at s x) × IsThere j (call_at u x))

-- what all are to a lock, where one has changed
pub one_changed : {R : Type 0} (f g : ℕ → R) (n m t : ℕ) (r : R) → t < n → m ≡ n → ((x : ℕ) → x ≢ t → g x ≡ f x)
    → g t ≡ r → all g 0 m ≡ slice_set (all f 0 n) t r
one_changed f g n m t r low same others is = ap (all g 0) same ∙ change-all f g n t low (λ x b ne. others x ne)
    ∙ ap (slice_set (all f 0 n) t) is

module _ {C R L : Type 0} (K : Kind C R L) where
  abbrev pub role_at : State → ℕ → ℕ → R
  role_at s i t = K.role_in i (taken_by s.wakes t) (hold_at s t i) (call_at s t)

  abbrev pub roles_at : State → ℕ → List R
  roles_at s i = everybody (role_at s i) s

  abbrev pub shown : State → ℕ → L
  shown s i = K.lock (word_at s i) (roles_at s i) (queue_at s (2 * i)) (queue_at s (2 * i + 1))

  pub same : (x x' : ℕ) (rs rs' : List R) (f f' g g' : List ℕ) → x ≡ x' → rs ≡ rs' → f ≡ f' → g ≡ g'
      → K.lock x rs f g ≡ K.lock x' rs' f' g'
  same x x' rs rs' f f' g g' a b c d = ap (λ y. K.lock y rs f g) a ∙ ap (λ y. K.lock x' y f g) b
      ∙ ap (λ y. K.lock x' rs' y g) c ∙ ap (K.lock x' rs' f') d

  pub idle_in : (i j : ℕ) → i ≢ j → (us : List ℕ) (h : Hold) (o : Option Call) → IsThere j o
      → K.role_in i us h o ≡ K.idle h
  idle_in i j ne us h None e = K.none i us h
  idle_in i j ne us h (Some c) e = K.away i us h c (λ f. ne (sym f ∙ e))

  -- what a thread is to a lock is the same, where its call, its holds and those that it has taken are
  pub role_stays : (s u : State) (j x : ℕ) → call_at u x ≡ call_at s x → taken_by u.wakes x ≡ taken_by s.wakes x
      → hold_at u x j ≡ hold_at s x j → role_at u j x ≡ role_at s j x
  role_stays s u j x calls taken holds = ap (λ us. K.role_in j us (hold_at u x j) (call_at u x)) taken
      ∙ ap (λ h. K.role_in j (taken_by s.wakes x) h (call_at u x)) holds
      ∙ ap (K.role_in j (taken_by s.wakes x) (hold_at s x j)) calls

  -- one in a call at a lock plays its part there
  pub role_now : (s : State) (t : ℕ) (us : List ℕ) (c : Call) (k : C) → call_at s t ≡ Some c → taken_by s.wakes t ≡ us
      → c.core ≡ K.core k → role_at s c.lock t ≡ K.plays c.others c.spot us k
  role_now s t us c k here taken e = ap (K.role_in c.lock (taken_by s.wakes t) (hold_at s t c.lock)) here
      ∙ K.here c.lock (taken_by s.wakes t) (hold_at s t c.lock) c k e refl ∙ ap (λ vs. K.plays c.others c.spot vs k)
      taken

  -- and it is so in the list of all
  pub in_its_place : (s : State) (t : ℕ) (c : Call) (k : C) → t < length s.calls → call_at s t ≡ Some c
      → c.core ≡ K.core k → slice_get (roles_at s c.lock) t ≡ Some (K.plays c.others c.spot (taken_by s.wakes t) k)
  in_its_place s t c k low here e = get-all (role_at s c.lock) (length s.calls) t low
      ∙ ap Some (role_now s t (taken_by s.wakes t) c k here refl e)

  module _ (j : ℕ) (s u : State) (h : Elsewhere j s u) (i : ℕ) (ne : i ≢ j) where
    role_same : (x : ℕ) → role_at u i x ≡ role_at s i x
    role_same x =
        ap (λ o. K.role_in i (taken_by u.wakes x) o (call_at u x)) (h.holds x i ne)
        ∙ elim (h.calls x) [
          | inl a ↦ ap (λ us. K.role_in i us (hold_at s x i) (call_at u x)) a.1
              ∙ ap (K.role_in i (taken_by s.wakes x) (hold_at s x i)) a.0
          | inr b ↦ idle_in i j ne (taken_by u.wakes x) (hold_at s x i) (call_at u x) b.1
              ∙ sym (idle_in i j ne (taken_by s.wakes x) (hold_at s x i) (call_at s x) b.0)
        ]

    first_same : queue_at u (2 * i) ≡ queue_at s (2 * i)
    first_same = ap (λ k. threads_of (u.lot.queues k)) (omega arith) ∙ ap threads_of (h.queues i 0 ne (omega arith))
        ∙ ap (λ k. threads_of (s.lot.queues k)) (omega arith)

    pub same_elsewhere : shown u i ≡ shown s i
    same_elsewhere =
        same _ _ _ _ _ _ _ _ (h.words i ne)
        (ap (λ n. all (role_at u i) 0 n) h.threads ∙ same-all (role_at s i) (role_at u i) (length s.calls)
        (λ x b. role_same x))
        first_same (ap threads_of (h.queues i 1 ne (omega arith)))

-- ANOTHER LOCK, OF ANY KIND

-- a lock of a kind is one that there is
pub within_kinds : (kinds : List LockKind) (i : ℕ) (m : Manner) → manner_of (slice_get kinds i) ≡ Some m
    → i < length kinds
within_kinds kinds i m e = go (slice_get kinds i) refl
  where
    go : (o : Option LockKind) → slice_get kinds i ≡ o → i < length kinds
    go (Some k) is = slice_get_within kinds i k is
    go None is = absurd (none-some m (sym (ap manner_of is) ∙ e))

pub elsewhere : (j : ℕ) (s u : State) → Elsewhere j s u → (i : ℕ) → i ≢ j → lock_at u i ≡ lock_at s i
elsewhere j s u h i ne = ap (λ ks. any_lock (slice_get ks i) u i) h.kinds ∙ go (manner_of (slice_get s.kinds i))
  where
    go : (o : Option Manner) → lock_as o u i ≡ lock_as o s i
    go None = ap Rw (same_elsewhere of_rws j s u h i ne)
    go (Some AsRw) = ap Rw (same_elsewhere of_rws j s u h i ne)
    go (Some AsMutex) = ap Mx (same_elsewhere of_mutexes j s u h i ne)

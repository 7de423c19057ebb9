-- A lock's lists have exactly the threads that wait there.
use Rattle.std.proofs.Common.{◌≡◌, ◌≢◌, ℕ, ◌==◌, ◌&&◌, inl, inr, false, List, [], ◌∷◌, length, Option, Some, None}
use Rattle.std.proofs.Common.{slice_get, refl, sym, ap, ◌∙◌, subst, arith, Bool}
use Rattle.std.specs.Option.{option_and_then, option_map_or}
use Rattle.std.proofs.lemmas.Bool.{cases_eq, cases_lt, eq-eqb, ne_eqb}
use Rattle.std.proofs.lemmas.Option.{slice_get_past}
use Rattle.parking_lot_core_model.specs.declared.place.Waiter.{Waiter}
use Rattle.parking_lot_core_model.specs.declared.parking.ParkToken.{ParkToken}
use Rattle.parking_lot_core_model.specs.Machine.{threads_of}
use Rattle.parking_lot_rules.specs.Roles.{Idle}
use Rattle.parking_lot_rules.specs.Classes.{Waiting1, Waiting2, bit, weight}
use Rattle.parking_lot_rules.specs.Lists.{at_index, occurs}
use Rattle.parking_lot_rules.specs.Mutex as mutex
use Rattle.parking_lot_rules.specs.Any.{Rw, AnySound}
use Rattle.parking_lot_protocol.specs.declared.mutex_phase.MutexPhase.{MutexPhase}
use Rattle.parking_lot_protocol.specs.declared.rw_phase.RwPhase.{RwPhase}
use Rattle.parking_lot_protocol.specs.RwRules as of_rw
use Rattle.parking_lot_protocol.specs.declared.act.CoreAnswer.{CoreAnswer}
use Rattle.parking_lot_protocol_rw.specs.UpgradeRoles as of_upgrade
use Rattle.parking_lot_protocol_rw.specs.declared.upgrade_phase.Hold.{Hold as Kept}
use Rattle.parking_lot_protocol_rw.specs.declared.upgrade_phase.Release.{Release}
use Rattle.parking_lot_protocol_rw.specs.declared.upgrade_phase.UpgradePhase.{UpgradePhase}
use Rattle.parking_lot_machine_calls.specs.CallRoles.{rw_core_role, mutex_role}
use Rattle.parking_lot_machine_calls.specs.Stances.{seeks_stance, upgrade_stance, late_rw_stance}
use Rattle.parking_lot_machine.proofs.KindTable.{RwCall, Simple, Upgradable, rw_call, Tardy}
use Rattle.parking_lot_machine_calls.specs.Kinds.{AsMutex, manner_of, Manner, AsRw}
use Rattle.parking_lot_machine_calls.specs.declared.seat.Hold.{Hold}
use Rattle.parking_lot_machine_calls.specs.declared.seat.QueuePosition.{QueuePosition}
use Rattle.parking_lot_machine_calls.specs.declared.seat.LatePhase.{LatePhase}
use Rattle.parking_lot_machine_calls.specs.declared.seat.Core.{Core}
use Rattle.parking_lot_machine_calls.specs.declared.open_call.Call.{Call}
use Rattle.parking_lot_machine.specs.RowFits.{FitsTogether, Awaits}
use Rattle.parking_lot_machine_calls.specs.CallKinds.{IsOfKind, IsOfManner}
use Rattle.parking_lot_machine.specs.Rows.{State, lock_as, call_at, first_key, hold_at, lock_at, mutex_at, queue_at}
use Rattle.parking_lot_machine.specs.Rows.{rw_lock_at, second_key, taken_by}
use Rattle.parking_lot_machine_calls.specs.CallRoles.{late_role, mutex_spot, owned_of, owns_mutex, rw_spot}
use Rattle.parking_lot_machine.specs.SoundLaws.{ListsAreWaiters, waits_as, waits_in}
use Rattle.parking_lot_machine_calls.specs.Stances.{late_stance, mutex_stance, rw_stance, stance}
use Rattle.parking_lot_machine.proofs.KindTable.{Kind, MutexCall, Plain, Late, mutex_call, mutex_plays, of_mutexes}
use Rattle.parking_lot_machine.proofs.KindTable.{of_rws, role_at, roles_at}
use Rattle.parking_lot_rules.proofs.Everybody.{get-all, past}
use Rattle.parking_lot_machine_calls.specs.declared.late_rw.LateRwPhase.{LateRwPhase}
use Rattle.parking_lot_machine_calls.specs.declared.late_rw.RwSleeper.{RwSleeper}
use Rattle.parking_lot_machine_calls.specs.LateRoles.{late_rw_role}
use Rattle.parking_lot_machine_calls.specs.CallViews.{HasSlept, IsLateAsSlept, IsLateInOrder}
use Rattle.parking_lot_machine.proofs.Sleepers.{by_sleeper, draining, seeking, upgrading, wanting}
use Rattle.parking_lot_machine.proofs.Viewing.{as_slept}
use Rattle.parking_lot_protocol.specs.declared.rw_phase.LockMode.{LockMode}

-- BY PHASES

rw_first : (n : ℕ) (at : QueuePosition) (us : List ℕ) (p : RwPhase) → weight Waiting1 (of_rw.role n (rw_spot at) us p)
    ≡ bit (waits_as 0 at (rw_stance p))
unfolding weight
rw_first n QueuePosition.Listed us (RwPhase.Sleeps want) = refl
rw_first n (QueuePosition.Off by said) us (RwPhase.Sleeps want) = refl
rw_first n QueuePosition.Listed us (RwPhase.DrainSleeps rounds) = refl
rw_first n (QueuePosition.Off by said) us (RwPhase.DrainSleeps rounds) = refl
rw_first n at us p = refl

rw_second : (n : ℕ) (at : QueuePosition) (us : List ℕ) (p : RwPhase) → weight Waiting2 (of_rw.role n (rw_spot at) us p)
    ≡ bit (waits_as 1 at (rw_stance p))
unfolding weight
rw_second n QueuePosition.Listed us (RwPhase.Sleeps want) = refl
rw_second n (QueuePosition.Off by said) us (RwPhase.Sleeps want) = refl
rw_second n QueuePosition.Listed us (RwPhase.DrainSleeps rounds) = refl
rw_second n (QueuePosition.Off by said) us (RwPhase.DrainSleeps rounds) = refl
rw_second n at us p = refl

-- and so of a call of the upgradable hold
seeks_weigh : (n : ℕ) (at : QueuePosition) (us : List ℕ) (q : RwPhase)
    → (weight Waiting1 (of_upgrade.role n (rw_spot at) us (UpgradePhase.Seeks (record { phase = q }))) ≡ bit
    (waits_as 0 at (seeks_stance q)))
    × (weight Waiting2 (of_upgrade.role n (rw_spot at) us (UpgradePhase.Seeks (record { phase = q }))) ≡ bit
    (waits_as 1 at (seeks_stance q)))
unfolding weight
seeks_weigh n QueuePosition.Listed us (RwPhase.Sleeps want) = (refl, refl)
seeks_weigh n (QueuePosition.Off by said) us (RwPhase.Sleeps want) = (refl, refl)
seeks_weigh n QueuePosition.Listed us (RwPhase.DrainSleeps rounds) = (refl, refl)
seeks_weigh n (QueuePosition.Off by said) us (RwPhase.DrainSleeps rounds) = (refl, refl)
seeks_weigh n at us q = (refl, refl)

drains_weigh : (n : ℕ) (at : QueuePosition) (us : List ℕ) (q : RwPhase)
    → (weight Waiting1 (of_upgrade.role n (rw_spot at) us (UpgradePhase.Drains (record { phase = q }))) ≡ bit
    (waits_as 0 at (rw_stance q)))
    × (weight Waiting2 (of_upgrade.role n (rw_spot at) us (UpgradePhase.Drains (record { phase = q }))) ≡ bit
    (waits_as 1 at (rw_stance q)))
unfolding weight
drains_weigh n QueuePosition.Listed us (RwPhase.Sleeps want) = (refl, refl)
drains_weigh n (QueuePosition.Off by said) us (RwPhase.Sleeps want) = (refl, refl)
drains_weigh n QueuePosition.Listed us (RwPhase.DrainSleeps rounds) = (refl, refl)
drains_weigh n (QueuePosition.Off by said) us (RwPhase.DrainSleeps rounds) = (refl, refl)
drains_weigh n at us q = (refl, refl)

frees_weigh : (n : ℕ) (at : QueuePosition) (us : List ℕ) (r : Release) (q : RwPhase)
    → (weight Waiting1 (of_upgrade.role n (rw_spot at) us (UpgradePhase.Frees r (record { phase = q }))) ≡ bit
    (waits_as 0 at (rw_stance q)))
    × (weight Waiting2 (of_upgrade.role n (rw_spot at) us (UpgradePhase.Frees r (record { phase = q }))) ≡ bit
    (waits_as 1 at (rw_stance q)))
unfolding weight
frees_weigh n QueuePosition.Listed us r (RwPhase.Sleeps want) = (refl, refl)
frees_weigh n (QueuePosition.Off by said) us r (RwPhase.Sleeps want) = (refl, refl)
frees_weigh n QueuePosition.Listed us r (RwPhase.DrainSleeps rounds) = (refl, refl)
frees_weigh n (QueuePosition.Off by said) us r (RwPhase.DrainSleeps rounds) = (refl, refl)
frees_weigh n at us r q = (refl, refl)

owes_weigh : (n : ℕ) (at : QueuePosition) (us : List ℕ) (kept : Kept) (end : CoreAnswer) (q : RwPhase)
    → (weight Waiting1 (of_upgrade.role n (rw_spot at) us (UpgradePhase.Owes kept end (record { phase = q }))) ≡ bit
    (waits_as 0 at (rw_stance q)))
    × (weight Waiting2 (of_upgrade.role n (rw_spot at) us (UpgradePhase.Owes kept end (record { phase = q }))) ≡ bit
    (waits_as 1 at (rw_stance q)))
unfolding weight
owes_weigh n QueuePosition.Listed us kept end (RwPhase.Sleeps want) = (refl, refl)
owes_weigh n (QueuePosition.Off by said) us kept end (RwPhase.Sleeps want) = (refl, refl)
owes_weigh n QueuePosition.Listed us kept end (RwPhase.DrainSleeps rounds) = (refl, refl)
owes_weigh n (QueuePosition.Off by said) us kept end (RwPhase.DrainSleeps rounds) = (refl, refl)
owes_weigh n at us kept end q = (refl, refl)

upgrade_weigh : (n : ℕ) (at : QueuePosition) (us : List ℕ) (p : UpgradePhase)
    → (weight Waiting1 (of_upgrade.role n (rw_spot at) us p) ≡ bit (waits_as 0 at (upgrade_stance p)))
    × (weight Waiting2 (of_upgrade.role n (rw_spot at) us p) ≡ bit (waits_as 1 at (upgrade_stance p)))
unfolding weight
upgrade_weigh n at us (UpgradePhase.Plain core) = (rw_first n at us core.phase, rw_second n at us core.phase)
upgrade_weigh n at us (UpgradePhase.Seeks core) = seeks_weigh n at us core.phase
upgrade_weigh n at us (UpgradePhase.Drains core) = drains_weigh n at us core.phase
upgrade_weigh n at us (UpgradePhase.Frees r core) = frees_weigh n at us r core.phase
upgrade_weigh n at us (UpgradePhase.Owes kept end core) = owes_weigh n at us kept end core.phase
upgrade_weigh n at us p = (refl, refl)

-- One whose moment has passed waits as it slept.
abbrev WeighsSo : ℕ → QueuePosition → List ℕ → RwSleeper → Type 0
WeighsSo n at us k =
    (weight Waiting1 (late_rw_role n (rw_spot at) us (LateRwPhase.Expires k)) ≡ bit
    (waits_as 0 at (late_rw_stance (LateRwPhase.Expires k))))
    × (weight Waiting2 (late_rw_role n (rw_spot at) us (LateRwPhase.Expires k)) ≡ bit
    (waits_as 1 at (late_rw_stance (LateRwPhase.Expires k))))
    × (weight Waiting1 (late_rw_role n (rw_spot at) us (LateRwPhase.Quits k)) ≡ bit
    (waits_as 0 at (late_rw_stance (LateRwPhase.Quits k))))
    × (weight Waiting2 (late_rw_role n (rw_spot at) us (LateRwPhase.Quits k)) ≡ bit
    (waits_as 1 at (late_rw_stance (LateRwPhase.Quits k))))

wanting_weighs : (n : ℕ) (at : QueuePosition) (us : List ℕ) (want : LockMode) → WeighsSo n at us (wanting want)
unfolding weight
wanting_weighs n QueuePosition.Listed us want = (refl, refl, refl, refl)
wanting_weighs n (QueuePosition.Off by said) us want = (refl, refl, refl, refl)

draining_weighs : (n : ℕ) (at : QueuePosition) (us : List ℕ) (rounds : ℕ) → WeighsSo n at us (draining rounds)
unfolding weight
draining_weighs n QueuePosition.Listed us rounds = (refl, refl, refl, refl)
draining_weighs n (QueuePosition.Off by said) us rounds = (refl, refl, refl, refl)

seeking_weighs : (n : ℕ) (at : QueuePosition) (us : List ℕ) (want : LockMode) → WeighsSo n at us (seeking want)
unfolding weight
seeking_weighs n QueuePosition.Listed us want = (refl, refl, refl, refl)
seeking_weighs n (QueuePosition.Off by said) us want = (refl, refl, refl, refl)

upgrading_weighs : (n : ℕ) (at : QueuePosition) (us : List ℕ) (rounds : ℕ) → WeighsSo n at us (upgrading rounds)
unfolding weight
upgrading_weighs n QueuePosition.Listed us rounds = (refl, refl, refl, refl)
upgrading_weighs n (QueuePosition.Off by said) us rounds = (refl, refl, refl, refl)

slept_weighs : (n : ℕ) (at : QueuePosition) (us : List ℕ) (k : RwSleeper) → HasSlept k → WeighsSo n at us k
slept_weighs n at us k h = by_sleeper (WeighsSo n at us) (wanting_weighs n at us) (draining_weighs n at us)
    (λ want i. seeking_weighs n at us want) (upgrading_weighs n at us) k h.1 h.0

-- and one that was taken and is back waits no more
abbrev TakenWeighs : ℕ → QueuePosition → List ℕ → ℕ → Bool → RwSleeper → Type 0
TakenWeighs n at us by handed k =
    (weight Waiting1 (late_rw_role n (rw_spot at) us (LateRwPhase.WasTaken k by handed)) ≡ bit
    (waits_as 0 at (late_rw_stance (LateRwPhase.WasTaken k by handed))))
    × (weight Waiting2 (late_rw_role n (rw_spot at) us (LateRwPhase.WasTaken k by handed)) ≡ bit
    (waits_as 1 at (late_rw_stance (LateRwPhase.WasTaken k by handed))))

taken_weighs : (n : ℕ) (at : QueuePosition) (us : List ℕ) (k : RwSleeper) (by : ℕ) (handed : Bool) → HasSlept k
    → TakenWeighs n at us by handed k
unfolding weight
taken_weighs n at us k by handed h = by_sleeper (TakenWeighs n at us by handed) (λ want. (refl, refl))
    (λ rounds. (refl, refl)) (λ want i. (refl, refl)) (λ rounds. (refl, refl)) k h.1 h.0

tardy_weighs : (n : ℕ) (at : QueuePosition) (us : List ℕ) (p : LateRwPhase) → IsLateInOrder p
    → (weight Waiting1 (late_rw_role n (rw_spot at) us p) ≡ bit (waits_as 0 at (late_rw_stance p)))
    × (weight Waiting2 (late_rw_role n (rw_spot at) us p) ≡ bit (waits_as 1 at (late_rw_stance p)))
unfolding weight
tardy_weighs n at us (LateRwPhase.Expires k) h = let w = slept_weighs n at us k h in (w.0, w.1)
tardy_weighs n at us (LateRwPhase.Quits k) h = let w = slept_weighs n at us k h in (w.2, w.3)
tardy_weighs n at us (LateRwPhase.WasTaken k by handed) h = taken_weighs n at us k by handed h
tardy_weighs n at us p h = (refl, refl)

rw_weighs_first : (n : ℕ) (at : QueuePosition) (us : List ℕ) (k : RwCall) → IsLateAsSlept (rw_call k)
    → weight Waiting1 (rw_core_role n at us (rw_call k)) ≡ bit (waits_as 0 at (stance (rw_call k)))
rw_weighs_first n at us (Simple k) h = rw_first n at us k.phase
rw_weighs_first n at us (Upgradable k) h = (upgrade_weigh n at us k.phase).0
rw_weighs_first n at us (Tardy p) h = (tardy_weighs n at us p h).0

rw_weighs_second : (n : ℕ) (at : QueuePosition) (us : List ℕ) (k : RwCall) → IsLateAsSlept (rw_call k)
    → weight Waiting2 (rw_core_role n at us (rw_call k)) ≡ bit (waits_as 1 at (stance (rw_call k)))
rw_weighs_second n at us (Simple k) h = rw_second n at us k.phase
rw_weighs_second n at us (Upgradable k) h = (upgrade_weigh n at us k.phase).1
rw_weighs_second n at us (Tardy p) h = (tardy_weighs n at us p h).1

mutex_first : (at : QueuePosition) (us : List ℕ) (p : MutexPhase)
    → mutex.weight mutex.Waiting (mutex_role (mutex_spot at) us p) ≡ bit (waits_as 0 at (mutex_stance p))
unfolding mutex.weight
mutex_first QueuePosition.Listed us MutexPhase.Sleeps = refl
mutex_first (QueuePosition.Off by said) us MutexPhase.Sleeps = refl
mutex_first at us p = refl

-- nobody waits in a second list of a mutex
mutex_never : (at : QueuePosition) (p : MutexPhase) → waits_as 1 at (mutex_stance p) ≡ false
mutex_never QueuePosition.Listed MutexPhase.Sleeps = refl
mutex_never (QueuePosition.Off by said) MutexPhase.Sleeps = refl
mutex_never at p = refl

no_token : (p : MutexPhase) (token : ParkToken) → Awaits 1 token (mutex_stance p) → ⊥
no_token MutexPhase.Rests token e = omega (arith, e.0)
no_token MutexPhase.Sleeps token e = omega (arith, e.0)
no_token p token e = e

late_first : (at : QueuePosition) (p : LatePhase) → mutex.weight mutex.Waiting (late_role (mutex_spot at) p) ≡ bit
    (waits_as 0 at (late_stance p))
unfolding mutex.weight
late_first QueuePosition.Listed LatePhase.Expires = refl
late_first (QueuePosition.Off by said) LatePhase.Expires = refl
late_first at p = refl

late_never : (at : QueuePosition) (p : LatePhase) → waits_as 1 at (late_stance p) ≡ false
late_never QueuePosition.Listed LatePhase.Expires = refl
late_never (QueuePosition.Off by said) LatePhase.Expires = refl
late_never at p = refl

late_token : (p : LatePhase) (token : ParkToken) → Awaits 1 token (late_stance p) → ⊥
late_token LatePhase.Expires token e = omega (arith, e.0)
late_token LatePhase.Quits token e = omega (arith, e.0)
late_token p token e = e

-- in time or late
call_first : (at : QueuePosition) (us : List ℕ) (k : MutexCall) → mutex.weight mutex.Waiting (mutex_plays at us k) ≡ bit
    (waits_as 0 at (stance (mutex_call k)))
call_first at us (Plain k) = mutex_first at us k.phase
call_first at us (Late p) = late_first at p

call_never : (at : QueuePosition) (k : MutexCall) → waits_as 1 at (stance (mutex_call k)) ≡ false
call_never at (Plain k) = mutex_never at k.phase
call_never at (Late p) = late_never at p

call_token : (k : MutexCall) (token : ParkToken) → Awaits 1 token (stance (mutex_call k)) → ⊥
call_token (Plain k) token e = no_token k.phase token e
call_token (Late p) token e = late_token p token e

-- one that is in no call waits nowhere
idle_first : (h : Hold) → weight Waiting1 (record { owns = owned_of h; does = Idle }) ≡ 0
unfolding weight
idle_first h = refl

idle_second : (h : Hold) → weight Waiting2 (record { owns = owned_of h; does = Idle }) ≡ 0
unfolding weight
idle_second h = refl

idle_mutex : (h : Hold) → mutex.weight mutex.Waiting (record { owns = owns_mutex h; does = mutex.Idle }) ≡ 0
unfolding mutex.weight
idle_mutex h = refl

-- AT A LOCK

module _ (s : State) (h : FitsTogether s) (i : ℕ) where
  -- what a class of roles weighs, where it weighs what the stance says, and nothing of an idle thread
  module _ {C R L : Type 0} (K : Kind C R L) (weighs : R → ℕ) (k : ℕ)
      (only : (x : Core) → IsOfKind (slice_get s.kinds i) x → (q : C) × (x ≡ K.core q))
      (nothing : (x : Hold) → weighs (K.idle x) ≡ 0)
      (as_stands : (n : ℕ) (at : QueuePosition) (us : List ℕ) (q : C) → IsLateAsSlept (K.core q)
      → weighs (K.plays n at us q) ≡ bit (waits_as k at (stance (K.core q)))) where
    by_role : (t : ℕ) (o : Option Call) → call_at s t ≡ o → (us : List ℕ) (x : Hold)
        → weighs (K.role_in i us x o) ≡ bit
        (option_map_or (λ (c : Call). (c.lock == i) && waits_as k c.spot (stance c.core)) o false)
    by_role t None e us x = ap weighs (K.none i us x) ∙ nothing x
    by_role t (Some c) e us x = elim (cases_eq c.lock i) [
      | inl same ↦
          let q = only c.core (subst (λ j. IsOfKind (slice_get s.kinds j) c.core) same (h.rules.kinds t c e)) in
          ap weighs (K.here i us x c q.0 q.1 same)
          ∙ as_stands c.others c.spot us q.0 (subst IsLateAsSlept q.1 (as_slept s h t c e))
          ∙ sym (ap (λ y. bit (waits_as k c.spot (stance y))) q.1)
          ∙ sym (ap (λ b. bit (b && waits_as k c.spot (stance c.core))) (eq-eqb c.lock i same))
      | inr ne ↦ ap weighs (K.away i us x c ne) ∙ nothing x
          ∙ sym (ap (λ b. bit (b && waits_as k c.spot (stance c.core))) (ne_eqb c.lock i ne))
    ]

    -- of all threads, and beyond the last
    by_thread : (t : ℕ) → at_index weighs (slice_get (roles_at K s i) t) ≡ bit (waits_in s i k t)
    by_thread t = elim (cases_lt t (length s.calls)) [
      | inl low ↦ ap (at_index weighs) (get-all (role_at K s i) (length s.calls) t low)
          ∙ by_role t (call_at s t) refl (taken_by s.wakes t) (hold_at s t i)
      | inr high ↦ ap (at_index weighs) (past (role_at K s i) (length s.calls) t high)
          ∙ sym (ap (λ o. bit
          (option_map_or (λ (c : Call). (c.lock == i) && waits_as k c.spot (stance c.core)) o false))
          (ap (option_and_then (λ c. c)) (slice_get_past s.calls t high)))
    ]

  module _ (is : lock_at s i ≡ Rw (rw_lock_at s i)) (of : manner_of (slice_get s.kinds i) ≢ Some AsMutex) where
    rw_only : (x : Core) → IsOfKind (slice_get s.kinds i) x → (q : RwCall) × (x ≡ rw_call q)
    rw_only (Core.Rw q) kinds = (Simple q, refl)
    rw_only (Core.Upgrade q) kinds = (Upgradable q, refl)
    rw_only (Core.LateRw p) kinds = (Tardy p, refl)
    rw_only (Core.Mutex q) kinds = absurd (of kinds)
    rw_only (Core.Late p) kinds = absurd (of kinds)

    rw_lists : (t : ℕ) → (occurs t (queue_at s (first_key i)) ≡ bit (waits_in s i 0 t))
        × (occurs t (queue_at s (second_key i)) ≡ bit (waits_in s i 1 t))
    rw_lists t =
        let sound = subst AnySound is (h.rules.sound.sound i) in (
          sound.waiting1.each t ∙ by_thread of_rws (weight Waiting1) 0 rw_only idle_first
              (λ n at us q slept. rw_weighs_first n at us q slept) t,
          sound.waiting2.each t ∙ by_thread of_rws (weight Waiting2) 1 rw_only idle_second
              (λ n at us q slept. rw_weighs_second n at us q slept) t,
        )

  module _ (of : manner_of (slice_get s.kinds i) ≡ Some AsMutex) where
    -- a call at a mutex is a mutex's
    mutex_only : (x : Core) → IsOfKind (slice_get s.kinds i) x → (q : MutexCall) × (x ≡ mutex_call q)
    mutex_only x kinds = of_mutexes.only x (subst (λ (o : Option Manner). IsOfManner o x) of kinds)

    mutex_list : (t : ℕ) → occurs t (queue_at s (first_key i)) ≡ bit (waits_in s i 0 t)
    mutex_list t =
        let sound = subst AnySound (ap (λ k. lock_as k s i) of) (h.rules.sound.sound i) in
        sound.waiting.each t ∙ by_thread of_mutexes (mutex.weight mutex.Waiting) 0 mutex_only idle_mutex
        (λ n at us q slept. call_first at us q) t

    -- its second list is empty
    module _ (w : Waiter) (at : slice_get (s.lot.queues (second_key i)) 0 ≡ Some w) where
      abbrev waits : Call
      waits = (h.lots.waits i 1 0 w (omega arith) at).0

      no_waiter : ⊥
      no_waiter =
          let its = h.lots.waits i 1 0 w (omega arith) at in
          let k = mutex_only waits.core
          (subst (λ j. IsOfKind (slice_get s.kinds j) waits.core) its.2 (h.rules.kinds w.thread waits its.1)) in
          call_token k.0 w.token (subst (λ z. Awaits 1 w.token (stance z)) k.1 its.4)

    empty : (ws : List Waiter) → s.lot.queues (second_key i) ≡ ws → ws ≡ []
    empty [] e = refl
    empty (w ∷ ws) e = absurd (no_waiter w (ap (λ q. slice_get q 0) e))

    nothing_weighs : (o : Option mutex.Role) → at_index (λ (x : mutex.Role). 0) o ≡ 0
    nothing_weighs None = refl
    nothing_weighs (Some x) = refl

    mutex_second : (t : ℕ) → occurs t (queue_at s (second_key i)) ≡ bit (waits_in s i 1 t)
    mutex_second t =
        ap (λ q. occurs t (threads_of q)) (empty (s.lot.queues (second_key i)) refl)
        ∙ sym (nothing_weighs (slice_get (mutex_at s i).roles t))
        ∙ by_thread of_mutexes (λ (x : mutex.Role). 0) 1 mutex_only (λ x. refl)
        (λ n at us q slept. sym (ap bit (call_never at q))) t

pub lists_are_waiters : (s : State) → FitsTogether s → ListsAreWaiters s
lists_are_waiters s h =
    record {
      first = λ i t. at_first i t (manner_of (slice_get s.kinds i)) refl;
      second = λ i t. at_second i t (manner_of (slice_get s.kinds i)) refl;
    }
  where
    not_mutex : (k : Option Manner) → k ≢ Some AsMutex → (o : Option Manner) → o ≡ k → o ≢ Some AsMutex
    not_mutex k ne o e f = ne (sym e ∙ f)

    no_mutex : None ≢ Some AsMutex
    no_mutex e = cc

    rw_no_mutex : Some AsRw ≢ Some AsMutex
    rw_no_mutex e = cc

    rw_at : (i : ℕ) (m : Option Manner) → manner_of (slice_get s.kinds i) ≡ m → m ≢ Some AsMutex
        → lock_as m s i ≡ Rw (rw_lock_at s i)
        → (t : ℕ) → (occurs t (queue_at s (first_key i)) ≡ bit (waits_in s i 0 t))
        × (occurs t (queue_at s (second_key i)) ≡ bit (waits_in s i 1 t))
    rw_at i m of ne is = rw_lists s h i (ap (λ k. lock_as k s i) of ∙ is)
        (not_mutex m ne (manner_of (slice_get s.kinds i)) of)

    at_first : (i t : ℕ) (m : Option Manner) → manner_of (slice_get s.kinds i) ≡ m
        → occurs t (queue_at s (first_key i)) ≡ bit (waits_in s i 0 t)
    at_first i t (Some AsRw) of = (rw_at i (Some AsRw) of rw_no_mutex refl t).0
    at_first i t None of = (rw_at i None of no_mutex refl t).0
    at_first i t (Some AsMutex) of = mutex_list s h i of t

    at_second : (i t : ℕ) (m : Option Manner) → manner_of (slice_get s.kinds i) ≡ m
        → occurs t (queue_at s (second_key i)) ≡ bit (waits_in s i 1 t)
    at_second i t (Some AsRw) of = (rw_at i (Some AsRw) of rw_no_mutex refl t).1
    at_second i t None of = (rw_at i None of no_mutex refl t).1
    at_second i t (Some AsMutex) of = mutex_second s h i of t

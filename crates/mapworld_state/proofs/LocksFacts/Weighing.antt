-- How much a thread's role counts at a lock is how it holds the lock.
use Rattle.std.proofs.Common.{◌≡◌, ◌≢◌, ℕ, zero, suc, ◌+◌, ◌<◌, ◌≤◌, inl, inr, true, false, ◌==◌, List, length, Option}
use Rattle.std.proofs.Common.{Some, None, slice_get, refl, sym, ap, ◌∙◌, subst, arith}
use Rattle.std.proofs.lemmas.Bool.{cases_Bool, false≢true, eqb-true, cond-true, cond-false}
use Rattle.std.proofs.lemmas.Option.{none-some}
use Rattle.lock_api_desk.specs.declared.mode.Mode.{Mode}
use Rattle.lock_api_desk.specs.declared.mode.Mode.TheVariants as held
use Rattle.lock_api_desk.specs.Guards.{is_mode}
use Rattle.parking_lot_protocol.specs.declared.rw_phase.LockMode.{LockMode}
use Rattle.parking_lot_protocol.specs.declared.rw_phase.AfterWake.{AfterWake}
use Rattle.parking_lot_protocol.specs.declared.rw_phase.Outcome.{Outcome}
use Rattle.parking_lot_protocol.specs.declared.rw_phase.RwPhase.{RwPhase}
use Rattle.parking_lot_protocol.specs.RwRules as of_rw
use Rattle.parking_lot_rules.specs.Classes.{Readers, bit, done, weight}
use Rattle.parking_lot_rules.specs.Roles.{Handed, Idle, Normal, Open, Phase}
use Rattle.parking_lot_machine_calls.specs.declared.calls.LockKind.TheVariants as kind
use Rattle.parking_lot_machine_calls.specs.declared.calls.OwnMode.{OwnMode}
use Rattle.parking_lot_machine_calls.specs.declared.open_call.Call.{Call}
use Rattle.parking_lot_machine_calls.specs.declared.seat.Core.{Core}
use Rattle.parking_lot_machine_calls.specs.declared.seat.Hold.{Hold}
use Rattle.parking_lot_machine_calls.specs.CallViews.{Weighs, rw_mode}
use Rattle.parking_lot_machine.specs.RowFits.{FitsTogether}
use Rattle.parking_lot_machine_calls.specs.CallKinds.{IsOfKind}
use Rattle.parking_lot_machine.specs.Rows.{State, call_at, hold_at, rw_role_at, rw_role_in, taken_by}
use Rattle.parking_lot_machine_calls.specs.CallRoles.{owned_of, rw_core_role, rw_spot}
use Rattle.parking_lot_machine_calls.specs.CallViews.{hold_mode}
use Rattle.mapworld_state.specs.Locks.Fits.{IsPlain, is_single, is_plain, late_plainly, yields_plainly}
use Rattle.mapworld_state.proofs.LocksFacts.Giving.{stay_weight}
use Rattle.parking_lot_machine_calls.specs.Calls.{is_timed}
use Rattle.parking_lot_machine_calls.specs.LateRoles.{late_rw_role}
use Rattle.parking_lot_machine_calls.specs.Kinds.{recursive_in}
use Rattle.parking_lot_machine.specs.RowFits.{IsPrepared}
use Rattle.parking_lot_protocol_rw.specs.UpgradeRoles as of_upgrade
use Rattle.parking_lot_protocol_rw.specs.UpgradeRules.{IsOwing, IsReady}
use Rattle.parking_lot_protocol_rw.specs.declared.upgrade_phase.Hold.{Hold as Kept}
use Rattle.parking_lot_protocol_rw.specs.declared.upgrade_phase.UpgradePhase.{UpgradePhase}
use Rattle.parking_lot_machine_calls.specs.declared.late_rw.LateRwPhase.{LateRwPhase}
use Rattle.parking_lot_machine_calls.specs.declared.late_rw.RwSleeper.{RwSleeper}
use Rattle.parking_lot_rules.specs.Roles.{Back, Late, Shares}
use Rattle.mapworld_state.specs.Locks.Views.{held_as, held_at}
use Rattle.mapworld_state.proofs.LocksFacts.Beginning.{differ, single_hold}
use Rattle.mapworld_state.proofs.LocksFacts.Ending.{held_by_role, idle_mode}
use Rattle.mapworld_state.proofs.LocksFacts.Ending.{not_mutex}
use Rattle.mapworld_state.proofs.LocksFacts.Stepping.{call_plain}
use Rattle.std.proofs.Common.{Bool}
use Rattle.parking_lot_protocol.specs.MutexRules.{mark_of}

none : {n : ℕ} → n ≡ 0 → n ≤ 1
none e = omega (arith, e)

once : {n : ℕ} → n ≡ 1 → n ≤ 1
once e = omega (arith, e)

adds : (a b : ℕ) → a ≤ 1 → b ≡ 0 → a + b ≤ 1
adds a b few nothing = omega (arith, few, nothing)

-- NOBODY READS TWICE

rest_reads : (rest : AfterWake) (d : Phase) → done Readers d ≡ 0
    → weight Readers (record { owns = of_rw.owned_at_last 0 rest; does = d }) ≤ 1
unfolding weight
rest_reads AfterWake.FreedShared d e = adds 0 (done Readers d) (omega arith) e
rest_reads AfterWake.FreedExclusive d e = adds 0 (done Readers d) (omega arith) e
rest_reads AfterWake.Downgraded d e = adds 1 (done Readers d) (omega arith) e
rest_reads AfterWake.AgainShared d e = adds 0 (done Readers d) (omega arith) e
rest_reads AfterWake.AgainExclusive d e = adds 0 (done Readers d) (omega arith) e

phase_reads : (at : of_rw.QueuePosition) (us : List ℕ) (p : RwPhase) → weight Readers (of_rw.role 0 at us p) ≤ 1
unfolding weight
phase_reads at us (RwPhase.Locking want) = none refl
phase_reads at us (RwPhase.Trying want) = none refl
phase_reads at us RwPhase.UnlockingShared = once refl
phase_reads at us (RwPhase.UnlockingExclusive fair) = none refl
phase_reads at us RwPhase.Downgrading = none refl
phase_reads at us RwPhase.BumpingShared = once refl
phase_reads at us RwPhase.BumpingExclusive = none refl
phase_reads at us (RwPhase.Loads a) = none refl
phase_reads at us (RwPhase.Admits a word) = none refl
phase_reads at us (RwPhase.Spins a) = none refl
phase_reads at us (RwPhase.SetParked a word) = none refl
phase_reads at us (RwPhase.Enters want woken) = none refl
phase_reads at us (RwPhase.Checks want woken) = none refl
phase_reads at us (RwPhase.Retreats want woken) = none refl
phase_reads at us (RwPhase.Appends want) = none refl
phase_reads at us (RwPhase.Rests want) = none refl
phase_reads of_rw.Listed us (RwPhase.Sleeps want) = none refl
phase_reads (of_rw.Off by Open) us (RwPhase.Sleeps want) = none refl
phase_reads (of_rw.Off by Normal) us (RwPhase.Sleeps want) = none refl
phase_reads (of_rw.Off by Handed) us (RwPhase.Sleeps (LockMode.Shared recursive)) = once refl
phase_reads (of_rw.Off by Handed) us (RwPhase.Sleeps LockMode.Exclusive) = none refl
phase_reads at us (RwPhase.DrainLoads d) = none refl
phase_reads at us (RwPhase.DrainSpins d) = none refl
phase_reads at us (RwPhase.DrainSetParked d word) = none refl
phase_reads at us (RwPhase.DrainEnters d) = none refl
phase_reads at us (RwPhase.DrainChecks d) = none refl
phase_reads at us (RwPhase.DrainRetreats d) = none refl
phase_reads at us (RwPhase.DrainAppends rounds) = none refl
phase_reads at us (RwPhase.DrainRests rounds) = none refl
phase_reads of_rw.Listed us (RwPhase.DrainSleeps rounds) = none refl
phase_reads (of_rw.Off by mark) us (RwPhase.DrainSleeps rounds) = none refl
phase_reads at us (RwPhase.TryLoads want) = none refl
phase_reads at us (RwPhase.TryAdmits want word left) = none refl
phase_reads at us (RwPhase.Refuses want) = none refl
phase_reads at us (RwPhase.BumpLoads (LockMode.Shared recursive)) = once refl
phase_reads at us (RwPhase.BumpLoads LockMode.Exclusive) = none refl
phase_reads at us (RwPhase.Relocks want) = none refl
phase_reads at us (RwPhase.Unshares rest) = once refl
phase_reads at us (RwPhase.EnterWriterWakeSection rest) = none refl
phase_reads at us (RwPhase.TakeWriter rest) = none refl
phase_reads at us (RwPhase.ClearWriterParked rest taken) = none refl
phase_reads at us (RwPhase.LeaveWriterWakeSection rest taken) = none refl
phase_reads at us (RwPhase.Unlocks fair rest) = none refl
phase_reads at us (RwPhase.LooksExclusive fair rest) = none refl
phase_reads at us RwPhase.Downgrades = none refl
phase_reads at us RwPhase.EnterWakeSection = once refl
phase_reads at us (RwPhase.Scans s) = rest_reads s.rest (of_rw.does at us (RwPhase.Scans s)) refl
phase_reads at us (RwPhase.Stores s left) = rest_reads s.rest (of_rw.does at us (RwPhase.Stores s left)) refl
phase_reads at us (RwPhase.Leaves rest count handed) =
    rest_reads rest (of_rw.does at us (RwPhase.Leaves rest count handed)) refl
phase_reads at us (RwPhase.Wakes rest count) = rest_reads rest (of_rw.does at us (RwPhase.Wakes rest count)) refl
phase_reads at us (RwPhase.Finishes rest) = rest_reads rest (of_rw.does at us (RwPhase.Finishes rest)) refl
phase_reads at us (RwPhase.Ends Outcome.Shared) = once refl
phase_reads at us (RwPhase.Ends Outcome.Exclusive) = none refl
phase_reads at us (RwPhase.Ends Outcome.Downgraded) = once refl
phase_reads at us (RwPhase.Ends Outcome.FreedShared) = none refl
phase_reads at us (RwPhase.Ends Outcome.FreedExclusive) = none refl
phase_reads at us RwPhase.Invalid = none refl

-- nor does one whose deadline has come
late_reads : (at : of_rw.QueuePosition) (us : List ℕ) (p : LateRwPhase) → late_plainly p ≡ true
    → weight Readers (late_rw_role 0 at us p) ≤ 1
unfolding weight
late_reads at us (LateRwPhase.Expires (RwSleeper.Simple k)) so =
    subst (λ n. n ≤ 1) (sym (stay_weight Late (of_rw.role 0 at us k.phase))) (phase_reads at us k.phase)
late_reads at us (LateRwPhase.Quits (RwSleeper.Simple k)) so =
    subst (λ n. n ≤ 1) (sym (stay_weight Back (of_rw.role 0 of_rw.Listed us k.phase)))
    (phase_reads of_rw.Listed us k.phase)
late_reads at us (LateRwPhase.WasTaken (RwSleeper.Simple k) by handed) so =
    subst (λ n. n ≤ 1) (sym (stay_weight Back (of_rw.role 0 (of_rw.Off by (mark_of handed)) us k.phase)))
    (phase_reads (of_rw.Off by (mark_of handed)) us k.phase)
late_reads at us LateRwPhase.Masks so = none refl
late_reads at us LateRwPhase.Leaves so = none refl
late_reads at us LateRwPhase.GivesUp so = none refl
late_reads at us (LateRwPhase.LeavesPending from) so = none refl
late_reads at us p so = absurd cc

owes_reads : (at : of_rw.QueuePosition) (us : List ℕ) (p : RwPhase) → IsOwing p
    → weight Readers (record { owns = Shares 0; does = of_rw.does at us p }) ≤ 1
unfolding weight
owes_reads at us RwPhase.EnterWakeSection ready = none refl
owes_reads at us (RwPhase.Scans s) ready = none refl
owes_reads at us (RwPhase.Stores s left) ready = none refl
owes_reads at us (RwPhase.Leaves rest count handed) ready = none refl
owes_reads at us (RwPhase.Wakes rest count) ready = none refl
owes_reads at us (RwPhase.Finishes rest) ready = none refl
owes_reads at us p ready = absurd ready

yields_reads : (at : of_rw.QueuePosition) (us : List ℕ) (p : UpgradePhase) → yields_plainly p ≡ true → IsReady p
    → weight Readers (of_upgrade.role 0 at us p) ≤ 1
unfolding weight
yields_reads at us (UpgradePhase.YieldLoads from) so ready = none refl
yields_reads at us (UpgradePhase.Yields from word) so ready = none refl
yields_reads at us (UpgradePhase.Owes Kept.Nothing answer core) so ready = owes_reads at us core.phase ready
yields_reads at us (UpgradePhase.Ends Kept.Nothing answer) so ready = none refl
yields_reads at us UpgradePhase.Invalid so ready = none refl
yields_reads at us p so ready = absurd cc

idle_reads : (h : Hold) → is_single h ≡ true → weight Readers (record { owns = owned_of h; does = Idle }) ≤ 1
unfolding weight
idle_reads (Hold.Shares zero) is = none refl
idle_reads (Hold.Shares (suc zero)) is = once refl
idle_reads (Hold.Shares (suc (suc n))) is = absurd (false≢true is)
idle_reads Hold.Excludes is = none refl
idle_reads Hold.Upgrades is = absurd (false≢true is)

never_so : (h : Hold) → is_single h ≡ true → held_as (hold_mode (Some kind.Rw) h) ≢ Some held.Upgradable
never_so (Hold.Shares zero) is e = none-some held.Upgradable e
never_so (Hold.Shares (suc n)) is e = differ (Some held.Shared) (Some held.Upgradable) (λ n. omega (arith, n)) e
never_so Hold.Excludes is e = differ (Some held.Exclusive) (Some held.Upgradable) (λ n. omega (arith, n)) e
never_so Hold.Upgrades is e = false≢true is

module _ (s : State) (h : FitsTogether s) (plain : IsPlain s) (i t : ℕ) where
  abbrev hold : Hold
  hold = hold_at s t i

  abbrev us : List ℕ
  us = taken_by s.wakes t

  -- its call is at another lock, or it is in none
  idle_in : (c : Call) → (c.lock == i) ≡ false
      → rw_role_in i us hold (Some c) ≡ record { owns = owned_of hold; does = Idle }
  idle_in c other = cond-false (c.lock == i) (rw_core_role c.others c.spot us c.core)
      (record { owns = owned_of hold; does = Idle }) other

  core_reads : (c : Call) → call_at s t ≡ Some c → (timed : Bool) (k : Core) → is_plain timed k ≡ true
      → IsOfKind (slice_get s.kinds c.lock) k → IsPrepared (recursive_in s.kinds c.lock) c.others k
      → weight Readers (rw_core_role 0 c.spot us k) ≤ 1
  core_reads c here timed (Core.Rw x) so of_kind ready = phase_reads (rw_spot c.spot) us x.phase
  core_reads c here timed (Core.Mutex x) so of_kind ready = absurd (not_mutex s c.lock plain.kinds of_kind)
  core_reads c here timed (Core.Late x) so of_kind ready = absurd (not_mutex s c.lock plain.kinds of_kind)
  core_reads c here true (Core.LateRw p) so of_kind ready = late_reads (rw_spot c.spot) us p so
  core_reads c here true (Core.Upgrade x) so of_kind ready = yields_reads (rw_spot c.spot) us x.phase so ready.1
  core_reads c here false k so of_kind ready = absurd cc

  reads_by : (o : Option Call) → call_at s t ≡ o → weight Readers (rw_role_in i us hold o) ≤ 1
  reads_by None e = idle_reads hold (single_hold s t i plain.single)
  reads_by (Some c) e = elim (cases_Bool (c.lock == i)) [
    | inr other ↦ subst (λ r. weight Readers r ≤ 1) (sym (idle_in c other))
        (idle_reads hold (single_hold s t i plain.single))
    | inl same ↦ subst (λ r. weight Readers r ≤ 1)
        (sym (cond-true (c.lock == i) (rw_core_role c.others c.spot us c.core)
        (record { owns = owned_of hold; does = Idle }) same))
        (subst (λ n. weight Readers (rw_core_role n c.spot us c.core) ≤ 1) (sym (plain.alone t c e))
        (core_reads c e (is_timed c.asked) c.core (plain.cores t c e) (h.rules.kinds t c e) (h.rules.prepared t c e)))
  ]

  pub reads_once : weight Readers (rw_role_at s i t) ≤ 1
  reads_once = reads_by (call_at s t) refl

  idle_never : t < length s.calls → rw_role_at s i t ≡ record { owns = owned_of hold; does = Idle }
      → held_at s i t ≢ Some held.Upgradable
  idle_never low role e = never_so hold (single_hold s t i plain.single)
      (sym (held_by_role s i t plain.kinds low ∙ ap (λ r. held_as (rw_mode r)) role ∙ ap held_as (idle_mode hold)) ∙ e)

  never_by : (o : Option Call) → call_at s t ≡ o → t < length s.calls → held_at s i t ≢ Some held.Upgradable
  never_by None e low = idle_never low (ap (rw_role_in i us hold) e)
  never_by (Some c) e low = elim (cases_Bool (c.lock == i)) [
    | inr other ↦ idle_never low (ap (rw_role_in i us hold) e ∙ idle_in c other)
    | inl same ↦ (λ u. call_plain s t c h plain e (ap (λ n. held_at s n t) (eqb-true c.lock i same) ∙ u))
  ]

  pub never_upgrades : t < length s.calls → held_at s i t ≢ Some held.Upgradable
  never_upgrades = never_by (call_at s t) refl

-- WEIGHTS

abbrev pub mode_weight : Mode → Option Mode → ℕ
mode_weight m None = 0
mode_weight m (Some a) = bit (is_mode m a)

abbrev pub pending_weight : Option OwnMode → ℕ
pending_weight None = 0
pending_weight (Some OwnMode.Shared) = 0
pending_weight (Some OwnMode.Upgradable) = 0
pending_weight (Some OwnMode.Pending) = 1
pending_weight (Some OwnMode.Exclusive) = 0

pub weighed : (o : Option OwnMode) (r u p w : ℕ) → Weighs r u p w o → r ≤ 1 → held_as o ≢ Some held.Upgradable
    → (r + u ≡ mode_weight held.Shared (held_as o)) × (w ≡ mode_weight held.Exclusive (held_as o))
    × (p ≡ pending_weight o)
weighed None r u p w (a, b, c, d) few ne = (omega (arith, a, b), d, c)
weighed (Some OwnMode.Shared) r u p w (a, b, c, d) few ne = (omega (arith, a, b, few), d, c)
weighed (Some OwnMode.Upgradable) r u p w h few ne = absurd (ne refl)
weighed (Some OwnMode.Pending) r u p w (a, b, c, d) few ne = (omega (arith, a, b), d, c)
weighed (Some OwnMode.Exclusive) r u p w (a, b, c, d) few ne = (omega (arith, a, b), d, c)

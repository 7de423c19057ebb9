-- A call that slept at a reader-writer lock before its moment passed: which phases there are, and what they say.
use Rattle.std.proofs.Common.{◌≡◌, ℕ, ◌==◌, cond, Bool, true, false, List, is_some, refl}
use Rattle.parking_lot_core_model.specs.declared.parking.ParkToken.{ParkToken}
use Rattle.parking_lot_core_model.specs.declared.parking.UnparkToken.{UnparkToken}
use Rattle.parking_lot_core_model.specs.declared.place.Waiter.{Waiter}
use Rattle.parking_lot_rules.specs.Classes.{bit}
use Rattle.parking_lot_protocol.specs.RwTable as rw_table
use Rattle.parking_lot_protocol.specs.declared.act.ActResult.{ActResult}
use Rattle.parking_lot_protocol.specs.declared.act.CoreAnswer.{CoreAnswer}
use Rattle.parking_lot_protocol.specs.declared.rw_phase.LockMode.{LockMode}
use Rattle.parking_lot_protocol.specs.declared.rw_phase.RwPhase.{RwPhase}
use Rattle.parking_lot_protocol_rw.specs.UpgradeRules as upgrade_rules
use Rattle.parking_lot_protocol_rw.specs.declared.upgrade_phase.Hold.TheVariants as upgrade_hold
use Rattle.parking_lot_protocol_rw.specs.declared.upgrade_phase.UpgradePhase.{UpgradePhase}
use Rattle.parking_lot_machine_calls.specs.CallViews.{IsReadySleeper}
use Rattle.parking_lot_machine.specs.RowFits.{IsPrepared, KnowsList, sleeper_prepared}
use Rattle.parking_lot_machine_calls.specs.CallKinds.{IsOfWorld}
use Rattle.parking_lot_machine_calls.specs.Stances.{Asleep, pending_from, rw_asleep, sleeper_asleep, sleeper_stance}
use Rattle.parking_lot_machine_calls.specs.Stances.{taken_count, upgrade_asleep}
use Rattle.parking_lot_machine_calls.specs.declared.late_rw.RwSleeper.{RwSleeper}
use Rattle.parking_lot_machine.proofs.KindTable.{as_call, rw_call, sleeper_next}

-- WHO SLEEPS

abbrev pub wanting : LockMode → RwSleeper
wanting want = RwSleeper.Simple (record { phase = RwPhase.Sleeps want })

abbrev pub draining : ℕ → RwSleeper
draining rounds = RwSleeper.Simple (record { phase = RwPhase.DrainSleeps rounds })

abbrev pub seeking : LockMode → RwSleeper
seeking want = RwSleeper.Upgradable (record { phase = UpgradePhase.Seeks (record { phase = RwPhase.Sleeps want }) })

abbrev pub upgrading : ℕ → RwSleeper
upgrading rounds =
    RwSleeper.Upgradable (record { phase = UpgradePhase.Drains (record { phase = RwPhase.DrainSleeps rounds }) })

frees_up : (q : RwPhase) → upgrade_rules.IsFreeing q → rw_asleep q ≡ true → ⊥
frees_up (RwPhase.Sleeps want) i e = i
frees_up (RwPhase.DrainSleeps rounds) i e = i
frees_up q i e = cc

owes_up : (q : RwPhase) → upgrade_rules.IsOwing q → rw_asleep q ≡ true → ⊥
owes_up (RwPhase.Sleeps want) i e = i
owes_up (RwPhase.DrainSleeps rounds) i e = i
owes_up q i e = cc

module _ (P : RwSleeper → Type 0) (wants : (want : LockMode) → P (wanting want))
    (drains : (rounds : ℕ) → P (draining rounds))
    (seeks : (want : LockMode) → want ≡ LockMode.Exclusive → P (seeking want))
    (upgrades : (rounds : ℕ) → P (upgrading rounds)) where
  by_simple : (q : RwPhase) → rw_asleep q ≡ true → P (RwSleeper.Simple (record { phase = q }))
  by_simple (RwPhase.Sleeps want) e = wants want
  by_simple (RwPhase.DrainSleeps rounds) e = drains rounds
  by_simple q e = absurd cc

  by_seeks : (q : RwPhase) → upgrade_rules.IsSeeking q → rw_asleep q ≡ true
      → P (RwSleeper.Upgradable (record { phase = UpgradePhase.Seeks (record { phase = q }) }))
  by_seeks (RwPhase.Sleeps want) i e = seeks want i
  by_seeks (RwPhase.DrainSleeps rounds) i e = absurd i
  by_seeks q i e = absurd cc

  by_drains : (q : RwPhase) → upgrade_rules.IsDraining q → rw_asleep q ≡ true
      → P (RwSleeper.Upgradable (record { phase = UpgradePhase.Drains (record { phase = q }) }))
  by_drains (RwPhase.DrainSleeps rounds) i e = upgrades rounds
  by_drains (RwPhase.Sleeps want) i e = absurd i
  by_drains q i e = absurd cc

  by_upgrade : (p : UpgradePhase) → upgrade_rules.IsReady p → IsOfWorld p → upgrade_asleep p ≡ true
      → P (RwSleeper.Upgradable (record { phase = p }))
  by_upgrade (UpgradePhase.Plain core) i o e = absurd o
  by_upgrade (UpgradePhase.Seeks core) i o e = by_seeks core.phase i.0 e
  by_upgrade (UpgradePhase.Drains core) i o e = by_drains core.phase i.0 e
  by_upgrade (UpgradePhase.Frees r core) i o e = absurd (frees_up core.phase i e)
  by_upgrade (UpgradePhase.Owes kept end core) i o e = absurd (owes_up core.phase i e)
  by_upgrade p i o e = absurd cc

  pub by_sleeper : (k : RwSleeper) → IsReadySleeper k → sleeper_asleep k ≡ true → P k
  by_sleeper (RwSleeper.Simple c) r e = by_simple c.phase e
  by_sleeper (RwSleeper.Upgradable c) r e = by_upgrade c.phase r.0 r.1 e

-- what a machine keeps of it says that it is one
pub ready_sleeper : (recursive : Bool) (n : ℕ) (k : RwSleeper) → sleeper_prepared recursive n k → IsReadySleeper k
ready_sleeper recursive n (RwSleeper.Simple c) h = tt
ready_sleeper recursive n (RwSleeper.Upgradable c) h = (h.1, h.2)

pub prepared_call : (recursive : Bool) (n : ℕ) (k : RwSleeper) → sleeper_prepared recursive n k
    → IsPrepared recursive n (rw_call (as_call k))
prepared_call recursive n (RwSleeper.Simple c) h = h
prepared_call recursive n (RwSleeper.Upgradable c) h = h

-- WHERE IT STANDS

-- it sleeps in the list that its deadline comes in
pub sleeps_there : (k : RwSleeper) → IsReadySleeper k → sleeper_asleep k ≡ true → (key : ℕ) × (park : ParkToken)
    × (sleeper_stance k ≡ Asleep key park) × (bit (is_some (pending_from k)) ≡ key)
sleeps_there k r e =
    by_sleeper (λ k. (key : ℕ) × (park : ParkToken) × (sleeper_stance k ≡ Asleep key park)
    × (bit (is_some (pending_from k)) ≡ key)) (λ want. (0, _, refl, refl)) (λ rounds. (1, _, refl, refl))
    (λ want i. (0, _, refl, refl)) (λ rounds. (1, _, refl, refl)) k r e

-- and has taken nobody
pub takes_nobody : (k : RwSleeper) → IsReadySleeper k → sleeper_asleep k ≡ true → taken_count (rw_call (as_call k)) ≡ 0
takes_nobody k r e = by_sleeper (λ k. taken_count (rw_call (as_call k)) ≡ 0) (λ want. refl) (λ rounds. refl)
    (λ want i. refl) (λ rounds. refl) k r e

-- WHERE IT IS WOKEN AFTER ALL

wants_on : (recursive : Bool) (n : ℕ) (want : LockMode) (b : Bool)
    → IsPrepared recursive n (rw_call (as_call (wanting want)))
    → IsPrepared recursive n
    (rw_call (as_call (RwSleeper.Simple
    (record { phase = cond b (rw_table.admits want true) (RwPhase.Loads (rw_table.begins want true)) }))))
wants_on recursive n want false h = (tt, h.1.0)
wants_on recursive n (LockMode.Shared again) true h = (tt, tt)
wants_on recursive n LockMode.Exclusive true h = (tt, h.1.1)

seeks_on : (recursive : Bool) (n : ℕ) (want : LockMode) (b : Bool) → want ≡ LockMode.Exclusive → n ≡ 0
    → IsPrepared recursive n
    (rw_call (as_call
    (RwSleeper.Upgradable
    (record {
      phase = cond b (UpgradePhase.Ends upgrade_hold.Upgradable CoreAnswer.Owned)
          (UpgradePhase.Seeks
          (record { phase = cond b (rw_table.admits want true) (RwPhase.Loads (rw_table.begins want true)) }));
    }))))
seeks_on recursive n want true i z = (z, tt, tt, tt)
seeks_on recursive n want false i z = (z, (i, tt), tt, tt)

pub woken_prepared : (recursive : Bool) (n : ℕ) (k : RwSleeper) (token : UnparkToken) → sleeper_asleep k ≡ true
    → sleeper_prepared recursive n k → IsPrepared recursive n (rw_call (sleeper_next k (ActResult.Woken token)))
woken_prepared recursive n k token e h =
    by_sleeper (λ k. sleeper_prepared recursive n k
    → IsPrepared recursive n (rw_call (sleeper_next k (ActResult.Woken token))))
    (λ want h. wants_on recursive n want (token.0 == 1) h) (λ rounds h. (tt, h.1))
    (λ want i h. seeks_on recursive n want (token.0 == 1) i h.0) (λ rounds h. (h.0, (tt, tt), tt, tt)) k
    (ready_sleeper recursive n k h) e h

wants_know : (want : LockMode) (b : Bool) (queues : ℕ → List Waiter) (j : ℕ)
    → KnowsList (rw_call
    (as_call (RwSleeper.Simple
    (record { phase = cond b (rw_table.admits want true) (RwPhase.Loads (rw_table.begins want true)) })))) queues j
wants_know want false queues j = tt
wants_know (LockMode.Shared again) true queues j = tt
wants_know LockMode.Exclusive true queues j = tt

seeks_know : (want : LockMode) (b : Bool) (queues : ℕ → List Waiter) (j : ℕ)
    → KnowsList (rw_call
    (as_call (RwSleeper.Upgradable
    (record {
      phase = cond b (UpgradePhase.Ends upgrade_hold.Upgradable CoreAnswer.Owned)
          (UpgradePhase.Seeks
          (record { phase = cond b (rw_table.admits want true) (RwPhase.Loads (rw_table.begins want true)) }));
    }))))
    queues j
seeks_know want true queues j = tt
seeks_know want false queues j = tt

pub woken_knows : (k : RwSleeper) (token : UnparkToken) (queues : ℕ → List Waiter) (j : ℕ) → IsReadySleeper k
    → sleeper_asleep k ≡ true → KnowsList (rw_call (sleeper_next k (ActResult.Woken token))) queues j
woken_knows k token queues j r e =
    by_sleeper (λ k. KnowsList (rw_call (sleeper_next k (ActResult.Woken token))) queues j)
    (λ want. wants_know want (token.0 == 1) queues j) (λ rounds. tt)
    (λ want i. seeks_know want (token.0 == 1) queues j) (λ rounds. tt) k r e

-- it has no other hold
pub no_hold : (recursive : Bool) (n : ℕ) (k : RwSleeper) → sleeper_asleep k ≡ true → sleeper_prepared recursive n k
    → n ≡ 0
no_hold recursive n k e h =
    by_sleeper (λ k. sleeper_prepared recursive n k → n ≡ 0) (λ want h. h.1.1) (λ rounds h. h.1) (λ want i h. h.0)
    (λ rounds h. h.0) k (ready_sleeper recursive n k h) e h

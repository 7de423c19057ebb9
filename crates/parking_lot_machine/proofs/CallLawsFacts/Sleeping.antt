-- A call that sleeps asks for nothing but to be woken.
use Rattle.std.proofs.Common.{◌≡◌, ℕ, refl}
use Rattle.parking_lot_core_model.specs.declared.parking.ParkToken.{ParkToken}
use Rattle.parking_lot_protocol.specs.MutexTable as mutex
use Rattle.parking_lot_protocol.specs.RwTable as rw
use Rattle.parking_lot_protocol.specs.declared.act.Act.{Act}
use Rattle.parking_lot_protocol.specs.declared.act.CoreAnswer.{CoreAnswer}
use Rattle.parking_lot_protocol.specs.declared.mutex_phase.MutexPhase.{MutexPhase}
use Rattle.parking_lot_protocol.specs.declared.mutex_phase.MutexPhase.TheVariants as mx
use Rattle.parking_lot_protocol.specs.declared.rw_phase.RwPhase.{RwPhase}
use Rattle.parking_lot_protocol.specs.declared.rw_phase.RwPhase.TheVariants as r
use Rattle.parking_lot_protocol_rw.specs.UpgradeTable as upgrade
use Rattle.parking_lot_protocol_rw.specs.declared.upgrade_phase.Hold.{Hold}
use Rattle.parking_lot_protocol_rw.specs.declared.upgrade_phase.Release.{Release}
use Rattle.parking_lot_protocol_rw.specs.declared.upgrade_phase.UpgradePhase.{UpgradePhase}
use Rattle.parking_lot_protocol_rw.specs.declared.upgrade_phase.UpgradePhase.TheVariants as u
use Rattle.parking_lot_machine_calls.specs.Stances.{Asleep, Stance, core_act, found_as, late_act, late_rw_act}
use Rattle.parking_lot_machine_calls.specs.Stances.{late_rw_stance, late_stance, mutex_stance, rw_stance, seeks_stance}
use Rattle.parking_lot_machine_calls.specs.Stances.{sleeper_stance, stance, upgrade_stance}
use Rattle.parking_lot_machine_calls.specs.declared.late_rw.LateRwPhase.{LateRwPhase}
use Rattle.parking_lot_machine_calls.specs.declared.late_rw.LateRwPhase.TheVariants as late_rw
use Rattle.parking_lot_machine_calls.specs.declared.seat.Core.{Core}
use Rattle.parking_lot_machine_calls.specs.declared.seat.Core.TheVariants as core
use Rattle.parking_lot_machine_calls.specs.declared.seat.LatePhase.{LatePhase}
use Rattle.parking_lot_machine_calls.specs.declared.seat.LatePhase.TheVariants as late

mutex_sleeps : (p : MutexPhase) (key : ℕ) (token : ParkToken) → mutex_stance p ≡ Asleep key token
    → mutex.act_of p ≡ Act.Sleep
mutex_sleeps mx.Sleeps key token e = refl
mutex_sleeps p key token e = absurd cc

rw_sleeps : (p : RwPhase) (key : ℕ) (token : ParkToken) → rw_stance p ≡ Asleep key token → rw.act_of p ≡ Act.Sleep
rw_sleeps (r.Sleeps want) key token e = refl
rw_sleeps (r.DrainSleeps rounds) key token e = refl
rw_sleeps p key token e = absurd cc

seeks_sleeps : (p : RwPhase) (key : ℕ) (token : ParkToken) → seeks_stance p ≡ Asleep key token
    → upgrade.seeks_act p ≡ Act.Sleep
seeks_sleeps (r.Sleeps want) key token e = refl
seeks_sleeps (r.DrainSleeps rounds) key token e = refl
seeks_sleeps p key token e = absurd cc

frees_sleeps : (way : Release) (p : RwPhase) (key : ℕ) (token : ParkToken) → rw_stance p ≡ Asleep key token
    → upgrade.frees_act way p ≡ Act.Sleep
frees_sleeps way (r.Sleeps want) key token e = refl
frees_sleeps way (r.DrainSleeps rounds) key token e = refl
frees_sleeps way p key token e = absurd cc

owes_sleeps : (kept : Hold) (answer : CoreAnswer) (p : RwPhase) (key : ℕ) (token : ParkToken)
    → rw_stance p ≡ Asleep key token → upgrade.owes_act kept answer p ≡ Act.Sleep
owes_sleeps kept answer (r.Sleeps want) key token e = refl
owes_sleeps kept answer (r.DrainSleeps rounds) key token e = refl
owes_sleeps kept answer p key token e = absurd cc

upgrade_sleeps : (p : UpgradePhase) (key : ℕ) (token : ParkToken) → upgrade_stance p ≡ Asleep key token
    → upgrade.act_of p ≡ Act.Sleep
upgrade_sleeps (u.Plain c) key token e = rw_sleeps c.phase key token e
upgrade_sleeps (u.Seeks c) key token e = seeks_sleeps c.phase key token e
upgrade_sleeps (u.Drains c) key token e = rw_sleeps c.phase key token e
upgrade_sleeps (u.Frees way c) key token e = frees_sleeps way c.phase key token e
upgrade_sleeps (u.Owes kept answer c) key token e = owes_sleeps kept answer c.phase key token e
upgrade_sleeps p key token e = absurd cc

late_sleeps : (p : LatePhase) (key : ℕ) (token : ParkToken) → late_stance p ≡ Asleep key token → late_act p ≡ Act.Sleep
late_sleeps late.Expires key token e = refl
late_sleeps p key token e = absurd cc

-- one that has found that it was taken doesn't sleep
found_awake : (a : Stance) (key : ℕ) (token : ParkToken) → found_as a ≡ Asleep key token → ⊥
found_awake (Asleep k park) key token e = cc
found_awake a key token e = cc

late_rw_sleeps : (p : LateRwPhase) (key : ℕ) (token : ParkToken) → late_rw_stance p ≡ Asleep key token
    → late_rw_act p ≡ Act.Sleep
late_rw_sleeps (late_rw.Expires k) key token e = refl
late_rw_sleeps (late_rw.Quits k) key token e = refl
late_rw_sleeps (late_rw.WasTaken k by handed) key token e = absurd (found_awake (sleeper_stance k) key token e)
late_rw_sleeps p key token e = absurd cc

pub sleeps_act : (k : Core) (key : ℕ) (token : ParkToken) → stance k ≡ Asleep key token → core_act k ≡ Act.Sleep
sleeps_act (core.Mutex c) key token e = mutex_sleeps c.phase key token e
sleeps_act (core.Rw c) key token e = rw_sleeps c.phase key token e
sleeps_act (core.Late p) key token e = late_sleeps p key token e
sleeps_act (core.LateRw p) key token e = late_rw_sleeps p key token e
sleeps_act (core.Upgrade c) key token e = upgrade_sleeps c.phase key token e

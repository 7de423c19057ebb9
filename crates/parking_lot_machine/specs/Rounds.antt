-- For how many rounds a call may still spin before it goes to sleep.
use Rattle.std.specs.Prelude.{◌≡◌, ℕ, ◌≤◌, true}
use Rattle.parking_lot_protocol.specs.declared.mutex_phase.MutexPhase.{MutexPhase}
use Rattle.parking_lot_protocol.specs.declared.mutex_phase.MutexPhase.TheVariants as m
use Rattle.parking_lot_protocol.specs.declared.rw_phase.RwPhase.{RwPhase}
use Rattle.parking_lot_protocol.specs.declared.rw_phase.RwPhase.TheVariants as r
use Rattle.parking_lot_protocol_rw.specs.declared.upgrade_phase.UpgradePhase.{UpgradePhase}
use Rattle.parking_lot_protocol_rw.specs.declared.upgrade_phase.UpgradePhase.TheVariants as u
use Rattle.parking_lot_machine_calls.specs.declared.late_rw.LateRwPhase.{LateRwPhase}
use Rattle.parking_lot_machine_calls.specs.declared.late_rw.LateRwPhase.TheVariants as late_rw
use Rattle.parking_lot_machine_calls.specs.declared.late_rw.RwSleeper.{RwSleeper}
use Rattle.parking_lot_machine_calls.specs.declared.late_rw.RwSleeper.TheVariants as sleeper
use Rattle.parking_lot_machine_calls.specs.declared.seat.Core.{Core}
use Rattle.parking_lot_machine_calls.specs.declared.seat.Core.TheVariants as core
use Rattle.parking_lot_machine_calls.specs.Stances.{has_begun}

abbrev pub mutex_rounds : MutexPhase → ℕ
mutex_rounds (m.Loads a) = a.rounds
mutex_rounds (m.Locks a waiters) = a.rounds
mutex_rounds (m.Spins a) = a.rounds
mutex_rounds (m.Parks a) = a.rounds
mutex_rounds phase = 0

abbrev pub rw_rounds : RwPhase → ℕ
rw_rounds (r.Loads a) = a.rounds
rw_rounds (r.Admits a word) = a.rounds
rw_rounds (r.Spins a) = a.rounds
rw_rounds (r.SetParked a word) = a.rounds
rw_rounds (r.DrainLoads d) = d.rounds
rw_rounds (r.DrainSpins d) = d.rounds
rw_rounds (r.DrainSetParked d word) = d.rounds
rw_rounds (r.DrainEnters d) = d.rounds
rw_rounds (r.DrainChecks d) = d.rounds
rw_rounds (r.DrainRetreats d) = d.rounds
rw_rounds (r.DrainAppends rounds) = rounds
rw_rounds (r.DrainRests rounds) = rounds
rw_rounds (r.DrainSleeps rounds) = rounds
rw_rounds phase = 0

abbrev pub upgrade_rounds : UpgradePhase → ℕ
upgrade_rounds (u.Plain core) = rw_rounds core.phase
upgrade_rounds (u.Seeks core) = rw_rounds core.phase
upgrade_rounds (u.Drains core) = rw_rounds core.phase
upgrade_rounds (u.Frees release core) = rw_rounds core.phase
upgrade_rounds (u.Owes hold answer core) = rw_rounds core.phase
upgrade_rounds phase = 0

abbrev pub sleeper_rounds : RwSleeper → ℕ
sleeper_rounds (sleeper.Simple c) = rw_rounds c.phase
sleeper_rounds (sleeper.Upgradable c) = upgrade_rounds c.phase

-- one whose moment has passed keeps those that it has left where it is woken after all
abbrev pub late_rw_rounds : LateRwPhase → ℕ
late_rw_rounds (late_rw.Expires k) = sleeper_rounds k
late_rw_rounds (late_rw.WasTaken k by handed) = sleeper_rounds k
late_rw_rounds p = 0

abbrev pub rounds : Core → ℕ
rounds (core.Mutex c) = mutex_rounds c.phase
rounds (core.Rw c) = rw_rounds c.phase
rounds (core.Late p) = 0
rounds (core.LateRw p) = late_rw_rounds p
rounds (core.Upgrade c) = upgrade_rounds c.phase

-- at most ten
abbrev pub FewRounds : Core → Type 0
FewRounds c = rounds c ≤ 10

-- a call that was told that it begins
pub record IsUnderWay (c : Core) : Type 0 where
  pub begun : has_begun c ≡ true
  pub few : FewRounds c

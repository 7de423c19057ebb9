-- How a call stands at a reader-writer lock that sleeps, and once its moment has passed.
use Rattle.std.proofs.Common.{◌≡◌, ℕ, true, false, refl}
use Rattle.parking_lot_core_model.specs.declared.parking.ParkToken.{ParkToken}
use Rattle.parking_lot_protocol.specs.declared.rw_phase.RwPhase.{RwPhase}
use Rattle.parking_lot_protocol_rw.specs.declared.upgrade_phase.UpgradePhase.{UpgradePhase}
use Rattle.parking_lot_machine_calls.specs.Stances as stances
use Rattle.parking_lot_machine_calls.specs.Stances.{Asleep, Doing, In, Joins, Out, Stance, Takes, back_as}
use Rattle.parking_lot_machine_calls.specs.Stances.{late_rw_stance, lying, sleeper_asleep, sleeper_stance, found_as}
use Rattle.parking_lot_machine_calls.specs.CallActs.{joins}
use Rattle.parking_lot_machine_calls.specs.declared.late_rw.LateRwPhase.{LateRwPhase}
use Rattle.parking_lot_machine_calls.specs.declared.late_rw.RwSleeper.{RwSleeper}

-- one that sleeps stands in a list
rw_lies : (p : RwPhase) → stances.rw_asleep p ≡ true → (key : ℕ) × (park : ParkToken)
    × (stances.rw_stance p ≡ Asleep key park)
rw_lies (RwPhase.Sleeps want) e = (0, _, refl)
rw_lies (RwPhase.DrainSleeps rounds) e = (1, _, refl)
rw_lies p e = absurd cc

seeks_lies : (p : RwPhase) → stances.rw_asleep p ≡ true → (key : ℕ) × (park : ParkToken)
    × (stances.seeks_stance p ≡ Asleep key park)
seeks_lies (RwPhase.Sleeps want) e = (0, _, refl)
seeks_lies (RwPhase.DrainSleeps rounds) e = (1, _, refl)
seeks_lies p e = absurd cc

upgrade_lies : (p : UpgradePhase) → stances.upgrade_asleep p ≡ true → (key : ℕ) × (park : ParkToken)
    × (stances.upgrade_stance p ≡ Asleep key park)
upgrade_lies (UpgradePhase.Plain core) e = rw_lies core.phase e
upgrade_lies (UpgradePhase.Seeks core) e = seeks_lies core.phase e
upgrade_lies (UpgradePhase.Drains core) e = rw_lies core.phase e
upgrade_lies (UpgradePhase.Frees r core) e = rw_lies core.phase e
upgrade_lies (UpgradePhase.Owes kept end core) e = rw_lies core.phase e
upgrade_lies p e = absurd cc

pub asleep_lies : (k : RwSleeper) → sleeper_asleep k ≡ true → (key : ℕ) × (park : ParkToken)
    × (sleeper_stance k ≡ Asleep key park)
asleep_lies (RwSleeper.Simple c) e = rw_lies c.phase e
asleep_lies (RwSleeper.Upgradable c) e = upgrade_lies c.phase e

-- HOW IT STANDS ONCE ITS MOMENT HAS PASSED

pub lies_so : (a : Stance) (key : ℕ) (park : ParkToken) → lying a ≡ Asleep key park → a ≡ Asleep key park
lies_so (Asleep key' park') key park e = e
lies_so Out key park e = absurd cc
lies_so (In key' how) key park e = absurd cc

pub lies_out : (a : Stance) (key : ℕ) (how : Doing) → lying a ≡ In key how → ⊥
lies_out (Asleep key' park') key how e = cc
lies_out Out key how e = cc
lies_out (In key' how') key how e = cc

pub back_up : (a : Stance) (key : ℕ) (park : ParkToken) → back_as a ≡ Asleep key park → ⊥
back_up (Asleep key' park') key park e = cc
back_up Out key park e = cc
back_up (In key' how) key park e = cc

pub found_up : (a : Stance) (key : ℕ) (park : ParkToken) → found_as a ≡ Asleep key park → ⊥
found_up (Asleep key' park') key park e = cc
found_up Out key park e = cc
found_up (In key' how) key park e = cc

found_takes : (a : Stance) (key : ℕ) → found_as a ≡ In key Takes → ⊥
found_takes (Asleep key' park') key e = cc
found_takes Out key e = cc
found_takes (In key' how) key e = cc

found_joins : (a : Stance) (key : ℕ) (token : ParkToken) → found_as a ≡ In key (Joins token) → ⊥
found_joins (Asleep key' park') key token e = cc
found_joins Out key token e = cc
found_joins (In key' how) key token e = cc

found_apart : (a : Stance) → joins (found_as a) ≡ false
found_apart (Asleep key park) = refl
found_apart Out = refl
found_apart (In key how) = refl

back_takes : (a : Stance) (key : ℕ) → back_as a ≡ In key Takes → ⊥
back_takes (Asleep key' park') key e = cc
back_takes Out key e = cc
back_takes (In key' how) key e = cc

back_joins : (a : Stance) (key : ℕ) (token : ParkToken) → back_as a ≡ In key (Joins token) → ⊥
back_joins (Asleep key' park') key token e = cc
back_joins Out key token e = cc
back_joins (In key' how) key token e = cc

-- it takes nobody, and joins no list
pub tardy_takes : (p : LateRwPhase) (key : ℕ) → late_rw_stance p ≡ In key Takes → ⊥
tardy_takes (LateRwPhase.Expires k) key e = lies_out (sleeper_stance k) key Takes e
tardy_takes (LateRwPhase.Quits k) key e = back_takes (sleeper_stance k) key e
tardy_takes LateRwPhase.Masks key e = cc
tardy_takes LateRwPhase.Leaves key e = cc
tardy_takes LateRwPhase.GivesUp key e = cc
tardy_takes (LateRwPhase.LeavesPending from) key e = cc
tardy_takes (LateRwPhase.WasTaken k by handed) key e = found_takes (sleeper_stance k) key e

pub tardy_joins : (p : LateRwPhase) (key : ℕ) (token : ParkToken) → late_rw_stance p ≡ In key (Joins token) → ⊥
tardy_joins (LateRwPhase.Expires k) key token e = lies_out (sleeper_stance k) key (Joins token) e
tardy_joins (LateRwPhase.Quits k) key token e = back_joins (sleeper_stance k) key token e
tardy_joins LateRwPhase.Masks key token e = cc
tardy_joins LateRwPhase.Leaves key token e = cc
tardy_joins LateRwPhase.GivesUp key token e = cc
tardy_joins (LateRwPhase.LeavesPending from) key token e = cc
tardy_joins (LateRwPhase.WasTaken k by handed) key token e = found_joins (sleeper_stance k) key token e

lies_apart : (a : Stance) → joins (lying a) ≡ false
lies_apart (Asleep key park) = refl
lies_apart Out = refl
lies_apart (In key how) = refl

back_apart : (a : Stance) → joins (back_as a) ≡ false
back_apart (Asleep key park) = refl
back_apart Out = refl
back_apart (In key how) = refl

pub tardy_apart : (p : LateRwPhase) → joins (late_rw_stance p) ≡ false
tardy_apart (LateRwPhase.Expires k) = lies_apart (sleeper_stance k)
tardy_apart (LateRwPhase.Quits k) = back_apart (sleeper_stance k)
tardy_apart LateRwPhase.Masks = refl
tardy_apart LateRwPhase.Leaves = refl
tardy_apart LateRwPhase.GivesUp = refl
tardy_apart (LateRwPhase.LeavesPending from) = refl
tardy_apart (LateRwPhase.WasTaken k by handed) = found_apart (sleeper_stance k)

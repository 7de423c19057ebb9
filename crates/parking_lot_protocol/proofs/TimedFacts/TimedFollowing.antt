-- Each answer to a core that may give up is the step that the table says.
use Rattle.std.proofs.Common.{◌≡◌, ◌≤◌, ℕ, zero, suc, ◌+◌, ◌-◌, ◌^◌, Bool, true, false, refl, arith, bit_and}
use Rattle.parking_lot_rules.specs.Mutex as rules
use Rattle.parking_lot_protocol.specs.declared.mutex_phase.MutexPhase.{MutexPhase}
use Rattle.parking_lot_protocol.specs.declared.mutex_phase.MutexPhase.TheVariants.{Sleeps, Finishes}
use Rattle.parking_lot_protocol.specs.MutexRules as mutex
use Rattle.parking_lot_protocol.specs.Positions.{QueuePosition, Listed, Off}
use Rattle.parking_lot_protocol.specs.declared.timed.timed_act.TimedSeen.TheVariants.{Expired, Masked}
use Rattle.parking_lot_protocol.specs.declared.timed.timed_core.TimedMutexPhase.TheVariants.{Expires, Masks}
use Rattle.parking_lot_protocol.specs.Timed.TimedTable.{asking}
use Rattle.parking_lot_protocol.specs.Timed.TimedRules.{Follows, expire, role}

-- the moment of one that sleeps passes, wherever it stands
passes : (spot : QueuePosition) (v : ℕ) (w : rules.Word) → mutex.IsPlain (expire spot) (role spot v (asking Sleeps))
    (role spot v Expires) w (rules.number w)
passes Listed v w = record { from = refl; to = refl; may = tt; written = refl }
passes (Off by mark) v w = record { from = refl; to = refl; may = tt; written = refl }

-- one that doesn't sleep isn't told of its moment
pub expired : (p : MutexPhase) → Follows (asking p) Expired
expired Sleeps w v h g = λ spot. passes spot v w
expired (Finishes giving) w v h g = finishes giving.fair giving.again w v h g
  where
    finishes : (fair again : Bool) → Follows (asking (Finishes (record { fair = fair; again = again }))) Expired
    finishes fair true w v h g = absurd g
    finishes fair false w v h g = absurd g
expired p w v h g = absurd g

-- all bits stay but the parked one
mask : (locked parked : ℕ) → locked ≤ 1 → parked ≤ 1 → bit_and (locked + parked + parked) (2 ^ 64 - 3) ≡ locked + 0 + 0
mask zero zero l p = refl
mask (suc zero) zero l p = refl
mask zero (suc zero) l p = refl
mask (suc zero) (suc zero) l p = refl
mask (suc (suc locked)) parked l p = absurd (omega arith)
mask locked (suc (suc parked)) l p = absurd (omega arith)

pub masked : Follows Masks Masked
masked w v h g = record { from = refl; to = refl; may = tt; written = mask w.locked w.parked h.locked h.parked }

-- How a role owns a lock is what the rules count it as.
use Rattle.std.proofs.Common.{◌≡◌, ℕ, zero, suc, Bool, true, false, refl, arith}
use Rattle.parking_lot_rules.specs.Roles.{Shared, Exclusive, Upgradable, Owned, Shares, Excludes, Upgrades, Open}
use Rattle.parking_lot_rules.specs.Roles.{Normal, Handed, FromExclusive, FromUpgradable, Owed, Phase, Taken1, Drains}
use Rattle.parking_lot_rules.specs.Roles.{Enters2, Checked2, Queued2, Taken2, Leaves2, Yields, Scans1, Role}
use Rattle.parking_lot_rules.specs.Classes.{Readers, Upgraders, Pending, Writers, Strange, weight}
use Rattle.parking_lot_rules.specs.Mutex as mutex
use Rattle.parking_lot_machine_calls.specs.CallViews.{rw_mode, mutex_mode, owning_of, Weighs, ModesAreWeighed}

abbrev WeighsSo : Owned → Phase → Type 0
WeighsSo o p = let r : Role = record { owns = o; does = p } in
    weight Strange r ≡ 0 → Weighs (weight Readers r) (weight Upgraders r) (weight Pending r) (weight Writers r)
    (rw_mode r)

nobody : (p : Phase) → WeighsSo (Shares zero) p
unfolding weight
nobody (Taken1 Shared by Handed s) e = (omega arith, refl, refl, refl)
nobody (Taken1 Exclusive by Handed s) e = (refl, refl, refl, refl)
nobody (Taken1 Upgradable by Handed s) e = (refl, refl, refl, refl)
nobody (Taken1 mode by mark s) e = (refl, refl, refl, refl)
nobody (Scans1 FromExclusive c u w us) e = (refl, refl, refl, refl)
nobody (Scans1 FromUpgradable c u w us) e = (refl, refl, refl, refl)
nobody (Scans1 Owed c u w us) e = (refl, refl, refl, refl)
nobody p e = (refl, refl, refl, refl)

readers : (n : ℕ) (p : Phase) → WeighsSo (Shares (suc n)) p
unfolding weight
readers n (Taken1 mode by mark s) e = absurd (omega (arith, e))
readers n (Drains f c) e = absurd (omega (arith, e))
readers n (Enters2 f c) e = absurd (omega (arith, e))
readers n (Checked2 f) e = absurd (omega (arith, e))
readers n (Queued2 f s) e = absurd (omega (arith, e))
readers n (Taken2 f by s) e = absurd (omega (arith, e))
readers n (Leaves2 f) e = absurd (omega (arith, e))
readers n (Yields f) e = absurd (omega (arith, e))
readers n (Scans1 FromExclusive c u w us) e = absurd (omega (arith, e))
readers n (Scans1 FromUpgradable c u w us) e = absurd (omega (arith, e))
readers n (Scans1 Owed c u w us) e = (omega arith, refl, refl, refl)
readers n p e = (omega arith, refl, refl, refl)

writer : (p : Phase) → WeighsSo Excludes p
unfolding weight
writer (Taken1 mode by mark s) e = absurd (omega (arith, e))
writer (Drains f c) e = absurd (omega (arith, e))
writer (Enters2 f c) e = absurd (omega (arith, e))
writer (Checked2 f) e = absurd (omega (arith, e))
writer (Queued2 f s) e = absurd (omega (arith, e))
writer (Taken2 f by s) e = absurd (omega (arith, e))
writer (Leaves2 f) e = absurd (omega (arith, e))
writer (Yields f) e = absurd (omega (arith, e))
writer (Scans1 FromExclusive c u w us) e = absurd (omega (arith, e))
writer (Scans1 FromUpgradable c u w us) e = absurd (omega (arith, e))
writer (Scans1 Owed c u w us) e = (refl, refl, refl, refl)
writer p e = (refl, refl, refl, refl)

upgrader : (p : Phase) → WeighsSo Upgrades p
unfolding weight
upgrader (Taken1 mode by mark s) e = absurd (omega (arith, e))
upgrader (Drains f c) e = absurd (omega (arith, e))
upgrader (Enters2 f c) e = absurd (omega (arith, e))
upgrader (Checked2 f) e = absurd (omega (arith, e))
upgrader (Queued2 f s) e = absurd (omega (arith, e))
upgrader (Taken2 f by s) e = absurd (omega (arith, e))
upgrader (Leaves2 f) e = absurd (omega (arith, e))
upgrader (Yields f) e = absurd (omega (arith, e))
upgrader (Scans1 FromExclusive c u w us) e = absurd (omega (arith, e))
upgrader (Scans1 FromUpgradable c u w us) e = absurd (omega (arith, e))
upgrader (Scans1 Owed c u w us) e = (refl, refl, refl, refl)
upgrader p e = (refl, refl, refl, refl)

role_weighs : (o : Owned) (p : Phase) → WeighsSo o p
role_weighs (Shares zero) p = nobody p
role_weighs (Shares (suc n)) p = readers n p
role_weighs Excludes p = writer p
role_weighs Upgrades p = upgrader p

-- AT A MUTEX

abbrev OwnsSo : Bool → mutex.Phase → Type 0
OwnsSo o p = let r : mutex.Role = record { owns = o; does = p } in mutex.weight mutex.Strange r ≡ 0
    → mutex.weight mutex.Owning r ≡ owning_of (mutex_mode r)

mutex_weighs : (o : Bool) (p : mutex.Phase) → OwnsSo o p
unfolding mutex.weight
mutex_weighs true (mutex.Taken by mark s) e = absurd (omega (arith, e))
mutex_weighs true (mutex.Unlocks us) e = absurd (omega (arith, e))
mutex_weighs true p e = refl
mutex_weighs false (mutex.Taken by Open s) e = refl
mutex_weighs false (mutex.Taken by Normal s) e = refl
mutex_weighs false (mutex.Taken by Handed s) e = refl
mutex_weighs false p e = refl

pub weighed : ModesAreWeighed
weighed = record { rw = λ r. role_weighs r.owns r.does; mutex = λ r. mutex_weighs r.owns r.does }

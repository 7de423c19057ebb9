-- In which role a thread is at each phase of a call at a lock with upgradable holds.
use Rattle.std.specs.Prelude.{ℕ, true, false, List}
use Rattle.parking_lot_rules.specs.Roles.{Mode, Owned, Shares, Excludes, Upgrades, Role}
use Rattle.parking_lot_rules.specs.Roles as rules
use Rattle.parking_lot_protocol.specs.Positions.{QueuePosition}
use Rattle.parking_lot_protocol.specs.RwRules as rw
use Rattle.parking_lot_protocol.specs.declared.rw_phase.RwPhase.{RwPhase}
use Rattle.parking_lot_protocol.specs.declared.rw_phase.RwPhase.TheVariants as at
use Rattle.parking_lot_protocol_rw.specs.declared.upgrade_phase.Hold.{Hold}
use Rattle.parking_lot_protocol_rw.specs.declared.upgrade_phase.Hold.TheVariants.{Nothing, Shared, Upgradable}
use Rattle.parking_lot_protocol_rw.specs.declared.upgrade_phase.Hold.TheVariants.{Exclusive}
use Rattle.parking_lot_protocol_rw.specs.declared.upgrade_phase.UpgradePhase.{UpgradePhase}
use Rattle.parking_lot_protocol_rw.specs.declared.upgrade_phase.UpgradePhase.TheVariants.{Plain, Unlocking, Bumping}
use Rattle.parking_lot_protocol_rw.specs.declared.upgrade_phase.UpgradePhase.TheVariants.{Upgrading, TryingToUpgrade}
use Rattle.parking_lot_protocol_rw.specs.declared.upgrade_phase.UpgradePhase.TheVariants.{DowngradingToShared}
use Rattle.parking_lot_protocol_rw.specs.declared.upgrade_phase.UpgradePhase.TheVariants.{DowngradingToUpgradable}
use Rattle.parking_lot_protocol_rw.specs.declared.upgrade_phase.UpgradePhase.TheVariants.{GivingUp, Seeks, TryLoads}
use Rattle.parking_lot_protocol_rw.specs.declared.upgrade_phase.UpgradePhase.TheVariants.{TryAdmits, Refuses, Drains}
use Rattle.parking_lot_protocol_rw.specs.declared.upgrade_phase.UpgradePhase.TheVariants.{TryUpgradeLoads, TryUpgrades}
use Rattle.parking_lot_protocol_rw.specs.declared.upgrade_phase.UpgradePhase.TheVariants.{BumpLoads, UnlockLoads}
use Rattle.parking_lot_protocol_rw.specs.declared.upgrade_phase.UpgradePhase.TheVariants.{Unlocks, Frees, ToShared}
use Rattle.parking_lot_protocol_rw.specs.declared.upgrade_phase.UpgradePhase.TheVariants.{ToUpgradable, YieldLoads}
use Rattle.parking_lot_protocol_rw.specs.declared.upgrade_phase.UpgradePhase.TheVariants.{Yields, Owes, Ends}
use Rattle.parking_lot_protocol_rw.specs.declared.upgrade_phase.UpgradePhase.TheVariants as phase

-- what a thread owns that has a hold
abbrev pub owned : Hold → Owned
owned Nothing = Shares 0
owned Shared = Shares 1
owned Upgradable = Upgrades
owned Exclusive = Excludes

-- one that asks as for an exclusive hold asks for the upgradable one
abbrev pub for_upgradable : rules.Phase → rules.Phase
for_upgradable (rules.Seeks mode woken) = rules.Seeks rules.Upgradable woken
for_upgradable (rules.Enters1 mode woken) = rules.Enters1 rules.Upgradable woken
for_upgradable (rules.Checked1 mode) = rules.Checked1 rules.Upgradable
for_upgradable (rules.Queued1 mode stay) = rules.Queued1 rules.Upgradable stay
for_upgradable (rules.Taken1 mode by mark stay) = rules.Taken1 rules.Upgradable by mark stay
for_upgradable phase = phase

-- one that waits for readers to leave came from the upgradable hold
abbrev pub for_upgrade : rules.Phase → rules.Phase
for_upgrade (rules.Drains from woken) = rules.Drains true woken
for_upgrade (rules.Enters2 from woken) = rules.Enters2 true woken
for_upgrade (rules.Checked2 from) = rules.Checked2 true
for_upgrade (rules.Queued2 from stay) = rules.Queued2 true stay
for_upgrade (rules.Taken2 from by stay) = rules.Taken2 true by stay
for_upgrade phase = phase

-- one that goes through the first list gives the upgradable hold up
abbrev pub for_release : rules.Phase → rules.Phase
for_release (rules.Scans1 cause shared upgradable writer taken) = rules.Scans1 rules.FromUpgradable shared upgradable
    writer taken
for_release phase = phase

-- which it has until it is inside the section
abbrev pub owned_in_release : RwPhase → Owned
owned_in_release (at.LooksExclusive fair rest) = Upgrades
owned_in_release phase = Shares 0

-- n: how many shared holds it has, where the call is about those
abbrev pub owns : ℕ → UpgradePhase → Owned
owns n (Plain core) = rw.owns n core.phase
owns n (Drains core) = rw.owns 0 core.phase
owns n (Frees r core) = owned_in_release core.phase
owns n (Owes hold answer core) = owned hold
owns n (Ends hold answer) = owned hold
owns n (Unlocking r) = Upgrades
owns n Bumping = Upgrades
owns n Upgrading = Upgrades
owns n TryingToUpgrade = Upgrades
owns n DowngradingToShared = Upgrades
owns n DowngradingToUpgradable = Excludes
owns n phase.Upgrades = Upgrades
owns n TryUpgradeLoads = Upgrades
owns n (TryUpgrades word left) = Upgrades
owns n BumpLoads = Upgrades
owns n (UnlockLoads r) = Upgrades
owns n (Unlocks r word) = Upgrades
owns n ToShared = Upgrades
owns n ToUpgradable = Excludes
owns n phase = Shares 0

-- What a thread is doing in each phase, in the words of the rules. us: whom it has taken and is to wake.
abbrev pub does : QueuePosition → List ℕ → UpgradePhase → rules.Phase
does spot us (Plain core) = rw.does spot us core.phase
does spot us (Seeks core) = for_upgradable (rw.does spot us core.phase)
does spot us (Drains core) = for_upgrade (rw.does spot us core.phase)
does spot us (Frees r core) = for_release (rw.does spot us core.phase)
does spot us (Owes hold answer core) = rw.does spot us core.phase
does spot us TryLoads = rules.Seeks rules.Upgradable false
does spot us (TryAdmits word left) = rules.Seeks rules.Upgradable false
does spot us Refuses = rules.Seeks rules.Upgradable false
does spot us (GivingUp from) = rules.Yields from
does spot us (YieldLoads from) = rules.Yields from
does spot us (Yields from word) = rules.Yields from
does spot us phase = rules.Idle

abbrev pub role : ℕ → QueuePosition → List ℕ → UpgradePhase → Role
role n spot us p = record { owns = owns n p; does = does spot us p }

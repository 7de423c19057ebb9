pub mod UpgradeLooks
pub mod UpgradeMoves
pub mod UpgradeRoles
pub mod UpgradeRules
pub mod UpgradeTable
pub mod Timed

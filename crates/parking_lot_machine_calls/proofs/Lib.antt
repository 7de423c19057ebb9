mod PhaseStancing
mod UpgradeStancing
pub mod Lying
mod LateStancing
pub mod Stancing
mod UpgradeViewing
mod Staying
pub mod Weighing

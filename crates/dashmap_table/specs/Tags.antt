pub mod Lanes
pub mod Way
pub mod Tags

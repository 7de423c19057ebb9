pub mod Faults
pub mod Leaves
pub mod Nestings
pub mod Waits

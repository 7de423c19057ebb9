pub mod Faults
pub mod Limits
pub mod Parts
pub mod Waits
pub mod Examples

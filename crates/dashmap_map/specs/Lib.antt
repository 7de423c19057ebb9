pub mod Locked
pub mod Faults
pub mod Making
pub mod Calls
pub mod Evidence
pub mod Owner
pub mod Effects

pub mod Faults
pub mod Notes
pub mod Replaying
pub mod Recorded
pub mod Looking
pub mod History

pub mod Lines
pub mod Participants
pub mod Shared
pub mod Waits

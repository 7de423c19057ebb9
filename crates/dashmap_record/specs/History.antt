pub mod Faults
pub mod Entries
pub mod Replay
pub mod Match
pub mod Merge

pub mod Guarded
pub mod Tries
pub mod Entries

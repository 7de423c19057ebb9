pub mod Report
pub mod Callers

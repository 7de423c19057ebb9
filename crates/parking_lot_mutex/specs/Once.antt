pub mod Faults
pub mod OnceRuns

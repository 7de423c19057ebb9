pub mod Views
pub mod Faults
pub mod Owning
pub mod Clones
pub mod Parallel

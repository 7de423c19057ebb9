pub mod Finds
pub mod Tables
pub mod HoldsTable
pub mod Owning
pub mod Views
pub mod LocksFacts
pub mod InvariantFacts

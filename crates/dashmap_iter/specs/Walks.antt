pub mod Visits
pub mod Held

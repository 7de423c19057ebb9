mod Exchanging
mod Regained
pub mod Taken
pub mod ClonesFacts

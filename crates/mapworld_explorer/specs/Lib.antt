pub mod Aheads
pub mod Led
pub mod Outcomes
pub mod Searches
pub mod Standing

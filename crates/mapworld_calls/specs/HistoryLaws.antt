pub mod Worlds
pub mod Sessions
pub mod Walks
pub mod Counts
pub mod Refusals
pub mod Shards

pub mod ShardAmounts
pub mod Cases
pub mod Places
pub mod Finding
pub mod Changing
pub mod Adding
pub mod Sounds
pub mod Effects
pub mod Sharding
pub mod Tagging
pub mod TagChanges
pub mod Moving
pub mod TagsFacts
mod SpreadHashes

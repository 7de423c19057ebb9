mod Changes
mod Replaying
mod Ordering
mod Answering
mod Judging
pub mod HistoryFacts

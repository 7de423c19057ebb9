pub mod MutexFollowing
pub mod RwWords
pub mod RwFollowing
pub mod WakeFollowing
pub mod TimedFacts

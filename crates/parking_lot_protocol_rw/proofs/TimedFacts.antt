pub mod TimedFollowing

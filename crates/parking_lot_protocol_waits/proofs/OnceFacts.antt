pub mod OnceFollowing
pub mod OnceAnswering

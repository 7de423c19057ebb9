mod NotifyFollowing
mod WaitFollowing
pub mod OnceFacts

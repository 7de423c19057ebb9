pub mod Kept
pub mod PutBack
pub mod Running
pub mod Asking
pub mod Setups
pub mod Starting
pub mod Finding
pub mod Reaching

mod Cutting
mod Dealing
pub mod Gathering
mod Giving
pub mod Putting

pub mod Rights
pub mod Claims
pub mod Words
pub mod Shares

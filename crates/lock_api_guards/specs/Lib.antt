pub mod Elements
pub mod Holds
pub mod Narrowing
pub mod Parts

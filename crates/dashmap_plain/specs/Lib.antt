pub mod Opened
pub mod Exchanged
pub mod Extended
pub mod Written
pub mod Clones

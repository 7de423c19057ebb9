pub mod Calls
pub mod Pieces

pub mod Bits
pub mod Masks
pub mod Ways

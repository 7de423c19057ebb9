mod Leaving
mod Writing
pub mod WalksFacts

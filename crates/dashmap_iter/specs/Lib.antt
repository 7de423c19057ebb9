pub mod Lending
pub mod Writing
pub mod Walks

pub mod Sizes
pub mod Whole
pub mod Left
pub mod Rest
pub mod Drains
pub mod Laws

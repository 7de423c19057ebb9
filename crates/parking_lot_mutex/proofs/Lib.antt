pub mod OnceFacts
pub mod Owned
pub mod Trying

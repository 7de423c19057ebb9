pub mod Once
pub mod OnceLaws
pub mod OnceExample

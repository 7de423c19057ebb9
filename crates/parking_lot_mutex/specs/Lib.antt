pub mod Condvar
pub mod Once
pub mod Owning

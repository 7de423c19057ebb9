pub mod Soundness
pub mod Following
pub mod History
pub mod OnceExampleRun

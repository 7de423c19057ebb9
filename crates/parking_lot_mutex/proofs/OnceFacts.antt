pub mod OnceRunning

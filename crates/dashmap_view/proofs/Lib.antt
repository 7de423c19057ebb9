pub mod Walking
mod Homes
mod Cloning
mod CloneViews
pub mod ParallelFacts

pub mod Slotted
pub mod Facts
pub mod Rooms
pub mod Weights
pub mod Putting
pub mod Slots
pub mod Keys
pub mod Leaving
pub mod Walking
mod Ending
mod Counting
pub mod Visits
pub mod Leading
pub mod Items

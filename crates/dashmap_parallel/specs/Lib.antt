pub mod Faults
pub mod Gifts
pub mod Puts
pub mod Visits

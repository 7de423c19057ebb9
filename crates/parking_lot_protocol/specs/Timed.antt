pub mod Courses
pub mod TimedRules
pub mod TimedTable

pub mod TimedRules
pub mod TimedTable

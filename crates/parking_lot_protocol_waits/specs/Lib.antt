pub mod NotifyRules
pub mod NotifyTable
pub mod WaitRules
pub mod WaitTable
pub mod Once

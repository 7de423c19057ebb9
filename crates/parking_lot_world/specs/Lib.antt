pub mod Faults
pub mod WorldCalls
pub mod Worlds
pub mod WorldLaws
pub mod WorldAnswers
pub mod CallLaws

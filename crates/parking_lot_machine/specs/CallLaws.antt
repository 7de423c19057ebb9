pub mod Stages
pub mod AnswerLaws
pub mod Answers

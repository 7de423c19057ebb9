pub mod CondvarFacts
pub mod OnceFacts

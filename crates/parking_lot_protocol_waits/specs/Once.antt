pub mod OnceTable
pub mod OnceMoves
pub mod OnceAnswers

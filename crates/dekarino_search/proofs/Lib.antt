pub mod AnswerLemmas
pub mod OwnLogLemmas

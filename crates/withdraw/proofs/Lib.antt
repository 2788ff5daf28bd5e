pub mod AnswerLaws
pub mod TakenLaws

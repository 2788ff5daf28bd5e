pub mod WorkedLaws
pub mod SearchedLaws

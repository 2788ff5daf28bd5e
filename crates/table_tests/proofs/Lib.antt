pub mod HighLaws
pub mod KindLaws
pub mod BeginLaws
pub mod PairLaws

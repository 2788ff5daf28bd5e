pub mod QueryLaws
pub mod ReadyLaws
pub mod RoomLaws
pub mod AnswerLaws
pub mod OwnerLaws
pub mod AskLaws
pub mod KeptLaws
pub mod FindLaws

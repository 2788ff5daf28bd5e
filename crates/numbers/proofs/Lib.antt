pub mod SizeLaws
pub mod NarrowLaws
pub mod ReadLaws
pub mod AskedLaws
pub mod LentLaws
pub mod FoundLaws
pub mod CallLaws

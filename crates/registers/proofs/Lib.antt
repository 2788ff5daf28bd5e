pub mod SizeLaws
pub mod WordsLaws
pub mod CollectLaws
pub mod IntoLaws
pub mod MeantLaws

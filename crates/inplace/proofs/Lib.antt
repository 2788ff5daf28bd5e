pub mod CutLaws
pub mod CloseLaws
pub mod CutViews

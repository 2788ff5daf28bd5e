pub mod LineLaws
pub mod SaysLaws
pub mod ReadLaws

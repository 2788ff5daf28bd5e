pub mod WordLaws
pub mod LineLaws
pub mod WantLaws
pub mod CapLaws
pub mod SizeLaws

pub mod SizeLaws
pub mod FilledLaws

pub mod KindLaws
pub mod StateLaws
pub mod InputLaws

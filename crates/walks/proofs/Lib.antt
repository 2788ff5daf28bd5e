pub mod Prelude
pub mod KindValue

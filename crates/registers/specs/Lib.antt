pub mod Told
pub mod Sizing
pub mod Gathered

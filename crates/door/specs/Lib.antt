pub mod Kept
pub mod Applied
pub mod Served

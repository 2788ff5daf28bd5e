pub mod Rows
pub mod Adds
pub mod Judged
pub mod Looks

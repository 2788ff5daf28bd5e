pub mod Words
pub mod Sizes
pub mod Examples
pub mod Code

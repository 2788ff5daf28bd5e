pub mod Coding
pub mod Face
pub mod Rows
pub mod Lent
pub mod Reading
pub mod Back

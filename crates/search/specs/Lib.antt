pub mod Asks
pub mod Rows
pub mod Steps
pub mod Turns
pub mod Finds

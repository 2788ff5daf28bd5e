pub mod Outcome
pub mod Granted
pub mod Kept

pub mod Reads
pub mod Outcome

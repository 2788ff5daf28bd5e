pub mod Again
pub mod Runs

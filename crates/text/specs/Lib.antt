pub mod Sofar
pub mod Step
pub mod Respond
pub mod Reply

pub mod Put
pub mod Refuses

pub mod Steps
pub mod Front
pub mod Turns
pub mod Nobody
pub mod Filled

pub mod BlockLaws
pub mod TakeLaws
pub mod AgainLaws
pub mod RunLaws
pub mod FlatExample
pub mod ReplayedLaws

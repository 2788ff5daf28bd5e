pub mod Cut
pub mod Marks

pub mod Below
pub mod Views
pub mod Sized
pub mod Whole

pub mod Got
pub mod Kinds
pub mod Msis

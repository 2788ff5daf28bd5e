pub mod Pin
pub mod Flat
pub mod Read

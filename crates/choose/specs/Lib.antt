pub mod Told
pub mod Wired
pub mod Ids

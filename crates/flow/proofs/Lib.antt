pub mod Ways
pub mod Begins

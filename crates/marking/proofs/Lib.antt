pub mod Ways
pub mod Enabled
pub mod Marking

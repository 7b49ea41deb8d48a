pub mod Shift
pub mod Upkeep

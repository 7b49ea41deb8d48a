pub mod Rounds
pub mod Enabled
pub mod Marking

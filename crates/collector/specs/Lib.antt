pub mod Answers
pub mod Collect
pub mod Freeing

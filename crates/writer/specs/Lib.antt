pub mod Answers
pub mod Write

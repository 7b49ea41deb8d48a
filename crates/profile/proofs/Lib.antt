pub mod Finding
pub mod Answers

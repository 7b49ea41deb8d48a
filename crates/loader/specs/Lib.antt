pub mod Answers
pub mod Verdict
pub mod Load

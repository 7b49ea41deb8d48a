pub mod Flow
pub mod Gaps

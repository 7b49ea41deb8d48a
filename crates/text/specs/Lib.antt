pub mod Text
pub mod Columns

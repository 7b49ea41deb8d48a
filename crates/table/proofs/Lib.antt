pub mod Cells
pub mod Places

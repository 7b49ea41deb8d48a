pub mod Shown
pub mod Cut
